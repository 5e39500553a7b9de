use Rattle.kinds.specs.Kinds.{use_of}
use Rattle.cell.specs.Operands.{field_of, is_operand}
use Rattle.netlist.specs.inner.Fields.{with_nets}
use Rattle.netlist.proofs.fields.with_nets.Goals as goal

pub returns : goal.returns
unfolding with_nets is_operand use_of field_of
returns c = cc
