use Rattle.kinds.specs.Kinds.{use_of}
use Rattle.cell.specs.Operands.{field_of, is_operand}
use Rattle.netlist.specs.inner.Fields.{operand_at, field_operands}
use Rattle.netlist.proofs.fields.nets.Goals as goal

pub returns : goal.returns
unfolding field_operands operand_at is_operand use_of field_of
returns c = cc
