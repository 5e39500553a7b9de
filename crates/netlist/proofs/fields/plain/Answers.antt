use Rattle.netlist.specs.inner.Fields.{plain_fields}
use Rattle.netlist.proofs.Operands.{plain-is}
use Rattle.netlist.proofs.fields.plain.Goals as goal

pub returns : goal.returns
unfolding plain_fields
returns c = rw (← plain-is) cc
