use Rattle.netlist.specs.inner.Fields.{field_operands, renamed_fields}
use Rattle.netlist.proofs.fields.renamed.Goals as goal

pub returns : goal.returns
unfolding renamed_fields field_operands
returns g c = λ h k. rw (c.with_nets.ensures, k _ _ c.f-x.ensures, k _ _ c.f-y.ensures, k _ _ c.f-z.ensures, c.nets.ensures) cc
