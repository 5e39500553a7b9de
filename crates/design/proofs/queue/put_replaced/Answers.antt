use mathlib.Core.Path.{refl}
use Rattle.netlist.specs.inner.Fields.{field_operands, renamed_fields}
use Rattle.design.proofs.queue.put_replaced.Goals as goal

pub returns : goal.returns
unfolding renamed_fields field_operands
returns c = record {
  value = rw (c.with_nets-x.ensures, c.map_net_new.ensures, c.map_net_new-2.ensures, c.map_net_new-3.ensures, c.nets.ensures) refl;
  work_after = c.put_record.ensures;
}
