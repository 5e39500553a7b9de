-- `order::topo_sort` meets its contract. Assumes nothing.
use Rattle.order.proofs.Bits.{sorting-begins, sorting-more, sorting-ends}
use Rattle.order.proofs.topo_sort.Goals as goal

pub loop-s-init : goal.loop-s-init
loop-s-init c = search sorting-begins

pub loop-s-preserved : goal.loop-s-preserved
loop-s-preserved c = search sorting-more

pub returns : goal.returns
returns c = search sorting-ends
