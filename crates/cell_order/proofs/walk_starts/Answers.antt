-- `cell_order::walk_starts` meets its contract. Assumes nothing.
use Rattle.cell_order.proofs.Starts.{going-begins, going_more, going-ends}
use Rattle.cell_order.proofs.walk_starts.Goals as goal

pub loop-s-init : goal.loop-s-init
loop-s-init c = search going-begins

pub loop-s-preserved : goal.loop-s-preserved
loop-s-preserved c = search going_more

pub returns : goal.returns
returns c = search going-ends
