-- `loops::walk_all` meets its contract. Assumes nothing.
use Rattle.loops.proofs.Search.{going-begins, going-coming, going_more, going-ends}
use Rattle.loops.proofs.walk_all.Goals as goal

pub loop-i-init : goal.loop-i-init
loop-i-init c = search going-begins

pub meet-clock-requires : goal.meet-clock-requires
meet-clock-requires c = search going-coming

pub loop-i-preserved : goal.loop-i-preserved
loop-i-preserved c = search going_more

pub returns : goal.returns
returns c = search going-ends
