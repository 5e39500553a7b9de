use Rattle.compact.proofs.Keeping.{keeping-begins, keeping-more, keeping-ends}
use Rattle.compact.proofs.mark_kept.Goals as goal

pub loop-s-init : goal.loop-s-init
loop-s-init c = search keeping-begins

pub loop-s-preserved : goal.loop-s-preserved
loop-s-preserved c = search keeping-more

pub returns : goal.returns
returns c = search keeping-ends
