use Rattle.design.proofs.Applying.{applying-none, applying-more, applied-all, applied-flag}
use Rattle.design.proofs.queue.apply.Goals as goal

pub loop-s-init : goal.loop-s-init
loop-s-init c = search applying-none

pub loop-s-preserved : goal.loop-s-preserved
loop-s-preserved c = search applying-more

pub returns-clause-work_after : goal.returns-clause-work_after
returns-clause-work_after c = search applied-all

pub returns-clause-value : goal.returns-clause-value
returns-clause-value c = search applied-flag
