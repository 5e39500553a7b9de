use Rattle.levels.proofs.Given.{placing-none, placing-more, placing-all}
use Rattle.levels.proofs.place.Goals as goal

pub loop-s-init : goal.loop-s-init
loop-s-init c = search placing-none

pub loop-s-preserved : goal.loop-s-preserved
loop-s-preserved c = search placing-more

pub returns-clause-work_after : goal.returns-clause-work_after
returns-clause-work_after c = search placing-all
