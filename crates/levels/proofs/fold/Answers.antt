use Rattle.levels.proofs.Levels.{folding-none, folding-more, folding-all}
use Rattle.levels.proofs.fold.Goals as goal

pub loop-i-init : goal.loop-i-init
loop-i-init c = search folding-none

pub loop-i-preserved : goal.loop-i-preserved
loop-i-preserved c = search folding-more

pub returns-clause-work_after : goal.returns-clause-work_after
returns-clause-work_after c = search folding-all
