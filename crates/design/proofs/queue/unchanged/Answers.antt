use Rattle.design.proofs.Replacing.{unchanged-all}
use Rattle.design.proofs.queue.unchanged.Goals as goal

pub returns-clause-work_after : goal.returns-clause-work_after
returns-clause-work_after c = search unchanged-all
