use Rattle.levels.proofs.Given.{evaluated, evaluated-within}
use Rattle.levels.proofs.evaluate.Goals as goal

pub returns : goal.returns
returns c = record { work_after = search evaluated; within = search evaluated-within }
