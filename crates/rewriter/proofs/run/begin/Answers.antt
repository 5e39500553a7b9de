-- `rewriter::run::begin` meets its contract. Assumes nothing.
use Rattle.rewriter.proofs.Runs.{run-begins}
use Rattle.rewriter.proofs.run.begin.Goals as goal

pub returns : goal.returns
returns c = search run-begins
