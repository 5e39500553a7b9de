-- `rewriter::run::apply_all` meets its contract. Assumes nothing.
use Rattle.rewriter.proofs.Applying.{applies-all}
use Rattle.rewriter.proofs.run.apply_all.Goals as goal

pub returns : goal.returns
returns c = search applies-all
