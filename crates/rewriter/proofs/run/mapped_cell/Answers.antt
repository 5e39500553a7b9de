-- `rewriter::run::mapped_cell` meets its contract. Assumes nothing.
use Rattle.rewriter.proofs.Items.{mapped-is}
use Rattle.rewriter.proofs.run.mapped_cell.Goals as goal

pub returns : goal.returns
returns c = search mapped-is
