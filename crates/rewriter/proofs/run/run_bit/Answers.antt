-- `rewriter::run::run_bit` meets its contract. Assumes nothing.
use Rattle.rewriter.proofs.Items.{bit-on, bit-full}
use Rattle.rewriter.proofs.run.run_bit.Goals as goal

pub returns-in_err-n : goal.returns-in_err-n
returns-in_err-n c = let h = c.in_err-n.ensures in let f = c.from_residual.ensures.0 in search bit-full

pub returns : goal.returns
returns c = let h = c.in_ok-n.ensures in search bit-on
