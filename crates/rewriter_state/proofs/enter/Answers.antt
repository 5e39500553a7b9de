-- `rewriter_state::enter` meets its contract. Assumes nothing.
use Rattle.rewriter_state.proofs.Words.{enters}
use Rattle.rewriter_state.proofs.enter.Goals as goal

pub returns : goal.returns
returns c = search enters
