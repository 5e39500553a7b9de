-- `rewriter_state::replace` meets its contract. Assumes nothing.
use Rattle.rewriter_state.proofs.Words.{replaces}
use Rattle.rewriter_state.proofs.replace.Goals as goal

pub returns : goal.returns
returns c = search replaces
