-- `rewriter_state::stay` meets its contract. Assumes nothing.
use Rattle.rewriter_state.proofs.Words.{stays}
use Rattle.rewriter_state.proofs.stay.Goals as goal

pub returns : goal.returns
returns c = search stays
