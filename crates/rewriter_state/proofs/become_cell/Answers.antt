-- `rewriter_state::become_cell` meets its contract. Assumes nothing.
use Rattle.rewriter_state.proofs.Words.{become-ready, becomes}
use Rattle.rewriter_state.proofs.become_cell.Goals as goal

pub stay-requires : goal.stay-requires
stay-requires c = search become-ready

pub returns : goal.returns
returns c = search becomes
