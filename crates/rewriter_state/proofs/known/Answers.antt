-- `rewriter_state::known` meets its contract. Assumes nothing.
use Rattle.numberer.proofs.Records.{is-cell}
use Rattle.rewriter_state.proofs.Words.{known-cell}
use Rattle.rewriter_state.proofs.known.Goals as goal

pub find-requires-clause-cell : goal.find-requires-clause-cell
find-requires-clause-cell c = search is-cell

pub returns : goal.returns
returns c = search known-cell
