-- `rewriter_state::remember` meets its contract. Assumes nothing.
use Rattle.numberer.proofs.Inserting.{inserts}
use Rattle.rewriter_state.proofs.remember.Goals as goal

pub returns-clause-stored : goal.returns-clause-stored
returns-clause-stored c = search inserts
