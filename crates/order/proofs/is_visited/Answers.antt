-- `order::is_visited` meets its contract. Assumes nothing.
use Rattle.order.proofs.Words.{mark-word}
use Rattle.order.proofs.is_visited.Goals as goal

pub returns : goal.returns
returns c = search mark-word
