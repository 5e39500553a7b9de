-- `numberer::same_at` meets its contract. Assumes nothing.
use Rattle.numberer.proofs.Mixing.{other-there, compared-there}
use Rattle.numberer.proofs.same_at.Goals as goal

pub returns-then-get-x : goal.returns-then-get-x
returns-then-get-x c = search compared-there

pub returns : goal.returns
returns c = search other-there
