-- `numberer::find` meets its contract. Assumes nothing.
use Rattle.numberer.proofs.Mixing.{none-there}
use Rattle.numberer.proofs.find.Goals as goal

pub returns-then-count_mix-eq0 : goal.returns-then-count_mix-eq0
returns-then-count_mix-eq0 c = search none-there
