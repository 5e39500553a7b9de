use Rattle.compact.proofs.Tally.{tally-read, tally-few, all_past, all-few}
use Rattle.compact.proofs.Kept.before.Goals as goal

pub returns-then-x-self : goal.returns-then-x-self
returns-then-x-self c = record { value = search tally-read; upper_bound = search tally-few }

pub returns : goal.returns
returns c = record { value = search all_past; upper_bound = search all-few }
