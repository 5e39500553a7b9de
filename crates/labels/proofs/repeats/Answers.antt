use Rattle.std.proofs.Common.{rules}
use Rattle.labels.proofs.Search.{step-lists}
use Rattle.labels.proofs.repeats.Goals as goal

pub returns-then-not-doubled : goal.returns-then-not-doubled
returns-then-not-doubled c = step-lists _ _ _ c.requires.asked _ (search rules) _ _ _ c.requires.listed c.is_doubled-doubled.ensures c.append.ensures
