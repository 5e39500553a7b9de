-- `merge::merge_next` meets its contract. Assumes nothing.
use borrow.Author.Rules.{rules}
use Rattle.merge.proofs.Merging.{next-passed, next-room, next-merged}
use Rattle.merge.proofs.merge_next.Goals as goal

pub returns-then-has_effects : goal.returns-then-has_effects
returns-then-has_effects c = search next-passed

pub merge_cell-requires : goal.merge_cell-requires
merge_cell-requires c = record { ready = search rules; s_lt_n = search rules; s_bound = search next-room }

pub returns : goal.returns
returns c = search next-merged
