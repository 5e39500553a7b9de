-- `merge_call::merged` meets its contract. Assumes nothing.
use borrow.Author.Rules.{rules}
use Rattle.merge_call.proofs.Merging.{loaded-sequenced, merged-loads, merged-refused, merged-delivers}
use Rattle.merge_call.proofs.merged.Goals as goal

pub merge-changed-requires : goal.merge-changed-requires
merge-changed-requires c = record { in_bounds = search rules; n_bound = search rules; sequenced = search loaded-sequenced }

pub returns-in_err-bytes : goal.returns-in_err-bytes
returns-in_err-bytes c t loaded =
    merged-refused _ _ _ _ _ (merged-loads _ _ _ _ _ c.merge-changed.ensures loaded) _ _ _ _ c.in_err-bytes.ensures _ c.from_residual.ensures.1

pub returns : goal.returns
returns c t loaded = merged-delivers _ _ _ _ _ (merged-loads _ _ _ _ _ c.merge-changed.ensures loaded) _ _ _ _ c.in_ok-bytes.ensures
