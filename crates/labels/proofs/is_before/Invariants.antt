use Rattle.std.proofs.Common.{◌≡◌, ℕ, ◌<◌, false}
use Rattle.cell.specs.Records.{record_at}
use Rattle.labels.specs.Labels.{same_label}
use Rattle.labels.proofs.is_before.Given as goal

abbrev pub invariant-loop-x : goal.invariant-loop-x
invariant-loop-x l = (i : ℕ) → i < l.x → same_label (record_at l.ticket i) l.r ≡ false
