-- The answers of checking. Assumes nothing.
use mathlib.Core.Path.{◌≡◌, sym, ◌∙◌}
use mathlib.Core.List.{List}
use Prim.Native.Nat.{ℕ, ◌/◌, ◌≤◌}
use lib.ListN.{length}
use Rattle.calls.specs.Answers.{counts_of}
use Rattle.refusals.specs.Refusals.{Verdict}
use Rattle.std.specs.Prelude.{Ok, Err, Result}
use Rattle.cell.specs.Records.{records_of}
use Rattle.refusals.specs.declared.Refusal.{Refusal}
use Rattle.checking.specs.Checking.{gate_count}
use Rattle.calls.specs.declared.Counts.{Counts}
use Rattle.calls.specs.Calls.{check_verdict, check_answer}
use Rattle.delivery.specs.inner.Delivery.{Begins}

module _ (t ws ws' : List ℕ) (v : Verdict) (b : Begins t ws ws' v) where
  pub checked_refused : (x : Refusal) → v ≡ Err x → Err x ≡ check_answer (length ws) t
  unfolding check_answer check_verdict
  checked_refused x e = rw (sym b.said ∙ e)

  pub checked-few : v ≡ Ok tt → length t / 16 ≤ 512
  checked-few e = (b.pass e).few

  pub checked-accepted : (r : Result Counts Refusal) → v ≡ Ok tt → r ≡ Ok (counts_of (length t / 16) (gate_count (records_of t))) → r ≡ check_answer (length ws) t
  unfolding check_answer check_verdict
  checked-accepted r e f = f ∙ rw (sym b.said ∙ e)

-- what `check` cites
pub ruleset answered = (checked_refused, checked-few, checked-accepted)
