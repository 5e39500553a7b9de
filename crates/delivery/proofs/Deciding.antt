-- How the stages of a call decide: those of checking, and 12 behind others. Assumes nothing.
use mathlib.Core.Path.{◌≡◌, sym, ◌∙◌}
use mathlib.Core.List.{List, [], ◌∷◌, ◌++◌}
use Prim.Native.Nat.{ℕ, ◌/◌, ◌<◌, ◌≤◌}
use native.Mathlib.Omega.{arith}
use lib.ListN.{length, drop}
use borrow.Author.Tests.{lt-ltb, ltb-false}
use Rattle.std.specs.Prelude.{Ok, Err, Result}
use Rattle.std.specs.Result.{IsErrAnd}
use Rattle.std.proofs.lemmas.Result.{err_from_is_err_and}
use Rattle.cell.specs.Records.{records_of}
use Rattle.refusals.specs.declared.Refusal.{Refusal}
use Rattle.refusals.specs.declared.Refusal.TheVariants.{ShortWork}
use Rattle.refusals.specs.Refusals.{Stage, first_of, Verdict}
use Rattle.checking.specs.Checking.{work_stage, size_group, netlist_stages, check_stages}
use Rattle.refusals.proofs.Stages.{first-refuses, later-decides, earlier-decides}
use Rattle.checking.proofs.Groups.{CheckPasses, sizes-exactly, check-exactly, sizes-decide}
use Rattle.calls.specs.Calls.{room}
use Rattle.delivery.specs.inner.Delivery.{Writes, Delivers, Passed}
use Rattle.delivery.proofs.Delivering.{delivers-from}

-- 1
pub short-refused : (words : ℕ) (t : List ℕ) → words < 16384 → first_of (check_stages words t) ≡ Err ShortWork
unfolding size_group
short-refused words t h = sizes-decide words t ShortWork (first-refuses (work_stage words) _ (lt-ltb words 16384 h))

-- 2 to 8
module _ (words : ℕ) (t : List ℕ) (v : Verdict) (v-is : v ≡ first_of (check_stages words t)) (e : v ≡ Ok tt) where
  groups : CheckPasses words t
  groups = (check-exactly words t).0 (sym v-is ∙ e)

  passed-few : length t / 16 ≤ 512
  passed-few = ltb-false 512 (length t / 16) ((sizes-exactly words t).0 groups.sizes).few

  passed-netlist : first_of (netlist_stages (records_of t)) ≡ Ok tt
  passed-netlist = groups.netlist

pub ticket-passed : (t ws₀ ws : List ℕ) (v : Verdict) → v ≡ first_of (check_stages (length ws₀) t) → v ≡ Ok tt → length ws ≡ length ws₀ → 16384 ≤ length ws₀
    → Passed t ws
ticket-passed t ws₀ ws v v-is e same h =
    record { long = omega arith; few = passed-few (length ws₀) t v v-is e; pass = passed-netlist (length ws₀) t v v-is e }

-- stages, and 12 behind them: one of the first refuses, or 12 alone decides
module _ (xs : List Stage) (bytes ws₀ ws reply : List ℕ) (kept : drop 16384 ws ≡ drop 16384 ws₀) where
  abbrev behind : List Stage
  behind = room reply bytes ∷ []

  pub refused-writes : (x : Refusal) → Err x ≡ first_of xs → (r : Result ℕ Refusal) → IsErrAnd r (λ y. y ≡ x) → Writes (xs ++ behind) bytes ws₀ ws reply reply r
  refused-writes x e r q =
      let p = err_from_is_err_and r q in
      let f : first_of (xs ++ behind) ≡ Err x = earlier-decides xs behind x (sym e) in
      record { said = rw (p.1, p.2, f); left = rw f; rest = kept }

  pub passed-writes : Ok tt ≡ first_of xs → (bytes' ws' reply' : List ℕ) (r : Result ℕ Refusal) → bytes' ≡ bytes → Delivers bytes' ws ws' reply reply' r
      → Writes (xs ++ behind) bytes ws₀ ws' reply reply' r
  passed-writes e bytes' ws' reply' r same d =
      let f : first_of (xs ++ behind) ≡ first_of behind = later-decides xs behind (sym e) in
      let all = delivers-from bytes' bytes ws₀ ws ws' reply reply' r same kept d in
      record { said = rw f all.said; left = rw f all.left; rest = all.rest }
