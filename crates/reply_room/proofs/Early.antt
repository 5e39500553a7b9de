-- The stages before 12 give other refusals. Assumes nothing.
use mathlib.Core.Path.{◌≡◌, refl, sym, ◌∙◌, subst}
use mathlib.Core.List.{List, ◌++◌}
use Prim.Native.Nat.{ℕ, ◌<◌}
use native.Mathlib.Omega.{arith}
use Rattle.std.specs.Prelude.{Ok, Err}
use Rattle.cell.specs.declared.Cell.{Cell}
use Rattle.refusals.specs.declared.Refusal.{Refusal}
use Rattle.refusals.specs.Refusals.{Stage, figures, first_of, Verdict}
use Rattle.refusals.proofs.Stages.{later-decides, earlier-decides, EachGives, GivesSuch, both-give, first_gives, Within, each-imp}
use Rattle.checking.specs.Checking.{check_stages}
use Rattle.checking.proofs.Groups.{check-gives}
use Rattle.calls.specs.Calls.{stimulus_stages}
use Rattle.calls.proofs.Later.{stimulus-gives}

abbrev Before12 : Refusal → Type 0
Before12 x = (figures x).number < 12

-- each stage of a list gives a refusal below 12
abbrev pub Early : List Stage → Type 0
Early sts = EachGives Before12 sts

-- a verdict is not 12
abbrev pub Other : Verdict → Type 0
Other v = GivesSuch Before12 v

-- stages that are early, and others behind them
pub early-then : (xs ys : List Stage) → Early xs → (first_of xs ≡ Ok tt → Other (first_of ys)) → Other (first_of (xs ++ ys))
early-then xs ys e f = go (first_of xs) refl
  where
    go : (v : Verdict) → first_of xs ≡ v → Other (first_of (xs ++ ys))
    go (Ok u) h = subst Other (sym (later-decides xs ys h)) (f h)
    go (Err r) h = subst Other (h ∙ sym (earlier-decides xs ys r h)) (first_gives Before12 xs e)

-- ---- the stages of the calls
pub check-early : (words : ℕ) (t : List ℕ) → Early (check_stages words t)
check-early words t = each-imp (Within 1 8) Before12 (λ x l. omega arith) (check_stages words t) (check-gives words t)

pub both-early : (words : ℕ) (t : List ℕ) (cs : List Cell) (stimulus : List ℕ) → Early (check_stages words t ++ stimulus_stages cs stimulus)
both-early words t cs stimulus =
    both-give Before12 (check_stages words t) (stimulus_stages cs stimulus) (check-early words t)
    (each-imp (Within 10 11) Before12 (λ x l. omega arith) (stimulus_stages cs stimulus) (stimulus-gives cs stimulus))
