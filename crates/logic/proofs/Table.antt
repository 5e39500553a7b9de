-- A rule over any number of levels, proved at all of their values by one test that antt computes.
-- `at 2 (λ x y. given (same x y) (finer (f x y) (g x y))) tt` is `(x y : Trit) → x ≡ y → Refines (f x y) (g x y)`, if that holds.
-- Assumes nothing.
use mathlib.Core.Path.{◌≡◌, refl, subst⁻¹}
use mathlib.Core.Logic.{◌↔◌}
use mathlib.Core.Bool.{Bool, true, false, ◌&&◌}
use Prim.Native.Nat.{ℕ, zero, suc}
use lib.Dec.{T}
use Rattle.logic.specs.declared.Trit.{Trit}
use Rattle.logic.specs.declared.Trit.TheVariants.{Zero, One, Undef}
use Rattle.logic.specs.Levels.{eq_level, refines, Refines}
use Rattle.logic.proofs.Bytes.{level-test}

-- what can be claimed of levels: a test passes, two are equal, the first refines the second, a claim follows from another
pub data Claim : Type 0 where
  passes : Bool → Claim
  same finer : Trit → Trit → Claim
  given : Claim → Claim → Claim

abbrev pub Holds : Claim → Type 0
Holds (passes b) = b ≡ true
Holds (same x y) = x ≡ y
Holds (finer y x) = Refines y x
Holds (given p c) = Holds p → Holds c

abbrev implies : Bool → Bool → Bool
implies true b = b
implies false b = true

abbrev pub test : Claim → Bool
test (passes b) = b
test (same x y) = eq_level x y
test (finer y x) = refines y x
test (given p c) = implies (test p) (test c)

is_true : (b : Bool) → T b → b ≡ true
is_true true t = refl
is_true false t = absurd t

passing : (b : Bool) → b ≡ true → T b
passing b e = subst⁻¹ T e tt

implied : (a b : Bool) → T (implies a b) → T a → T b
implied true b t h = t
implied false b t h = absurd h

implying : (a b : Bool) → (T a → T b) → T (implies a b)
implying true b f = f tt
implying false b f = tt

-- a claim is what its test computes
reads : (c : Claim) → T (test c) ↔ Holds c
unfolding Refines
reads (passes b) = (is_true b, passing b)
reads (same x y) =
    (λ t. level-test.same x y (is_true (eq_level x y) t), λ e. passing (eq_level x y) (level-test.is_true x y e))
reads (finer y x) = (λ t. t, λ h. h)
reads (given p c) = (
  λ t h. (reads c).0 (implied (test p) (test c) t ((reads p).1 h)),
  λ f. implying (test p) (test c) (λ t. (reads c).1 (f ((reads p).0 t))),
)

-- a claim on n levels, its test at all of them, and what it says
abbrev pub Claims : ℕ → Type 0
Claims zero = Claim
Claims (suc n) = Trit → Claims n

abbrev all : (Trit → Bool) → Bool
all f = f Zero && f One && f Undef

abbrev pub every : (n : ℕ) → Claims n → Bool
every zero c = test c
every (suc n) f = all (λ x. every n (f x))

abbrev pub Every : (n : ℕ) → Claims n → Type 0
Every zero c = Holds c
Every (suc n) f = (x : Trit) → Every n (f x)

both : (a b : Bool) → T (a && b) → T a × T b
both true b t = (tt, t)
both false b t = absurd t

all-at : (f : Trit → Bool) → T (all f) → (x : Trit) → T (f x)
all-at f t Zero = (both (f Zero) (f One) (both (f Zero && f One) (f Undef) t).0).0
all-at f t One = (both (f Zero) (f One) (both (f Zero && f One) (f Undef) t).0).1
all-at f t Undef = (both (f Zero && f One) (f Undef) t).1

pub at : (n : ℕ) (f : Claims n) → T (every n f) → Every n f
at zero c t = (reads c).0 t
at (suc n) f t = λ x. at n (f x) (all-at (λ x. every n (f x)) t x)
