-- Laws of `counted`: it is at most the bound, and grows with the property. Assumes nothing.
use mathlib.Core.Path.{◌≡◌, refl, sym, ap, ◌∙◌}
use mathlib.Core.Bool.{Bool, true, false}
use Prim.Native.Nat.{ℕ, zero, suc, ◌+◌, ◌<◌, ◌≤◌}
use native.Mathlib.Omega.{arith}
use lib.Dec.{eqb}
use borrow.Author.Tests.{eqb-true, eqb-false}
use Rattle.loops.specs.inner.Counted.{one, counted}

one-le : (b : Bool) → one b ≤ 1
one-le true = omega arith
one-le false = omega arith

pub counted-le : (p : ℕ → Bool) (n : ℕ) → counted p n ≤ n
unfolding counted
counted-le p zero = omega arith
counted-le p (suc n) = omega (arith, counted-le p n, one-le (p n))

one_grows : (a b : Bool) → (a ≡ true → b ≡ true) → one a ≤ one b
one_grows true b h = omega (arith, ap one (h refl))
one_grows false b h = omega arith

-- q holds wherever p does
module _ (p q : ℕ → Bool) where
  pub counted-grows : (n : ℕ) → ((i : ℕ) → i < n → p i ≡ true → q i ≡ true) → counted p n ≤ counted q n
  unfolding counted
  counted-grows zero h = omega arith
  counted-grows (suc n) h = omega (arith, counted-grows n (λ i l. h i (omega arith)), one_grows (p n) (q n) (h n (omega arith)))

  -- and at j besides
  pub counted-less : (n : ℕ) → ((i : ℕ) → i < n → p i ≡ true → q i ≡ true) → (j : ℕ) → j < n → p j ≡ false → q j ≡ true → counted p n < counted q n
  unfolding counted
  counted-less zero h j l e f = absurd (omega arith)
  counted-less (suc n) h j l e f = go (eqb j n) refl (counted-less n (λ i k. h i (omega arith)) j)
    where
      go : (b : Bool) → eqb j n ≡ b → (j < n → p j ≡ false → q j ≡ true → counted p n < counted q n) → one (p n) + counted p n < one (q n) + counted q n
      go true t r =
          let s : j ≡ n = eqb-true j n t in
          let x : one (p n) ≡ 0 = ap one (ap p (sym s) ∙ e) in
          let y : one (q n) ≡ 1 = ap one (ap q (sym s) ∙ f) in
          omega (arith, counted-grows n (λ i k. h i (omega arith)))
      go false t r =
          let d : j ≡ n → ⊥ = eqb-false j n t in
          omega (arith, r (omega (arith, d)) e f, one_grows (p n) (q n) (h n (omega arith)))

  -- or nowhere besides
  pub counted_same : (n : ℕ) → ((i : ℕ) → i < n → p i ≡ true → q i ≡ true) → counted q n ≤ counted p n → (i : ℕ) → i < n → q i ≡ true → p i ≡ true
  counted_same n h l i k e = go (p i) refl
    where
      go : (b : Bool) → p i ≡ b → p i ≡ true
      go true t = t
      go false t = absurd (omega (arith, counted-less n h i k t e))
