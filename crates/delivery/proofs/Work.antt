-- The work slice at return. Assumes nothing.
use mathlib.Core.Path.{◌≡◌, refl, sym, ap, ◌∙◌}
use mathlib.Core.List.{List, ◌++◌}
use Prim.Native.Nat.{ℕ, ◌<◌, ◌≤◌}
use native.Mathlib.Omega.{arith}
use lib.ListN.{length, drop, replicate}
use borrow.Author.Tests.{lt-ltb, le-ltb}
use Rattle.calls.specs.Work.{wiped, cleared}

wiped-by : (k : ℕ) (ws ws₀ : List ℕ) → drop k ws ≡ drop k ws₀ → wiped k ws ≡ wiped k ws₀
unfolding wiped
wiped-by k ws ws₀ e = rw e

-- a slice that is too short, and one that is long enough
pub cleared-short : (ws : List ℕ) → length ws < 16384 → ws ≡ cleared ws
unfolding cleared
cleared-short ws h = simp (lt-ltb _ _ h)

pub cleared-long : (ws ws' : List ℕ) → 16384 ≤ length ws → ws' ≡ wiped 16384 ws → ws' ≡ cleared ws
unfolding cleared
cleared-long ws ws' h f = simp (le-ltb _ _ h) f

pub cleared-filled : (ws : List ℕ) (k : ℕ) → 16384 ≤ length ws → k ≡ 16384 → (zeros : List ℕ) → zeros ≡ replicate k 0 → zeros ++ drop 16384 ws ≡ cleared ws
unfolding wiped
cleared-filled ws k h e zeros f = cleared-long ws (zeros ++ drop 16384 ws) h (ap (λ (xs : List ℕ). xs ++ drop 16384 ws) (f ∙ ap (λ (j : ℕ). replicate j 0) e))

-- wiping leaves the same of words that differ in the areas alone
pub cleared_by : (ws₀ ws : List ℕ) → 16384 ≤ length ws₀ → length ws ≡ length ws₀ → drop 16384 ws ≡ drop 16384 ws₀ → cleared ws ≡ cleared ws₀
cleared_by ws₀ ws h same e =
    sym (cleared-long ws (wiped 16384 ws) (omega arith) refl) ∙ wiped-by 16384 ws ws₀ e ∙ cleared-long ws₀ (wiped 16384 ws₀) h refl
