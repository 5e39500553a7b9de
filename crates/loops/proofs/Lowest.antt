-- The lowest slot with a property is what its name says, and nothing else is. Assumes nothing.
use mathlib.Core.Path.{◌≡◌, refl, sym, ap, ◌∙◌, subst}
use mathlib.Core.Bool.{Bool, true, false, cond}
use mathlib.Core.List.{List}
use Prim.Native.Nat.{ℕ, zero, suc, ◌<◌}
use native.Mathlib.Omega.{arith}
use native.Mathlib.Decide.{dec_lt}
use lib.ListN.{length}
use Rattle.value.specs.Value.{slot_at}
use Rattle.cell.specs.declared.Record.{Record}
use Rattle.std.proofs.Common.{Option, Some, None}
use Rattle.std.specs.Option.{option_or}
use Rattle.value.specs.declared.Slot.{Slot}
use Rattle.loops.specs.Reach.{on_loop}
use Rattle.loops.specs.inner.Search.{lowest, lowest_on_loop}

apart : (b : Bool) → b ≡ true → b ≡ false → ⊥
apart b x y = let z : ◌≡◌ {A = ℕ} 0 1 = cc in omega arith

module _ (p : ℕ → Bool) where
  -- r is the lowest of the first n slots that has p, or none of them has it
  unfoldable pub IsLowest : ℕ → Option Slot → Type 0
  IsLowest n (Some s) = (s.0 < n) × (p s.0 ≡ true) × ((i : ℕ) → i < s.0 → p i ≡ false)
  IsLowest n None = (i : ℕ) → i < n → p i ≡ false

  more : (n : ℕ) (r : Option Slot) → IsLowest n r → (b : Bool) → p n ≡ b → IsLowest (suc n) (option_or r (cond b (Some (slot_at n)) None))
  unfolding IsLowest
  more n (Some s) h b e = (omega (arith, h.0), h.1, h.2)
  more n None h true e = (omega arith, e, h)
  more n None h false e = λ i l. go i l (dec_lt i n)
    where
      go : (i : ℕ) → i < suc n → Dec (i < n) → p i ≡ false
      go i l (yes k) = h i k
      go i l (no k) = let q : i ≡ n = omega arith in ap p q ∙ e

  pub lowest-is : (n : ℕ) → IsLowest n (lowest p n)
  unfolding IsLowest lowest
  lowest-is zero = λ i l. absurd (omega arith)
  lowest-is (suc n) = more n (lowest p n) (lowest-is n) (p n) refl

  one-lowest : (n : ℕ) (q r : Option Slot) → IsLowest n q → IsLowest n r → q ≡ r
  unfolding IsLowest
  one-lowest n None None g h = refl
  one-lowest n None (Some t) g h = absurd (apart (p t.0) h.1 (g t.0 h.0))
  one-lowest n (Some s) None g h = absurd (apart (p s.0) g.1 (h s.0 g.0))
  one-lowest n (Some s) (Some t) g h = ap (λ (i : ℕ). Some (slot_at i)) (go (dec_lt s.0 t.0) (dec_lt t.0 s.0))
    where
      go : Dec (s.0 < t.0) → Dec (t.0 < s.0) → s.0 ≡ t.0
      go (yes k) d = absurd (apart (p s.0) g.1 (h.2 s.0 k))
      go (no k) (yes l) = absurd (apart (p t.0) h.1 (g.2 t.0 l))
      go (no k) (no l) = omega arith

-- the one law of the search's answer
pub lowest-on-loop : (rs : List Record) (r : Option Slot) → (r ≡ lowest_on_loop rs → IsLowest (on_loop rs) (length rs) r) × (IsLowest (on_loop rs) (length rs) r → r ≡ lowest_on_loop rs)
unfolding lowest_on_loop
lowest-on-loop rs r = (
  λ e. subst (IsLowest (on_loop rs) (length rs)) (sym e) (lowest-is (on_loop rs) (length rs)),
  λ h. one-lowest (on_loop rs) (length rs) r (lowest (on_loop rs) (length rs)) h (lowest-is (on_loop rs) (length rs)),
)
