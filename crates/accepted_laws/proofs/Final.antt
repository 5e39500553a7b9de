-- Replaced nets are followed to a final one: each replacement has a lower stamp, so as many steps as there are slots are enough. Assumes nothing.
use mathlib.Core.Path.{◌≡◌, refl, sym, ap, ◌∙◌}
use mathlib.Core.Bool.{Bool, true, false, cond}
use mathlib.Core.List.{List}
use mathlib.Core.Logic.{◌⊎◌, inl, inr}
use Prim.Native.Nat.{ℕ, zero, suc, ◌≤◌, ◌<◌}
use native.Mathlib.Omega.{arith}
use lib.Dec.{ltb}
use lib.ListN.{length, get_or, get_or-eq_default}
use borrow.Author.Tests.{ltb-true, ltb-false, lt-ltb, le-ltb}
use Rattle.value.specs.declared.Net.{Net}
use Rattle.value.specs.declared.Slot.{Slot}
use Rattle.value.specs.declared.Driver.{Driver}
use Rattle.value.specs.declared.Driver.TheVariants as driven
use Rattle.value.specs.Value.{eq_net, driver}
use Rattle.value.proofs.Laws.{net-test, cell-driver}
use Rattle.cell.specs.declared.Cell.{Cell}
use Rattle.loops.specs.inner.Counted.{counted}
use Rattle.loops.proofs.Counting.{counted-le, counted-less}
use Rattle.design.specs.Queue.{driven_to, followed, map_net_new}
use Rattle.rewrite.specs.Rewriter.{Rewriter, stamp}
use Rattle.order_laws.specs.Ends.{Final, Ends}
use Rattle.basics.proofs.Truth.{either, never}
use Rattle.order_laws.proofs.Queue.{replacement}
use Rattle.rewrite_laws.specs.State.{StandsFor, Inv}
use Rattle.rewrite_laws.proofs.Settled.{stamp-driven}

module _ (cs₀ : List Cell) (r : Rewriter) (inv : Inv cs₀ r) where
  abbrev ts : List ℕ
  ts = r.stamps

  abbrev rs : List Net
  rs = r.design.replaced

  -- how many slots are stamped no higher than a net
  abbrev below : ℕ → ℕ
  below t = counted (λ i. ltb (get_or ts i 0) (suc t)) (length cs₀)

  below_less : (t u i : ℕ) → i < length cs₀ → t < get_or ts i 0 → get_or ts i 0 ≤ u → below t < below u
  below_less t u i l h k =
      counted-less (λ j. ltb (get_or ts j 0) (suc t)) (λ j. ltb (get_or ts j 0) (suc u)) (length cs₀)
      (λ j m e. lt-ltb (get_or ts j 0) (suc u) (omega (arith, h, k, ltb-true (get_or ts j 0) (suc t) e))) i l
      (le-ltb (get_or ts i 0) (suc t) (omega arith)) (lt-ltb (get_or ts i 0) (suc u) (omega arith))

  one : (m : Net) → Final rs m ⊎ (below (stamp ts (replacement rs m)) < below (stamp ts m))
  one m = go (driver m) refl
    where
      slot : (s : Slot) → driver m ≡ driven.Cell s → s.0 < length cs₀ → StandsFor cs₀ ts s.0 (get_or rs s.0 m)
          → (get_or rs s.0 m ≡ m) ⊎ (below (stamp ts (get_or rs s.0 m)) < below (stamp ts m))
      slot s e l (inl f) = inl (f ∙ sym (cell-driver m s e))
      slot s e l (inr f) =
          let q : stamp ts m ≡ get_or ts s.0 0 = stamp-driven ts m s e in
          inr (below_less (stamp ts (get_or rs s.0 m)) (stamp ts m) s.0 l f.2 (omega (arith, q)))

      go : (x : Driver) → driver m ≡ x → (replacement rs m ≡ m) ⊎ (below (stamp ts (replacement rs m)) < below (stamp ts m))
      go (driven.Const t) e = inl (ap (driven_to rs m) e)
      go (driven.Cell s) e = rw e (either (ltb s.0 (length cs₀))
          (λ l. slot s e (ltb-true s.0 (length cs₀) l) (inv.stands s.0 m (ltb-true s.0 (length cs₀) l)))
          (λ l. inl (get_or-eq_default rs m {n = s.0} (omega (arith, inv.wide, ltb-false s.0 (length cs₀) l)))))

  follow-final : (k : ℕ) (m : Net) → below (stamp ts m) ≤ k → Final rs (followed k rs m)
  unfolding followed
  follow-final zero m h = go (one m)
    where
      go : Final rs m ⊎ (below (stamp ts (replacement rs m)) < below (stamp ts m)) → Final rs m
      go (inl f) = f
      go (inr l) = absurd (omega (arith, l, h))
  follow-final (suc k) m h = go (eq_net (replacement rs m) m) refl (one m) (follow-final k (replacement rs m))
    where
      go : (b : Bool) → eq_net (replacement rs m) m ≡ b → Final rs m ⊎ (below (stamp ts (replacement rs m)) < below (stamp ts m))
          → (below (stamp ts (replacement rs m)) ≤ k → Final rs (followed k rs (replacement rs m))) → Final rs (cond b m (followed k rs (replacement rs m)))
      go true e f ih = net-test.same (replacement rs m) m e
      go false e (inl f) ih = never (net-test.is_true (replacement rs m) m f) e
      go false e (inr l) ih = ih (omega (arith, l, h))

  -- the law
  pub map_net_new-final : (m : Net) → Ends rs m
  unfolding map_net_new
  map_net_new-final m = follow-final (length rs) m (omega (arith, inv.wide, counted-le (λ i. ltb (get_or ts i 0) (suc (stamp ts m))) (length cs₀)))
