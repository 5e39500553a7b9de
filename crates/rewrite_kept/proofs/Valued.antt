-- Levels of all nets that fit the rewriter at the end of a run: those of the netlist after the change queue is applied, each net by the one that
-- replacements lead to. Assumes nothing.
use mathlib.Core.Path.{◌≡◌, refl, sym, ap, ◌∙◌}
use mathlib.Core.Bool.{Bool, true, false, cond}
use mathlib.Core.List.{List}
use mathlib.Core.Logic.{inl, inr}
use Prim.Native.Nat.{ℕ, zero, suc, ◌≤◌, ◌<◌}
use native.Mathlib.Omega.{arith}
use lib.ListN.{length, get_or}
use Rattle.logic.specs.declared.Trit.{Trit}
use Rattle.value.specs.declared.Net.{Net}
use Rattle.value.specs.declared.Driver.TheVariants as driven
use Rattle.value.specs.Value.{slot_at, eq_net, driver}
use Rattle.value.proofs.Laws.{driver-cell}
use Rattle.cell.specs.declared.Cell.{Cell}
use Rattle.netlist.specs.Shape.{is_source}
use Rattle.netlist.specs.Netlist.{cell_in}
use Rattle.design.specs.Queue.{net_in, driven_to, followed, map_net_new, applied}
use Rattle.rewrite.specs.Rewriter.{Rewriter}
use Rattle.basics.proofs.Truth.{either}
use Rattle.order_laws.proofs.Queue.{applied-at, applied-length, followed-final, followed-first, mapped-final, replacement}
use Rattle.rewrite_laws.proofs.Settled.{limit, stamped-inside}
use Rattle.rewrite_laws.specs.State.{StandsFor, Inv}
use Rattle.accepted_laws.proofs.Final.{map_net_new-final}
use Rattle.levels_laws.specs.Algebra.{net_value, cell_value, Fits}
use Rattle.levels_laws.specs.Instances.{kleene}
use Rattle.levels_laws.proofs.Operands.{value-const, value-slot, cell-visit_mut, cell-own, source-own}
use Rattle.rewrite_kept.specs.Outcomes.{Constants}
use Rattle.rewrite_kept.proofs.Fitted.{SlotFits, Fitted}

-- one step more changes nothing where the end is reached
one_more : (rs : List Net) (k : ℕ) (m : Net) → replacement rs (followed k rs m) ≡ followed k rs m → followed (suc k) rs m ≡ followed k rs m
unfolding followed
one_more rs zero m e = followed-final rs 1 m e
one_more rs (suc k) m e = go (eq_net (replacement rs m) m) e (one_more rs k (replacement rs m))
  where
    go : (b : Bool) → replacement rs (cond b m (followed k rs (replacement rs m))) ≡ cond b m (followed k rs (replacement rs m))
        → (replacement rs (followed k rs (replacement rs m)) ≡ followed k rs (replacement rs m) → followed (suc k) rs (replacement rs m) ≡ followed k rs (replacement rs m))
        → cond b m (followed (suc k) rs (replacement rs m)) ≡ cond b m (followed k rs (replacement rs m))
    go true f ih = refl
    go false f ih = ih f

module _ (cs₀ : List Cell) (r : Rewriter) (inv : Inv cs₀ r) (few : length r.design.cells ≤ limit) (own ws : ℕ → Trit)
    (fits : Fits kleene own (applied r.design) ws) where
  abbrev rs : List Net
  rs = r.design.replaced

  unfoldable pub valued : Net → Trit
  valued n = net_value kleene ws (map_net_new rs n)

  map-step : (m : Net) → map_net_new rs m ≡ map_net_new rs (replacement rs m)
  unfolding map_net_new
  map-step m = sym (one_more rs (length rs) m (map_net_new-final cs₀ r inv m)) ∙ followed-first rs (length rs) m

  pub valued-constants : Constants valued
  unfolding valued
  valued-constants n t e = ap (net_value kleene ws) (mapped-final rs n (ap (driven_to rs n) e)) ∙ value-const kleene ws n t e

  module _ (s : ℕ) (l : s < length r.design.cells) where
    driven-here : driver (net_in s) ≡ driven.Cell (slot_at s)
    driven-here = driver-cell (slot_at s) (omega arith)

    step-here : replacement rs (net_in s) ≡ get_or rs s (net_in s)
    step-here = ap (driven_to rs (net_in s)) driven-here

    -- a slot that stands for itself has the level of its cell
    module _ (e : get_or rs s (net_in s) ≡ net_in s) where
      pub valued-slot : valued (net_in s) ≡ ws s
      unfolding valued
      valued-slot = ap (net_value kleene ws) (mapped-final rs (net_in s) (step-here ∙ e)) ∙ value-slot kleene ws (net_in s) (slot_at s) driven-here

      pub valued-cell : valued (net_in s) ≡ cell_value kleene valued (own s) (cell_in r.design.cells s)
      unfolding valued Fits
      valued-cell =
          valued-slot ∙ fits s (omega (arith, applied-length r.design))
          ∙ ap (cell_value kleene (net_value kleene ws) (own s)) (applied-at r.design s l)
          ∙ cell-visit_mut kleene (net_value kleene ws) (map_net_new rs) (own s) (cell_in r.design.cells s)

    slot-valued : SlotFits valued r.design s
    unfolding valued
    slot-valued = record {
      stands = ap (net_value kleene ws) (map-step (net_in s) ∙ ap (map_net_new rs) step-here);
      level = λ e. own-level (cell_in r.design.cells s) (valued-cell e);
    }
      where
        own-level : (c : Cell) → valued (net_in s) ≡ cell_value kleene valued (own s) c → valued (net_in s) ≡ cell_value kleene valued (valued (net_in s)) c
        own-level c h =
            either (is_source c) (λ i. sym (source-own kleene valued (valued (net_in s)) c i)) (λ i. h ∙ cell-own kleene valued (own s) (valued (net_in s)) c i)

  pub valued_fits : Fitted valued r
  valued_fits = record {
    few = few;
    slots = λ s h. slot-valued s (omega (arith, stamped-inside r.stamps s h, inv.sizes));
  }

  -- a ticket's slot without a stamp stands for itself
  pub unstamped : (s : ℕ) → s < length cs₀ → get_or r.stamps s 0 ≡ 0 → get_or rs s (net_in s) ≡ net_in s
  unstamped s l e = go (inv.stands s (net_in s) l)
    where
      go : StandsFor cs₀ r.stamps s (get_or rs s (net_in s)) → get_or rs s (net_in s) ≡ net_in s
      go (inl q) = q
      go (inr p) = absurd (omega (arith, p.0, e))
