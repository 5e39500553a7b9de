-- What processing keeps in the run with the Rust's look-up, as long as every slot has a net of its own: all that is looked up and answered is
-- settled. Assumes nothing.
use mathlib.Core.Path.{◌≡◌, sym, ap, ◌∙◌, subst}
use mathlib.Core.Bool.{false}
use mathlib.Core.List.{List, [], ◌∷◌, ◌++◌}
use mathlib.Core.Logic.{◌⊎◌, inl, inr}
use Prim.Native.Nat.{ℕ, suc, ◌<◌}
use native.Mathlib.Omega.{arith}
use lib.ListN.{length, get_or, length-append, get_or-append}
use Rattle.value.specs.declared.Net.{Net}
use Rattle.cell.specs.declared.Cell.{Cell}
use Rattle.netlist.specs.Shape.{has_effects}
use Rattle.std.proofs.Common.{Some}
use Rattle.design.specs.Queue.{net_in, find_new_cell}
use Rattle.numberer.specs.Numberer.{seek}
use Rattle.rewrite.specs.Rewriter.{Rewriter, entered}
use Rattle.rewrite.specs.Rewrite.{rules}
use Rattle.order_laws.proofs.Queue.{seek-snoc}
use Rattle.aig_laws.specs.Reads.{GateOf}
use Rattle.rewrite_laws.proofs.Kept.{Keeps, delayed, inverse-reads, rules-read}
use Rattle.rewrite_laws.proofs.Settled.{limit, found-settled, settled-constants}
use Rattle.rewrite_laws.specs.State.{Settled, State, tickets}
use Rattle.rewrite_laws.proofs.Steps.{later-settled, entered-later, entered-inv, entered-settled}
use Rattle.rewrite_laws.proofs.Items.{FewSlots}

module _ (cs₀ : List Cell) where
  -- what processing keeps, as long as the slots are few
  module _ (before : List ℕ) where
    abbrev pub P : Rewriter → Type 0
    P r = FewSlots r → State cs₀ before r

    abbrev pub Q : Rewriter → Cell → Type 0
    Q r c = FewSlots r → GateOf (Settled cs₀ r.stamps) c

    abbrev pub N : Rewriter → Net → Type 0
    N r m = FewSlots r → Settled cs₀ r.stamps m

    -- an entered cell
    module _ (r : Rewriter) (c : Cell) (p : P r) (q : Q r c) (few : FewSlots (entered r c (net_in (length r.design.cells)))) where
      abbrev m : Net
      m = net_in (length r.design.cells)

      room : length r.design.cells < limit
      unfolding entered
      room = omega (arith, few, length-append r.design.cells (c ∷ []))

      st : State cs₀ before r
      st = p (omega (arith, room))

      gate : GateOf (Settled cs₀ r.stamps) c
      gate = q (omega (arith, room))

      abbrev ts' : List ℕ
      ts' = r.stamps ++ (suc r.clock ∷ [])

      same-stamp : (i : ℕ) → i < tickets cs₀ → get_or ts' i 0 ≡ get_or r.stamps i 0
      same-stamp i l = get_or-append r.stamps (suc r.clock ∷ []) 0 i (omega (arith, st.inv.many, st.inv.sizes))

      known-after : (x : Cell) (y : Net) → seek (r.cache ++ ((c, m) ∷ [])) x ≡ Some y → Settled cs₀ ts' y × (has_effects x ≡ false)
      known-after x y e = go (seek-snoc r.cache (c, m) x y e)
        where
          go : (seek r.cache x ≡ Some y) ⊎ ((c ≡ x) × (m ≡ y)) → Settled cs₀ ts' y × (has_effects x ≡ false)
          go (inl f) =
              let k : Settled cs₀ r.stamps y × (has_effects x ≡ false) = st.known x y f in
              ((later-settled cs₀ r.stamps ts' (entered-later cs₀ r st.inv c m) y k.0).0, k.1)
          go (inr f) = (subst (Settled cs₀ ts') f.1 (entered-settled cs₀ r st.inv c m room), ap has_effects (sym f.0) ∙ gate.1)

      entered-state : State cs₀ before (entered r c m)
      unfolding entered
      entered-state = record {
        inv = entered-inv cs₀ r st.inv c m gate.0;
        known = known-after;
        done = λ i l h e. omega (arith, same-stamp i l, st.done i l h e);
        waiting = λ i l h. same-stamp i l ∙ st.waiting i l h;
      }

    pub keeping : Keeps find_new_cell P Q N
    unfolding entered
    keeping = record {
      plan = λ r c p q. delayed (FewSlots r) _ _ (rules find_new_cell r c)
          (λ few. rules-read find_new_cell r (Settled cs₀ r.stamps) (settled-constants cs₀ r.stamps) (found-settled cs₀ r (p few).inv) c (q few));
      inverse = λ r m p v few. inverse-reads (Settled cs₀ r.stamps) m (v few);
      cached = λ r c n p q e few. ((p few).known c n e).0;
      step = λ r c p q e s. ((λ few. entered-state r c p q few), (λ few. entered-settled cs₀ r (st r c p q few).inv c (net_in (length r.design.cells)) (room r c p q few)));
    }
