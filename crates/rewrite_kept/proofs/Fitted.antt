-- Levels of all nets that fit a rewriter: those of the finished slots are right. A finished slot is never changed, so levels that fit a later
-- rewriter fit an earlier one. Replacements do not change levels, so cells that are looked up have the levels of their nets. Assumes nothing.
use mathlib.Core.Path.{◌≡◌, refl, sym, ap, ◌∙◌, subst}
use mathlib.Core.Bool.{Bool, true, false, cond}
use mathlib.Core.List.{List, [], ◌∷◌, ◌++◌}
use mathlib.Core.Logic.{inl, inr}
use Prim.Native.Nat.{ℕ, suc, ◌≤◌, ◌<◌}
use native.Mathlib.Omega.{arith}
use lib.Dec.{eqb, ltb}
use lib.ListN.{length, get_or, length-append, get_or-append, get_or-eq_default}
use lib.Seq.{get_or-set_same, get_or-set_other, get_or-append_seam}
use borrow.Author.Tests.{eqb-false, ltb-true, ltb-false}
use Rattle.logic.specs.declared.Trit.{Trit}
use Rattle.logic.specs.declared.Trit.TheVariants.{Undef}
use Rattle.value.specs.declared.Net.{Net}
use Rattle.value.specs.declared.Slot.{Slot}
use Rattle.value.specs.declared.Driver.{Driver}
use Rattle.value.specs.declared.Driver.TheVariants as driven
use Rattle.value.specs.Value.{driver}
use Rattle.value.proofs.Laws.{cell-driver}
use Rattle.cell.specs.declared.Cell.{Cell}
use Rattle.cell.specs.declared.Cell.TheVariants.{Input}
use Rattle.netlist.specs.Shape.{comb_reads, visit_mut, is_source}
use Rattle.netlist.specs.Netlist.{cell_in}
use Rattle.std.specs.Prelude.{None}
use Rattle.design.specs.Queue.{Design, net_in, driven_to, map_net_new, source_in, find_new_cell}
use Rattle.numberer.specs.Numberer.{Entry}
use Rattle.rewrite.specs.Rewriter.{Rewriter, stamp, find_cell, entered, finished}
use Rattle.order_laws.specs.Ends.{Final}
use Rattle.basics.proofs.Truth.{either}
use Rattle.basics.proofs.Members.{all-every}
use Rattle.order_laws.proofs.Queue.{mapped-keeps, replacement}
use Rattle.rewrite_laws.proofs.Settled.{limit, stamped-inside, map-settled, stamped-settled}
use Rattle.rewrite_laws.specs.State.{tickets, SettledSlot, Settled, StandsFor, Inv}
use Rattle.accepted_laws.proofs.Final.{map_net_new-final}
use Rattle.levels_laws.specs.Algebra.{cell_value}
use Rattle.levels_laws.specs.Instances.{kleene}
use Rattle.levels_laws.proofs.Operands.{cell_same, cell-visit_mut, cell-own, source-own}
use Rattle.rewrite_kept.specs.Outcomes.{gate_level, SourceFits}

-- a function that keeps levels, put to each operand
pub mapped-level : (v : Net → Trit) (f : Net → Net) → ((n : Net) → v (f n) ≡ v n) → (own : Trit) (c : Cell)
    → cell_value kleene v own (visit_mut f c) ≡ cell_value kleene v own c
mapped-level v f same own c =
    cell-visit_mut kleene v f own c ∙ cell_same kleene (λ n. v (f n)) v own c (all-every (λ n. v (f n) ≡ v n) same (comb_reads c))

module _ (v : Net → Trit) where
  -- a finished slot: its net has the level of the net that stands for it; and if it stands for itself, that of the cell in the slot
  pub record SlotFits (d : Design) (s : ℕ) : Type 0 where
    pub stands : v (net_in s) ≡ v (get_or d.replaced s (net_in s))
    pub level : get_or d.replaced s (net_in s) ≡ net_in s → v (net_in s) ≡ cell_value kleene v (v (net_in s)) (cell_in d.cells s)

  pub record Fitted (r : Rewriter) : Type 0 where
    pub few : length r.design.cells ≤ limit
    pub slots : (s : ℕ) → 0 < get_or r.stamps s 0 → SlotFits r.design s

  slot_same : (d d' : Design) (s : ℕ) → cell_in d'.cells s ≡ cell_in d.cells s → get_or d'.replaced s (net_in s) ≡ get_or d.replaced s (net_in s)
      → SlotFits d' s → SlotFits d s
  slot_same d d' s e f h = record {
    stands = h.stands ∙ ap v f;
    level = λ q. h.level (f ∙ q) ∙ ap (cell_value kleene v (v (net_in s))) e;
  }

  module _ (cs₀ : List Cell) where
    -- back over an entered cell, which has the level of its net
    module _ (r : Rewriter) (inv : Inv cs₀ r) (c : Cell) (n : Net) (fits : Fitted (entered r c n)) where
      abbrev last : ℕ
      last = length r.design.cells

      pub entered-back : Fitted r
      unfolding entered
      entered-back = record {
        few = omega (arith, fits.few, length-append r.design.cells (c ∷ []));
        slots = λ s h.
            let l : s < length r.stamps = stamped-inside r.stamps s h in
            slot_same r.design (record { cells = r.design.cells ++ (c ∷ []); replaced = r.design.replaced }) s
            (get_or-append r.design.cells (c ∷ []) (Input 0) s (omega (arith, l, inv.sizes))) refl
            (fits.slots s (omega (arith, h, get_or-append r.stamps (suc r.clock ∷ []) 0 s l)));
      }

      pub entered-level : is_source c ≡ false → v (net_in last) ≡ gate_level v c
      unfolding entered
      entered-level e =
          let here : get_or (r.stamps ++ (suc r.clock ∷ [])) last 0 ≡ suc r.clock = rw (sym inv.sizes) (get_or-append_seam r.stamps (suc r.clock) [] 0) in
          (fits.slots last (omega (arith, here))).level (get_or-eq_default r.design.replaced (net_in last) {n = last} (omega (arith, inv.wide, inv.many)))
          ∙ ap (cell_value kleene v (v (net_in last))) (get_or-append_seam r.design.cells c [] (Input 0))
          ∙ cell-own kleene v (v (net_in last)) Undef c e

    -- back over a finished slot
    module _ (r : Rewriter) (inv : Inv cs₀ r) (s : ℕ) (d : Design) (es : List Entry) (small : s < tickets cs₀) (waiting : get_or r.stamps s 0 ≡ 0)
        (cells : (i : ℕ) → (i ≡ s → ⊥) → cell_in d.cells i ≡ cell_in r.design.cells i)
        (nets : (i : ℕ) (x : Net) → (i ≡ s → ⊥) → get_or d.replaced i x ≡ get_or r.design.replaced i x)
        (long : length d.cells ≡ length r.design.cells) (fits : Fitted (finished r s d es)) where
      pub finished-back : Fitted r
      unfolding finished
      finished-back = record {
        few = omega (arith, fits.few, long);
        slots = λ i h.
            let other : i ≡ s → ⊥ = λ e. omega (arith, h, ap (λ x. get_or r.stamps x 0) e, waiting) in
            slot_same r.design d i (cells i other) (nets i (net_in i) other)
            (fits.slots i (omega (arith, h, get_or-set_other r.stamps s i (suc r.clock) 0 other)));
      }

      pub finished-slot : SlotFits d s
      unfolding finished
      finished-slot = fits.slots s (omega (arith, get_or-set_same r.stamps s (suc r.clock) 0 (omega (arith, small, inv.many, inv.sizes))))

    -- replacements keep levels
    module _ (r : Rewriter) (inv : Inv cs₀ r) (fits : Fitted r) where
      abbrev rs : List Net
      rs = r.design.replaced

      step_same : (m : Net) → v (replacement rs m) ≡ v m
      step_same m = go (driver m) refl
        where
          slot : (s : Slot) → m ≡ net_in s.0 → StandsFor cs₀ r.stamps s.0 (get_or rs s.0 m) → v (get_or rs s.0 m) ≡ v m
          slot s e (inl f) = ap v (f ∙ sym e)
          slot s e (inr f) = ap (λ x. v (get_or rs s.0 x)) e ∙ sym (fits.slots s.0 f.0).stands ∙ ap v (sym e)

          go : (x : Driver) → driver m ≡ x → v (driven_to rs m (driver m)) ≡ v m
          go (driven.Const t) e = rw e
          go (driven.Cell s) e = rw e (either (ltb s.0 (tickets cs₀))
              (λ l. slot s (cell-driver m s e) (inv.stands s.0 m (ltb-true s.0 (tickets cs₀) l)))
              (λ l. ap v (get_or-eq_default rs m {n = s.0} (omega (arith, inv.wide, ltb-false s.0 (tickets cs₀) l)))))

      pub map_same : (m : Net) → v (map_net_new rs m) ≡ v m
      map_same m = mapped-keeps rs (λ n. v n ≡ v m) (λ n e. step_same n ∙ e) m refl

      -- the Rust's look-up gives a cell of the net's level
      slot-fits : (n m : Net) (s : Slot) → v m ≡ v n → driver m ≡ driven.Cell s → driven_to rs m (driver m) ≡ m → SettledSlot cs₀ r.stamps s.0
          → v n ≡ cell_value kleene v (v n) (cell_in r.design.cells s.0)
      slot-fits n m s e d f (inl i) =
          sym (source-own kleene v (v n) (cell_in r.design.cells s.0) (ap is_source (inv.untouched s.0 i.0 (inv.sources s.0 i.0 i.1)) ∙ i.1))
      slot-fits n m s e d f (inr p) =
          let is : m ≡ net_in s.0 = cell-driver m s d in
          let final : get_or rs s.0 m ≡ m = sym (ap (driven_to rs m) d) ∙ f in
          let k : v (net_in s.0) ≡ v n = ap v (sym is) ∙ e in
          subst (λ (t : Trit). t ≡ cell_value kleene v t (cell_in r.design.cells s.0)) k
          ((fits.slots s.0 p).level (ap (get_or rs s.0) (sym is) ∙ final ∙ is))

      pub new-cell-fits : (n : Net) → Settled cs₀ r.stamps n → SourceFits v n (find_new_cell r.design n)
      unfolding find_new_cell Settled
      new-cell-fits n h = by (map_net_new rs n) (map_same n) (map_net_new-final cs₀ r inv n) (map-settled cs₀ r inv n h) (driver (map_net_new rs n)) refl
        where
          by : (m : Net) → v m ≡ v n → Final r.design.replaced m → Settled cs₀ r.stamps m → (x : Driver) → driver m ≡ x → SourceFits v n (source_in r.design.cells x)
          by m e f k (driven.Const t) d = tt
          by m e f k (driven.Cell s) d = slot-fits n m s e d f (k s d)

      pub found-fits : (n : Net) → SourceFits v n (find_cell find_new_cell r n)
      unfolding find_cell
      found-fits n = go (eqb (stamp r.stamps n) 0) refl
        where
          go : (b : Bool) → eqb (stamp r.stamps n) 0 ≡ b → SourceFits v n (cond b None (find_new_cell r.design n))
          go true e = tt
          go false e = new-cell-fits n (stamped-settled cs₀ r inv n (omega (arith, eqb-false (stamp r.stamps n) 0 e)))
