-- Fresh nets: constants, inputs, and nets of added cells. While a netlist without and-inverters is rewritten, no fresh net is replaced, and no
-- added cell changes; so what a look-up of a fresh net gives changes no more. Assumes nothing.
use mathlib.Core.Path.{◌≡◌, refl, sym, ap, ◌∙◌, subst}
use mathlib.Core.Bool.{Bool, true, false, cond}
use mathlib.Core.List.{List}
use mathlib.Core.Logic.{◌⊎◌, inl, inr}
use Prim.Native.Nat.{ℕ, ◌≤◌, ◌<◌}
use native.Mathlib.Omega.{arith}
use lib.Dec.{eqb, ltb}
use lib.ListN.{length, get_or, get_or-eq_default}
use borrow.Author.Tests.{ltb-true, ltb-false, ne_eqb}
use Rattle.logic.specs.declared.Trit.{Trit}
use Rattle.logic.specs.declared.Trit.TheVariants.{Undef, Zero, One}
use Rattle.value.specs.declared.Net.{Net}
use Rattle.value.specs.declared.Slot.{Slot}
use Rattle.value.specs.declared.Driver.{Driver}
use Rattle.value.specs.declared.Driver.TheVariants as driven
use Rattle.value.specs.Value.{UNDEF, ZERO, ONE, driver, from_trit}
use Rattle.value.proofs.Laws.{cell-driver, driver-const}
use Rattle.cell.specs.declared.Cell.{Cell}
use Rattle.netlist.specs.Shape.{visit, is_source, is_output, has_effects}
use Rattle.netlist.specs.Netlist.{cell_in}
use Rattle.std.specs.Prelude.{None, Some}
use Rattle.design.specs.Queue.{net_in, driven_to, map_net_new, source_in, find_new_cell, Source}
use Rattle.numberer.specs.Numberer.{seek}
use Rattle.normalize.specs.Normalize.{normalize}
use Rattle.aig.specs.Aig.{simple_aig_opt}
use Rattle.rewrite.specs.Rewriter.{Rewriter, stamp_in, stamp, find_cell}
use Rattle.basics.specs.Lists.{has}
use Rattle.order_laws.specs.Members.{Drives}
use Rattle.basics.proofs.Truth.{either}
use Rattle.basics.proofs.Members.{all-imp}
use Rattle.order_laws.proofs.Operands.{drives-at, drives-in, drives-none}
use Rattle.order_laws.proofs.Sorts.{other-gate, source-effects}
use Rattle.order_laws.proofs.Queue.{mapped-final, mapped-once, replacement}
use Rattle.aig_laws.specs.Reads.{GateOf, SourceNets}

module _ (cs₀ : List Cell) where
  abbrev pub tickets : ℕ
  tickets = length cs₀

  -- of n slots: a source of the ticket, or an added one
  abbrev pub FreshSlot : ℕ → ℕ → Type 0
  FreshSlot n s = ((s < tickets) × (is_source (cell_in cs₀ s) ≡ true)) ⊎ ((tickets ≤ s) × (s < n))

  unfoldable pub Fresh : ℕ → Net → Type 0
  Fresh n = Drives (FreshSlot n)

  pub fresh_in : (n k : ℕ) → k ≤ 4294967292 → FreshSlot n k → Fresh n (net_in k)
  unfolding Fresh
  fresh_in n k l h = drives-in (FreshSlot n) k l h

  pub fresh-constants : (n : ℕ) → Fresh n UNDEF × Fresh n ZERO × Fresh n ONE
  unfolding Fresh
  fresh-constants n =
      let none : (t : Trit) → Drives (FreshSlot n) (from_trit t) = λ t. drives-none (FreshSlot n) (from_trit t) t (driver-const t) in
      (none Undef, none Zero, none One)

  slot-more : (n k s : ℕ) → n ≤ k → FreshSlot n s → FreshSlot k s
  slot-more n k s l (inl i) = inl i
  slot-more n k s l (inr p) = inr (p.0, omega (arith, p.1, l))

  pub fresh-more : (n k : ℕ) → n ≤ k → (m : Net) → Fresh n m → Fresh k m
  unfolding Fresh
  fresh-more n k l m h x e = slot-more n k x.0 l (h x e)

  -- what is seen of a fresh net: an added cell, and nothing of a source
  abbrev pub seen_by : List Cell → Driver → Source
  seen_by cs (driven.Const t) = None
  seen_by cs (driven.Cell s) = cond (ltb s.0 tickets) None (Some (cell_in cs s.0))

  unfoldable pub seen : List Cell → Net → Source
  seen cs m = seen_by cs (driver m)

  -- it is the same as long as the added cells are
  pub seen_same : (n : ℕ) (cs cs' : List Cell) → ((i : ℕ) → tickets ≤ i → i < n → cell_in cs' i ≡ cell_in cs i) → (m : Net) → Fresh n m → seen cs m ≡ seen cs' m
  unfolding Fresh seen
  seen_same n cs cs' same m h = go (driver m) refl
    where
      slot : (s : ℕ) → FreshSlot n s → (b : Bool) → ltb s tickets ≡ b → cond b None (Some (cell_in cs s)) ≡ cond b None (Some (cell_in cs' s))
      slot s h true e = refl
      slot s (inl i) false e = absurd (omega (arith, i.0, ltb-false s tickets e))
      slot s (inr p) false e = ap Some (sym (same s p.0 p.1))

      go : (x : Driver) → driver m ≡ x → seen_by cs x ≡ seen_by cs' x
      go (driven.Const t) e = refl
      go (driven.Cell s) e = slot s.0 (h s e) (ltb s.0 tickets) refl

  -- an added cell in slot i: a gate that reads fresh nets of lower slots, and to which no rule applies
  pub record Lasting (cs : List Cell) (i : ℕ) (c : Cell) : Type 0 where
    pub reads : GateOf (Fresh i) c
    pub sorted : normalize c ≡ None
    pub still : simple_aig_opt (seen cs) c ≡ None

  -- the state after the items `before`
  pub record State (before : List ℕ) (r : Rewriter) : Type 0 where
    pub sizes : length r.stamps ≡ length r.design.cells
    pub many : tickets ≤ length r.design.cells
    pub wide : length r.design.replaced ≡ tickets
    pub olds : (i : ℕ) → i < tickets → cell_in r.design.cells i ≡ cell_in cs₀ i
    pub ports : (i : ℕ) → i < tickets → has_effects (cell_in cs₀ i) ≡ true → get_or r.stamps i 0 ≡ 0
    pub stamped : (i : ℕ) → tickets ≤ i → i < length r.design.cells → 0 < get_or r.stamps i 0
    pub adds : (i : ℕ) → tickets ≤ i → i < length r.design.cells → Lasting r.design.cells i (cell_in r.design.cells i)
    pub found : (i : ℕ) → tickets ≤ i → i < length r.design.cells → seek r.cache (cell_in r.design.cells i) ≡ Some (net_in i)
    pub known : (c : Cell) (m : Net) → seek r.cache c ≡ Some m → Fresh (length r.design.cells) m × (has_effects c ≡ false)
    pub stays : (i : ℕ) (x : Net) → i < tickets → has_effects (cell_in cs₀ i) ≡ true → get_or r.design.replaced i x ≡ net_in i
    pub done : (i : ℕ) (x : Net) → i < tickets → has i before ≡ true → has_effects (cell_in cs₀ i) ≡ false
        → Fresh (length r.design.cells) (get_or r.design.replaced i x)

  module _ (before : List ℕ) (r : Rewriter) (st : State before r) where
    abbrev rs : List Net
    rs = r.design.replaced

    abbrev total : ℕ
    total = length r.design.cells

    -- a fresh net is not replaced
    fresh_final : (m : Net) → Fresh total m → replacement rs m ≡ m
    unfolding Fresh
    fresh_final m h = go (driver m) refl
      where
        slot : (s : Slot) → driver m ≡ driven.Cell s → FreshSlot total s.0 → get_or rs s.0 m ≡ m
        slot s e (inl i) = st.stays s.0 m i.0 (source-effects (cell_in cs₀ s.0) i.1) ∙ sym (cell-driver m s e)
        slot s e (inr p) = get_or-eq_default rs m {n = s.0} (omega (arith, st.wide, p.0))

        go : (x : Driver) → driver m ≡ x → driven_to rs m x ≡ m
        go (driven.Const t) e = refl
        go (driven.Cell s) e = slot s e (h s e)

    pub map-fresh : (m : Net) → Fresh total m → map_net_new rs m ≡ m
    map-fresh m h = mapped-final rs m (fresh_final m h)

    -- a net of the ticket that rewriting is through with
    abbrev pub Through : Net → Type 0
    Through = Drives (λ x. (x < tickets) × (is_output (cell_in cs₀ x) ≡ false) × (is_source (cell_in cs₀ x) ≡ false → has x before ≡ true))

    pub map-through : (m : Net) → Through m → Fresh total (map_net_new rs m)
    unfolding Fresh
    map-through m h = go (driver m) refl
      where
        same : Fresh total m → Fresh total (map_net_new rs m)
        same f = subst (Fresh total) (sym (map-fresh m f)) f

        go : (x : Driver) → driver m ≡ x → Fresh total (map_net_new rs m)
        go (driven.Const t) e = same (drives-none (FreshSlot total) m t e)
        go (driven.Cell s) e =
            let k = h s e in
            either (is_source (cell_in cs₀ s.0))
            (λ i. same (drives-at (FreshSlot total) m s e (inl (k.0, i))))
            (λ i. let f : Fresh total (get_or rs s.0 m) = st.done s.0 m k.0 (k.2 i) (other-gate (cell_in cs₀ s.0) i k.1) in
            subst (Fresh total) (sym (mapped-once rs m (get_or rs s.0 m) (omega (arith, k.0, st.wide)) (ap (driven_to rs m) e) (fresh_final (get_or rs s.0 m) f))) f)

    -- the look-up of a fresh net
    pub look-fresh : (m : Net) → Fresh total m → find_cell find_new_cell r m ≡ seen r.design.cells m
    unfolding find_cell find_new_cell stamp seen Fresh
    look-fresh m h =
        ap (λ (y : Net). cond (eqb (stamp_in r.stamps (driver m)) 0) None (source_in r.design.cells (driver y))) (map-fresh m h) ∙ go (driver m) refl
      where
        slot : (s : ℕ) → FreshSlot total s → cond (eqb (get_or r.stamps s 0) 0) None (Some (cell_in r.design.cells s))
            ≡ cond (ltb s tickets) None (Some (cell_in r.design.cells s))
        slot s (inl i) =
            ap (λ (k : ℕ). cond (eqb k 0) None (Some (cell_in r.design.cells s))) (st.ports s i.0 (source-effects (cell_in cs₀ s) i.1))
            ∙ either (ltb s tickets) (λ e. rw e) (λ e. absurd (omega (arith, i.0, ltb-false s tickets e)))
        slot s (inr p) =
            rw (ne_eqb (get_or r.stamps s 0) 0 (λ z. omega (arith, z, st.stamped s p.0 p.1)))
            (either (ltb s tickets) (λ e. absurd (omega (arith, p.0, ltb-true s tickets e))) (λ e. rw e))

        go : (x : Driver) → driver m ≡ x → cond (eqb (stamp_in r.stamps x) 0) None (source_in r.design.cells x) ≡ seen_by r.design.cells x
        go (driven.Const t) e = refl
        go (driven.Cell s) e = slot s.0 (h s e)

    seen-reads : (m : Net) → Fresh total m → SourceNets (Fresh total) (seen r.design.cells m)
    unfolding seen Fresh
    seen-reads m h = go (driver m) refl
      where
        slot : (s : ℕ) → FreshSlot total s → (b : Bool) → ltb s tickets ≡ b → SourceNets (Fresh total) (cond b None (Some (cell_in r.design.cells s)))
        slot s q true e = tt
        slot s (inl i) false e = absurd (omega (arith, i.0, ltb-false s tickets e))
        slot s (inr p) false e =
            all-imp (Fresh s) (Fresh total) (fresh-more s total (omega (arith, p.1))) (visit (cell_in r.design.cells s)) (st.adds s p.0 p.1).reads.0

        go : (x : Driver) → driver m ≡ x → SourceNets (Fresh total) (seen_by r.design.cells x)
        go (driven.Const t) e = tt
        go (driven.Cell s) e = slot s.0 (h s e) (ltb s.0 tickets) refl

    pub look-reads : (m : Net) → Fresh total m → SourceNets (Fresh total) (find_cell find_new_cell r m)
    look-reads m h = subst (SourceNets (Fresh total)) (sym (look-fresh m h)) (seen-reads m h)
