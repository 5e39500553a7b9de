-- What rewriting does to each slot, for any look-up: inputs and outputs stay and are never stamped, other cells of the ticket stay too unless they
-- are and-inverters, and every added cell is a gate with a stamp. Assumes nothing.
use mathlib.Core.Path.{◌≡◌, refl, sym, ap, ◌∙◌, subst}
use mathlib.Core.Bool.{true, false, true≢false}
use mathlib.Core.List.{List, [], ◌∷◌, ◌++◌}
use mathlib.Core.Logic.{◌⊎◌, inl, inr}
use Prim.Native.Nat.{ℕ, suc, ◌+◌, ◌≤◌, ◌<◌}
use native.Mathlib.Omega.{arith}
use lib.Dec.{eqb, ltb}
use lib.ListN.{length, get_or, set, length-append, length-set, length-replicate, get_or-append, get_or-replicate}
use lib.Seq.{get_or-set_same, get_or-set_other, get_or-append_seam}
use borrow.Author.Tests.{eqb-true, eqb-false, ltb-true, ltb-false}
use Rattle.value.specs.declared.Net.{Net}
use Rattle.cell.specs.declared.Cell.{Cell}
use Rattle.cell.specs.declared.Cell.TheVariants.{Input}
use Rattle.netlist.specs.Shape.{visit, visit_mut, has_effects, is_splittable}
use Rattle.netlist.specs.Netlist.{cell_in}
use Rattle.order.specs.Orders.{topo_sort}
use Rattle.std.specs.Prelude.{Some}
use Rattle.design.specs.Queue.{Design, net_in, unchanged, map_net_new, replace_net, replace_cell}
use Rattle.numberer.specs.Numberer.{Entry, seek}
use Rattle.rewrite.specs.Rewriter.{Rewriter, Lookup, begun, find_cell, entered, finished}
use Rattle.rewrite.specs.Rewrite.{Result, none, cell, value, spent, Added, at, unadded, process_cell, add_cell, Run, bit_done, cell_done, run_item, run}
use Rattle.order_laws.proofs.Bits.{topo_sort-each}
use Rattle.basics.proofs.Truth.{either, never}
use Rattle.order_laws.proofs.Sorts.{effects-mapped, sort-kept, splits-by}
use Rattle.order_laws.proofs.Queue.{seek-snoc}
use Rattle.basics.proofs.Members.{has_first}
use Rattle.rewrite_laws.proofs.Kept.{Keeps, KeptResult, KeptAdded, process_cell-kept, add_cell-kept, inverse-reads, rules-read}
use Rattle.rewrite_laws.proofs.Anything.{Any, Gate, any-nets, any-source}
use Rattle.rewrite_laws.proofs.Items.{Along, below_next, gate-done, item_by, items-along, port-done, Below}

-- a cell that is rewritten in its slot: an and-inverter
abbrev pub InPlace : Cell → Type 0
InPlace c = (is_splittable c ≡ false) × (has_effects c ≡ false)

-- a ticket's cell, and what its slot holds
abbrev pub Holds : Cell → Cell → Type 0
Holds c₀ c = (c ≡ c₀) ⊎ (InPlace c₀ × (has_effects c ≡ false))

pub holds-effects : (c₀ c : Cell) → Holds c₀ c → has_effects c ≡ has_effects c₀
holds-effects c₀ c (inl e) = ap has_effects e
holds-effects c₀ c (inr h) = h.1 ∙ sym h.0.1

-- an and-inverter stands only where one was
holds-in-place : (c₀ c : Cell) → Holds c₀ c → InPlace c → InPlace c₀
holds-in-place c₀ c (inl e) h = subst InPlace e h
holds-in-place c₀ c (inr h) k = h.0

module _ (cs₀ : List Cell) where
  abbrev n : ℕ
  n = length cs₀

  pub record Shaped (r : Rewriter) : Type 0 where
    pub sizes : length r.stamps ≡ length r.design.cells
    pub many : n ≤ length r.design.cells
    pub olds : (i : ℕ) → i < n → Holds (cell_in cs₀ i) (cell_in r.design.cells i)
    pub adds : (i : ℕ) → n ≤ i → i < length r.design.cells → (has_effects (cell_in r.design.cells i) ≡ false) × (0 < get_or r.stamps i 0)
    pub ports : (i : ℕ) → i < n → has_effects (cell_in cs₀ i) ≡ true → get_or r.stamps i 0 ≡ 0
    pub cached : (c : Cell) (m : Net) → seek r.cache c ≡ Some m → has_effects c ≡ false

  cached-more : (es : List Entry) → ((c : Cell) (m : Net) → seek es c ≡ Some m → has_effects c ≡ false) → (x : Cell) (y : Net) → has_effects x ≡ false
      → (c : Cell) (m : Net) → seek (es ++ ((x, y) ∷ [])) c ≡ Some m → has_effects c ≡ false
  cached-more es h x y g c m e = go (seek-snoc es (x, y) c m e)
    where
      go : (seek es c ≡ Some m) ⊎ ((x ≡ c) × (y ≡ m)) → has_effects c ≡ false
      go (inl f) = h c m f
      go (inr f) = ap has_effects (sym f.0) ∙ g

  -- a gate is entered
  entered-shaped : (r : Rewriter) (c : Cell) (m : Net) → Shaped r → has_effects c ≡ false → Shaped (entered r c m)
  unfolding entered
  entered-shaped r c m h g =
      let cs : List Cell = r.design.cells in
      let ts : List ℕ = r.stamps in
      let size : length ts ≡ length cs = h.sizes in
      let many : n ≤ length cs = h.many in
      let old-cell : (i : ℕ) → i < length cs → cell_in (cs ++ (c ∷ [])) i ≡ cell_in cs i = λ i l. get_or-append cs (c ∷ []) (Input 0) i l in
      let old-stamp : (i : ℕ) → i < length cs → get_or (ts ++ (suc r.clock ∷ [])) i 0 ≡ get_or ts i 0 =
      λ i l. get_or-append ts (suc r.clock ∷ []) 0 i (omega arith) in
      record {
        sizes = length-append ts (suc r.clock ∷ []) ∙ ap (λ (k : ℕ). k + 1) size ∙ sym (length-append cs (c ∷ []));
        many = omega (arith, length-append cs (c ∷ []));
        olds = λ i l. subst (Holds (cell_in cs₀ i)) (sym (old-cell i (omega arith))) (h.olds i l);
        adds = λ i l k. either (ltb i (length cs))
            (λ e. let b : i < length cs = ltb-true i (length cs) e in
            (ap has_effects (old-cell i b) ∙ (h.adds i l b).0, omega (arith, old-stamp i b, (h.adds i l b).1)))
            (λ e. let b : i ≡ length cs = omega (arith, k, ltb-false i (length cs) e, length-append cs (c ∷ [])) in (
              ap (λ (j : ℕ). has_effects (cell_in (cs ++ (c ∷ [])) j)) b ∙ ap has_effects (get_or-append_seam cs c [] (Input 0)) ∙ g,
              omega (arith, ap (λ (j : ℕ). get_or (ts ++ (suc r.clock ∷ [])) j 0) (b ∙ sym size), get_or-append_seam ts (suc r.clock) [] 0),
            ));
        ports = λ i l e. old-stamp i (omega arith) ∙ h.ports i l e;
        cached = cached-more r.cache h.cached c m g;
      }

  -- a gate's slot is finished
  module _ (r : Rewriter) (h : Shaped r) (s : ℕ) (small : s < n) (gate : has_effects (cell_in cs₀ s) ≡ false) where
    finished-shaped : (d : Design) (es : List Entry) → length d.cells ≡ length r.design.cells
        → ((i : ℕ) → (i ≡ s → ⊥) → cell_in d.cells i ≡ cell_in r.design.cells i) → Holds (cell_in cs₀ s) (cell_in d.cells s)
        → ((c : Cell) (m : Net) → seek es c ≡ Some m → has_effects c ≡ false) → Shaped (finished r s d es)
    unfolding finished
    finished-shaped d es len cells here cached =
        let ts : List ℕ = r.stamps in
        let many : n ≤ length r.design.cells = h.many in
        let else-stamp : (i : ℕ) → (i ≡ s → ⊥) → get_or (set ts s (suc r.clock)) i 0 ≡ get_or ts i 0 = λ i k. get_or-set_other ts s i (suc r.clock) 0 k in
        record {
          sizes = length-set ts s (suc r.clock) ∙ h.sizes ∙ sym len;
          many = omega (arith, len);
          olds = λ i l. either (eqb i s)
              (λ e. subst (λ (j : ℕ). Holds (cell_in cs₀ j) (cell_in d.cells j)) (sym (eqb-true i s e)) here)
              (λ e. subst (Holds (cell_in cs₀ i)) (sym (cells i (eqb-false i s e))) (h.olds i l));
          adds = λ i l k.
              let other : i ≡ s → ⊥ = λ e. omega (arith, e) in
              let a = h.adds i l (omega (arith, len)) in
              (ap has_effects (cells i other) ∙ a.0, omega (arith, else-stamp i other, a.1));
          ports = λ i l e. else-stamp i (λ q. true≢false (sym e ∙ ap (λ (j : ℕ). has_effects (cell_in cs₀ j)) q ∙ gate)) ∙ h.ports i l e;
          cached = cached;
        }

    replaced-shaped : (m : Net) → Shaped (finished r s (replace_net r.design s m) r.cache)
    replaced-shaped m = finished-shaped (replace_net r.design s m) r.cache refl (λ i k. refl) (h.olds s small) h.cached

    same-shaped : (c : Cell) → has_effects c ≡ false → Shaped (finished r s r.design (r.cache ++ ((c, net_in s) ∷ [])))
    same-shaped c g =
        finished-shaped r.design (r.cache ++ ((c, net_in s) ∷ [])) refl (λ i k. refl) (h.olds s small) (cached-more r.cache h.cached c (net_in s) g)

    rewritten-shaped : (c : Cell) → InPlace (cell_in cs₀ s) → has_effects c ≡ false
        → Shaped (finished r s (replace_cell r.design s c) (r.cache ++ ((c, net_in s) ∷ [])))
    rewritten-shaped c p g =
        let cs : List Cell = r.design.cells in
        let many : n ≤ length cs = h.many in
        let there : cell_in (set cs s c) s ≡ c = get_or-set_same cs s c (Input 0) (omega arith) in
        finished-shaped (replace_cell r.design s c) (r.cache ++ ((c, net_in s) ∷ [])) (length-set cs s c)
        (λ i k. get_or-set_other cs s i c (Input 0) k) (inr (p, ap has_effects there ∙ g)) (cached-more r.cache h.cached c (net_in s) g)

  module _ (look : Lookup) where
    abbrev Made : Rewriter → Cell → Type 0
    Made r c = Gate c

    abbrev Given : Rewriter → Net → Type 0
    Given r m = Unit {0}

    shaping : Keeps look Shaped Made Given
    shaping = record {
      plan = λ r c p q. rules-read look r Any (tt, tt, tt) (λ m h. any-source (find_cell look r m)) c q;
      inverse = λ r m p v. inverse-reads Any m tt;
      cached = λ r c m p q e. tt;
      step = λ r c p q e s. (entered-shaped r c (net_in (length r.design.cells)) p q.1, tt);
    }

    abbrev ShapedAfter : List ℕ → Run → Type 0
    ShapedAfter = Along (λ before r. Shaped r) (λ r. Unit {0})

    abbrev pub ShapedRun : Run → Type 0
    ShapedRun = ShapedAfter (topo_sort cs₀)

    module _ (s : ℕ) (small : s < n) (r : Rewriter) (h : Shaped r) (done : List ℕ) where
      abbrev f : Net → Net
      f = map_net_new r.design.replaced

      abbrev now : Cell
      now = cell_in r.design.cells s

      abbrev c : Cell
      c = visit_mut f now

      first-effects : has_effects (cell_in cs₀ s) ≡ has_effects c
      first-effects = sym (effects-mapped f now ∙ holds-effects (cell_in cs₀ s) now (h.olds s small))

      bit-shaped : has_effects c ≡ false → (y : Added) → KeptAdded look Shaped Made Given shaping y → ShapedAfter done (bit_done s y)
      bit-shaped g (at m r') k = replaced-shaped r' k.0 s small (first-effects ∙ g) m
      bit-shaped g (unadded r') k = tt

      gate-shaped : is_splittable c ≡ false → has_effects c ≡ false → (y : Result) → KeptResult look Shaped Made Given shaping c y → ShapedAfter done (cell_done s c y)
      gate-shaped p g (none r') k = gate-done s r' c (ShapedAfter done) g (same-shaped r' k.kept s small (first-effects ∙ g) c g)
      gate-shaped p g (cell d r') k =
          rewritten-shaped r' k.kept s small (first-effects ∙ g) d
          (holds-in-place (cell_in cs₀ s) now (h.olds s small) (sym (sort-kept splits-by f now) ∙ p, sym (effects-mapped f now) ∙ g)) k.good.1
      gate-shaped p g (value m r') k = replaced-shaped r' k.0 s small (first-effects ∙ g) m
      gate-shaped p g (spent r') k = tt

      item-shaped : ShapedAfter done (run_item look s r)
      item-shaped =
          item_by look s r (ShapedAfter done)
          (λ b g. bit-shaped g (add_cell look r c) (add_cell-kept look Shaped Made Given shaping r c h (any-nets (visit c), g)))
          (λ e. port-done s r c (ShapedAfter done) look e (λ m q. never e (h.cached c m q)) h)
          (λ b g. gate-shaped b g (process_cell look r c) (process_cell-kept look Shaped Made Given shaping r c h (any-nets (visit c), g)))

    begun-shaped : Shaped (begun cs₀)
    unfolding unchanged seek
    begun-shaped = record {
      sizes = length-replicate n 0;
      many = omega arith;
      olds = λ i l. inl refl;
      adds = λ i l k. absurd (omega arith);
      ports = λ i l e. get_or-replicate n i 0 0 l;
      cached = λ c m e. let z : ◌≡◌ {A = ℕ} 0 1 = cc in absurd (omega arith);
    }

    -- the law
    pub run-shaped : ShapedRun (run look cs₀)
    unfolding run
    run-shaped =
        items-along (λ before r. Shaped r) (λ r. Unit {0}) look (Below n) (below_next n) (λ before ss s l r h. item-shaped s (l s (has_first s ss)) r h (before ++ (s ∷ [])))
        (topo_sort cs₀) [] (topo_sort-each cs₀).small (begun cs₀) begun-shaped
