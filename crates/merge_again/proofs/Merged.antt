-- Merging a normal netlist leaves it as it is, and says so. Assumes nothing.
use mathlib.Core.Path.{◌≡◌, refl, sym, ap, ap₂, ◌∙◌, subst}
use mathlib.Core.Bool.{Bool, true, false, cond, not}
use mathlib.Core.List.{map-id, List, [], ◌∷◌, ◌++◌, map}
use Prim.Native.Nat.{ℕ, ◌<◌}
use native.Mathlib.Omega.{arith}
use native.Mathlib.Decide.{dec_lt}
use lib.ListN.{length, get_or, get_or-eq_default}
use Rattle.value.specs.declared.Net.{Net}
use Rattle.value.specs.declared.Driver.{Driver}
use Rattle.value.specs.declared.Driver.TheVariants as driven
use Rattle.value.specs.Value.{driver, eq_net}
use Rattle.value.proofs.Laws.{cell-driver}
use Rattle.cell.specs.declared.Cell.{Cell}
use Rattle.basics.specs.Lists.{tabulate, those, any_of, has, All}
use Rattle.basics.proofs.Tables.{tabulate-length, tabulate-at}
use Rattle.netlist.specs.Shape.{visit, visit_mut, has_effects}
use Rattle.netlist.specs.Netlist.{Netlist, cell_in}
use Rattle.order.specs.Orders.{iter_cells_topo}
use Rattle.std.proofs.Common.{None}
use Rattle.design.specs.Queue.{Design, unchanged, net_in, driven_to, map_net_new, applied, did_change, eq_cell}
use Rattle.numberer.specs.Numberer.{Entry, seek}
use Rattle.compact.specs.Compact.{compact}
use Rattle.merge.specs.Merge.{key_of, Merging, find_or_insert, find_or_insert_all, merge_cell, merge_cells, merging, merge}
use Rattle.order_laws.specs.Ordered.{OnceAfter}
use Rattle.basics.proofs.Truth.{either, never}
use Rattle.basics.proofs.Members.{has-snoc-same, all-imp, all-every, all_append, any_none, has-snoc-old}
use Rattle.order_laws.proofs.Queue.{cell-equal, seek-none, mapped-final}
use Rattle.order_laws.proofs.Sorts.{gate-inside, gate-parts}
use Rattle.basics.proofs.Indices.{map_same}
use Rattle.kept.proofs.Order.{cells-once}
use Rattle.normal.proofs.Normal.{look_in, Normal}
use Rattle.normal.proofs.Alike.{visit-stays}
use Rattle.merge_again.proofs.Whole.{none-changed, compact-whole}
use Rattle.merge_again.proofs.Keys.{key-alike}
use Rattle.merge_again.proofs.Single.{one_bit}

-- where nothing is replaced each net leads to itself
module _ (cs : List Cell) where
  abbrev same : Net → Net
  same = map_net_new (unchanged cs).replaced

  stays : (n : Net) → driven_to (tabulate net_in (length cs)) n (driver n) ≡ n
  stays n = go (driver n) refl
    where
      go : (r : Driver) → driver n ≡ r → driven_to (tabulate net_in (length cs)) n r ≡ n
      go (driven.Const t) e = refl
      go (driven.Cell x) e = at (dec_lt x.0 (length cs))
        where
          at : Dec (x.0 < length cs) → get_or (tabulate net_in (length cs)) x.0 n ≡ n
          at (yes l) = tabulate-at net_in (length cs) n x.0 l ∙ sym (cell-driver n x e)
          at (no l) = get_or-eq_default (tabulate net_in (length cs)) n (omega (arith, tabulate-length net_in (length cs)))

  same-net : (n : Net) → same n ≡ n
  unfolding unchanged
  same-net n = mapped-final (tabulate net_in (length cs)) n (stays n)

  fixed : (c : Cell) → All (λ n. same n ≡ n) (visit c)
  fixed c = all-every (λ n. same n ≡ n) same-net (visit c)

  pub same-cell : (c : Cell) → visit_mut same c ≡ c
  same-cell c = visit-stays same c (fixed c)

  pub applied-same : applied (unchanged cs) ≡ cs
  unfolding applied unchanged
  applied-same = map_same (visit_mut same) (λ c. c) cs (all-every (λ c. visit_mut same c ≡ c) same-cell cs) ∙ map-id cs

  pub changed-none : did_change (unchanged cs) ≡ false
  unfolding did_change unchanged
  changed-none =
      let changes : Cell → Bool = λ c. any_of (λ n. not (eq_net (same n) n)) (visit c) in
      any_none changes cs (all-every (λ c. changes c ≡ false) (λ c. none-changed same c (fixed c)) cs)

module _ (d : Netlist) (rank : ℕ → ℕ) (normal : Normal d rank) where
  abbrev total : ℕ
  total = length d.cells

  abbrev at : ℕ → Cell
  at = cell_in d.cells

  -- an entry of the numberer is the key of a gate that was merged before
  record Seen (done : List ℕ) (e : Entry) : Type 0 where
    slot : ℕ
    gate : has_effects (at slot) ≡ false
    before : has slot done ≡ true
    key : e.0 ≡ key_of (at slot)

  record Idle (done : List ℕ) (m : Merging) : Type 0 where
    design : m.design ≡ unchanged d.cells
    seen : All (Seen done) m.numberer

  later : (done : List ℕ) (s : ℕ) (es : List Entry) → All (Seen done) es → All (Seen (done ++ (s ∷ []))) es
  later done s es =
      all-imp (Seen done) (Seen (done ++ (s ∷ [])))
      (λ e h. record { slot = h.slot; gate = h.gate; before = has-snoc-old h.slot done s h.before; key = h.key }) es

  -- no other gate has the key of a gate
  new-key : (done : List ℕ) (s : ℕ) → has_effects (at s) ≡ false → has s done ≡ false → (e : Entry) → Seen done e → eq_cell e.0 (key_of (at s)) ≡ false
  new-key done s g n e h = either (eq_cell e.0 (key_of (at s)))
      (λ q. let l : s < total = gate-inside d.cells s g in
      let l' : h.slot < total = gate-inside d.cells h.slot h.gate in
      let k : key_of (at s) ≡ key_of (at h.slot) = sym (cell-equal e.0 (key_of (at s)) q) ∙ h.key in
      let z : s ≡ h.slot = normal.distinct s h.slot l l' g (key-alike (look_in d.cells) (at s) (at h.slot) (normal.still s l).still (normal.still h.slot l').still k) in
      never (ap (λ (i : ℕ). has i done) z ∙ h.before) n)
      (λ q. q)

  -- a gate is entered
  entered : (done : List ℕ) (m : Merging) (s : ℕ) → has_effects (at s) ≡ false → has s done ≡ false → Idle done m → merge_cell d m s ≡ find_or_insert m (key_of (at s)) s None
  unfolding merge_cell find_or_insert_all
  entered done m s g n h =
      let key : ℕ → Cell = λ i. key_of (visit_mut (map_net_new m.design.replaced) (at i)) in
      ap (λ (is : List ℕ). find_or_insert_all m (map (λ i. (key i, i)) is)) (one_bit d rank normal.sound normal.single s (gate-inside d.cells s g) (gate-parts (at s) g).0)
      ∙ ap (λ (c : Cell). find_or_insert m c s (seek m.numberer c))
      (ap key_of (ap (λ (x : Design). visit_mut (map_net_new x.replaced) (at s)) h.design ∙ same-cell d.cells (at s)))
      ∙ ap (find_or_insert m (key_of (at s)) s)
      (seek-none m.numberer (key_of (at s)) (all-imp (Seen done) (λ e. eq_cell e.0 (key_of (at s)) ≡ false) (new-key done s g n) m.numberer h.seen))

  merge_cell-idle : (done : List ℕ) (m : Merging) (s : ℕ) → has_effects (at s) ≡ false → has s done ≡ false → Idle done m → Idle (done ++ (s ∷ [])) (merge_cell d m s)
  unfolding All
  merge_cell-idle done m s g n h =
      subst (Idle (done ++ (s ∷ []))) (sym (entered done m s g n h))
      (record {
        design = h.design;
        seen = all_append (Seen (done ++ (s ∷ []))) m.numberer ((key_of (at s), net_in s) ∷ []) (later done s m.numberer h.seen)
            (record { slot = s; gate = g; before = has-snoc-same done s; key = refl }, tt);
      })

  merge_cells-idle : (ss done : List ℕ) (m : Merging) → OnceAfter done ss → Idle done m
      → (merge_cells d m (those (λ s. not (has_effects (at s))) ss)).design ≡ unchanged d.cells
  unfolding OnceAfter those merge_cells
  merge_cells-idle [] done m o h = h.design
  merge_cells-idle (s ∷ ss) done m o h = go (has_effects (at s)) refl (λ m. merge_cells-idle ss (done ++ (s ∷ [])) m o.1)
    where
      gates : List ℕ
      gates = those (λ s. not (has_effects (at s))) ss

      go : (b : Bool) → has_effects (at s) ≡ b → ((m : Merging) → Idle (done ++ (s ∷ [])) m → (merge_cells d m gates).design ≡ unchanged d.cells)
          → (merge_cells d m (cond (not b) (s ∷ gates) gates)).design ≡ unchanged d.cells
      go true e rec = rec m (record { design = h.design; seen = later done s m.numberer h.seen })
      go false e rec = rec (merge_cell d m s) (merge_cell-idle done m s e o.0 h)

  merging-none : merging d ≡ unchanged d.cells
  unfolding merging All
  merging-none =
      merge_cells-idle (iter_cells_topo d) [] (record { design = unchanged d.cells; numberer = [] }) (cells-once d rank normal.sound)
      (record { design = refl; seen = tt })

  pub merge_none : merge d ≡ (d, false)
  unfolding merge
  merge_none =
      ap (λ (m : Design). (compact (record { cells = applied m; bits = d.bits }), did_change m)) merging-none
      ∙ ap₂ (λ (x : Netlist) (b : Bool). (x, b))
      (ap (λ (cs : List Cell). compact (record { cells = cs; bits = d.bits })) (applied-same d.cells) ∙ compact-whole d rank normal.sound normal.reached)
      (changed-none d.cells)
