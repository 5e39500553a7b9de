-- Merging: a net stands for another only where both have one value, in any algebra whose and, or and xor are commutative. Assumes nothing.
use mathlib.Core.Path.{◌≡◌, refl, sym, ap, ◌∙◌, subst}
use mathlib.Core.Bool.{Bool, true, false, cond, not}
use mathlib.Core.List.{List, [], ◌∷◌, map}
use Prim.Native.Nat.{ℕ, ◌<◌}
use native.Mathlib.Omega.{arith}
use lib.Dec.{eqb}
use lib.ListN.{length, get_or, set, length-set}
use lib.Seq.{get_or-set_same, get_or-set_other}
use borrow.Author.Tests.{eqb-true, eqb-false, not-true}
use Rattle.value.specs.declared.Net.{Net}
use Rattle.value.specs.declared.Driver.{Driver}
use Rattle.value.specs.declared.Driver.TheVariants as driven
use Rattle.value.specs.Value.{slot_at, driver, le_net, le_control}
use Rattle.value.proofs.Laws.{driver-cell}
use Rattle.cell.specs.declared.Cell.{Cell}
use Rattle.cell.specs.declared.Cell.TheVariants.{Input, Output, Buf, Not, And, Or, Xor, Mux, Aig}
use Rattle.basics.proofs.Tables.{tabulate-length, tabulate-at}
use Rattle.netlist.specs.Shape.{visit, visit_mut, is_output, has_effects}
use Rattle.netlist.specs.Netlist.{Netlist, cell_in, output_of}
use Rattle.basics.specs.Lists.{those, All}
use Rattle.order.specs.Orders.{iter_cells_topo}
use Rattle.std.proofs.Common.{Option, Some, None}
use Rattle.numberer.specs.Numberer.{Entry, seek}
use Rattle.design.specs.Queue.{unchanged, net_in, driven_to, map_net_new}
use Rattle.merge.specs.Merge.{key_of, Merging, find_or_insert, find_or_insert_all, merge_cell, merge_cells, merging}
use Rattle.order_laws.specs.Members.{Wired}
use Rattle.basics.proofs.Truth.{either}
use Rattle.basics.proofs.Members.{all-imp, all_map, all_append, those-pass}
use Rattle.order_laws.proofs.Sorts.{source-mapped, effects-by, gate-inside, gate-other, gate-parts}
use Rattle.order_laws.proofs.Operands.{comb-all, drives-in}
use Rattle.order_laws.proofs.Queue.{mapped-keeps, replacement, seek_finds}
use Rattle.levels_laws.specs.Algebra.{Algebra, Commutative, net_value, control_value, cell_value, Fits}
use Rattle.levels_laws.proofs.Operands.{value-slot, cell_same, cell-visit_mut, cell-own}
use Rattle.kept.proofs.Sound.{Sound, Bit, output-bits, same_by, sound-wired}

-- a key has the value of its cell
module _ {A : Type 0} (alg : Algebra A) (comm : Commutative alg) (u : Net → A) (own : A) where
  sorted-value : (b : Bool) (c e : Cell) → cell_value alg u own e ≡ cell_value alg u own c → cell_value alg u own (cond b c e) ≡ cell_value alg u own c
  sorted-value true c e h = refl
  sorted-value false c e h = h

  pub key-value : (c : Cell) → cell_value alg u own (key_of c) ≡ cell_value alg u own c
  unfolding key_of cell_value
  key-value (Input l) = refl
  key-value (Output a l) = refl
  key-value (Buf a) = refl
  key-value (Not a) = refl
  key-value (And a b) = sorted-value (le_net a b) (And a b) (And b a) (comm.and_comm (u b) (u a))
  key-value (Or a b) = sorted-value (le_net a b) (Or a b) (Or b a) (comm.or_comm (u b) (u a))
  key-value (Xor a b) = sorted-value (le_net a b) (Xor a b) (Xor b a) (comm.xor_comm (u b) (u a))
  key-value (Mux a b c) = refl
  key-value (Aig p q) = sorted-value (le_control p q) (Aig p q) (Aig q p) (comm.and_comm (control_value alg u q) (control_value alg u p))

module _ (d : Netlist) (rank : ℕ → ℕ) (sound : Sound d rank) where
  abbrev total : ℕ
  total = length d.cells

  slot-driven : (s : ℕ) → s < total → is_output (cell_in d.cells s) ≡ false → Wired d.cells (net_in s)
  slot-driven s l o = drives-in (λ x. (x < total) × (is_output (cell_in d.cells x) ≡ false)) s (omega (arith, sound.few)) (l, o)

  module _ {A : Type 0} (alg : Algebra A) (comm : Commutative alg) (own v : ℕ → A) (fits : Fits alg own d.cells v) where
    -- net m can stand for a net or a slot of value a
    pub record Stands (a : A) (m : Net) : Type 0 where
      pub value : net_value alg v m ≡ a
      pub driven : Wired d.cells m

    abbrev Replaces : List Net → Type 0
    Replaces rs = (s : ℕ) (e : Net) → s < total → is_output (cell_in d.cells s) ≡ false → Stands (v s) (get_or rs s e)

    -- replacements, followed
    module _ (rs : List Net) (replaces : Replaces rs) where
      one-step : (m : Net) → Wired d.cells m → Stands (net_value alg v m) (driven_to rs m (driver m))
      one-step m g = go (driver m) refl
        where
          go : (r : Driver) → driver m ≡ r → Stands (net_value alg v m) (driven_to rs m r)
          go (driven.Const t) e = record { value = refl; driven = g }
          go (driven.Cell x) e =
              let h : Stands (v x.0) (get_or rs x.0 m) = replaces x.0 m (g x e).0 (g x e).1 in
              record { value = h.value ∙ sym (value-slot alg v m x e); driven = h.driven }

      pub map-stands : (m : Net) → Wired d.cells m → Stands (net_value alg v m) (map_net_new rs m)
      map-stands m g =
          mapped-keeps rs (Stands (net_value alg v m))
          (λ n h. let k : Stands (net_value alg v n) (replacement rs n) = one-step n h.driven in record { value = k.value ∙ h.value; driven = k.driven })
          m (record { value = refl; driven = g })

      pub operands-stand : (s : ℕ) → s < total → All (λ m. Stands (net_value alg v m) (map_net_new rs m)) (visit (cell_in d.cells s))
      operands-stand s l =
          all-imp (Wired d.cells) (λ m. Stands (net_value alg v m) (map_net_new rs m)) map-stands (visit (cell_in d.cells s)) (sound-wired d rank sound s l)

      -- the value of a cell with mapped operands
      pub mapped-value : (s : ℕ) → s < total → cell_value alg (net_value alg v) (own s) (visit_mut (map_net_new rs) (cell_in d.cells s)) ≡ v s
      unfolding Fits
      mapped-value s l =
          cell-visit_mut alg (net_value alg v) (map_net_new rs) (own s) (cell_in d.cells s)
          ∙ cell_same alg (λ m. net_value alg v (map_net_new rs m)) (net_value alg v) (own s) (cell_in d.cells s)
          (comb-all _ (cell_in d.cells s)
          (all-imp (λ m. Stands (net_value alg v m) (map_net_new rs m)) (λ m. net_value alg v (map_net_new rs m) ≡ net_value alg v m) (λ m h. h.value)
          (visit (cell_in d.cells s)) (operands-stand s l)))
          ∙ sym (fits s l)

    -- an entry of the numberer: its net has the value of its cell
    abbrev Known : Entry → Type 0
    Known e = (o : A) → Stands (cell_value alg (net_value alg v) o e.0) e.1

    pub record Sane (m : Merging) : Type 0 where
      pub cells : m.design.cells ≡ d.cells
      pub long : length m.design.replaced ≡ total
      pub replaces : Replaces m.design.replaced
      pub known : All Known m.numberer

    -- a key with the slot of its cell
    pub record Keyed (b : Cell × ℕ) : Type 0 where
      pub inside : b.1 < total
      pub inner : is_output (cell_in d.cells b.1) ≡ false
      pub value : (o : A) → cell_value alg (net_value alg v) o b.0 ≡ v b.1

    one_known : (b : Cell × ℕ) → Keyed b → All Known ((b.0, net_in b.1) ∷ [])
    unfolding All
    one_known b k = (
      (λ o. record {
        value = value-slot alg v (net_in b.1) (slot_at b.1) (driver-cell (slot_at b.1) (omega (arith, sound.few, k.inside))) ∙ sym (k.value o);
        driven = slot-driven b.1 k.inside k.inner;
      }),
      tt,
    )

    numbered-sane : (m : Merging) (key : Cell) (s : ℕ) (f : Option Net) → Keyed (key, s) → Sane m → seek m.numberer key ≡ f → Sane (find_or_insert m key s f)
    numbered-sane m key s (Some n) k h e =
        let stands : Stands (v s) n =
        (let r : Stands (cell_value alg (net_value alg v) (own s) key) n = seek_finds (λ c m. Known (c, m)) m.numberer key n h.known e (own s) in
        record { value = r.value ∙ k.value (own s); driven = r.driven }) in
        let rs : List Net = m.design.replaced in
        record {
          cells = h.cells;
          long = length-set rs s n ∙ h.long;
          replaces = λ x a l o. either (eqb x s)
              (λ q. let z : x ≡ s = eqb-true x s q in
              let w : get_or (set rs s n) x a ≡ n = ap (λ (i : ℕ). get_or (set rs s n) i a) z ∙ get_or-set_same rs s n a (let g : length rs ≡ total = h.long in let i : s < total = k.inside in omega arith) in
              subst (λ (y : Net). Stands (v x) y) (sym w) (subst (λ (i : ℕ). Stands (v i) n) (sym z) stands))
              (λ q. subst (λ (y : Net). Stands (v x) y) (sym (get_or-set_other rs s x n a (eqb-false x s q))) (h.replaces x a l o));
          known = h.known;
        }
    numbered-sane m key s None k h e = record {
      cells = h.cells;
      long = h.long;
      replaces = h.replaces;
      known = all_append Known m.numberer ((key, net_in s) ∷ []) h.known (one_known (key, s) k);
    }

    find_or_insert-sane : (bs : List (Cell × ℕ)) (m : Merging) → All Keyed bs → Sane m → Sane (find_or_insert_all m bs)
    unfolding All find_or_insert_all
    find_or_insert-sane [] m k h = h
    find_or_insert-sane (b ∷ bs) m k h =
        find_or_insert-sane bs (find_or_insert m b.0 b.1 (seek m.numberer b.0)) k.1 (numbered-sane m b.0 b.1 (seek m.numberer b.0) k.0 h refl)

    -- the bits of a cell that is neither input nor output
    merge_cell-sane : (m : Merging) (s : ℕ) → has_effects (cell_in d.cells s) ≡ false → Sane m → Sane (merge_cell d m s)
    unfolding merge_cell
    merge_cell-sane m s e h =
        let l : s < total = gate-inside d.cells s e in
        let rs : List Net = m.design.replaced in
        let key : ℕ → Cell = λ i. key_of (visit_mut (map_net_new rs) (cell_in d.cells i)) in
        find_or_insert-sane (map (λ i. (key i, i)) (output_of d.bits s)) m
        (all_map (λ i. (key i, i)) Keyed (output_of d.bits s)
        (all-imp (Bit d rank sound s) (λ i. Keyed (key i, i))
        (λ i b.
        let g : has_effects (cell_in d.cells i) ≡ false = same_by d rank sound effects-by s i b.kind ∙ e in
        record {
          inside = b.inside;
          inner = (gate-parts (cell_in d.cells i) g).1;
          value = λ o. key-value alg comm (net_value alg v) o (visit_mut (map_net_new rs) (cell_in d.cells i))
              ∙ cell-own alg (net_value alg v) o (own i) (visit_mut (map_net_new rs) (cell_in d.cells i)) (source-mapped (map_net_new rs) (cell_in d.cells i) ∙ gate-other (cell_in d.cells i) g)
              ∙ mapped-value rs h.replaces i b.inside;
        })
        (output_of d.bits s) (output-bits d rank sound s l)))
        h

    merge_cells-sane : (ss : List ℕ) (m : Merging) → All (λ s. not (has_effects (cell_in d.cells s)) ≡ true) ss → Sane m → Sane (merge_cells d m ss)
    unfolding All merge_cells
    merge_cells-sane [] m k h = h
    merge_cells-sane (s ∷ ss) m k h = merge_cells-sane ss (merge_cell d m s) k.1 (merge_cell-sane m s (not-true (has_effects (cell_in d.cells s)) k.0) h)

    nothing-merged : Sane (record { design = unchanged d.cells; numberer = [] })
    unfolding All unchanged
    nothing-merged = record {
      cells = refl;
      long = tabulate-length net_in total;
      replaces = λ s e l o. subst (λ (m : Net). Stands (v s) m) (sym (tabulate-at net_in total e s l))
          (record { value = value-slot alg v (net_in s) (slot_at s) (driver-cell (slot_at s) (omega (arith, sound.few))); driven = slot-driven s l o });
      known = tt;
    }

    abbrev merged-order : List ℕ
    merged-order = those (λ s. not (has_effects (cell_in d.cells s))) (iter_cells_topo d)

    merged : Sane (merge_cells d (record { design = unchanged d.cells; numberer = [] }) merged-order)
    merged = merge_cells-sane merged-order (record { design = unchanged d.cells; numberer = [] }) (those-pass (λ s. not (has_effects (cell_in d.cells s))) (iter_cells_topo d)) nothing-merged

    pub merging-cells : (merging d).cells ≡ d.cells
    unfolding merging
    merging-cells = merged.cells

    pub merging-replaces : Replaces (merging d).replaced
    unfolding merging
    merging-replaces = merged.replaces
