-- The cell order of a sound netlist has each cell once, by the slot where it starts. Assumes nothing.
use mathlib.Core.Path.{◌≡◌, refl, sym, ap, ◌∙◌}
use mathlib.Core.Bool.{Bool, true, false, not}
use mathlib.Core.List.{List, []}
use Prim.Native.Nat.{ℕ, ◌<◌}
use native.Mathlib.Omega.{arith}
use native.Mathlib.Decide.{dec_lt}
use lib.Dec.{eqb}
use lib.ListN.{length, get_or, get_or-eq_default}
use borrow.Author.Tests.{eqb-true, eq-eqb}
use Rattle.cell.specs.declared.Cell.TheVariants.{Input}
use Rattle.netlist.specs.Shape.{visit, is_output}
use Rattle.netlist.specs.Netlist.{Netlist, cell_in, start_of, output_of, iter_cells, cell_deps}
use Rattle.basics.specs.Lists.{slots, those, has, All}
use Rattle.order.specs.Orders.{iter_cells_topo}
use Rattle.order_laws.specs.Ordered.{OnceAfter}
use Rattle.order_laws.specs.Members.{Drives, Wired}
use Rattle.basics.proofs.Truth.{and_both}
use Rattle.order_laws.proofs.Cells.{iter_cells_topo-once, iter_cells_topo-all}
use Rattle.basics.proofs.Members.{has-slots, all-imp, all-every, has-those, has-passing, has_all}
use Rattle.order_laws.proofs.Sorts.{outputs-by}
use Rattle.order_laws.proofs.Operands.{all-deps, input-reads}
use Rattle.kept.proofs.Sound.{Sound, start-inside, start-zero, start-kind, same_by, sound-wired}

module _ (d : Netlist) (rank : ℕ → ℕ) (sound : Sound d rank) where
  abbrev total : ℕ
  total = length d.cells

  abbrev others : List ℕ
  others = those (λ s. not (is_output (cell_in d.cells s))) (iter_cells d.bits)

  start-listed : (x : ℕ) → x < total → is_output (cell_in d.cells x) ≡ false → has (start_of d.bits x) others ≡ true
  unfolding iter_cells
  start-listed x l o =
      let s : ℕ = start_of d.bits x in
      let w : length d.bits ≡ total = sound.wide in
      has-passing (λ i. not (is_output (cell_in d.cells i))) (iter_cells d.bits) s
      (has-passing (λ i. eqb (get_or d.bits i 0) 0) (slots (length d.bits)) s (has-slots (length d.bits) s (omega (arith, start-inside d rank sound x l)))
      (eq-eqb (get_or d.bits s 0) 0 (start-zero d rank sound x l)))
      (ap not (same_by d rank sound outputs-by x s (start-kind d rank sound x l) ∙ o))

  -- past the last slot nothing is read
  abbrev Listed : ℕ → Type 0
  Listed x = has (start_of d.bits x) others ≡ true

  reads-listed : (i : ℕ) → All (Drives Listed) (visit (cell_in d.cells i))
  reads-listed i = go (dec_lt i total)
    where
      go : Dec (i < total) → All (Drives Listed) (visit (cell_in d.cells i))
      go (yes l) =
          all-imp (Wired d.cells) (Drives Listed) (λ m h x e. start-listed x.0 (h x e).0 (h x e).1) (visit (cell_in d.cells i)) (sound-wired d rank sound i l)
      go (no l) = rw (get_or-eq_default d.cells (Input 0) {n = i} (omega arith)) (input-reads (Drives Listed) (Input 0) refl)

  deps-listed : (s x : ℕ) → has x (cell_deps d s) ≡ true → has x others ≡ true
  deps-listed s =
      has_all (λ y. has y others ≡ true) (cell_deps d s)
      (all-deps (λ y. has y others ≡ true) d s (all-every (λ i. All (Drives Listed) (visit (cell_in d.cells i))) reads-listed (output_of d.bits s)))

  pub cells-once : OnceAfter [] (iter_cells_topo d)
  cells-once = iter_cells_topo-once d sound.wide deps-listed

  pub cells-start : (s : ℕ) → has s (iter_cells_topo d) ≡ true → get_or d.bits s 0 ≡ 0
  unfolding iter_cells
  cells-start s h =
      let first : ℕ → Bool = λ i. eqb (get_or d.bits i 0) 0 in
      let e : has s (those first (slots (length d.bits))) ≡ true = sym (iter_cells_topo-all d sound.wide deps-listed s) ∙ h in
      eqb-true (get_or d.bits s 0) 0 (and_both (has s (slots (length d.bits))) (first s) (sym (has-those first (slots (length d.bits)) s) ∙ e)).1
