-- Rewriting by `entry` is rewriting as defined. Assumes nothing.
use mathlib.Core.Path.{◌≡◌, refl, ap}
use mathlib.Core.Bool.{cond}
use mathlib.Core.List.{List, [], ◌∷◌}
use Prim.Native.Nat.{ℕ, zero, suc}
use Rattle.cell.specs.declared.Cell.{Cell}
use Rattle.netlist.specs.Shape.{visit_mut, is_splittable}
use Rattle.netlist.specs.Netlist.{Netlist, cell_in}
use Rattle.order.specs.Orders.{topo_sort}
use Rattle.design.specs.Queue.{map_net_new}
use Rattle.rewrite.specs.Rewriter.{Rewriter, begun, Lookup, weight}
use Rattle.rewrite.specs.Rewrite.{rules, Result, none, cell, value, spent, perform, entry, enter, go_on, process, process_cell, add_cell, bit_done, cell_done, run_item, and_then, run_items, run, compacted, rewrite}
use Rattle.cell_cache.specs.Exchanged.{enter_by, process_by, process_cell_by, add_cell_by, run_item_by, run_items_by, run_by, rewrite_by}

enter-plain : (c : Cell) (x : Result) → enter_by entry c x ≡ enter c x
enter-plain c (none r) = refl
enter-plain c (cell d r) = refl
enter-plain c (value n r) = refl
enter-plain c (spent r) = refl

module _ (look : Lookup) where
  process-plain : (k : ℕ) → process_by entry look k ≡ process k look
  unfolding process_by process
  process-plain zero = refl
  process-plain (suc k) =
      λ i r c. go_on (process-plain k i) c (perform (λ r c. enter-plain c (process-plain k i r c) i) r (rules look r c))

  pub process_cell-plain : (r : Rewriter) (c : Cell) → process_cell_by entry look r c ≡ process_cell look r c
  unfolding process_cell_by process_cell
  process_cell-plain r c = λ i. process-plain (suc (weight r.stamps c)) i r c

  add_cell-plain : (r : Rewriter) (c : Cell) → add_cell_by entry look r c ≡ add_cell look r c
  unfolding add_cell_by add_cell
  add_cell-plain r c = λ i. enter-plain c (process_cell-plain r c i) i

  run_item-plain : (s : ℕ) (r : Rewriter) → run_item_by entry look s r ≡ run_item look s r
  unfolding run_item_by run_item
  run_item-plain s r =
      let c : Cell = visit_mut (map_net_new r.design.replaced) (cell_in r.design.cells s) in
      λ i. cond (is_splittable c) (bit_done s (add_cell-plain r c i)) (cell_done s c (process_cell-plain r c i))

  run_items-plain : (ss : List ℕ) (r : Rewriter) → run_items_by entry look ss r ≡ run_items look ss r
  unfolding run_items_by run_items
  run_items-plain [] r = refl
  run_items-plain (s ∷ ss) r = λ i. and_then (λ r. run_items-plain ss r i) (run_item-plain s r i)

  pub run-plain : (cs : List Cell) → run_by (λ n. entry) look cs ≡ run look cs
  unfolding run_by run
  run-plain cs = run_items-plain (topo_sort cs) (begun cs)

  pub rewrite-plain : (d : Netlist) → rewrite_by (λ n. entry) look d ≡ rewrite look d
  unfolding rewrite_by rewrite
  rewrite-plain d = ap (compacted d.bits) (run-plain d.cells)
