-- Rewriting as crate `rewrite` defines it (`rewrite/specs/Rewrite.antt`), with the step that adds a cell left open: `adds` stands where `entry`
-- stands there. With `entry` put in it is `rewrite` (`rewrite-plain`). Assumes nothing: these are definitions.
use Rattle.std.specs.Prelude.{cond, List, [], ◌∷◌, ℕ, zero, suc, length}
use Rattle.cell.specs.declared.Cell.{Cell}
use Rattle.netlist.specs.Shape.{visit_mut, is_splittable}
use Rattle.netlist.specs.Netlist.{Netlist, cell_in}
use Rattle.order.specs.Orders.{topo_sort}
use Rattle.design.specs.Queue.{map_net_new}
use Rattle.rewrite.specs.Rewriter.{Rewriter, begun, Lookup, weight}
use Rattle.rewrite.specs.Rewrite.{rules, Result, none, cell, value, spent, Added, at, unadded, perform, go_on, Run, ran, bit_done, cell_done, and_then, compacted}

module _ (adds : Rewriter → Cell → Added) where
  abbrev pub enter_by : Cell → Result → Added
  enter_by c (none r) = adds r c
  enter_by c (cell d r) = adds r d
  enter_by c (value n r) = at n r
  enter_by c (spent r) = unadded r

  module _ (look : Lookup) where
    abbrev pub turn_by : (Rewriter → Cell → Result) → Rewriter → Cell → Result
    turn_by again r c = go_on again c (perform (λ r c. enter_by c (again r c)) r (rules look r c))

    unfoldable pub process_by : ℕ → Rewriter → Cell → Result
    process_by zero r c = spent r
    process_by (suc k) r c = turn_by (process_by k) r c

    unfoldable pub process_cell_by : Rewriter → Cell → Result
    process_cell_by r c = process_by (suc (weight r.stamps c)) r c

    unfoldable pub add_cell_by : Rewriter → Cell → Added
    add_cell_by r c = enter_by c (process_cell_by r c)

    unfoldable pub run_item_by : ℕ → Rewriter → Run
    run_item_by s r =
        let c = visit_mut (map_net_new r.design.replaced) (cell_in r.design.cells s) in
        cond (is_splittable c) (bit_done s (add_cell_by r c)) (cell_done s c (process_cell_by r c))

    unfoldable pub run_items_by : List ℕ → Rewriter → Run
    run_items_by [] r = ran r
    run_items_by (s ∷ ss) r = and_then (run_items_by ss) (run_item_by s r)

-- `adds` is given the number of slots that the design has before
unfoldable pub run_by : (ℕ → Rewriter → Cell → Added) → Lookup → List Cell → Run
run_by adds look cs = run_items_by (adds (length cs)) look (topo_sort cs) (begun cs)

unfoldable pub rewrite_by : (ℕ → Rewriter → Cell → Added) → Lookup → Netlist → Netlist
rewrite_by adds look d = compacted d.bits (run_by adds look d.cells)
