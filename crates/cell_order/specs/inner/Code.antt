-- What the cell order tells of the words of the work slice. Assumes nothing: these are definitions.
use Rattle.std.specs.Prelude.{◌≡◌, List, ℕ, ◌≤◌}
use Rattle.cell.specs.declared.Record.{Record}
use Rattle.netlist.specs.Netlist.{netlist_of, cell_deps}
use Rattle.netlist.specs.inner.Areas.{records_in, words_in, Within, visited_at, order_at, replaced_at}
use Rattle.order.specs.Orders.{iter_cells_topo}

-- what a cell depends on, in the order of the walk
unfoldable pub cells_by : List Record → ℕ → List ℕ
cells_by rs s = cell_deps (netlist_of rs) s

-- the cells in order
pub record SortsCells (n : ℕ) (ws ws' : List ℕ) (r : ℕ) : Type 0 where
  pub order : words_in order_at r ws' ≡ iter_cells_topo (netlist_of (records_in n ws))
  pub few : r ≤ 1024
  pub frame : Within visited_at replaced_at ws ws'
