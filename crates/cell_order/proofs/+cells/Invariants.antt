-- The proof of the cycle of calls {visit_cell, walk_deps}. The measure is eight times the number of items that are not visited, and less
-- than eight more by the member. Assumes nothing.
use Rattle.order.specs.inner.Code.{unvisited_in}
use Prim.Native.Nat.{◌+◌, ◌*◌}
use Rattle.cell_order.proofs.+cells.Given as goal

abbrev pub decreases-visit_cell : goal.decreases-visit_cell
decreases-visit_cell l = 8 * unvisited_in l.n l.work.now

abbrev pub decreases-walk_deps : goal.decreases-walk_deps
decreases-walk_deps l = 8 * unvisited_in l.n l.work.now + 2
