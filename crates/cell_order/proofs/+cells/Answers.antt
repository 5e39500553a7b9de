-- The proof of the cycle of calls {visit_cell, walk_deps}. The measure is eight times the number of items that are not visited, and less
-- than eight more by the member. Assumes nothing.
use borrow.Author.Rules.{rules}
use native.Mathlib.Omega.{arith}
use lib.Dec.{lit≤}
use Rattle.order.proofs.Words.{new-below}
use Rattle.order.proofs.Walking.{walks-ready, marked-falls, marked-ready}
use Rattle.cell_order.proofs.Cells.{deps-none, deps-new, deps-next, deps-falls, deps-more, cell-next, cell-done}
use borrow.Author.Rules.{rules}
use Rattle.cell_order.proofs.+cells.Goals as goal

pub visit_cell-walk_deps-c-requires : goal.visit_cell-walk_deps-c-requires
visit_cell-walk_deps-c-requires t c = (search (marked-falls, lit≤), (search marked-ready, search new-below))

pub visit_cell-overflow_add-result : goal.visit_cell-overflow_add-result
visit_cell-overflow_add-result t c = search cell-next

pub visit_cell-returns : goal.visit_cell-returns
visit_cell-returns t c = search cell-done

pub walk_deps-visit_cell-c-requires : goal.walk_deps-visit_cell-c-requires
walk_deps-visit_cell-c-requires t c = (omega arith, (search rules, search deps-new))

pub walk_deps-overflow_add-x : goal.walk_deps-overflow_add-x
walk_deps-overflow_add-x t c = search deps-next

pub walk_deps-walk_deps-requires : goal.walk_deps-walk_deps-requires
walk_deps-walk_deps-requires t c = (search deps-falls, (search walks-ready, search rules))

pub walk_deps-returns-in-Some : goal.walk_deps-returns-in-Some
walk_deps-returns-in-Some t c = search deps-more

pub walk_deps-returns-in-None : goal.walk_deps-returns-in-None
walk_deps-returns-in-None t c = search deps-none
