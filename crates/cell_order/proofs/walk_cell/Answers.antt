-- `cell_order::walk_cell` meets its contract. Assumes nothing.
use Rattle.order.proofs.Walking.{walks-visited, is-new}
use borrow.Author.Rules.{rules}
use Rattle.cell_order.proofs.walk_cell.Goals as goal

pub returns-then-is_visited : goal.returns-then-is_visited
returns-then-is_visited c = search walks-visited

pub visit_cell-requires : goal.visit_cell-requires
visit_cell-requires c = record { ready = search rules; s_value = search is-new }
