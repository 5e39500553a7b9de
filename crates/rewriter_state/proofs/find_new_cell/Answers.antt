-- `rewriter_state::find_new_cell` meets its contract. Assumes nothing.
use Rattle.rewriter_state.proofs.Looking.{source-const, source-cell, source-past}
use Rattle.rewriter_state.proofs.find_new_cell.Goals as goal

pub returns-then-s-x : goal.returns-then-s-x
returns-then-s-x c = search source-cell

pub returns-in-Const : goal.returns-in-Const
returns-in-Const c = search source-const

pub returns-else-s-x : goal.returns-else-s-x
returns-else-s-x c = search source-past
