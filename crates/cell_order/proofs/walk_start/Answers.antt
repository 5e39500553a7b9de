-- `cell_order::walk_start` meets its contract. Assumes nothing.
use Rattle.cell_order.proofs.Starts.{start-inside, start-output, start_cell}
use Rattle.cell_order.proofs.walk_start.Goals as goal
use Rattle.cell_order.proofs.walk_start.Goals.{else-is_start-via-then-is_start+else-not-is_output, else-is_start-via-else-is_start}

pub returns-then-not-is_output : goal.returns-then-not-is_output
returns-then-not-is_output c = search start_cell

pub returns : goal.returns
returns c = elim c.else-is_start.branch [
  | else-is_start-via-then-is_start+else-not-is_output w ↦ search start-output
  | else-is_start-via-else-is_start w ↦ search start-inside
]
