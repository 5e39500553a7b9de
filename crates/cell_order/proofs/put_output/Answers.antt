-- `cell_order::put_output` meets its contract. Assumes nothing.
use Rattle.cell_order.proofs.Starts.{append-inside, append-done, append_left}
use Rattle.cell_order.proofs.put_output.Goals as goal
use Rattle.cell_order.proofs.put_output.Goals.{else-is_start-via-then-is_start+else-is_output, else-is_start-via-else-is_start}

pub returns-then-is_output : goal.returns-then-is_output
returns-then-is_output c = search append-done

pub returns : goal.returns
returns c = elim c.else-is_start.branch [
  | else-is_start-via-then-is_start+else-is_output w ↦ search append_left
  | else-is_start-via-else-is_start w ↦ search append-inside
]
