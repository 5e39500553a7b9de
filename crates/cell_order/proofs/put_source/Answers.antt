-- `cell_order::put_source` meets its contract. Assumes nothing.
use Rattle.cell_order.proofs.Starts.{emit-inside, emit-done, emit-left}
use Rattle.cell_order.proofs.put_source.Goals as goal
use Rattle.cell_order.proofs.put_source.Goals.{else-is_start-via-then-is_start+else-is_source, else-is_start-via-else-is_start}

pub returns-then-is_source : goal.returns-then-is_source
returns-then-is_source c = search emit-done

pub returns : goal.returns
returns c = elim c.else-is_start.branch [
  | else-is_start-via-then-is_start+else-is_source w ↦ search emit-left
  | else-is_start-via-else-is_start w ↦ search emit-inside
]
