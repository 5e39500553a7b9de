-- `cell_order::put_outputs` meets its contract. Assumes nothing.
use Rattle.cell_order.proofs.Starts.{Appending}
use Rattle.cell_order.proofs.put_outputs.Given as goal

abbrev pub invariant-loop-s : goal.invariant-loop-s
invariant-loop-s l = Appending l.n l.cells l.initial.work l.work l.count l.s
