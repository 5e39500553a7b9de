-- `cell_order::put_sources` meets its contract. Assumes nothing.
use Rattle.cell_order.proofs.Starts.{Putting}
use Rattle.cell_order.proofs.put_sources.Given as goal

abbrev pub invariant-loop-s : goal.invariant-loop-s
invariant-loop-s l = Putting l.n l.initial.work l.work l.count l.s
