-- `cell_order::walk_starts` meets its contract. Assumes nothing.
use Rattle.cell_order.specs.inner.Starts.{not_output}
use Rattle.cell_order.proofs.Starts.{Going}
use Rattle.cell_order.proofs.walk_starts.Given as goal

abbrev pub invariant-loop-s : goal.invariant-loop-s
invariant-loop-s l = Going not_output l.n l.sources l.initial.work l.work l.count l.s
