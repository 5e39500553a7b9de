-- `merge::merge_cells` meets its contract. Assumes nothing.
use Rattle.merge.proofs.Merging.{Turning}
use Rattle.merge.proofs.merge_cells.Given as goal

abbrev pub invariant-loop-j : goal.invariant-loop-j
invariant-loop-j l = Turning l.n l.count l.initial.work l.work l.k l.j
