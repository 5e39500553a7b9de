use Rattle.levels.proofs.Levels.{Folding}
use Rattle.levels.proofs.fold.Given as goal

abbrev pub invariant-loop-i : goal.invariant-loop-i
invariant-loop-i l = Folding l.n l.count l.initial.work l.work l.i
