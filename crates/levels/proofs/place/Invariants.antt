use Rattle.levels.proofs.Given.{Placing}
use Rattle.levels.proofs.place.Given as goal

abbrev pub invariant-loop-s : goal.invariant-loop-s
invariant-loop-s l = Placing l.n l.stimulus l.initial.work l.work l.s l.k
