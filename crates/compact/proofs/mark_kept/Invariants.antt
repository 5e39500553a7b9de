use Rattle.compact.proofs.Keeping.{Keeping}
use Rattle.compact.proofs.mark_kept.Given as goal

abbrev pub invariant-loop-s : goal.invariant-loop-s
invariant-loop-s l = Keeping l.n l.initial.work l.work l.count l.s
