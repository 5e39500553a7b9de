use Rattle.compact.proofs.Tallying.{Tallying}
use Rattle.compact.proofs.tally_kept.Given as goal

abbrev pub invariant-loop-s : goal.invariant-loop-s
invariant-loop-s l = Tallying l.n l.initial.work l.work l.tally l.s
