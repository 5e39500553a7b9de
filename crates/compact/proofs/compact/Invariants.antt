use Rattle.compact.proofs.Compacting.{Writing}
use Rattle.compact.proofs.compact.Given as goal

abbrev pub invariant-loop-s : goal.invariant-loop-s
invariant-loop-s l = Writing l.n l.work l.initial.reply l.reply l.s
