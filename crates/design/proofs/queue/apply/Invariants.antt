use Rattle.design.proofs.Applying.{Applying}
use Rattle.design.proofs.queue.apply.Given as goal

abbrev pub invariant-loop-s : goal.invariant-loop-s
invariant-loop-s l = Applying l.n l.initial.work l.work l.changed l.s
