use Rattle.design.proofs.Replacing.{Standing}
use Rattle.design.proofs.queue.stand.Given as goal

abbrev pub invariant-loop-s : goal.invariant-loop-s
invariant-loop-s l = Standing l.from l.to l.initial.work l.work l.s
