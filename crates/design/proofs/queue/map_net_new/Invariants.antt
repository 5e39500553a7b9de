use Rattle.design.proofs.Replacing.{Following}
use Rattle.design.proofs.queue.map_net_new.Given as goal

abbrev pub invariant-loop : goal.invariant-loop
invariant-loop l = Following l.n l.work l.fn.x l.y l.counter
