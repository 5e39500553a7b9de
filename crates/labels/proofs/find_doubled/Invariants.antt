use Rattle.labels.proofs.Search.{Going}
use Rattle.labels.proofs.find_doubled.Given as goal

abbrev pub invariant-loop-s : goal.invariant-loop-s
invariant-loop-s l = Going l.ticket l.fn.work l.work l.s
