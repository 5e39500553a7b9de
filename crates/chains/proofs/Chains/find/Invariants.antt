use Rattle.chains.proofs.Searching.{Searching, left}
use Rattle.chains.proofs.Chains.find.Given as goal

abbrev pub invariant-loop-at : goal.invariant-loop-at
invariant-loop-at g l = Searching (goal.F-post g l.test) l.self l.work l.b l.at

abbrev pub decreases-loop-at : goal.decreases-loop-at
decreases-loop-at g l = left l.at
