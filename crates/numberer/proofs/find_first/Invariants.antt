-- `numberer::find_first` meets its contract. Assumes nothing.
use Rattle.numberer.proofs.Seeking.{Seeking}
use Rattle.numberer.proofs.find_first.Given as goal

abbrev pub invariant-loop-i : goal.invariant-loop-i
invariant-loop-i l = Seeking l.k l.work l.key l.i
