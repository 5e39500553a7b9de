-- `merge::put_keys` meets its contract. Assumes nothing.
use Rattle.merge.proofs.Cells.{Keying}
use Rattle.merge.proofs.put_keys.Given as goal

abbrev pub invariant-loop-i : goal.invariant-loop-i
invariant-loop-i l = Keying l.n l.fn.s.0 l.e l.initial.work l.work l.i
