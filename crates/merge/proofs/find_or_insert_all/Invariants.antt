-- `merge::find_or_insert_all` meets its contract. Assumes nothing.
use Rattle.merge.proofs.Numbering.{Numbering}
use Rattle.merge.proofs.find_or_insert_all.Given as goal

abbrev pub invariant-loop-i : goal.invariant-loop-i
invariant-loop-i l = Numbering l.n l.initial.count l.fn.s.0 l.e l.initial.work l.work l.count l.i
