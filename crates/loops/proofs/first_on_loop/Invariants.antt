-- `loops::first_on_loop` meets its contract. Assumes nothing.
use Rattle.cell.specs.Records.{records_of}
use Rattle.loops.proofs.Search.{Seeking}
use Rattle.loops.proofs.first_on_loop.Given as goal

abbrev pub invariant-loop-s : goal.invariant-loop-s
invariant-loop-s l = Seeking (records_of l.ticket) l.n l.initial.work l.work l.s
