-- `loops::walk_all` meets its contract. Assumes nothing.
use Rattle.cell.specs.Records.{records_of}
use Rattle.loops.proofs.Search.{Going}
use Rattle.loops.proofs.walk_all.Given as goal

abbrev pub invariant-loop-i : goal.invariant-loop-i
invariant-loop-i l = Going (records_of l.ticket) l.n l.initial.work l.work l.clock l.i
