use Rattle.netlist.proofs.Areas.{Loading}
use Rattle.netlist.proofs.load.Given as goal

abbrev pub invariant-loop-s : goal.invariant-loop-s
invariant-loop-s l = Loading l.ticket l.initial.work l.work l.s
