-- `cell_order::next_dep` meets its contract. Assumes nothing.
use Prim.Native.Nat.{◌-◌}
use Rattle.cell_order.proofs.Lowest.{Scanning}
use Rattle.cell_order.proofs.next_dep.Given as goal

abbrev pub invariant-loop-search : goal.invariant-loop-search
invariant-loop-search l = Scanning l.n l.work l.from l.initial.i l.best l.i

abbrev pub decreases-loop-search : goal.decreases-loop-search
decreases-loop-search l = l.n - l.i
