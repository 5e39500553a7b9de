-- `order::topo_sort` meets its contract. Assumes nothing.
use Rattle.order.proofs.Bits.{Sorting}
use Rattle.order.proofs.topo_sort.Given as goal

abbrev pub invariant-loop-s : goal.invariant-loop-s
invariant-loop-s l = Sorting l.n l.initial.work l.work l.count l.s
