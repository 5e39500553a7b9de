-- `numberer::count_mix` meets its contract. Assumes nothing.
use Rattle.numberer.proofs.Mixing.{looked_at, Counting}
use Rattle.numberer.proofs.count_mix.Given as goal

abbrev pub invariant-loop-m : goal.invariant-loop-m
invariant-loop-m l = Counting l.x (looked_at l.end l.work) l.m-index l.count
