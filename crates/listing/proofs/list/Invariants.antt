use Rattle.listing.proofs.Listing.{Listing}
use Rattle.listing.proofs.list.Given as goal

abbrev pub invariant-loop-s : goal.invariant-loop-s
invariant-loop-s l = Listing l.bytes l.initial.text l.s-iterator l.text l.n
