-- Which step of a listing failed. Assumes nothing: these are definitions.
use Rattle.std.specs.Prelude.{Result, IfErr}
use Rattle.listing.specs.declared.Failure.{Failure}
use Rattle.listing.specs.declared.Failure.TheVariants.{Unread, Unwritten}

-- the fact, where the ticket was not read
abbrev pub IfUnread : Failure → Type 0 → Type 0
IfUnread (Unread e) P = P
IfUnread (Unwritten e) P = Unit {0}

abbrev pub OnUnread : Result (Unit {0}) Failure → Type 0 → Type 0
OnUnread r P = IfErr r (λ f. IfUnread f P)
