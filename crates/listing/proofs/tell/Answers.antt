use Rattle.listing.proofs.Printed.{counted, accepted-inside, accepted-printed, refused-printed}
use Rattle.listing.proofs.tell.Goals as goal

pub slice_bounds-list-end : goal.slice_bounds-list-end
slice_bounds-list-end c = search accepted-inside

pub slice_bounds-list-end-in-Ok : goal.slice_bounds-list-end-in-Ok
slice_bounds-list-end-in-Ok c = search (counted, accepted-inside)

pub returns-in-Ok-clause-text_after : goal.returns-in-Ok-clause-text_after
returns-in-Ok-clause-text_after c = search accepted-printed

pub returns-in-Err-clause-text_after : goal.returns-in-Err-clause-text_after
returns-in-Err-clause-text_after c = search refused-printed
