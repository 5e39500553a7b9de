use Rattle.std.proofs.Common.{refl, sym, ◌∙◌}
use Rattle.listing.proofs.Listing.{listing_none, listing-read, none-above, listing-all}
use Rattle.listing.proofs.list.Goals as goal

pub loop-s-init : goal.loop-s-init
loop-s-init c = listing_none _ _ _ refl _ (c.into_iter-s-iterator.ensures.into_iter_gives ∙ c.open-s-items.ensures)

pub loop-s-preserved : goal.loop-s-preserved
loop-s-preserved c = listing-read _ _ _ _ _ c.loop-s.invariant _ _ c.in-Some.ensures.steps _ _ c.put_record-n.ensures

pub returns : goal.returns
returns c =
    let s = c.loop-s.invariant in
    listing-all _ _ _ _ _ s c.requires.0 (none-above _ _ _ _ _ s (sym c.in-None.ensures.steps.0))
