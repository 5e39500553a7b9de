-- `delivery::end` meets its contract. Assumes nothing.
use borrow.Author.Rules.{rules}
use Rattle.delivery.proofs.Work.{cleared-short, cleared-filled}
use Rattle.delivery.proofs.end.Goals as goal

pub returns-then-work-ge16384 : goal.returns-then-work-ge16384
returns-then-work-ge16384 c = cleared-filled _ _ (search rules) (search rules) _ (c.fill.ensures.after (λ y e. search rules))

pub returns-else-work-ge16384 : goal.returns-else-work-ge16384
returns-else-work-ge16384 c = search cleared-short
