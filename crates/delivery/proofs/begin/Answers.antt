-- `delivery::begin` meets its contract. Assumes nothing.
use Rattle.delivery.proofs.Shell.{begins-short, begins-long}
use borrow.Author.Rules.{rules}
use Rattle.delivery.proofs.begin.Goals as goal

pub returns-then-work-lt16384 : goal.returns-then-work-lt16384
returns-then-work-lt16384 c = search begins-short

pub returns : goal.returns
returns c = begins-long _ _ _ _ (search rules) (search rules) (search rules) (search rules)
