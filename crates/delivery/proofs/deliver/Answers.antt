-- `delivery::deliver` meets its contract. Assumes nothing.
use Rattle.delivery.proofs.Delivering.{size_fits, compacts-none, compacts-all}
use Rattle.delivery.proofs.deliver.Goals as goal

pub overflow_mul-bytes : goal.overflow_mul-bytes
overflow_mul-bytes c = search size_fits

pub returns-then-reply-bytes : goal.returns-then-reply-bytes
returns-then-reply-bytes c = search compacts-none

pub returns : goal.returns
returns c = search compacts-all
