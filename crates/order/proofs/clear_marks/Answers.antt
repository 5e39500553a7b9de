-- `order::clear_marks` meets its contract. Assumes nothing.
use Rattle.order.proofs.Words.{blank-clears}
use Rattle.order.proofs.clear_marks.Goals as goal

pub returns : goal.returns
returns c = search blank-clears
