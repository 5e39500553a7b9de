-- `merge::merge` meets its contract. Assumes nothing.
use Rattle.merge.proofs.Merging.{merged}
use Rattle.merge.proofs.merge.Goals as goal

pub returns : goal.returns
returns c = search merged
