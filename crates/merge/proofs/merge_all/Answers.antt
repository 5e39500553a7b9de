-- `merge::merge_all` meets its contract. Assumes nothing.
use Rattle.merge.proofs.Merging.{all-ordered, all-merged}
use Rattle.merge.proofs.merge_all.Goals as goal

pub merge_cells-requires : goal.merge_cells-requires
merge_cells-requires c = search all-ordered

pub returns : goal.returns
returns c = search all-merged
