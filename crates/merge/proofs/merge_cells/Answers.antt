-- `merge::merge_cells` meets its contract. Assumes nothing.
use Rattle.merge.proofs.Merging.{turning-none, turning-inside, turning-room, turning-more, turning-all}
use borrow.Author.Rules.{rules}
use Rattle.merge.proofs.merge_cells.Goals as goal

pub loop-j-init : goal.loop-j-init
loop-j-init c = search turning-none

pub merge_next-k-requires : goal.merge_next-k-requires
merge_next-k-requires c = record { ready = search rules; s_lt_n = search turning-inside; s_bound = search turning-room }

pub loop-j-preserved : goal.loop-j-preserved
loop-j-preserved c = search turning-more

pub returns : goal.returns
returns c = search turning-all
