-- `cell_order::next_dep` meets its contract. Assumes nothing.
use Rattle.cell_order.proofs.Lowest.{scanning-begins, scanning-more, scanning-ends}
use Rattle.cell_order.proofs.next_dep.Goals as goal

pub loop-search-init : goal.loop-search-init
loop-search-init c = search scanning-begins

pub returns-then-bit_of-eq0 : goal.returns-then-bit_of-eq0
returns-then-bit_of-eq0 c = search scanning-ends

pub loop-search-preserved : goal.loop-search-preserved
loop-search-preserved c = search scanning-more
