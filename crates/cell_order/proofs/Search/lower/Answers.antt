-- `cell_order::Search::lower` meets its contract. Assumes nothing.
use Rattle.cell_order.proofs.Lowest.{lower-before, lower-after, lower-visited, lower-taken}
use Rattle.cell_order.proofs.Search.lower.Goals as goal

pub returns-then-y-self : goal.returns-then-y-self
returns-then-y-self c = search lower-before

pub returns-then-best-y : goal.returns-then-best-y
returns-then-best-y c = search lower-after

pub returns-then-is_visited : goal.returns-then-is_visited
returns-then-is_visited c = search lower-visited

pub returns : goal.returns
returns c = search lower-taken
