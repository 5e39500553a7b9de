-- `cell_order::Search::lower_bit` meets its contract. Assumes nothing.
use Rattle.cell_order.proofs.Lowest.{bit-lowers}
use Rattle.cell_order.proofs.Search.lower_bit.Goals as goal

pub returns : goal.returns
returns c = search bit-lowers
