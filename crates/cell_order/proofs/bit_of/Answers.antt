-- `cell_order::bit_of` meets its contract. Assumes nothing.
use Rattle.cell_order.proofs.Lowest.{bit_word, bit_past}
use Rattle.cell_order.proofs.bit_of.Goals as goal

pub returns-then-s-n : goal.returns-then-s-n
returns-then-s-n c = search bit_word

pub returns : goal.returns
returns c = search bit_past
