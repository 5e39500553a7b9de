-- `cell_order::put_outputs` meets its contract. Assumes nothing.
use Rattle.cell_order.proofs.Starts.{appending-begins, appending-free, appending-more, appending-ends}
use borrow.Author.Rules.{rules}
use Rattle.cell_order.proofs.put_outputs.Goals as goal

pub loop-s-init : goal.loop-s-init
loop-s-init c = search appending-begins

pub put_output-count-requires : goal.put_output-count-requires
put_output-count-requires c = record { free = search appending-free; s_lt_n = search rules }

pub loop-s-preserved : goal.loop-s-preserved
loop-s-preserved c = search appending-more

pub returns : goal.returns
returns c = search appending-ends
