-- `cell_order::put_sources` meets its contract. Assumes nothing.
use Rattle.cell_order.proofs.Starts.{putting-begins, putting-ready, putting-new, putting-more, putting-ends}
use Rattle.cell_order.proofs.put_sources.Goals as goal

pub loop-s-init : goal.loop-s-init
loop-s-init c = search putting-begins

pub put_source-count-requires : goal.put_source-count-requires
put_source-count-requires c = record { ready = search putting-ready; s_value = search putting-new }

pub loop-s-preserved : goal.loop-s-preserved
loop-s-preserved c = search putting-more

pub returns : goal.returns
returns c = search putting-ends
