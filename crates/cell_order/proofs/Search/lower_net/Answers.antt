-- `cell_order::Search::lower_net` meets its contract. Assumes nothing.
use Rattle.cell_order.proofs.Lowest.{net-none, net-start}
use Rattle.cell_order.proofs.Search.lower_net.Goals as goal

pub returns-in-Const : goal.returns-in-Const
returns-in-Const c = search net-none

pub returns-in-Cell : goal.returns-in-Cell
returns-in-Cell c = search net-start
