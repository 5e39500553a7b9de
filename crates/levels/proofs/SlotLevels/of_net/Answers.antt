use Rattle.levels.proofs.Cells.{net-const, net-cell}
use Rattle.levels.proofs.SlotLevels.of_net.Goals as goal

pub returns-in-Const : goal.returns-in-Const
returns-in-Const c = search net-const

pub returns-in-Cell : goal.returns-in-Cell
returns-in-Cell c = search net-cell
