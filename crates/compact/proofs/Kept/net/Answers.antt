use Rattle.compact.proofs.Compacting.{map-const, map-cell}
use Rattle.compact.proofs.Kept.net.Goals as goal

pub returns-in-Const : goal.returns-in-Const
returns-in-Const c = search map-const

pub returns-in-Cell : goal.returns-in-Cell
returns-in-Cell c = search map-cell
