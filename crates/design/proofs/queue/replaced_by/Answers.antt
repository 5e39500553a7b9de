use Rattle.design.proofs.Replacing.{step-const, step-cell}
use Rattle.design.proofs.queue.replaced_by.Goals as goal

pub returns-in-Const : goal.returns-in-Const
returns-in-Const c = search step-const

pub returns-in-Cell : goal.returns-in-Cell
returns-in-Cell c = search step-cell
