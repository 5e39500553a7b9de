-- `rewriter::run::run_cell` meets its contract. Assumes nothing.
use Rattle.rewriter.proofs.Items.{cell-ready, none-on, cell-on, value_on, cell_full}
use Rattle.rewriter.proofs.run.run_cell.Goals as goal

pub returns-in_err-process_cell : goal.returns-in_err-process_cell
returns-in_err-process_cell c = let h = c.in_err-process_cell.ensures in let f = c.from_residual.ensures.0 in search cell_full

pub stay-requires : goal.stay-requires
stay-requires c = let h = c.in_ok-process_cell.ensures in search cell-ready

pub become_cell-requires : goal.become_cell-requires
become_cell-requires c = let h = c.in_ok-process_cell.ensures in search cell-ready

pub replace-requires : goal.replace-requires
replace-requires c = let h = c.in_ok-process_cell.ensures in search cell-ready

pub returns-in-None : goal.returns-in-None
returns-in-None c = let h = c.in_ok-process_cell.ensures in search none-on

pub returns-in-Cell : goal.returns-in-Cell
returns-in-Cell c = let h = c.in_ok-process_cell.ensures in search cell-on

pub returns-in-Value : goal.returns-in-Value
returns-in-Value c = let h = c.in_ok-process_cell.ensures in search value_on
