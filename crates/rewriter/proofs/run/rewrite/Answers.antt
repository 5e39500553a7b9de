-- `rewriter::run::rewrite` meets its contract. Assumes nothing.
use Rattle.rewriter.proofs.Runs.{run-ready, run-running, run-rewritten, run-full}
use Rattle.rewriter.proofs.run.rewrite.Goals as goal

pub run_items-requires : goal.run_items-requires
run_items-requires c = search run-ready

pub apply_all-requires : goal.apply_all-requires
apply_all-requires c = let h = c.in_ok-run_items.ensures in search run-running

pub returns : goal.returns
returns c = let h = c.in_ok-run_items.ensures in search run-rewritten

pub returns-in_err-run_items : goal.returns-in_err-run_items
returns-in_err-run_items c = run-full _ _ _ _ c.begin-count.ensures c.requires.work_value c.requires.n_bound c.requires.in_bounds _ _ _ _ c.in_err-run_items.ensures c.from_residual.ensures.0
