-- `rewriter::run::run_items` meets its contract. Assumes nothing.
use Rattle.rewriter.proofs.Items.{rolling-none, rolling-ready, rolling-more, rolling-full}
use Rattle.rewriter.proofs.run.run_items.Goals as goal

pub loop-j-init : goal.loop-j-init
loop-j-init c = search rolling-none

pub run_item-requires : goal.run_item-requires
run_item-requires c = search rolling-ready

pub returns-in_err-run_item : goal.returns-in_err-run_item
returns-in_err-run_item c = let h = c.in_err-run_item.ensures in let f = c.from_residual.ensures.0 in search rolling-full

pub loop-j-preserved : goal.loop-j-preserved
loop-j-preserved c = let h = c.in_ok-run_item.ensures in search rolling-more
