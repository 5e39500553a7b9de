-- `rewriter::run::run_item` meets its contract. Assumes nothing.
use Rattle.rewriter.proofs.Items.{item-ready, item-effects, item-bit, item-cell}
use Rattle.rewriter.proofs.run.run_item.Goals as goal

pub returns-then-has_effects : goal.returns-then-has_effects
returns-then-has_effects c = search item-effects

pub run_bit-requires : goal.run_bit-requires
run_bit-requires c = search item-ready

pub returns-then-is_splittable : goal.returns-then-is_splittable
returns-then-is_splittable c = search item-bit

pub run_cell-requires : goal.run_cell-requires
run_cell-requires c = search item-ready

pub returns : goal.returns
returns c = search item-cell
