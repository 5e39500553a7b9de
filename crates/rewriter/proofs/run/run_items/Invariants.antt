-- `rewriter::run::run_items` meets its contract. Assumes nothing.
use Rattle.rewriter.proofs.Items.{Rolling}
use Rattle.rewriter.proofs.run.run_items.Given as goal

abbrev pub invariant-loop-j : goal.invariant-loop-j
invariant-loop-j l = Rolling l.initial.x l.count l.initial.work l.work l.x l.j
