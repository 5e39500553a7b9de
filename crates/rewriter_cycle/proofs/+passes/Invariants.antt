-- The proof of the cycle of rules and adder. The number that falls is eight times the weight of the cell at hand, and a rank by the member: 0 for the
-- arms of `SimpleAigOpt`, 1 for `simple_aig_opt`, 2 for `rules`, 3 for `process`, 4 for `add`. Assumes nothing.
use Prim.Native.Nat.{◌+◌, ◌*◌}
use Rattle.cell.specs.declared.Cell.TheVariants.{And, Or, Xor, Aig}
use Rattle.rewrite.specs.Rewriter.{weight}
use Rattle.rewriter_state.specs.inner.Words.{rewriter_in}
use Rattle.rewriter_cycle.proofs.Passes.{Forms}
use Rattle.rewriter_cycle.proofs.+passes.Given as goal

abbrev pub decreases-add : goal.decreases-add
decreases-add l = 8 * weight (rewriter_in l.x.now l.work.now).stamps l.c + 4

abbrev pub decreases-process : goal.decreases-process
decreases-process l = 8 * weight (rewriter_in l.x.now l.work.now).stamps l.c + 3

abbrev pub decreases-rules : goal.decreases-rules
decreases-rules l = 8 * weight (rewriter_in l.x.now l.work.now).stamps l.c + 2

abbrev pub decreases-simple_aig_opt : goal.decreases-simple_aig_opt
decreases-simple_aig_opt l = 8 * weight (rewriter_in l.x.now l.work.now).stamps l.c + 1

abbrev pub decreases-rewrite_aig : goal.decreases-rewrite_aig
decreases-rewrite_aig l = 8 * weight (rewriter_in l.x.now l.work.now).stamps (Aig l.p l.q)

abbrev pub decreases-rewrite_and : goal.decreases-rewrite_and
decreases-rewrite_and l = 8 * weight (rewriter_in l.x.now l.work.now).stamps (And l.a l.b)

abbrev pub decreases-rewrite_or : goal.decreases-rewrite_or
decreases-rewrite_or l = 8 * weight (rewriter_in l.x.now l.work.now).stamps (Or l.a l.b)

abbrev pub decreases-rewrite_xor : goal.decreases-rewrite_xor
decreases-rewrite_xor l = 8 * weight (rewriter_in l.x.now l.work.now).stamps (Xor l.a l.b)

abbrev pub invariant-process-loop-work : goal.invariant-process-loop-work
invariant-process-loop-work l = Forms l.initial.x l.initial.work l.initial.d l.x l.work l.d l.left

abbrev pub decreases-process-loop-work : goal.decreases-process-loop-work
decreases-process-loop-work l = weight (rewriter_in l.x l.work).stamps l.d
