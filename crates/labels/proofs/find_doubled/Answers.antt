use Rattle.std.proofs.Common.{rules}
use Rattle.labels.proofs.Search.{going-starts, going-finds, going-more, going-skips, going-ends}
use Rattle.labels.proofs.find_doubled.Goals as goal
use Rattle.labels.proofs.find_doubled.Goals.{else-is_labelled-via-then-is_labelled+else-repeats, else-is_labelled-via-else-is_labelled}

pub loop-s-init : goal.loop-s-init
loop-s-init c = search going-starts

pub returns-then-repeats-clause-value : goal.returns-then-repeats-clause-value
returns-then-repeats-clause-value c = search going-finds

pub loop-s-preserved : goal.loop-s-preserved
loop-s-preserved c = elim c.else-is_labelled.branch [
  | else-is_labelled-via-then-is_labelled+else-repeats w ↦ rw w.work-is (going-more _ _ _ _ c.loop-s.invariant _ _ w.repeats.ensures (search rules))
  | else-is_labelled-via-else-is_labelled w ↦ rw w.work-is (going-skips _ _ _ _ c.loop-s.invariant c.record_at-r.result (search rules) c.record_at-r.ensures (search rules))
]

pub returns-clause-value : goal.returns-clause-value
returns-clause-value c = search going-ends
