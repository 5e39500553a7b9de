use Rattle.std.proofs.Common.{rules}
use Rattle.labels.proofs.Search.{before-finds, before-ends}
use Rattle.labels.proofs.is_before.Goals as goal

pub returns-then-has_label_of : goal.returns-then-has_label_of
returns-then-has_label_of c = before-finds _ _ _ c.requires c.loop-x.x c.has_label_of.result (search rules) (search rules) (search rules)

pub returns : goal.returns
returns c = before-ends _ _ _ c.requires _ (search rules) c.loop-x.invariant
