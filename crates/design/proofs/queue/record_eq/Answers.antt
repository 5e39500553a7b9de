use Rattle.design.specs.Queue.{eq_record}
use Rattle.design.proofs.queue.record_eq.Goals as goal

pub returns : goal.returns
unfolding eq_record
returns c = cc
