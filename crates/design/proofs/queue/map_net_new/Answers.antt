use Rattle.design.proofs.Replacing.{follows-none, follows-end, follows-stop, follows-more}
use Rattle.value.specs.Value.{eq_net}
use Rattle.design.proofs.queue.map_net_new.Goals as goal

pub loop-init : goal.loop-init
loop-init c = search follows-none

pub returns-then-eq : goal.returns-then-eq
unfolding eq_net
returns-then-eq c = search follows-stop

pub loop-preserved : goal.loop-preserved
unfolding eq_net
loop-preserved c = search follows-more

pub returns : goal.returns
returns c = search follows-end
