use Rattle.compact.proofs.Tallying.{tallying-none, tallying-more, tallying-all}
use Rattle.compact.proofs.tally_kept.Goals as goal

pub loop-s-init : goal.loop-s-init
loop-s-init c = search tallying-none

pub loop-s-preserved : goal.loop-s-preserved
loop-s-preserved c = search tallying-more

pub returns : goal.returns
returns c = search tallying-all
