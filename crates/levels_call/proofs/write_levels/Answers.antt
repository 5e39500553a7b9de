-- `levels_call::write_levels` meets its contract. Assumes nothing.
use Rattle.levels_call.proofs.Outputs.{writing-none, writing_more, writing-all}
use Rattle.levels_call.proofs.write_levels.Goals as goal

pub loop-s-init : goal.loop-s-init
loop-s-init c = search writing-none

pub loop-s-preserved : goal.loop-s-preserved
loop-s-preserved c = search writing_more

pub returns : goal.returns
returns c = search writing-all
