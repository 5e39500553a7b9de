use Rattle.netlist.proofs.Areas.{loading-more, loading-all}
use Rattle.netlist.proofs.load.Goals as goal

pub loop-s-preserved : goal.loop-s-preserved
loop-s-preserved c = search loading-more

pub returns-clause-work_after : goal.returns-clause-work_after
returns-clause-work_after c = search loading-all
