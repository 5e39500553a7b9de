-- `loops::clear` meets its contract. Assumes nothing.
use Rattle.loops.proofs.Search.{cleared}
use Rattle.loops.proofs.clear.Goals as goal

pub returns : goal.returns
returns c = cleared c.args.n c.args.work.now c.clear.new.work c.requires c.clear.ensures.blank c.clear.ensures.within
