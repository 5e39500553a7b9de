-- `merge::is_turned` meets its contract. Assumes nothing.
use Rattle.merge.specs.inner.Words.{turned}
use Rattle.merge.proofs.Keys.{less-is}
use Rattle.merge.proofs.is_turned.Goals as goal

pub returns : goal.returns
unfolding turned
returns c = let h = less-is c.args.r.a c.args.r.b in cc
