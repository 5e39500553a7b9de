use Rattle.compact.specs.inner.Words.{is_root}
use Rattle.compact.proofs.is_root.Goals as goal

pub returns : goal.returns
unfolding is_root
returns c = cc
