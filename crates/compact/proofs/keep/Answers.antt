use Rattle.compact.proofs.Tallying.{keeps}
use Rattle.compact.proofs.keep.Goals as goal

pub returns : goal.returns
returns c = search keeps
