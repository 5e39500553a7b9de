use Rattle.compact.proofs.Tally.{kept-at}
use Rattle.compact.proofs.is_marked.Goals as goal

pub returns : goal.returns
returns c = search kept-at
