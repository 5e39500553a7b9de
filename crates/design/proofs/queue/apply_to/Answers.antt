use Rattle.design.proofs.Applying.{applies}
use Rattle.design.proofs.queue.apply_to.Goals as goal

pub returns : goal.returns
returns c = search applies
