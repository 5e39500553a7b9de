use Rattle.design.proofs.Replacing.{replaces, replaces-frame}
use Rattle.design.proofs.queue.replace_net.Goals as goal

pub returns : goal.returns
returns c = record { work_after = search replaces; within = search replaces-frame }
