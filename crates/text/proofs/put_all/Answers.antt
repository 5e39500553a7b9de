use Rattle.std.proofs.Common.{arith}
use Rattle.text.proofs.Text.{copied}
use Rattle.text.proofs.put_all.Goals as goal

pub returns : goal.returns
returns c = copied _ _ _ _ _ c.copy_from_slice.ensures.after (omega arith) c.requires
