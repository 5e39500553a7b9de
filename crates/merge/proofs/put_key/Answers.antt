-- `merge::put_key` meets its contract. Assumes nothing.
use Rattle.merge.proofs.Cells.{key-put}
use Rattle.merge.proofs.put_key.Goals as goal

pub returns : goal.returns
returns c = search key-put
