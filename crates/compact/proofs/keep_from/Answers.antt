use Rattle.compact.proofs.Keeping.{from-root, from-none}
use Rattle.compact.proofs.keep_from.Goals as goal

pub returns-then-is_root : goal.returns-then-is_root
returns-then-is_root c = search from-root

pub returns : goal.returns
returns c = search from-none
