-- `loops::find_loop` meets its contract. Assumes nothing.
use Rattle.loops.proofs.Search.{free-finds}
use Rattle.loops.proofs.find_loop.Goals as goal

pub returns-then-walk_all : goal.returns-then-walk_all
returns-then-walk_all c = search free-finds
