use Rattle.netlist.proofs.Frames.{word-inside, word-past}
use Rattle.netlist.proofs.area.Area.get_or.Goals as goal

pub returns-then-s-n : goal.returns-then-s-n
returns-then-s-n c = search word-inside

pub returns-else-s-n : goal.returns-else-s-n
returns-else-s-n c = search word-past
