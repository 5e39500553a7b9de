use Rattle.levels.proofs.Levels.{updated, updated-within, not-updated}
use Rattle.netlist.proofs.Frames.{within_none}
use Rattle.levels.proofs.update.Goals as goal

pub returns-then-s-n : goal.returns-then-s-n
returns-then-s-n c = record { work_after = search updated; within = search updated-within }

pub returns-else-s-n : goal.returns-else-s-n
returns-else-s-n c = record { work_after = search not-updated; within = search within_none }
