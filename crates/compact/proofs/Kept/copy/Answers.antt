use Rattle.compact.proofs.Compacting.{copied, copied-inside, passed}
use Rattle.compact.proofs.Kept.copy.Goals as goal

pub write_record-requires : goal.write_record-requires
write_record-requires c = search copied-inside

pub returns-then-has : goal.returns-then-has
returns-then-has c = search copied

pub returns-else-has : goal.returns-else-has
returns-else-has c = search passed
