use Rattle.compact.proofs.Compacting.{writing-none, writing-room, writing_more, writing-all}
use borrow.Author.Rules.{rules}
use Rattle.compact.proofs.compact.Goals as goal

pub loop-s-init : goal.loop-s-init
loop-s-init c = search writing-none

pub copy-requires : goal.copy-requires
copy-requires c = record { s_lt_n = search rules; total_in_bounds = search writing-room }

pub loop-s-preserved : goal.loop-s-preserved
loop-s-preserved c = search writing_more

pub returns : goal.returns
returns c = search writing-all
