-- `levels_call::written` meets its contract. Assumes nothing.
use Rattle.levels_call.proofs.Answering.{short-reply, reply-room, levels-written}
use borrow.Author.Rules.{rules}
use Rattle.levels_call.proofs.written.Goals as goal

pub returns-then-reply-count : goal.returns-then-reply-count
returns-then-reply-count c = search short-reply

pub write_levels-requires : goal.write_levels-requires
write_levels-requires c = record { n_bound = search rules; work_in_bounds = search reply-room }

pub returns : goal.returns
returns c = search levels-written
