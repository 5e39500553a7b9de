use borrow.Author.Rules.{rules}
use Rattle.std.specs.Prelude.{length}
use Rattle.calls.specs.Calls.{level_bytes, level_answer, level_reply}
use Rattle.levels_call.specs.inner.Levels.{level_stages}
use Rattle.levels_call.proofs.Answering.{in_turn}
use Rattle.levels_call.proofs.levels.Goals as goal

pub returns : goal.returns
unfolding level_answer level_reply
returns c =
    let t = c.args.ticket.now in
    let bytes = level_bytes t c.args.stimulus.now in
    let all = c.with_work.ensures (length bytes) (level_stages t c.args.stimulus.now c.args.reply.now) bytes (λ n ws ws' reply' r p loaded g. search rules) in
    record { value = rw (← in_turn) all.said; reply_after = rw (← in_turn) all.left; work_after = all.wiped }
