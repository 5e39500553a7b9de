use borrow.Author.Rules.{rules}
use Rattle.std.specs.Prelude.{length}
use Rattle.design.specs.Queue.{find_new_cell}
use Rattle.calls.specs.Calls.{rewrite_bytes, rewrite_stages, rewrite_verdict, rewrite_answer, rewrite_reply}
use Rattle.rewrite_call.proofs.rewrite.Goals as goal

pub returns : goal.returns
unfolding rewrite_verdict rewrite_answer rewrite_reply
returns c =
    let bytes = rewrite_bytes find_new_cell c.args.ticket.now in
    let all = c.with_work.ensures (length bytes) (rewrite_stages find_new_cell c.args.ticket.now c.args.reply.now) bytes (λ n ws ws' reply' r p loaded g. search rules) in
    record { value = all.said; reply_after = all.left; work_after = all.wiped }
