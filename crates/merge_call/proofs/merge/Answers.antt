use borrow.Author.Rules.{rules}
use Rattle.std.specs.Prelude.{[], ◌∷◌}
use Rattle.calls.specs.Calls.{room, merge_bytes, merge_verdict, merge_answer, merge_reply}
use Rattle.merge_call.specs.inner.Merge.{merge_told}
use Rattle.merge_call.proofs.merge.Goals as goal

pub returns : goal.returns
unfolding merge_verdict merge_answer merge_reply
returns c =
    let bytes = merge_bytes c.args.ticket.now in
    let all = c.with_work.ensures (merge_told c.args.ticket.now) (room c.args.reply.now bytes ∷ []) bytes (λ n ws ws' reply' r p loaded g. search rules) in
    record { value = all.said; reply_after = all.left; work_after = all.wiped }
