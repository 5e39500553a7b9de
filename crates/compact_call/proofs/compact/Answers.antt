use borrow.Author.Rules.{rules}
use Rattle.std.specs.Prelude.{length, [], ◌∷◌}
use Rattle.calls.specs.Calls.{room, compact_bytes, compact_verdict, compact_answer, compact_reply}
use Rattle.compact_call.proofs.Compacting.{loaded-delivers}
use Rattle.compact_call.proofs.compact.Goals as goal

pub returns : goal.returns
unfolding compact_verdict compact_answer compact_reply
returns c =
    let bytes = compact_bytes c.args.ticket.now in
    let all = c.with_work.ensures (length bytes) (room c.args.reply.now bytes ∷ []) bytes (λ n ws ws' reply' r p loaded g. loaded-delivers _ _ _ _ _ _ _ loaded (search rules)) in
    record { value = all.said; reply_after = all.left; work_after = all.wiped }
