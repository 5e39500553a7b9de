-- ONE REWRITING IS ENOUGH: the statement of specs/Repeat.antt, for every ticket without and-inverters. Assumes nothing.
use mathlib.Core.Path.{◌≡◌, sym, ap, ◌∙◌}
use mathlib.Core.List.{List}
use Prim.Native.Nat.{ℕ, ◌≤◌}
use native.Mathlib.Omega.{arith}
use lib.ListN.{length}
use borrow.Author.Tests.{ltb-false}
use Rattle.refusals.specs.Refusals.{Verdict}
use Rattle.std.specs.Prelude.{Ok}
use Rattle.cell.specs.Records.{records_of}
use Rattle.loops.proofs.Rank.{rank}
use Rattle.checking.specs.Checking.{check_stages}
use Rattle.refusals.proofs.Stages.{passes-both, passed-exactly}
use Rattle.netlist.specs.Netlist.{Netlist}
use Rattle.design.specs.Queue.{find_new_cell}
use Rattle.merge.specs.Merge.{merge}
use Rattle.rewrite.specs.Rewrite.{slots_of, rewrite}
use Rattle.calls.specs.Calls.{decoded, check_verdict, merge_bytes, merge_verdict, merge_answer, merge_reply, rewrite_run, rewrite_bytes, rewrite_stages, rewrite_verdict, rewrite_answer, rewrite_reply}
use Rattle.kept.specs.Kept.{Bytes}
use Rattle.kept.proofs.Sound.{Sound}
use Rattle.kept.proofs.Tickets.{ticket-sound}
use Rattle.kept.proofs.Calls.{ticket-labelled, written-first}
use Rattle.calls.specs.declared.Merged.{Merged}
use Rattle.calls.specs.Answers.{merged_of}
use Rattle.calls.proofs.Answers.{answered}
use Rattle.rewrite_sound.proofs.Result.{Ran, rewrite-ranks, rewrite-shorter, rewrite-labelled}
use Rattle.rewrite_sound.proofs.Calls.{rust-runs, ticket-ran}
use Rattle.rewrite_normal.proofs.Result.{rewrite-normal}
use Rattle.repeat.specs.Repeat.{NoAndInverter, Rewriting, Merging, MergingKeeps, OneIsEnough}
use Rattle.repeat.proofs.Plain.{ticket-plain}
use Rattle.repeat.proofs.Results.{Result, merge-bytes, merge-answers, next-answers, next-result, next-pairs, next-records}

-- an accepted call: the ticket passed, within 1,024 slots, and the result is what was to be written
module _ (t u : List ℕ) (call : Rewriting t u) where
  abbrev verdict : Verdict
  verdict = rewrite_verdict find_new_cell call.words t call.reply

  passed : (verdict ≡ Ok tt) × (call.count ≡ length (rewrite_bytes find_new_cell t))
  unfolding rewrite_answer
  passed = answered verdict (length (rewrite_bytes find_new_cell t)) call.count call.accepted

  result : u ≡ rewrite_bytes find_new_cell t
  unfolding rewrite_reply
  result = sym call.result ∙ written-first verdict call.reply (rewrite_bytes find_new_cell t) call.count passed.0 passed.1

  checked : check_verdict call.words t ≡ Ok tt
  unfolding check_verdict rewrite_verdict
  checked = (passes-both (check_stages call.words t) (rewrite_stages find_new_cell t call.reply) passed.0).0

  few : slots_of (rewrite_run find_new_cell t) ≤ 1024
  unfolding rewrite_verdict rewrite_stages
  few =
      let stages = rewrite_stages find_new_cell t call.reply in
      ltb-false 1024 (slots_of (rewrite_run find_new_cell t))
      ((passed-exactly stages).0 (passes-both (check_stages call.words t) stages passed.0).1 0 (omega arith))

-- merging a result
module _ (t : List ℕ) (r : Result t) where
  module _ (u : List ℕ) (call : Merging t u) where
    abbrev merge-verdict : Verdict
    merge-verdict = merge_verdict call.words t call.reply

    merged-all : (merge-verdict ≡ Ok tt) × (call.count ≡ length (merge_bytes t))
    unfolding merge_answer
    merged-all =
        let a = answered merge-verdict (merged_of (length (merge_bytes t)) (merge (decoded t)).1) (merged_of call.count call.changed) call.accepted in
        (a.0, ap (λ (told : Merged). told.bytes) a.1)

    merged-same : u ≡ t
    unfolding merge_reply
    merged-same =
        sym call.result ∙ written-first merge-verdict call.reply (merge_bytes t) call.count merged-all.0 merged-all.1 ∙ merge-bytes t r

  keeps : MergingKeeps t
  keeps = record { long = λ u call. (merged-all u call).1 ∙ ap length (merge-bytes t r); same = merged-same; answers = merge-answers t r }

-- the first result
first-result : (t u : List ℕ) → Bytes t → NoAndInverter t → Rewriting t u → Result u
unfolding rewrite_bytes rewrite_run
first-result t u bytes none call =
    let words : ℕ = call.words in
    let pass : check_verdict words t ≡ Ok tt = checked t u call in
    let d : Netlist = decoded t in
    let ranks : ℕ → ℕ = rank (records_of t) in
    let sound : Sound d ranks = ticket-sound words t pass in
    let x : Ran find_new_cell d.cells = ticket-ran words t pass find_new_cell (rust-runs words t pass) (few t u call) in
    record {
      netlist = rewrite find_new_cell d;
      ranks = rewrite-ranks find_new_cell d ranks sound x;
      normal = rewrite-normal d ranks sound (ticket-plain words t pass none) x;
      labelled = rewrite-labelled find_new_cell d ranks sound x (ticket-labelled words t pass bytes);
      small = omega (arith, rewrite-shorter find_new_cell d ranks sound x, x.few);
      is = result t u call;
    }

-- THE LAW
pub one-rewriting : (t : List ℕ) → Bytes t → NoAndInverter t → OneIsEnough t
one-rewriting t bytes none = record {
  again = λ u v first second. next-records u v (once u first) (result u v second) (few u v second);
  again_read = λ u v first second. next-pairs u v (once u first) (result u v second) (few u v second);
  merging_first = λ u first. keeps u (once u first);
  merging_second = λ u v first second. keeps v (twice u v first second);
  answers_again = λ u first. next-answers u (once u first);
}
  where
    once : (u : List ℕ) → Rewriting t u → Result u
    once u first = first-result t u bytes none first

    twice : (u v : List ℕ) → Rewriting t u → Rewriting u v → Result v
    twice u v first second = next-result u (once u first) v (result u v second) (few u v second)
