-- A REPLY THAT IS LONG ENOUGH: `reply-holds`. Assumes nothing.
use mathlib.Core.Path.{◌≡◌, refl, sym, ap, ◌∙◌, subst}
use mathlib.Core.Bool.{Bool, true, false}
use mathlib.Core.List.{List, [], ◌∷◌, ◌++◌, map}
use Prim.Native.Nat.{ℕ, ◌*◌, ◌≤◌}
use native.Mathlib.Omega.{arith}
use lib.Dec.{ltb}
use lib.ListN.{length, get_or, length-map}
use borrow.Author.Tests.{le-ltb, ltb-false}
use Rattle.std.specs.Prelude.{Ok, Err}
use Rattle.logic.specs.declared.Trit.{Trit}
use Rattle.logic.specs.declared.Trit.TheVariants.{Undef}
use Rattle.logic.specs.Levels.{byte_of}
use Rattle.cell.specs.Records.{records_of}
use Rattle.loops.proofs.Rank.{rank}
use Rattle.refusals.specs.declared.Refusal.TheVariants.{SlotsExhausted}
use Rattle.refusals.specs.Refusals.{Stage, first_of, Verdict}
use Rattle.checking.specs.Checking.{check_stages}
use Rattle.refusals.proofs.Stages.{first-refuses, first_passes, no-stage, passes-both}
use Rattle.netlist.specs.Shape.{is_output}
use Rattle.netlist.specs.Netlist.{Netlist, cell_in, encode}
use Rattle.design.specs.Queue.{find_new_cell}
use Rattle.compact.specs.Compact.{compact}
use Rattle.compact.proofs.Lists.{ticket-length}
use Rattle.merge.specs.Merge.{merge}
use Rattle.rewrite.specs.Rewrite.{slots_of, rewrite}
use Rattle.levels.specs.Evaluate.{given_levels, levels, output_slots, output_levels}
use Rattle.calls.specs.Answers.{answer_by, written_figures, merged_figures, merged_of}
use Rattle.calls.specs.Calls.{decoded, encoded, room, check_verdict, compact_bytes, compact_verdict, compact_answer, merge_bytes, merge_verdict, merge_answer, rewrite_run, rewrite_bytes, rewrite_stages, rewrite_verdict, rewrite_answer, level_bytes, stimulus_stages, level_verdict, level_answer}
use Rattle.kept.proofs.Sound.{Sound}
use Rattle.kept.proofs.Chosen.{chosen, count-le}
use Rattle.kept.proofs.Compact.{compact-shorter, compact-sound}
use Rattle.kept.proofs.Merged.{merge-shorter, merge-sound}
use Rattle.kept.proofs.Passing.{encode-length}
use Rattle.kept.proofs.Tickets.{ticket-few, ticket-count, ticket-sound}
use Rattle.rewrite_sound.proofs.Result.{Ran, rewrite-ranks, rewrite-sound, rewrite-shorter}
use Rattle.rewrite_sound.proofs.Calls.{rust-runs, ticket-ran}
use Rattle.reply_room.specs.Room.{NotShort, ReplyHolds}
use Rattle.reply_room.proofs.Early.{Other, early-then, check-early, both-early}

-- ---- how long results are
encoded-long : (d : Netlist) (g : ℕ → ℕ) → Sound d g → length (encoded d) ≡ length d.cells * 16
encoded-long d g good = ticket-length (encode d) ∙ ap (λ (k : ℕ). k * 16) (encode-length d g good)

module _ (words : ℕ) (t : List ℕ) (pass : check_verdict words t ≡ Ok tt) where
  abbrev d : Netlist
  d = decoded t

  abbrev ranks : ℕ → ℕ
  ranks = rank (records_of t)

  good : Sound d ranks
  good = ticket-sound words t pass

  compact-long : (length (compact_bytes t) ≤ length t) × (length (compact_bytes t) ≤ 8192)
  unfolding compact_bytes
  compact-long =
      let e : length (encoded (compact d)) ≡ length (compact d).cells * 16 = encoded-long (compact d) _ (compact-sound d ranks good) in
      let s : length (compact d).cells ≤ length d.cells = compact-shorter d ranks good in
      (omega (arith, e, s, ticket-count words t pass), omega (arith, e, s, ticket-few words t pass))

  merge-long : (length (merge_bytes t) ≤ length t) × (length (merge_bytes t) ≤ 8192)
  unfolding merge_bytes
  merge-long =
      let e : length (encoded (merge d).0) ≡ length (merge d).0.cells * 16 = encoded-long (merge d).0 _ (merge-sound d ranks good) in
      let s : length (merge d).0.cells ≤ length d.cells = merge-shorter d ranks good in
      (omega (arith, e, s, ticket-count words t pass), omega (arith, e, s, ticket-few words t pass))

  rewrite-long : slots_of (rewrite_run find_new_cell t) ≤ 1024 → length (rewrite_bytes find_new_cell t) ≤ 16384
  unfolding rewrite_bytes rewrite_run
  rewrite-long few =
      let x : Ran find_new_cell d.cells = ticket-ran words t pass find_new_cell (rust-runs words t pass) few in
      omega (
        arith,
        few,
        ap slots_of x.is,
        rewrite-shorter find_new_cell d ranks good x,
        encoded-long (rewrite find_new_cell d) (rewrite-ranks find_new_cell d ranks good x) (rewrite-sound find_new_cell d ranks good x),
      )

  levels-long : (stimulus : List ℕ) → length (level_bytes t stimulus) ≤ 512
  unfolding level_bytes output_levels output_slots chosen
  levels-long stimulus =
      let ls : List Trit = levels d.cells (given_levels d.cells stimulus) in
      let outs : List ℕ = output_slots d.cells in
      omega (
        arith,
        length-map (map (λ s. get_or ls s Undef) outs) byte_of,
        length-map outs (λ s. get_or ls s Undef),
        count-le (λ s. is_output (cell_in d.cells s)) (length d.cells),
        ticket-few words t pass,
      )

-- ---- the last stage
module _ (reply bytes : List ℕ) (h : length bytes ≤ length reply) where
  enough : first_of (room reply bytes ∷ []) ≡ Ok tt
  enough = first_passes (room reply bytes) [] (le-ltb (length reply) (length bytes) h) ∙ no-stage

  pub room-enough : Other (first_of (room reply bytes ∷ []))
  room-enough = subst Other (sym enough) tt

-- ---- a verdict that is not 12, in the call's answer
written-other : (v : Verdict) (n : ℕ) → Other v → NotShort (written_figures (answer_by v n))
written-other (Ok u) n o e = absurd (omega (arith, e))
written-other (Err r) n o e = absurd (omega (arith, o, e))

merged-other : (v : Verdict) (n : ℕ) (b : Bool) → Other v → NotShort (merged_figures (answer_by v (merged_of n b)))
merged-other (Ok u) n b o e = absurd (omega (arith, e))
merged-other (Err r) n b o e = absurd (omega (arith, o, e))

module _ (words : ℕ) (t reply : List ℕ) where
  -- a call that checks the ticket, then asks for room
  checked-room : (bytes : List ℕ) → (check_verdict words t ≡ Ok tt → length bytes ≤ length reply) → Other (first_of (check_stages words t ++ (room reply bytes ∷ [])))
  unfolding check_verdict
  checked-room bytes h = early-then (check_stages words t) (room reply bytes ∷ []) (check-early words t) (λ p. room-enough reply bytes (h p))

  compact-other : (check_verdict words t ≡ Ok tt → length (compact_bytes t) ≤ length reply) → NotShort (written_figures (compact_answer words t reply))
  unfolding compact_answer compact_verdict
  compact-other h = written-other (compact_verdict words t reply) (length (compact_bytes t)) (checked-room (compact_bytes t) h)

  merge-other : (check_verdict words t ≡ Ok tt → length (merge_bytes t) ≤ length reply) → NotShort (merged_figures (merge_answer words t reply))
  unfolding merge_answer merge_verdict
  merge-other h = merged-other (merge_verdict words t reply) (length (merge_bytes t)) (merge (decoded t)).1 (checked-room (merge_bytes t) h)

  -- 9 stands before
  abbrev slots : ℕ
  slots = slots_of (rewrite_run find_new_cell t)

  rewrite-room : (slots ≤ 1024 → length (rewrite_bytes find_new_cell t) ≤ length reply) → Other (first_of (rewrite_stages find_new_cell t reply))
  unfolding rewrite_stages
  rewrite-room h = go (ltb 1024 slots) refl
    where
      full : Stage
      full = (ltb 1024 slots, SlotsExhausted)

      last : Stage
      last = room reply (rewrite_bytes find_new_cell t)

      go : (b : Bool) → ltb 1024 slots ≡ b → Other (first_of (full ∷ last ∷ []))
      go true e = subst Other (sym (first-refuses full (last ∷ []) e)) (omega arith)
      go false e = subst Other (sym (first_passes full (last ∷ []) e)) (room-enough reply (rewrite_bytes find_new_cell t) (h (ltb-false 1024 slots e)))

  rewrite-other : (check_verdict words t ≡ Ok tt → slots ≤ 1024 → length (rewrite_bytes find_new_cell t) ≤ length reply)
      → NotShort (written_figures (rewrite_answer find_new_cell words t reply))
  unfolding rewrite_answer rewrite_verdict check_verdict
  rewrite-other h =
      written-other (rewrite_verdict find_new_cell words t reply) (length (rewrite_bytes find_new_cell t))
      (early-then (check_stages words t) (rewrite_stages find_new_cell t reply) (check-early words t) (λ p. rewrite-room (h p)))

  levels-other : (stimulus : List ℕ) → (check_verdict words t ≡ Ok tt → length (level_bytes t stimulus) ≤ length reply)
      → NotShort (written_figures (level_answer words t stimulus reply))
  unfolding level_answer level_verdict check_verdict
  levels-other stimulus h =
      let stages : List Stage = stimulus_stages (decoded t).cells stimulus in
      let bytes : List ℕ = level_bytes t stimulus in
      written-other (level_verdict words t stimulus reply) (length bytes)
      (early-then (check_stages words t ++ stages) (room reply bytes ∷ []) (both-early words t (decoded t).cells stimulus)
      (λ p. room-enough reply bytes (h (passes-both (check_stages words t) stages p).0)))

  -- THE LAW, for every ticket, work slice and reply slice
  pub reply-holds : ReplyHolds words t reply
  reply-holds = record {
    compact = λ h. compact-other (λ p. omega (arith, h, (compact-long words t p).0));
    compact_any = λ h. compact-other (λ p. omega (arith, h, (compact-long words t p).1));
    merge = λ h. merge-other (λ p. omega (arith, h, (merge-long words t p).0));
    merge_any = λ h. merge-other (λ p. omega (arith, h, (merge-long words t p).1));
    rewrite = λ h. rewrite-other (λ p few. omega (arith, h, rewrite-long words t p few));
    levels = λ stimulus h. levels-other stimulus (λ p. omega (arith, h, levels-long words t p stimulus));
  }
