-- WHAT THE CALLS KEEP: after compact and after merge every output has its old level, for every stimulus, and the result passes checking.
-- Assumes nothing.
use mathlib.Core.Path.{◌≡◌, sym, ap, ap₂, ◌∙◌, subst}
use mathlib.Core.Bool.{Bool, not}
use mathlib.Core.List.{List, [], ◌∷◌, ◌++◌, map, append_assoc}
use Prim.Native.Nat.{ℕ, ◌+◌, ◌*◌, ◌≤◌, ◌<◌}
use native.Mathlib.Omega.{arith}
use lib.Dec.{eqb, ltb}
use lib.ListN.{length, get_or, take, drop}
use lib.Seq.{take-append_seam, drop-append_seam}
use Rattle.std.specs.Prelude.{Ok}
use Rattle.logic.specs.Levels.{byte_of}
use Rattle.value.specs.declared.Net.{Net}
use Rattle.cell.specs.declared.Record.{Record}
use Rattle.cell.specs.declared.Cell.{Cell}
use Rattle.cell.specs.Bytes.{word32}
use Rattle.cell.specs.Records.{record_at, records_of, cell_record}
use Rattle.loops.proofs.Rank.{rank}
use Rattle.refusals.specs.declared.Refusal.TheVariants.{LevelCount, LevelValue}
use Rattle.refusals.specs.Refusals.{Stage, first_of, slot_by_slot, Verdict}
use Rattle.checking.specs.Checking.{check_stages}
use Rattle.refusals.proofs.Stages.{later-decides, passes-both}
use Rattle.netlist.specs.Shape.{visit_mut}
use Rattle.netlist.specs.Netlist.{Netlist, cell_in, encode}
use Rattle.compact.specs.Compact.{compact}
use Rattle.compact.proofs.Lists.{ticket-length}
use Rattle.merge.specs.Merge.{merge}
use Rattle.levels.specs.Evaluate.{input_slots, output_levels}
use Rattle.calls.specs.declared.Merged.{Merged}
use Rattle.calls.proofs.Answers.{answered}
use Rattle.calls.specs.Answers.{answer_by, merged_of}
use Rattle.calls.specs.Calls.{put, decoded, encoded, reply_after, room, check_verdict, compact_bytes, compact_verdict, compact_answer, compact_reply, merge_bytes, merge_verdict, merge_answer, merge_reply, level_bytes, stimulus_stages, level_verdict, level_answer, level_reply}
use Rattle.kept.specs.Kept.{Bytes, Kept}
use Rattle.kept.proofs.Sound.{Sound}
use Rattle.kept.proofs.Compact.{compact-each, compact-shorter, compact-sound}
use Rattle.kept.proofs.Outputs.{compact-inputs, compact-keeps-levels}
use Rattle.kept.proofs.Merged.{merge-each, merge-sound, merge-inputs, merge-shorter, merge-keeps-levels}
use Rattle.kept.proofs.Tickets.{ticket-work, ticket-few, ticket-count, ticket-record, ticket-sound}
use Rattle.kept.proofs.Passing.{encode-length}
use Rattle.kept.proofs.Bytes.{label_of, label_kept, label_small, Labelled, netlist-back, encoded-count, encoded-passes}

-- labels stay
abbrev Small : Cell → Type 0
Small c = label_of c < 4294967296

small-kept : (f : Net → Net) (c : Cell) → Small c → Small (visit_mut f c)
small-kept f c h = subst (λ (l : ℕ). l < 4294967296) (sym (label_kept f c)) h

-- an accepted ticket
module _ (words : ℕ) (t : List ℕ) (pass : check_verdict words t ≡ Ok tt) (bytes : Bytes t) where
  abbrev ticket : Netlist
  ticket = decoded t

  abbrev good-ticket : Sound ticket (rank (records_of t))
  good-ticket = ticket-sound words t pass

  word_small : (i : ℕ) → word32 t i < 4294967296
  unfolding word32
  word_small i = omega (arith, bytes i, bytes (i + 1), bytes (i + 2), bytes (i + 3))

  pub ticket-labelled : Labelled (decoded t)
  unfolding record_at
  ticket-labelled s l =
      let r : cell_record (get_or ticket.bits s 0) (cell_in ticket.cells s) ≡ record_at t s = ticket-record words t pass s l in
      label_small (get_or ticket.bits s 0) (cell_in ticket.cells s)
      (subst (λ (x : Record). x.a < 4294967296) (sym r) (word_small (s * 16 + 4)))
      (subst (λ (x : Record). x.b < 4294967296) (sym r) (word_small (s * 16 + 8)))

  -- a sound netlist as a ticket
  module _ (d : Netlist) (g : ℕ → ℕ) (good : Sound d g) (labelled : Labelled d) where
    result-passes : length d.cells ≤ length ticket.cells → check_verdict words (encoded d) ≡ Ok tt
    result-passes l =
        encoded-passes d g good labelled words (ticket-work words t pass) (omega (arith, l, encoded-count d g good labelled, ticket-few words t pass))

    same-stages : length (input_slots d.cells) ≡ length (input_slots ticket.cells) → (stimulus : List ℕ)
        → stimulus_stages (decoded (encoded d)).cells stimulus ≡ stimulus_stages ticket.cells stimulus
    unfolding stimulus_stages
    same-stages i stimulus =
        ap (λ (x : Netlist). stimulus_stages x.cells stimulus) (netlist-back d g good labelled)
        ∙ ap (λ (k : ℕ). (not (eqb (length stimulus) k), LevelCount) ∷ slot_by_slot (λ i. (ltb 2 (get_or stimulus i 0), LevelValue i) ∷ []) (length stimulus)) i

    module _ (fewer : length d.cells ≤ length ticket.cells) (inputs : length (input_slots d.cells) ≡ length (input_slots ticket.cells))
        (outputs : (stimulus : List ℕ) → output_levels d.cells stimulus ≡ output_levels ticket.cells stimulus) where
      same-levels : (stimulus : List ℕ) → level_bytes (encoded d) stimulus ≡ level_bytes t stimulus
      unfolding level_bytes
      same-levels stimulus =
          ap (λ (x : Netlist). map byte_of (output_levels x.cells stimulus)) (netlist-back d g good labelled) ∙ ap (map byte_of) (outputs stimulus)

      same-verdict : (stimulus reply : List ℕ) → level_verdict words (encoded d) stimulus reply ≡ level_verdict words t stimulus reply
      unfolding level_verdict check_verdict
      same-verdict stimulus reply =
          let rest : List ℕ → List Stage = λ u. stimulus_stages (decoded u).cells stimulus ++ (room reply (level_bytes u stimulus) ∷ []) in
          let past : (u : List ℕ) → check_verdict words u ≡ Ok tt → level_verdict words u stimulus reply ≡ first_of (rest u) =
          λ u e. ap first_of (append_assoc (check_stages words u) (stimulus_stages (decoded u).cells stimulus) (room reply (level_bytes u stimulus) ∷ []))
          ∙ later-decides (check_stages words u) (rest u) e in
          past (encoded d) (result-passes fewer)
          ∙ ap₂ (λ (xs : List Stage) (bs : List ℕ). first_of (xs ++ (room reply bs ∷ []))) (same-stages inputs stimulus) (same-levels stimulus)
          ∙ sym (past t pass)

      kept_by : Kept words t (encoded d)
      unfolding level_answer level_reply
      kept_by = record {
        passes = result-passes fewer;
        shorter =
            let n : length (encode d) ≡ length d.cells = encode-length d g good in
            omega (arith, ticket-length (encode d), ticket-count words t pass);
        levels = same-levels;
        answers = λ stimulus reply. ap₂ (λ v (bs : List ℕ). answer_by v (length bs)) (same-verdict stimulus reply) (same-levels stimulus);
        replies = λ stimulus reply. ap₂ (λ v (bs : List ℕ). reply_after v reply bs) (same-verdict stimulus reply) (same-levels stimulus);
      }

  abbrev ranks : ℕ → ℕ
  ranks = rank (records_of t)

  compact-kept : Kept words t (compact_bytes t)
  unfolding compact_bytes
  compact-kept =
      kept_by (compact ticket) _ (compact-sound ticket ranks good-ticket) (compact-each ticket ranks good-ticket Small small-kept ticket-labelled)
      (compact-shorter ticket ranks good-ticket) (compact-inputs ticket ranks good-ticket) (compact-keeps-levels ticket ranks good-ticket)

  merge-kept : Kept words t (merge_bytes t)
  unfolding merge_bytes
  merge-kept =
      kept_by (merge ticket).0 _ (merge-sound ticket ranks good-ticket) (merge-each ticket ranks good-ticket Small small-kept ticket-labelled)
      (merge-shorter ticket ranks good-ticket) (merge-inputs ticket ranks good-ticket) (merge-keeps-levels ticket ranks good-ticket)

-- over the definitions of the results
pub compact-keeps : (words : ℕ) (t : List ℕ) → Bytes t → check_verdict words t ≡ Ok tt → Kept words t (compact_bytes t)
compact-keeps words t bytes pass = compact-kept words t pass bytes

pub merge_keeps : (words : ℕ) (t : List ℕ) → Bytes t → check_verdict words t ≡ Ok tt → Kept words t (merge_bytes t)
merge_keeps words t bytes pass = merge-kept words t pass bytes

-- over the calls: where one answers with a count, that many bytes of the reply are such a ticket
pub written-first : (v : Verdict) (reply bytes : List ℕ) (n : ℕ) → v ≡ Ok tt → n ≡ length bytes → take n (reply_after v reply bytes) ≡ bytes
unfolding put
written-first v reply bytes n e q =
    ap₂ (λ (k : ℕ) (w : Verdict). take k (reply_after w reply bytes)) q e ∙ take-append_seam bytes (drop (length bytes) reply)

pub written-later : (v : Verdict) (reply bytes : List ℕ) (n : ℕ) → v ≡ Ok tt → n ≡ length bytes → drop n (reply_after v reply bytes) ≡ drop n reply
unfolding put
written-later v reply bytes n e q =
    ap₂ (λ (k : ℕ) (w : Verdict). drop k (reply_after w reply bytes)) q e ∙ drop-append_seam bytes (drop (length bytes) reply)
    ∙ ap (λ (k : ℕ). drop k reply) (sym q)

module _ (words : ℕ) (t reply : List ℕ) where
  -- a call that checks the ticket, then asks for room
  checked-first : (bytes : List ℕ) → first_of (check_stages words t ++ (room reply bytes ∷ [])) ≡ Ok tt → check_verdict words t ≡ Ok tt
  unfolding check_verdict
  checked-first bytes e = (passes-both (check_stages words t) (room reply bytes ∷ []) e).0

  pub compact-call : (n : ℕ) → Bytes t → compact_answer words t reply ≡ Ok n → Kept words t (take n (compact_reply words t reply))
  unfolding compact_answer compact_reply compact_verdict
  compact-call n bytes e =
      let v : Verdict = compact_verdict words t reply in
      let a = answered v (length (compact_bytes t)) n e in
      subst (Kept words t) (sym (written-first v reply (compact_bytes t) n a.0 a.1))
      (compact-keeps words t bytes (checked-first (compact_bytes t) a.0))

  pub merge-call : (n : ℕ) (changed : Bool) → Bytes t → merge_answer words t reply ≡ Ok (merged_of n changed) → Kept words t (take n (merge_reply words t reply))
  unfolding merge_answer merge_reply merge_verdict
  merge-call n changed bytes e =
      let v : Verdict = merge_verdict words t reply in
      let a = answered v (merged_of (length (merge_bytes t)) (merge (decoded t)).1) (merged_of n changed) e in
      subst (Kept words t) (sym (written-first v reply (merge_bytes t) n a.0 (ap (λ (told : Merged). told.bytes) a.1)))
      (merge_keeps words t bytes (checked-first (merge_bytes t) a.0))
