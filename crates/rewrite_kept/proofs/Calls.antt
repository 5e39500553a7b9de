-- WHAT REWRITING KEEPS: for every accepted ticket whose rewriting takes at most 1,024 slots, and every stimulus, an output that had level 0 or 1 has it
-- still. Assumes nothing.
use mathlib.Core.Path.{◌≡◌, sym, ap, ap₂, ◌∙◌, subst, subst₂}
use mathlib.Core.Bool.{not}
use mathlib.Core.List.{List, [], ◌∷◌, ◌++◌, map, append_assoc}
use Prim.Native.Nat.{ℕ, ◌/◌, ◌≤◌}
use native.Mathlib.Omega.{arith}
use lib.Dec.{eqb, ltb}
use lib.ListN.{length, get_or, take, drop}
use borrow.Author.Tests.{ltb-false}
use Rattle.std.specs.Prelude.{Ok}
use Rattle.logic.specs.Levels.{byte_of}
use Rattle.cell.specs.Records.{records_of}
use Rattle.loops.proofs.Rank.{rank}
use Rattle.refusals.specs.declared.Refusal.TheVariants.{LevelCount, LevelValue, ShortReply}
use Rattle.refusals.specs.Refusals.{Stage, first_of, slot_by_slot, Verdict}
use Rattle.checking.specs.Checking.{check_stages}
use Rattle.refusals.proofs.Stages.{later-decides, passes-both, passed-exactly}
use Rattle.netlist.specs.Netlist.{Netlist, netlist_of}
use Rattle.order.specs.Orders.{bit_deps, topo_sort}
use Rattle.design.specs.Queue.{applied, find_new_cell}
use Rattle.rewrite.specs.Rewriter.{Lookup}
use Rattle.rewrite.specs.Rewrite.{slots_of}
use Rattle.levels.specs.Evaluate.{input_slots, output_levels}
use Rattle.calls.specs.Answers.{answer_by}
use Rattle.calls.specs.Calls.{decoded, room, check_verdict, rewrite_run, rewrite_bytes, rewrite_stages, rewrite_verdict, rewrite_answer, rewrite_reply, level_bytes, stimulus_stages, level_verdict, level_answer, level_reply}
use Rattle.order_laws.specs.Ordered.{FedAfter}
use Rattle.accepted_laws.proofs.Accepted.{accepted-wired, accepted-fed}
use Rattle.kept.specs.Kept.{Bytes}
use Rattle.kept.proofs.Sound.{Sound}
use Rattle.kept.proofs.Tickets.{ticket-sound, ticket-passes}
use Rattle.kept.proofs.Calls.{written-first, written-later}
use Rattle.calls.proofs.Answers.{answered}
use Rattle.rewrite_sound.specs.Rewritten.{Rewritten}
use Rattle.rewrite_sound.proofs.Operands.{rank as rank-of}
use Rattle.rewrite_sound.proofs.Result.{Ran, before-sound, rewrite-inputs, rewrite-levels}
use Rattle.rewrite_sound.proofs.Calls.{RunsOn, rust-runs, ticket-ran, rewrite-gives, rewrite-call-by}
use Rattle.rewrite_kept.specs.Definite.{Definite, KeptDefinite}
use Rattle.rewrite_kept.proofs.Runs.{Looks, rust-looks}
use Rattle.rewrite_kept.proofs.Outputs.{applied-keeps}

-- as many inputs, and levels kept: the call `levels` answers alike, and keeps what is definite
module _ (words : ℕ) (t u : List ℕ) (pass : check_verdict words t ≡ Ok tt) (inputs : length (input_slots (decoded u).cells) ≡ length (input_slots (decoded t).cells))
    (levels : (stimulus : List ℕ) → Definite (level_bytes t stimulus) (level_bytes u stimulus)) where
  module _ (pass' : check_verdict words u ≡ Ok tt) (stimulus reply : List ℕ) where
    same-verdict : level_verdict words u stimulus reply ≡ level_verdict words t stimulus reply
    unfolding level_verdict check_verdict stimulus_stages
    same-verdict =
        let rest : ℕ → ℕ → List Stage =
        λ i k. ((not (eqb (length stimulus) i), LevelCount) ∷ slot_by_slot (λ j. (ltb 2 (get_or stimulus j 0), LevelValue j) ∷ []) (length stimulus))
        ++ ((ltb (length reply) k, ShortReply) ∷ []) in
        let past : (w : List ℕ) → check_verdict words w ≡ Ok tt
        → level_verdict words w stimulus reply ≡ first_of (rest (length (input_slots (decoded w).cells)) (length (level_bytes w stimulus))) =
        λ w e. ap first_of (append_assoc (check_stages words w) (stimulus_stages (decoded w).cells stimulus) (room reply (level_bytes w stimulus) ∷ []))
        ∙ later-decides (check_stages words w) (stimulus_stages (decoded w).cells stimulus ++ (room reply (level_bytes w stimulus) ∷ [])) e in
        past u pass' ∙ ap₂ (λ (i k : ℕ). first_of (rest i k)) inputs (levels stimulus).long ∙ sym (past t pass)

    same_answer : level_answer words u stimulus reply ≡ level_answer words t stimulus reply
    unfolding level_answer
    same_answer = ap₂ answer_by same-verdict (levels stimulus).long

    -- where the call answers with a count
    module _ (n : ℕ) (answer : level_answer words t stimulus reply ≡ Ok n) where
      counted : (level_verdict words t stimulus reply ≡ Ok tt) × (n ≡ length (level_bytes t stimulus))
      unfolding level_answer
      counted = answered (level_verdict words t stimulus reply) (length (level_bytes t stimulus)) n answer

      passes : level_verdict words u stimulus reply ≡ Ok tt
      passes = same-verdict ∙ counted.0

      count-is : n ≡ length (level_bytes u stimulus)
      count-is = counted.1 ∙ sym (levels stimulus).long

      kept-reply : Definite (take n (level_reply words t stimulus reply)) (take n (level_reply words u stimulus reply))
      unfolding level_reply
      kept-reply =
          subst₂ (λ (bs cs : List ℕ). Definite bs cs)
          (sym (written-first (level_verdict words t stimulus reply) reply (level_bytes t stimulus) n counted.0 counted.1))
          (sym (written-first (level_verdict words u stimulus reply) reply (level_bytes u stimulus) n passes count-is)) (levels stimulus)

      same-later : drop n (level_reply words u stimulus reply) ≡ drop n (level_reply words t stimulus reply)
      unfolding level_reply
      same-later =
          written-later (level_verdict words u stimulus reply) reply (level_bytes u stimulus) n passes count-is
          ∙ sym (written-later (level_verdict words t stimulus reply) reply (level_bytes t stimulus) n counted.0 counted.1)

  kept_by : (length u / 16 ≤ 512 → check_verdict words u ≡ Ok tt) → KeptDefinite words t u
  kept_by accepted = record {
    levels = levels;
    answers = λ l stimulus reply. same_answer (accepted (omega arith)) stimulus reply;
    replies = λ l stimulus reply. kept-reply (accepted (omega arith)) stimulus reply;
    later = λ l stimulus reply. same-later (accepted (omega arith)) stimulus reply;
  }

-- an accepted ticket
module _ (words : ℕ) (t : List ℕ) (pass : check_verdict words t ≡ Ok tt) where
  ticket-fed : FedAfter (length (decoded t).cells) (bit_deps (decoded t).cells) [] (topo_sort (decoded t).cells)
  unfolding netlist_of
  ticket-fed = accepted-fed (records_of t) (ticket-passes words t pass)

  pub ticket-looks : Looks find_new_cell (decoded t).cells
  unfolding netlist_of
  ticket-looks = rust-looks (decoded t).cells (accepted-wired (records_of t) (ticket-passes words t pass))

  -- its rewriting, with any look-up that gives cells of the right level
  pub rewritten-kept : (look : Lookup) → Looks look (decoded t).cells → RunsOn look t → slots_of (rewrite_run look t) ≤ 1024 → (u : List ℕ) → Rewritten look words t u
      → KeptDefinite words t u
  unfolding level_bytes
  rewritten-kept look looks runs few u is = kept_by words t u pass inputs levels is.accepted
    where
      d : Netlist
      d = decoded t

      ranks : ℕ → ℕ
      ranks = rank (records_of t)

      sound : Sound d ranks
      sound = ticket-sound words t pass

      x : Ran look d.cells
      x = ticket-ran words t pass look runs few

      inputs : length (input_slots (decoded u).cells) ≡ length (input_slots d.cells)
      inputs = ap (λ (e : Netlist). length (input_slots e.cells)) is.back ∙ rewrite-inputs look d ranks sound x

      bytes : (stimulus : List ℕ) → level_bytes u stimulus ≡ map byte_of (output_levels (applied x.last.design) stimulus)
      bytes stimulus =
          ap (λ (e : Netlist). map byte_of (output_levels e.cells stimulus)) is.back ∙ ap (map byte_of) (rewrite-levels look d ranks sound x stimulus)

      levels : (stimulus : List ℕ) → Definite (level_bytes t stimulus) (level_bytes u stimulus)
      levels stimulus =
          subst (Definite (level_bytes t stimulus)) (sym (bytes stimulus))
          (applied-keeps look d.cells looks ticket-fed ranks sound.ranked x (rank-of x.last) (before-sound look d ranks sound x).ranked stimulus)

-- over the definition of the result, with the Rust's look-up
pub rewrite-keeps : (words : ℕ) (t : List ℕ) → Bytes t → check_verdict words t ≡ Ok tt → slots_of (rewrite_run find_new_cell t) ≤ 1024
    → KeptDefinite words t (rewrite_bytes find_new_cell t)
rewrite-keeps words t bytes pass few =
    rewritten-kept words t pass find_new_cell (ticket-looks words t pass) (rust-runs words t pass) few (rewrite_bytes find_new_cell t) (rewrite-gives words t bytes pass few)

-- over the call: where it answers with a count, that many bytes of the reply are such a ticket
module _ (look : Lookup) (words : ℕ) (t reply : List ℕ) (runs : check_verdict words t ≡ Ok tt → RunsOn look t) (looks : check_verdict words t ≡ Ok tt → Looks look (decoded t).cells) where
  pub rewrite-call-kept : (n : ℕ) → Bytes t → rewrite_answer look words t reply ≡ Ok n → KeptDefinite words t (take n (rewrite_reply look words t reply))
  unfolding rewrite_answer rewrite_verdict rewrite_stages check_verdict
  rewrite-call-kept n bytes e =
      let v : Verdict = rewrite_verdict look words t reply in
      let a = answered v (length (rewrite_bytes look t)) n e in
      let stages = passes-both (check_stages words t) (rewrite_stages look t reply) a.0 in
      let few : slots_of (rewrite_run look t) ≤ 1024 = ltb-false 1024 (slots_of (rewrite_run look t)) ((passed-exactly (rewrite_stages look t reply)).0 stages.1 0 (omega arith)) in
      rewritten-kept words t stages.0 look (looks stages.0) (runs stages.0) few (take n (rewrite_reply look words t reply))
      (rewrite-call-by look words t reply runs n bytes e)

pub rewrite-call : (words : ℕ) (t reply : List ℕ) (n : ℕ) → Bytes t → rewrite_answer find_new_cell words t reply ≡ Ok n
    → KeptDefinite words t (take n (rewrite_reply find_new_cell words t reply))
rewrite-call words t reply = rewrite-call-kept find_new_cell words t reply (rust-runs words t) (ticket-looks words t)
