-- The five calls (paper, "When a ticket is turned away"): for every ticket, work slice, reply slice and stimulus the verdict, the answer, and
-- what is in the reply at return. Assumes nothing: these are definitions.
use Rattle.refusals.specs.declared.Refusal.{Refusal}
use Rattle.std.specs.Prelude.{not, List, [], ◌∷◌, ◌++◌, map, ℕ, ◌/◌, eqb, ltb, length, get_or, drop, Ok, Err, Result}
use Rattle.logic.specs.Levels.{byte_of}
use Rattle.cell.specs.declared.Cell.{Cell}
use Rattle.cell.specs.Records.{records_of}
use Rattle.netlist.specs.Netlist.{Netlist, netlist_of, encode, ticket_of}
use Rattle.compact.specs.Compact.{compact}
use Rattle.merge.specs.Merge.{merge}
use Rattle.rewrite.specs.Rewriter.{Lookup}
use Rattle.rewrite.specs.Rewrite.{Run, run, slots_of, rewrite}
use Rattle.levels.specs.Evaluate.{input_slots, output_levels}
use Rattle.refusals.specs.declared.Refusal.TheVariants.{SlotsExhausted, LevelCount, LevelValue, ShortReply}
use Rattle.refusals.specs.Refusals.{Stage, first_of, slot_by_slot, Verdict}
use Rattle.checking.specs.Checking.{check_stages, gate_count}
use Rattle.calls.specs.declared.Counts.{Counts}
use Rattle.calls.specs.declared.Merged.{Merged}
use Rattle.calls.specs.Answers.{answer_by, merged_of, counts_of}

-- the reply slice at return: what is written, and the content behind it
unfoldable pub put : List ℕ → List ℕ → List ℕ
put reply bytes = bytes ++ drop (length bytes) reply

-- a refusal writes nothing
abbrev pub reply_after : Verdict → List ℕ → List ℕ → List ℕ
reply_after (Ok u) reply bytes = put reply bytes
reply_after (Err r) reply bytes = reply

-- 12: the reply is too short for the result
abbrev pub room : List ℕ → List ℕ → Stage
room reply bytes = (ltb (length reply) (length bytes), ShortReply)

-- the netlist of a ticket, and the ticket of a netlist
abbrev pub decoded : List ℕ → Netlist
decoded t = netlist_of (records_of t)

abbrev pub encoded : Netlist → List ℕ
encoded d = ticket_of (encode d)

-- checking
unfoldable pub check_verdict : ℕ → List ℕ → Verdict
check_verdict words t = first_of (check_stages words t)

unfoldable pub check_answer : ℕ → List ℕ → Result Counts Refusal
check_answer words t = answer_by (check_verdict words t) (counts_of (length t / 16) (gate_count (records_of t)))

-- compacting
unfoldable pub compact_bytes : List ℕ → List ℕ
compact_bytes t = encoded (compact (decoded t))

unfoldable pub compact_verdict : ℕ → List ℕ → List ℕ → Verdict
compact_verdict words t reply = first_of (check_stages words t ++ (room reply (compact_bytes t) ∷ []))

unfoldable pub compact_answer : ℕ → List ℕ → List ℕ → Result ℕ Refusal
compact_answer words t reply = answer_by (compact_verdict words t reply) (length (compact_bytes t))

unfoldable pub compact_reply : ℕ → List ℕ → List ℕ → List ℕ
compact_reply words t reply = reply_after (compact_verdict words t reply) reply (compact_bytes t)

-- merging
unfoldable pub merge_bytes : List ℕ → List ℕ
merge_bytes t = encoded (merge (decoded t)).0

unfoldable pub merge_verdict : ℕ → List ℕ → List ℕ → Verdict
merge_verdict words t reply = first_of (check_stages words t ++ (room reply (merge_bytes t) ∷ []))

unfoldable pub merge_answer : ℕ → List ℕ → List ℕ → Result Merged Refusal
merge_answer words t reply = answer_by (merge_verdict words t reply) (merged_of (length (merge_bytes t)) (merge (decoded t)).1)

unfoldable pub merge_reply : ℕ → List ℕ → List ℕ → List ℕ
merge_reply words t reply = reply_after (merge_verdict words t reply) reply (merge_bytes t)

-- rewriting with a look-up; the Rust's is `find_new_cell`
unfoldable pub rewrite_run : Lookup → List ℕ → Run
rewrite_run look t = run look (decoded t).cells

unfoldable pub rewrite_bytes : Lookup → List ℕ → List ℕ
rewrite_bytes look t = encoded (rewrite look (decoded t))

-- 9: more than 1,024 slots, the ticket's and each added cell's, are needed
unfoldable pub rewrite_stages : Lookup → List ℕ → List ℕ → List Stage
rewrite_stages look t reply =
    (ltb 1024 (slots_of (rewrite_run look t)), SlotsExhausted) ∷ room reply (rewrite_bytes look t) ∷ []

unfoldable pub rewrite_verdict : Lookup → ℕ → List ℕ → List ℕ → Verdict
rewrite_verdict look words t reply = first_of (check_stages words t ++ rewrite_stages look t reply)

unfoldable pub rewrite_answer : Lookup → ℕ → List ℕ → List ℕ → Result ℕ Refusal
rewrite_answer look words t reply = answer_by (rewrite_verdict look words t reply) (length (rewrite_bytes look t))

unfoldable pub rewrite_reply : Lookup → ℕ → List ℕ → List ℕ → List ℕ
rewrite_reply look words t reply = reply_after (rewrite_verdict look words t reply) reply (rewrite_bytes look t)

-- levels for a stimulus, a byte for each output record
unfoldable pub level_bytes : List ℕ → List ℕ → List ℕ
level_bytes t stimulus = map byte_of (output_levels (decoded t).cells stimulus)

-- 10: levels differ in number from input records; 11: a level byte above 2
unfoldable pub stimulus_stages : List Cell → List ℕ → List Stage
stimulus_stages cs stimulus =
    (not (eqb (length stimulus) (length (input_slots cs))), LevelCount)
    ∷ slot_by_slot (λ i. (ltb 2 (get_or stimulus i 0), LevelValue i) ∷ []) (length stimulus)

unfoldable pub level_verdict : ℕ → List ℕ → List ℕ → List ℕ → Verdict
level_verdict words t stimulus reply =
    first_of (check_stages words t ++ stimulus_stages (decoded t).cells stimulus ++ (room reply (level_bytes t stimulus) ∷ []))

unfoldable pub level_answer : ℕ → List ℕ → List ℕ → List ℕ → Result ℕ Refusal
level_answer words t stimulus reply = answer_by (level_verdict words t stimulus reply) (length (level_bytes t stimulus))

unfoldable pub level_reply : ℕ → List ℕ → List ℕ → List ℕ → List ℕ
level_reply words t stimulus reply = reply_after (level_verdict words t stimulus reply) reply (level_bytes t stimulus)
