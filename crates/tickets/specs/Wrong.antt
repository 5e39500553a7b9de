-- Wrong programs that the paper names ("Conditions of acceptance", "Readings that tempt and are wrong", "A corner to copy"), one that counts
-- gates as before request 2026-03, and some that tell another field than request 2026-06 has, by what they answer and leave in the reply, and for
-- each a ticket at which it does not do what the call does.
-- Other readings that tempt fail at rows of the tables: muxes with exchanged arms and control nets by net first in `corners`, loops by cell in
-- `trials`. Assumes nothing: these are definitions.
use Rattle.std.specs.Prelude.{◌≡◌, not, List, [], ◌∷◌, ◌++◌, map, ℕ, ◌/◌, ltb, length, take}
use Rattle.cell.specs.declared.Record.{Record}
use Rattle.cell.specs.Records.{record_of, records_of}
use Rattle.refusals.specs.declared.Refusal.TheVariants.{ShortReply}
use Rattle.refusals.specs.Refusals.{Stage, first_of, slot_by_slot}
use Rattle.checking.specs.Checking.{kind_stages, field_stages, bit_stages, operand_stage, size_group, loop_group, gate_count}
use Rattle.netlist.specs.Shape.{has_effects}
use Rattle.netlist.specs.Netlist.{Netlist, cell_in, ticket_of}
use Rattle.basics.specs.Lists.{slots, those}
use Rattle.order.specs.Orders.{topo_sort}
use Rattle.design.specs.Queue.{applied, find_new_cell}
use Rattle.merge.specs.Merge.{key_of, merge}
use Rattle.rewrite.specs.Rewriter.{Lookup, begun}
use Rattle.rewrite.specs.Rewrite.{run_items, compacted}
use Rattle.calls.specs.Answers.{Told, refused, check_figures, answer_by, written_figures, merged_figures, merged_of, counts_of}
use Rattle.calls.specs.Calls.{decoded, encoded, reply_after, check_verdict, check_answer, merge_bytes, merge_answer, merge_reply, rewrite_bytes, rewrite_answer, rewrite_reply}
use Rattle.tickets.specs.Starred.{Call, checking, merging, rewriting, called, words, reply, T2, T3, T5, T6, T7, T8, T9}
use Rattle.tickets.specs.Refused.{undriven_arms}

-- by the ticket, with `words` and `reply`: the answer, and the reply at return
abbrev pub Program : Type 0
Program = List ℕ → Told × List ℕ

-- turns every ticket away
abbrev pub refuses_all : Program
refuses_all t = (refused ShortReply, reply)

-- answers a count and leaves bytes for a ticket that passes checking
abbrev pub accepts : (List ℕ → ℕ) → (List ℕ → List ℕ) → Program
accepts count bytes t = (written_figures (answer_by (check_verdict words t) (count t)), reply_after (check_verdict words t) reply (bytes t))

abbrev pub writes : (List ℕ → List ℕ) → Program
writes bytes = accepts (λ t. length (bytes t)) bytes

-- writes the same records for all tickets, those that are right for T2
abbrev pub writes_the_same : Program
writes_the_same = writes (λ t. rewrite_bytes find_new_cell (ticket_of T2))

-- copies the ticket
abbrev pub copies : Program
copies = writes (λ t. t)

-- the gate bits among slots
abbrev pub gates_in : Netlist → List ℕ → List ℕ
gates_in d ss = those (λ s. not (has_effects (cell_in d.cells s))) ss

-- rewrites the first gate bit and copies the others
abbrev pub first_only : Netlist → Netlist
first_only d = compacted d.bits (run_items find_new_cell (take 1 (gates_in d (topo_sort d.cells))) (begun d.cells))

abbrev pub rewrites_the_first : Program
rewrites_the_first = writes (λ t. encoded (first_only (decoded t)))

-- answers the ticket's length as the byte count
abbrev pub counts_the_ticket : Program
counts_the_ticket = accepts length (rewrite_bytes find_new_cell)

-- checks, and answers the record count as the gate count
abbrev pub counts_all_as_gates : Program
counts_all_as_gates t = (check_figures (answer_by (check_verdict words t) (counts_of (length t / 16) (length t / 16))), reply)

-- checks, and answers the records other than inputs and outputs as the gate count, inverters among them
abbrev pub charges_for_inverters : Program
charges_for_inverters t = (check_figures (answer_by (check_verdict words t) (counts_of (length t / 16) (length (gates_in (decoded t) (slots (length t / 16)))))), reply)

-- checks, and tests the fields of a record from c to a (request 2026-06 has it from a to c)
abbrev pub from_the_last : List Record → ℕ → List Stage
from_the_last rs s = kind_stages rs s ++ field_stages rs s ++ bit_stages rs s ++ (operand_stage rs s 3 ∷ operand_stage rs s 2 ∷ operand_stage rs s 1 ∷ [])

abbrev pub tests_from_the_last : Program
tests_from_the_last t =
    let rs = records_of t in
    let v = first_of (size_group words t ++ slot_by_slot (from_the_last rs) (length rs) ++ loop_group rs) in
    (check_figures (answer_by v (counts_of (length t / 16) (gate_count rs))), reply)

-- checks, and tells the same field whatever it answers; 0 is what was told before the request
abbrev pub with_field : ℕ → Told → Told
with_field f a = record { number = a.number; place = a.place; count = a.count; extra = a.extra; field = f }

abbrev pub tells_always : ℕ → Program
tells_always f t = (with_field f (check_figures (check_answer words t)), reply)

-- looks up a cell with its replaced operands, where the Rust has the ticket's
abbrev pub replaced_operands : Lookup
replaced_operands d = find_new_cell (record { cells = applied d; replaced = d.replaced })

abbrev pub looks_through : Program
looks_through t = (written_figures (rewrite_answer replaced_operands words t reply), rewrite_reply replaced_operands words t reply)

-- merges, and sets the flag whenever the ticket got shorter
abbrev pub flags_where_shorter : Program
flags_where_shorter t =
    (merged_figures (answer_by (check_verdict words t) (merged_of (length (merge_bytes t)) (ltb (length (merge_bytes t)) (length t)))), merge_reply words t reply)

-- merges, and writes the operands as they are sorted in the keys
abbrev pub with_keys : Netlist → Netlist
with_keys d = record { cells = map key_of d.cells; bits = d.bits }

abbrev pub writes_keys : Program
writes_keys t = (merged_figures (merge_answer words t reply), reply_after (check_verdict words t) reply (encoded (with_keys (merge (decoded t)).0)))

-- and(3, 2)
abbrev pub turned : List Record
turned = record_of 1 0 0 1 0 0 ∷ record_of 1 0 0 2 0 0 ∷ record_of 5 0 0 3 2 0 ∷ record_of 2 0 0 4 9 0 ∷ []

-- at a ticket a program does not do what a call does
unfoldable pub Fails : Call → Program → List Record → Type 0
Fails call program rs = program (ticket_of rs) ≡ called call words (ticket_of rs) reply → ⊥

unfoldable pub WrongFail : Type 0
WrongFail =
    Fails rewriting refuses_all T2
    × Fails rewriting writes_the_same T3
    × Fails rewriting copies T2
    × Fails rewriting rewrites_the_first T7
    × Fails rewriting counts_the_ticket T3
    × Fails checking counts_all_as_gates T2
    × Fails checking charges_for_inverters T5
    × Fails checking tests_from_the_last undriven_arms
    × Fails checking (tells_always 0) undriven_arms
    × Fails checking (tells_always 2) T9
    × Fails checking (tells_always 2) T2
    × Fails rewriting looks_through T6
    × Fails merging flags_where_shorter T8
    × Fails merging writes_keys turned
