-- Calls that are turned away, and beside them the nearest that are not: number, answer words and reply at return (paper, "When a ticket is turned
-- away"; T10, T12, T13, T15; requests 2026-03 and 2026-06). Refusal 9 asks for more than 1,024 slots, which programs try (`replay`, `listings`). Assumes nothing: these are definitions.
use Rattle.std.specs.Prelude.{◌≡◌, List, [], ◌∷◌, ◌++◌, map, ℕ, replicate}
use Rattle.value.specs.Value.{slot_at}
use Rattle.cell.specs.declared.Record.{Record}
use Rattle.cell.specs.Records.{record_of}
use Rattle.netlist.specs.Netlist.{ticket_of}
use Rattle.refusals.specs.declared.Refusal.{Refusal}
use Rattle.refusals.specs.declared.Refusal.TheVariants.{ShortWork, PartialRecord, TooManyRecords, UnknownKind, ReservedField, BitOutOfSequence, UndrivenOperand, Loop, SlotsExhausted, LevelCount, LevelValue, ShortReply}
use Rattle.calls.specs.Work.{cleared}
use Rattle.calls.specs.Answers.{Told, refused, words_of}
use Rattle.tickets.specs.Starred.{Call, checking, compacting, merging, rewriting, levels, called, words, T2, T3, T8_further, T9, T10, T10_one}

-- the number, and the eight answer words
abbrev pub told_line : Told → List ℕ
told_line a = a.number ∷ words_of a

-- number, place, count, and the gate count or the flag, as they stand there; the field, and all behind it, 0
abbrev pub told : ℕ → ℕ → ℕ → ℕ → List ℕ
told number place count extra = number ∷ place ∷ count ∷ extra ∷ 0 ∷ 0 ∷ 0 ∷ 0 ∷ 0 ∷ []

-- refusal 7: place, and the field that fails (request 2026-06)
abbrev pub told_field : ℕ → ℕ → List ℕ
told_field place field = 7 ∷ place ∷ 0 ∷ 0 ∷ field ∷ 0 ∷ 0 ∷ 0 ∷ 0 ∷ []

-- a row: call, work words, ticket and reply slice; the answer, and the reply at return
abbrev pub Trial : Type 0
Trial = Call × ℕ × List ℕ × List ℕ × List ℕ × List ℕ

unfoldable pub given : Trial → List (List ℕ)
given row = let a = called row.0 row.1 row.2 row.3 in told_line a.0 ∷ a.1 ∷ []

unfoldable pub wanted : Trial → List (List ℕ)
wanted row = row.4 ∷ row.5 ∷ []

-- a row of checking a ticket's records
abbrev checked : List Record → List ℕ → Trial
checked rs line = (checking, words, ticket_of rs, [], line, [])

-- records: an input; one of a kind with one operand; one of a kind with two
abbrev input : ℕ → ℕ → Record
input bit label = record_of 1 0 bit label 0 0

abbrev one : ℕ → ℕ → ℕ → Record
one kind bit a = record_of kind 0 bit a 0 0

abbrev two : ℕ → ℕ → ℕ → ℕ → Record
two kind bit a b = record_of kind 0 bit a b 0

-- a record of every kind
abbrev kinds : List Record
kinds =
    input 0 1 ∷ two 2 0 0 9 ∷ one 3 0 2 ∷ one 4 0 2 ∷ two 5 0 2 4 ∷ two 6 0 2 5 ∷ two 7 0 2 6 ∷ record_of 8 0 0 2 0 1 ∷ record_of 9 3 0 2 8 0 ∷ []

-- two bits of every wide gate, which no output reads
abbrev wide : List Record
wide =
    one 3 0 1
    ∷ one 3 1 1
    ∷ one 4 0 1
    ∷ one 4 1 1
    ∷ two 5 0 1 1
    ∷ two 5 1 1 1
    ∷ two 6 0 1 1
    ∷ two 6 1 1 1 ∷ two 7 0 1 1 ∷ two 7 1 1 1 ∷ record_of 8 0 0 1 1 1 ∷ record_of 8 0 1 1 1 1 ∷ []

-- a mux whose operands b and c name no slot
abbrev pub undriven_arms : List Record
undriven_arms = record_of 8 0 0 1 9 9 ∷ []

-- a reply slice of so many bytes
abbrev full : ℕ → List ℕ
full n = replicate n 255

unfoldable pub trials : List Trial
trials =
    -- accepted: record count and gate count, to which each record of an and, or, xor, mux or and-inverter adds 1, also where nothing reads it,
    -- and all others 0 (request 2026-03). Where a kind adds 0 or 1, these rows leave no other table
    checked T2 (told 0 0 4 1)
    ∷ checked kinds (told 0 0 9 5)
    ∷ checked wide (told 0 0 12 8)
    ∷ checked (one 3 0 1 ∷ one 4 0 2 ∷ two 2 0 3 9 ∷ []) (told 0 0 3 0)
    -- 1: a work word too few, whatever the ticket
    ∷ (checking, 16383, full 17, [], told 1 0 0 0, [])
    ∷ (compacting, 16383, [], full 2, told 1 0 0 0, full 2)
    ∷ (merging, 16383, [], full 2, told 1 0 0 0, full 2)
    ∷ (rewriting, 16383, [], full 2, told 1 0 0 0, full 2)
    ∷ (levels [], 16383, [], full 2, told 1 0 0 0, full 2)
    -- 2: a part of a record, also behind 513 whole ones, where 3 holds too
    ∷ (checking, 16384, full 17, [], told 2 0 0 0, [])
    ∷ (checking, 16384, full 8209, [], told 2 0 0 0, [])
    -- 3: 513 records; with 512 the first of them decides
    ∷ (checking, 16384, full 8208, [], told 3 0 0 0, [])
    ∷ (checking, 16384, full 8192, [], told 4 0 0 0, [])
    -- 4: kind 0 or above 9
    ∷ checked (input 0 1 ∷ one 0 0 0 ∷ []) (told 4 1 0 0)
    ∷ checked (one 10 0 0 ∷ []) (told 4 0 0 0)
    -- 5: an unused field or flag
    ∷ checked (record_of 9 4 0 0 0 0 ∷ []) (told 5 0 0 0)
    ∷ checked (input 0 1 ∷ record_of 4 1 0 2 0 0 ∷ []) (told 5 1 0 0)
    ∷ checked (record_of 1 0 0 1 1 0 ∷ []) (told 5 0 0 0)
    ∷ checked (record_of 5 0 0 0 0 1 ∷ []) (told 5 0 0 0)
    -- 6: a bit of an output or of an and-inverter
    ∷ checked (two 2 0 0 9 ∷ two 2 1 0 9 ∷ []) (told 6 1 0 0)
    ∷ checked (two 9 0 0 0 ∷ two 9 1 0 0 ∷ []) (told 6 1 0 0)
    -- no record before, one of another kind, a bit left out, another label, another select
    ∷ checked (one 4 1 0 ∷ []) (told 6 0 0 0)
    ∷ checked (one 3 0 0 ∷ one 4 1 0 ∷ []) (told 6 1 0 0)
    ∷ checked (one 4 0 0 ∷ one 4 2 0 ∷ []) (told 6 1 0 0)
    ∷ checked (input 0 1 ∷ input 1 2 ∷ []) (told 6 1 0 0)
    ∷ checked (record_of 8 0 0 0 0 0 ∷ record_of 8 0 1 1 0 0 ∷ []) (told 6 1 0 0)
    -- with one label, one select they are bits of a cell; other operands may differ
    ∷ checked (input 0 1 ∷ input 1 1 ∷ []) (told 0 0 2 0)
    ∷ checked (record_of 8 0 0 1 0 0 ∷ record_of 8 0 1 1 1 1 ∷ one 4 0 0 ∷ one 4 1 1 ∷ []) (told 0 0 4 2)
    -- 7: no slot, or an output, also as the third operand; an output that reads itself
    ∷ checked (one 4 0 3 ∷ []) (told_field 0 1)
    ∷ checked (two 2 0 0 9 ∷ record_of 8 0 0 0 0 2 ∷ []) (told_field 1 3)
    ∷ checked T10 (told_field 0 1)
    -- the first field that fails: b of b and c, a of all three, b of an and-inverter; a select at bit 0; c of a lower record before a of a higher
    ∷ checked undriven_arms (told_field 0 2)
    ∷ checked (record_of 8 0 0 9 9 9 ∷ []) (told_field 0 1)
    ∷ checked (record_of 9 3 0 1 9 0 ∷ []) (told_field 0 2)
    ∷ checked (record_of 8 0 0 9 1 1 ∷ record_of 8 0 1 9 1 1 ∷ []) (told_field 0 1)
    ∷ checked (record_of 8 0 0 1 1 9 ∷ one 4 0 9 ∷ []) (told_field 0 3)
    -- an operand on a loop does not fail
    ∷ checked (two 5 0 2 9 ∷ []) (told_field 0 2)
    -- every other call tells it
    ∷ (levels [], words, ticket_of undriven_arms, full 2, told_field 0 2, full 2)
    ∷ (compacting, words, ticket_of undriven_arms, full 2, told_field 0 2, full 2)
    ∷ (merging, words, ticket_of undriven_arms, full 2, told_field 0 2, full 2)
    ∷ (rewriting, words, ticket_of undriven_arms, full 2, told_field 0 2, full 2)
    -- the lowest faulty record decides, and in it the lowest number
    ∷ checked (one 4 0 9 ∷ one 0 0 0 ∷ []) (told_field 0 1)
    ∷ checked (record_of 10 9 9 9 9 9 ∷ []) (told 4 0 0 0)
    ∷ checked (record_of 4 1 1 9 0 0 ∷ []) (told 5 0 0 0)
    ∷ checked (one 4 1 9 ∷ []) (told 6 0 0 0)
    -- 8: the lowest record on a loop, once every record has passed
    ∷ checked (input 0 1 ∷ one 4 0 4 ∷ one 3 0 3 ∷ []) (told 8 1 0 0)
    ∷ checked (one 3 0 2 ∷ one 4 0 9 ∷ []) (told_field 1 1)
    -- T12: bit 1 reads bit 0
    ∷ checked (one 4 0 0 ∷ one 4 1 2 ∷ []) (told 0 0 2 0)
    -- 10: too few levels, too many; before 11 and 12, and 8 before it
    ∷ (levels (0 ∷ []), words, ticket_of T2, full 2, told 10 0 0 0, full 2)
    ∷ (levels (0 ∷ 1 ∷ 2 ∷ []), words, ticket_of T2, full 2, told 10 0 0 0, full 2)
    ∷ (levels (3 ∷ []), words, ticket_of T2, [], told 10 0 0 0, [])
    ∷ (levels (3 ∷ []), words, ticket_of T9, full 2, told 8 0 0 0, full 2)
    -- 11: the lowest byte above 2; before 12
    ∷ (levels (2 ∷ 3 ∷ []), words, ticket_of T2, [], told 11 1 0 0, [])
    ∷ (levels (255 ∷ 3 ∷ []), words, ticket_of T2, full 2, told 11 0 0 0, full 2)
    -- 12: a byte too few; else the result stands at the start, and behind it what was there
    ∷ (levels (2 ∷ 0 ∷ []), words, ticket_of T2, [], told 12 0 0 0, [])
    ∷ (levels (2 ∷ 0 ∷ []), words, ticket_of T2, full 2, told 0 0 1 0, 0 ∷ 255 ∷ [])
    ∷ (compacting, words, ticket_of T2, full 63, told 12 0 0 0, full 63)
    ∷ (compacting, words, ticket_of T2, full 64, told 0 0 64 0, ticket_of T2)
    ∷ (merging, words, ticket_of T8_further, full 63, told 12 0 0 0, full 63)
    ∷ (rewriting, words, ticket_of T3, full 79, told 12 0 0 0, full 79)
    ∷ (rewriting, words, ticket_of T10_one, full 17, told 0 0 16 0, ticket_of T10_one ++ (255 ∷ []))
    ∷ []

-- every refusal, and its number and answer words; slots and bytes have the number 5, the field is 3, for c
abbrev pub refusals : List Refusal
refusals =
    ShortWork
    ∷ PartialRecord
    ∷ TooManyRecords
    ∷ UnknownKind (slot_at 5)
    ∷ ReservedField (slot_at 5)
    ∷ BitOutOfSequence (slot_at 5)
    ∷ UndrivenOperand (slot_at 5) 3
    ∷ Loop (slot_at 5)
    ∷ SlotsExhausted
    ∷ LevelCount
    ∷ LevelValue 5
    ∷ ShortReply ∷ []

abbrev pub numbered : List (List ℕ)
numbered =
    told 1 0 0 0
    ∷ told 2 0 0 0
    ∷ told 3 0 0 0
    ∷ told 4 5 0 0
    ∷ told 5 5 0 0
    ∷ told 6 5 0 0
    ∷ told_field 5 3
    ∷ told 8 5 0 0
    ∷ told 9 0 0 0
    ∷ told 10 0 0 0
    ∷ told 11 5 0 0
    ∷ told 12 0 0 0 ∷ []

-- the statements: the trials, the numbers, and the work slice at return
unfoldable pub AnsweredAsPrinted : Type 0
AnsweredAsPrinted = map given trials ≡ map wanted trials

unfoldable pub NumberedAsPrinted : Type 0
NumberedAsPrinted = map (λ r. told_line (refused r)) refusals ≡ numbered

unfoldable pub ClearedAsPrinted : Type 0
ClearedAsPrinted = (cleared (full 16383) ≡ full 16383) × (cleared (full 16385) ≡ replicate 16384 0 ++ (255 ∷ []))
