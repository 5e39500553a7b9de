-- The paper's starred tickets, with what the calls answer and write. Labels are separate. Assumes nothing: these are definitions.
use Rattle.std.specs.Prelude.{◌≡◌, List, [], ◌∷◌, ◌++◌, map, ℕ, suc, take, replicate}
use Rattle.cell.specs.declared.Record.{Record}
use Rattle.cell.specs.Records.{record_of, records_of}
use Rattle.netlist.specs.Netlist.{ticket_of}
use Rattle.design.specs.Queue.{find_new_cell}
use Rattle.calls.specs.Answers.{Told, check_figures, written_figures, merged_figures}
use Rattle.calls.specs.Calls.{check_answer, compact_answer, compact_reply, merge_answer, merge_reply, rewrite_answer, rewrite_bytes, rewrite_reply, level_answer, level_reply}

pub data Call : Type 0 where
  checking compacting merging rewriting : Call
  levels : List ℕ → Call  -- with a stimulus

-- a reply slice, and the number of words in a work slice
abbrev pub reply : List ℕ
reply = replicate 160 255

abbrev pub words : ℕ
words = 16384

-- lines as the lister prints them: slot, kind, flags, bit, a, b, c
unfoldable pub lines : ℕ → List Record → List (List ℕ)
lines s [] = []
lines s (r ∷ rs) = (s ∷ r.kind ∷ r.flags ∷ r.bit ∷ r.a ∷ r.b ∷ r.c ∷ []) ∷ lines (suc s) rs

-- a call with so many work words and this reply slice: the answer, and the reply at return; checking has no reply slice
unfoldable pub called : Call → ℕ → List ℕ → List ℕ → Told × List ℕ
called checking n t out = (check_figures (check_answer n t), out)
called compacting n t out = (written_figures (compact_answer n t out), compact_reply n t out)
called merging n t out = (merged_figures (merge_answer n t out), merge_reply n t out)
called rewriting n t out = (written_figures (rewrite_answer find_new_cell n t out), rewrite_reply find_new_cell n t out)
called (levels stimulus) n t out = (written_figures (level_answer n t stimulus out), level_reply n t stimulus out)

-- number, place and count of an answer
abbrev pub figures_line : Told → List ℕ
figures_line a = a.number ∷ a.place ∷ a.count ∷ []

abbrev pub with_extra : Told → List ℕ
with_extra a = a.number ∷ a.place ∷ a.count ∷ a.extra ∷ []

-- the reply up to the count
abbrev pub written : Told × List ℕ → List ℕ
written a = take a.0.count a.1

abbrev pub shown : Call → Told × List ℕ → List (List ℕ)
shown checking a = with_extra a.0 ∷ []
shown compacting a = figures_line a.0 ∷ lines 0 (records_of (written a))
shown merging a = with_extra a.0 ∷ lines 0 (records_of (written a))
shown rewriting a = figures_line a.0 ∷ lines 0 (records_of (written a))
shown (levels stimulus) a = figures_line a.0 ∷ written a ∷ []

-- a row of the table: a call, a ticket, and what is said
abbrev pub Row : Type 0
Row = Call × List Record × List (List ℕ)

unfoldable pub computed : Row → List (List ℕ)
computed row = shown row.0 (called row.0 words (ticket_of row.1) reply)

unfoldable pub printed : Row → List (List ℕ)
printed row = row.2

-- four inputs
abbrev four_inputs : List Record
four_inputs = record_of 1 0 0 1 0 0 ∷ record_of 1 0 0 2 0 0 ∷ record_of 1 0 0 3 0 0 ∷ record_of 1 0 0 4 0 0 ∷ []

-- the undefined constant
abbrev undef : ℕ
undef = 4294967295

-- the tickets: kind, flags, bit, a, b, c
abbrev pub T2 : List Record
T2 = record_of 1 0 0 1 0 0 ∷ record_of 1 0 0 2 0 0 ∷ record_of 5 0 0 2 3 0 ∷ record_of 2 0 0 4 9 0 ∷ []

abbrev pub T3 : List Record
T3 = record_of 1 0 0 1 0 0 ∷ record_of 1 0 0 2 0 0 ∷ record_of 6 0 0 2 3 0 ∷ record_of 2 0 0 4 9 0 ∷ []

abbrev pub T4 : List Record
T4 = record_of 7 0 0 undef undef 0 ∷ record_of 2 0 0 2 9 0 ∷ []

-- T4 as rewriting leaves it
abbrev pub T4_after : List Record
T4_after = records_of (rewrite_bytes find_new_cell (ticket_of T4))

abbrev pub T5 : List Record
T5 = record_of 1 0 0 1 0 0 ∷ record_of 4 0 0 2 0 0 ∷ record_of 4 0 0 3 0 0 ∷ record_of 2 0 0 4 9 0 ∷ []

abbrev pub T6 : List Record
T6 =
    four_inputs
    ++ (record_of 7 0 0 2 3 0 ∷ record_of 7 0 0 4 5 0 ∷ record_of 9 0 0 6 7 0 ∷ record_of 9 0 0 8 6 0 ∷ record_of 2 0 0 9 9 0 ∷ [])

abbrev pub T7 : List Record
T7 =
    four_inputs
    ++ (record_of 7 0 0 2 3 0 ∷ record_of 7 0 0 4 5 0 ∷ record_of 5 0 0 6 7 0 ∷ record_of 5 0 0 8 6 0 ∷ record_of 2 0 0 9 9 0 ∷ [])

abbrev pub T8 : List Record
T8 = record_of 1 0 0 1 0 0 ∷ record_of 4 0 0 2 0 0 ∷ record_of 4 0 0 2 0 0 ∷ record_of 2 0 0 3 9 0 ∷ []

abbrev pub T8_further : List Record
T8_further = T8 ++ (record_of 2 0 0 4 10 0 ∷ [])

abbrev pub T9 : List Record
T9 = record_of 3 0 0 2 0 0 ∷ []

abbrev pub T10 : List Record
T10 = record_of 2 0 0 2 9 0 ∷ []

abbrev pub T10_one : List Record
T10_one = record_of 2 0 0 1 9 0 ∷ []

abbrev pub T11 : ℕ → ℕ → List Record
T11 b c = record_of 8 0 0 undef b c ∷ record_of 2 0 0 2 9 0 ∷ []

unfoldable pub starred : List Row
starred =
    -- T1: the empty ticket, in every call
    (checking, [], (0 ∷ 0 ∷ 0 ∷ 0 ∷ []) ∷ [])
    ∷ (compacting, [], (0 ∷ 0 ∷ 0 ∷ []) ∷ [])
    ∷ (merging, [], (0 ∷ 0 ∷ 0 ∷ 0 ∷ []) ∷ [])
    ∷ (rewriting, [], (0 ∷ 0 ∷ 0 ∷ []) ∷ [])
    ∷ (levels [], [], (0 ∷ 0 ∷ 0 ∷ []) ∷ [] ∷ [])
    -- T2: and
    ∷ (
      rewriting,
      T2,
      (0 ∷ 0 ∷ 64 ∷ [])
          ∷ (0 ∷ 1 ∷ 0 ∷ 0 ∷ 1 ∷ 0 ∷ 0 ∷ [])
          ∷ (1 ∷ 1 ∷ 0 ∷ 0 ∷ 2 ∷ 0 ∷ 0 ∷ [])
          ∷ (2 ∷ 2 ∷ 0 ∷ 0 ∷ 5 ∷ 9 ∷ 0 ∷ [])
          ∷ (3 ∷ 9 ∷ 0 ∷ 0 ∷ 2 ∷ 3 ∷ 0 ∷ []) ∷ [],
    )
    -- T3: or
    ∷ (
      rewriting,
      T3,
      (0 ∷ 0 ∷ 80 ∷ [])
          ∷ (0 ∷ 1 ∷ 0 ∷ 0 ∷ 1 ∷ 0 ∷ 0 ∷ [])
          ∷ (1 ∷ 1 ∷ 0 ∷ 0 ∷ 2 ∷ 0 ∷ 0 ∷ [])
          ∷ (2 ∷ 2 ∷ 0 ∷ 0 ∷ 6 ∷ 9 ∷ 0 ∷ [])
          ∷ (3 ∷ 9 ∷ 3 ∷ 0 ∷ 2 ∷ 3 ∷ 0 ∷ [])
          ∷ (4 ∷ 4 ∷ 0 ∷ 0 ∷ 5 ∷ 0 ∷ 0 ∷ []) ∷ [],
    )
    -- T4: xor of undefined with itself, its level before and after
    ∷ (rewriting, T4, (0 ∷ 0 ∷ 16 ∷ []) ∷ (0 ∷ 2 ∷ 0 ∷ 0 ∷ 0 ∷ 9 ∷ 0 ∷ []) ∷ [])
    ∷ (levels [], T4, (0 ∷ 0 ∷ 1 ∷ []) ∷ (2 ∷ []) ∷ [])
    ∷ (levels [], T4_after, (0 ∷ 0 ∷ 1 ∷ []) ∷ (0 ∷ []) ∷ [])
    -- T5: two inverters in a row
    ∷ (
      rewriting,
      T5,
      (0 ∷ 0 ∷ 32 ∷ [])
          ∷ (0 ∷ 1 ∷ 0 ∷ 0 ∷ 1 ∷ 0 ∷ 0 ∷ [])
          ∷ (1 ∷ 2 ∷ 0 ∷ 0 ∷ 2 ∷ 9 ∷ 0 ∷ []) ∷ [],
    )
    -- T6: an and-inverter that no rule touched is looked up with the ticket's operands
    ∷ (
      rewriting,
      T6,
      (0 ∷ 0 ∷ 144 ∷ [])
          ∷ (0 ∷ 1 ∷ 0 ∷ 0 ∷ 1 ∷ 0 ∷ 0 ∷ [])
          ∷ (1 ∷ 1 ∷ 0 ∷ 0 ∷ 2 ∷ 0 ∷ 0 ∷ [])
          ∷ (2 ∷ 1 ∷ 0 ∷ 0 ∷ 3 ∷ 0 ∷ 0 ∷ [])
          ∷ (3 ∷ 1 ∷ 0 ∷ 0 ∷ 4 ∷ 0 ∷ 0 ∷ [])
          ∷ (4 ∷ 9 ∷ 0 ∷ 0 ∷ 9 ∷ 10 ∷ 0 ∷ [])
          ∷ (5 ∷ 9 ∷ 0 ∷ 0 ∷ 6 ∷ 9 ∷ 0 ∷ [])
          ∷ (6 ∷ 2 ∷ 0 ∷ 0 ∷ 7 ∷ 9 ∷ 0 ∷ [])
          ∷ (7 ∷ 7 ∷ 0 ∷ 0 ∷ 2 ∷ 3 ∷ 0 ∷ [])
          ∷ (8 ∷ 7 ∷ 0 ∷ 0 ∷ 4 ∷ 5 ∷ 0 ∷ []) ∷ [],
    )
    -- T7: the same with and, which leaves one and-inverter
    ∷ (
      rewriting,
      T7,
      (0 ∷ 0 ∷ 128 ∷ [])
          ∷ (0 ∷ 1 ∷ 0 ∷ 0 ∷ 1 ∷ 0 ∷ 0 ∷ [])
          ∷ (1 ∷ 1 ∷ 0 ∷ 0 ∷ 2 ∷ 0 ∷ 0 ∷ [])
          ∷ (2 ∷ 1 ∷ 0 ∷ 0 ∷ 3 ∷ 0 ∷ 0 ∷ [])
          ∷ (3 ∷ 1 ∷ 0 ∷ 0 ∷ 4 ∷ 0 ∷ 0 ∷ [])
          ∷ (4 ∷ 2 ∷ 0 ∷ 0 ∷ 9 ∷ 9 ∷ 0 ∷ [])
          ∷ (5 ∷ 7 ∷ 0 ∷ 0 ∷ 2 ∷ 3 ∷ 0 ∷ [])
          ∷ (6 ∷ 7 ∷ 0 ∷ 0 ∷ 4 ∷ 5 ∷ 0 ∷ [])
          ∷ (7 ∷ 9 ∷ 0 ∷ 0 ∷ 7 ∷ 8 ∷ 0 ∷ []) ∷ [],
    )
    -- T8: equal inverters, one of them unread, then both read
    ∷ (
      merging,
      T8,
      (0 ∷ 0 ∷ 48 ∷ 0 ∷ [])
          ∷ (0 ∷ 1 ∷ 0 ∷ 0 ∷ 1 ∷ 0 ∷ 0 ∷ [])
          ∷ (1 ∷ 4 ∷ 0 ∷ 0 ∷ 2 ∷ 0 ∷ 0 ∷ [])
          ∷ (2 ∷ 2 ∷ 0 ∷ 0 ∷ 3 ∷ 9 ∷ 0 ∷ []) ∷ [],
    )
    ∷ (
      merging,
      T8_further,
      (0 ∷ 0 ∷ 64 ∷ 1 ∷ [])
          ∷ (0 ∷ 1 ∷ 0 ∷ 0 ∷ 1 ∷ 0 ∷ 0 ∷ [])
          ∷ (1 ∷ 4 ∷ 0 ∷ 0 ∷ 2 ∷ 0 ∷ 0 ∷ [])
          ∷ (2 ∷ 2 ∷ 0 ∷ 0 ∷ 3 ∷ 9 ∷ 0 ∷ [])
          ∷ (3 ∷ 2 ∷ 0 ∷ 0 ∷ 3 ∷ 10 ∷ 0 ∷ []) ∷ [],
    )
    -- T9: a loop
    ∷ (checking, T9, (8 ∷ 0 ∷ 0 ∷ 0 ∷ []) ∷ [])
    ∷ (rewriting, T9, (8 ∷ 0 ∷ 0 ∷ []) ∷ [])
    -- T10: an output that reads itself, and one of a constant
    ∷ (checking, T10, (7 ∷ 0 ∷ 0 ∷ 0 ∷ []) ∷ [])
    ∷ (rewriting, T10, (7 ∷ 0 ∷ 0 ∷ []) ∷ [])
    ∷ (checking, T10_one, (0 ∷ 0 ∷ 1 ∷ 0 ∷ []) ∷ [])
    ∷ (rewriting, T10_one, (0 ∷ 0 ∷ 16 ∷ []) ∷ (0 ∷ 2 ∷ 0 ∷ 0 ∷ 1 ∷ 9 ∷ 0 ∷ []) ∷ [])
    -- T11: mux with undefined select
    ∷ (levels [], T11 1 1, (0 ∷ 0 ∷ 1 ∷ []) ∷ (1 ∷ []) ∷ [])
    ∷ (levels [], T11 0 1, (0 ∷ 0 ∷ 1 ∷ []) ∷ (2 ∷ []) ∷ [])
    ∷ []

-- the one statement
unfoldable pub AsPrinted : List Row → Type 0
AsPrinted rows = map computed rows ≡ map printed rows
