-- Checking (paper, "When a ticket is turned away", 1 to 8). Assumes nothing: these are definitions.
use Rattle.std.specs.Prelude.{Bool, false, not, ◌&&◌, ◌||◌, List, [], ◌∷◌, ◌++◌, ℕ, ◌+◌, ◌-◌, ◌/◌, ◌%◌, eqb, ltb, length}
use Rattle.value.specs.declared.Driver.{Driver}
use Rattle.value.specs.declared.Driver.TheVariants as driven
use Rattle.value.specs.Value.{net_at, slot_at, driver}
use Rattle.cell.specs.declared.Record.{Record}
use Rattle.kinds.specs.declared.Use.{Use}
use Rattle.kinds.specs.declared.Use.TheVariants.{Unused, Label, Operand}
use Rattle.cell.specs.Limits.{work_words, max_records}
use Rattle.kinds.specs.declared.Sort.TheVariants as sort
use Rattle.kinds.specs.Kinds.{is_known, number_of, kind_of}
use Rattle.cell.specs.Operands.{field_of, is_operand}
use Rattle.cell.specs.Records.{records_of, record_in}
use Rattle.loops.specs.Reach.{on_loop}
use Rattle.refusals.specs.declared.Refusal.TheVariants.{ShortWork, PartialRecord, TooManyRecords, UnknownKind, ReservedField, BitOutOfSequence, UndrivenOperand, Loop}
use Rattle.refusals.specs.Refusals.{Stage, slot_by_slot}

-- 4: kind 0 or above 9
unfoldable pub unknown_kind : Record → Bool
unknown_kind r = not (is_known r.kind)

-- 5: an unused field or flag is not 0
abbrev pub unused_not_zero : Use → ℕ → Bool
unused_not_zero Unused x = not (eqb x 0)
unused_not_zero Label x = false
unused_not_zero Operand x = false

unfoldable pub reserved_field : Record → Bool
reserved_field r =
    let k = kind_of r.kind in
    unused_not_zero k.a r.a || (unused_not_zero k.b r.b || (unused_not_zero k.c r.c || ltb k.flags r.flags))

-- 6: p is the bit before r in one cell. Bits of an input have one label, bits of a mux one select
unfoldable pub follows : Record → Record → Bool
follows p r = eqb p.kind r.kind && eqb (p.bit + 1) r.bit && (not (kind_of r.kind).common_a || eqb p.a r.a)

-- 6: the bit of r, the record of slot s, is not 0, and either its kind has one bit only, or there is no record before, or p, the record
-- before, is not the bit before it in one cell
unfoldable pub out_of_sequence : ℕ → Record → Record → Bool
out_of_sequence s p r = not (eqb r.bit 0) && ((kind_of r.kind).one_bit || (eqb s 0 || not (follows p r)))

-- at slot 0 the record before is not looked at
unfoldable pub bit_out_of_sequence : List Record → ℕ → Bool
bit_out_of_sequence rs s = out_of_sequence s (record_in rs (s - 1)) (record_in rs s)

-- 7: a net is no constant and either names no slot of the ticket or names one whose kind byte is an output's
abbrev pub undriven : List Record → Driver → Bool
undriven rs (driven.Const t) = false
undriven rs (driven.Cell s) = not (ltb s.0 (length rs)) || eqb (record_in rs s.0).kind (number_of sort.Output)

-- 7 by field, 1 for a, 2 for b, 3 for c: it holds an operand, whose net is such. No other number is a field, so none other fails
unfoldable pub undriven_field : List Record → Record → ℕ → Bool
undriven_field rs r f = is_operand r f && undriven rs (driver (net_at (field_of r f)))

-- the stages of one record
abbrev pub kind_stage : List Record → ℕ → Stage
kind_stage rs s = (unknown_kind (record_in rs s), UnknownKind (slot_at s))

abbrev pub field_stage : List Record → ℕ → Stage
field_stage rs s = (reserved_field (record_in rs s), ReservedField (slot_at s))

abbrev pub bit_stage : List Record → ℕ → Stage
bit_stage rs s = (bit_out_of_sequence rs s, BitOutOfSequence (slot_at s))

abbrev pub operand_stage : List Record → ℕ → ℕ → Stage
operand_stage rs s f = (undriven_field rs (record_in rs s) f, UndrivenOperand (slot_at s) f)

abbrev pub loop_stage : List Record → ℕ → Stage
loop_stage rs s = (on_loop rs s, Loop (slot_at s))

-- the stages of a whole ticket, and of the number of words in the work slice
abbrev pub work_stage : ℕ → Stage
work_stage words = (ltb words work_words, ShortWork)

abbrev pub length_stage : List ℕ → Stage
length_stage t = (not (eqb (length t % 16) 0), PartialRecord)

abbrev pub size_stage : List ℕ → Stage
size_stage t = (ltb max_records (length t / 16), TooManyRecords)

-- The stages stand in groups: a group is passed, refuses, is put in or left out as a whole.
-- 4 of one record
unfoldable pub kind_stages : List Record → ℕ → List Stage
kind_stages rs s = kind_stage rs s ∷ []

-- 5 of one record
unfoldable pub field_stages : List Record → ℕ → List Stage
field_stages rs s = field_stage rs s ∷ []

-- 6 of one record
unfoldable pub bit_stages : List Record → ℕ → List Stage
bit_stages rs s = bit_stage rs s ∷ []

-- 7 of one record: the first field that fails, in the order a, b, c (request 2026-06)
unfoldable pub operand_stages : List Record → ℕ → List Stage
operand_stages rs s = operand_stage rs s 1 ∷ operand_stage rs s 2 ∷ operand_stage rs s 3 ∷ []

-- 4 to 7 of one record
unfoldable pub record_stages : List Record → ℕ → List Stage
record_stages rs s = kind_stages rs s ++ field_stages rs s ++ bit_stages rs s ++ operand_stages rs s

-- 8 of one record
unfoldable pub loop_stages : List Record → ℕ → List Stage
loop_stages rs s = loop_stage rs s ∷ []

-- 1 to 3
unfoldable pub size_group : ℕ → List ℕ → List Stage
size_group words t = work_stage words ∷ length_stage t ∷ size_stage t ∷ []

-- 4 to 7, record by record
unfoldable pub record_group : List Record → List Stage
record_group rs = slot_by_slot (record_stages rs) (length rs)

-- 8, record by record
unfoldable pub loop_group : List Record → List Stage
loop_group rs = slot_by_slot (loop_stages rs) (length rs)

-- 4 to 7, then 8
unfoldable pub netlist_stages : List Record → List Stage
netlist_stages rs = record_group rs ++ loop_group rs

-- 1 to 8
unfoldable pub check_stages : ℕ → List ℕ → List Stage
check_stages words t = size_group words t ++ netlist_stages (records_of t)

-- the gate count: the sum of what records add by the kind table, 1 for and, or, xor, mux and and-inverter and 0 for all others (request 2026-03,
-- in place of the paper's records other than inputs and outputs). Each bit of a wide gate is a record, and one that nothing reads counts too
unfoldable pub gate_count : List Record → ℕ
gate_count [] = 0
gate_count (r ∷ rs) = (kind_of r.kind).gates + gate_count rs
