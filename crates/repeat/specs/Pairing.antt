-- Two tickets with the same records up to renumbering and the exchange of operands (paper, "What demand 3 compares"), said of the records.
-- Assumes nothing: these are definitions.
use Rattle.std.specs.Prelude.{◌≡◌, cond, ◌||◌, List, map, ◌⊎◌, ℕ, ◌+◌, ◌*◌, ◌/◌, ◌%◌, ◌<◌, eqb, length}
use Rattle.value.specs.Value.{net_at}
use Rattle.kinds.specs.declared.Sort.TheVariants as sort
use Rattle.kinds.specs.Kinds.{number_of}
use Rattle.cell.specs.declared.Record.{Record}
use Rattle.cell.specs.Operands.{field_of, is_operand}
use Rattle.cell.specs.Records.{record_of, record_in}
use Rattle.basics.specs.Lists.{slots, those}
use Rattle.normal.specs.Paired.{renumber}

-- a field of a record, by another numbering of the slots: an operand that is a constant stays, any other names the slot that p pairs with it
abbrev pub field_by : (ℕ → ℕ) → Record → ℕ → ℕ
field_by p r f = cond (is_operand r f) (renumber p (net_at (field_of r f))).0 (field_of r f)

unfoldable pub record_by : (ℕ → ℕ) → Record → Record
record_by p r = record_of r.kind r.flags r.bit (field_by p r 1) (field_by p r 2) (field_by p r 3)

-- the operands in a and b of a xor or an and-inverter exchanged, flags 1 and 2 with them
abbrev pub flags_exchanged : ℕ → ℕ
flags_exchanged f = f / 2 % 2 + 2 * (f % 2)

unfoldable pub exchanged : Record → Record
exchanged r =
    cond (eqb r.kind (number_of sort.Xor) || eqb r.kind (number_of sort.Aig)) (record_of r.kind (flags_exchanged r.flags) r.bit r.b r.a r.c) r

-- the slots of a kind
unfoldable pub slots_of_kind : ℕ → List Record → List ℕ
slots_of_kind k rs = those (λ s. eqb (record_in rs s).kind k) (slots (length rs))

-- the slots of rs pair off with those of rs' by p: equally many, one to one; the first input with the first, the second with the second
-- and so on, and outputs likewise; paired records are the same by the other numbering, but for the exchange
pub record RecordsPairedBy (p : ℕ → ℕ) (rs rs' : List Record) : Type 0 where
  pub many : length rs ≡ length rs'
  pub inside : (s : ℕ) → s < length rs → p s < length rs'
  pub single : (s s' : ℕ) → s < length rs → s' < length rs → p s ≡ p s' → s ≡ s'
  pub inputs : map p (slots_of_kind (number_of sort.Input) rs) ≡ slots_of_kind (number_of sort.Input) rs'
  pub outputs : map p (slots_of_kind (number_of sort.Output) rs) ≡ slots_of_kind (number_of sort.Output) rs'
  pub records : (s : ℕ) → s < length rs → (record_by p (record_in rs s) ≡ record_in rs' (p s)) ⊎ (exchanged (record_by p (record_in rs s)) ≡ record_in rs' (p s))

pub record RecordsPaired (rs rs' : List Record) : Type 0 where
  pub pairing : ℕ → ℕ
  pub paired : RecordsPairedBy pairing rs rs'
