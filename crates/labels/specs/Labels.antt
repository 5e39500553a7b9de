-- Labels, and the slot that repeats one (request 2026-02). Slots are numbers here, but in what is told. Assumes nothing: these are definitions.
use Rattle.std.specs.Prelude.{◌≡◌, Bool, true, cond, ◌&&◌, ◌||◌, List, ℕ, ◌<◌, eqb, length, Option, option_map, find}
use Rattle.basics.specs.Lists.{slots, any_of}
use Rattle.value.specs.declared.Slot.{Slot}
use Rattle.value.specs.Value.{slot_at}
use Rattle.kinds.specs.declared.Sort.TheVariants as sort
use Rattle.kinds.specs.Kinds.{number_of}
use Rattle.cell.specs.declared.Record.{Record}
use Rattle.cell.specs.Records.{record_in}

-- the label of a record counts: of an output, and of an input at bit 0. The later bits of a wide input repeat its label (else refusal 6)
unfoldable pub is_labelled : Record → Bool
is_labelled r = eqb r.kind (number_of sort.Output) || (eqb r.kind (number_of sort.Input) && eqb r.bit 0)

-- an input's in field a, an output's in field b (the kind table); of no other record is it asked
unfoldable pub label_of : Record → ℕ
label_of r = cond (eqb r.kind (number_of sort.Input)) r.a r.b

-- both have a label that counts, of one kind and equal: an input and an output may share one
unfoldable pub same_label : Record → Record → Bool
same_label p r = is_labelled p && is_labelled r && eqb p.kind r.kind && eqb (label_of p) (label_of r)

-- an earlier record of its kind has its label
unfoldable pub doubled_label : List Record → ℕ → Bool
doubled_label rs s = any_of (λ x. same_label (record_in rs x) (record_in rs s)) (slots s)

-- the lowest slot that repeats an earlier one
unfoldable pub first_doubled : List Record → Option Slot
first_doubled rs = option_map slot_at (find (doubled_label rs) (slots (length rs)))

-- in words: two records have one label, and slot s repeats that of slot x
pub record Same (p r : Record) : Type 0 where
  pub labelled : (is_labelled p ≡ true) × (is_labelled r ≡ true)
  pub kind : p.kind ≡ r.kind
  pub label : label_of p ≡ label_of r

pub record Repeats (rs : List Record) (x s : ℕ) : Type 0 where
  pub earlier : x < s
  pub same : Same (record_in rs x) (record_in rs s)

-- and no slot below s repeats one: it is the one told, proofs/Doubled.antt, `doubled-exactly`
pub record FirstRepeat (rs : List Record) (s : ℕ) : Type 0 where
  pub there : s < length rs
  pub repeats : (x : ℕ) × Repeats rs x s
  pub lowest : (i x : ℕ) → i < s → Repeats rs x i → ⊥
