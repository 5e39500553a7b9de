-- What the tests of one record and the loops over the records show. Assumes nothing.
use mathlib.Core.Path.{◌≡◌, refl, sym, ap, ap₂, ◌∙◌}
use mathlib.Core.Bool.{Bool, true, false}
use mathlib.Core.List.{List, [], ◌∷◌, ◌++◌, map}
use Prim.Native.Nat.{ℕ, zero, suc, ◌+◌, ◌-◌, ◌/◌, ◌<◌, ◌≤◌}
use native.Mathlib.Omega.{arith}
use native.Mathlib.Numerals.{add-one}
use lib.Dec.{eqb, leb}
use lib.ListN.{length}
use borrow.Author.Tests.{lt-ltb, le-ltb, le-leb}
use Rattle.std.specs.Prelude.{Ok, Err}
use Rattle.std.specs.List.{range_with_len, sum}
use Rattle.std.proofs.lemmas.List.FromFn.{sum_by-map-range_with_len_more}
use Rattle.value.specs.declared.Slot.{Slot}
use Rattle.value.specs.declared.Driver.{Driver}
use Rattle.value.specs.declared.Driver.TheVariants as driven
use Rattle.cell.specs.declared.Record.{Record}
use Rattle.kinds.specs.Kinds.{kind_of}
use Rattle.basics.specs.Lists.{tabulate}
use Rattle.cell.specs.Records.{record_at, records_of, record_in}
use Rattle.kinds.proofs.Laws.{gates-one}
use Rattle.cell.proofs.Lists.{records-length, records-at}
use Rattle.refusals.specs.declared.Refusal.{Refusal}
use Rattle.refusals.specs.declared.Refusal.TheVariants.{UnknownKind, ReservedField, BitOutOfSequence, UndrivenOperand}
use Rattle.refusals.specs.Refusals.{first_of, slot_by_slot, Verdict}
use Rattle.checking.specs.Checking.{unknown_kind, reserved_field, out_of_sequence, bit_out_of_sequence, undriven, undriven_field, kind_stage, field_stage, bit_stage, kind_stages, field_stages, bit_stages, operand_stages, record_stages, record_group, gate_count}
use Rattle.refusals.proofs.Stages.{first-refuses, slots-none, slots-more, slots-refused}
use Rattle.checking.proofs.Groups.{fields-driven, kind-exactly, field-exactly, bit-exactly, operand-exactly, first_field, second-field, third-field, kind-decides, field-decides, bit-decides, operands-decide}

-- an operand that names a slot past the last record, and one that names a record
module _ (t : List ℕ) (d : Driver) (s : Slot) (q : d ≡ driven.Cell s) where
  pub undriven-past : length t / 16 ≤ s.0 → leb (length t / 16) s.0 ≡ undriven (records_of t) d
  undriven-past h = rw (q, records-length t, le-ltb s.0 (length t / 16) h, le-leb (length t / 16) s.0 h)

  pub undriven-kind : s.0 < length t / 16 → (k : ℕ) → k ≡ (record_at t s.0).kind → (b : Bool) → b ≡ eqb k 2 → b ≡ undriven (records_of t) d
  undriven-kind h k f b g = rw (q, records-length t, lt-ltb s.0 (length t / 16) h, g, f, records-at t s.0 h)

-- the groups of a record: the operands field by field, then 4, 5 and 6, behind which the operands are left
module _ (t : List ℕ) (s : Slot) (h : s.0 < length t / 16) (r : Record) (q : r ≡ record_at t s.0) where
  abbrev rs : List Record
  rs = records_of t

  here : record_in rs s.0 ≡ r
  here = records-at t s.0 h ∙ sym q

  -- the operands, field by field
  tested : (f : ℕ) (x b : Bool) → x ≡ undriven_field rs r f → x ≡ b → undriven_field rs (record_in rs s.0) f ≡ b
  tested f x b x-is e = ap (λ (q : Record). undriven_field rs q f) here ∙ sym x-is ∙ e

  module _ (x : Bool) (x-is : x ≡ undriven_field (records_of t) r 1) where
    pub refuses-a : x ≡ true → Err (UndrivenOperand s 1) ≡ first_of (operand_stages (records_of t) s.0)
    refuses-a e = sym (first_field rs s.0 (tested 1 x true x-is e))

    module _ (x-no : x ≡ false) (y : Bool) (y-is : y ≡ undriven_field (records_of t) r 2) where
      pub refuses-b : y ≡ true → Err (UndrivenOperand s 2) ≡ first_of (operand_stages (records_of t) s.0)
      refuses-b e = sym (second-field rs s.0 (tested 1 x false x-is x-no) (tested 2 y true y-is e))

      module _ (y-no : y ≡ false) (z : Bool) (z-is : z ≡ undriven_field (records_of t) r 3) where
        pub refuses-c : z ≡ true → Err (UndrivenOperand s 3) ≡ first_of (operand_stages (records_of t) s.0)
        refuses-c e = sym (third-field rs s.0 (tested 1 x false x-is x-no) (tested 2 y false y-is y-no) (tested 3 z true z-is e))

        pub all-driven : z ≡ false → Ok tt ≡ first_of (operand_stages (records_of t) s.0)
        all-driven e =
            sym ((operand-exactly rs s.0).1
            (fields-driven rs (record_in rs s.0) (tested 1 x false x-is x-no) (tested 2 y false y-is y-no) (tested 3 z false z-is e)))

  module _ (x : Bool) (x-is : x ≡ unknown_kind r) where
    pub refuses-4 : x ≡ true → Err (UnknownKind s) ≡ first_of (record_stages (records_of t) s.0)
    unfolding kind_stages
    refuses-4 f = sym (kind-decides rs s.0 (UnknownKind s) (first-refuses (kind_stage rs s.0) [] (ap unknown_kind here ∙ sym x-is ∙ f)))

    module _ (x-no : x ≡ false) (y : Bool) (y-is : y ≡ reserved_field r) where
      kind-passed : first_of (kind_stages rs s.0) ≡ Ok tt
      kind-passed = (kind-exactly rs s.0).1 (ap unknown_kind here ∙ sym x-is ∙ x-no)

      pub refuses-5 : y ≡ true → Err (ReservedField s) ≡ first_of (record_stages (records_of t) s.0)
      unfolding field_stages
      refuses-5 f =
          sym (field-decides rs s.0 (ReservedField s) kind-passed (first-refuses (field_stage rs s.0) [] (ap reserved_field here ∙ sym y-is ∙ f)))

      module _ (y-no : y ≡ false) (p : Record) (p-is : p ≡ record_at t (s.0 - 1)) (z : Bool) (z-is : z ≡ out_of_sequence s.0 p r) where
        fields-passed : first_of (field_stages rs s.0) ≡ Ok tt
        fields-passed = (field-exactly rs s.0).1 (ap reserved_field here ∙ sym y-is ∙ y-no)

        in-sequence : bit_out_of_sequence rs s.0 ≡ z
        unfolding bit_out_of_sequence
        in-sequence = ap₂ (out_of_sequence s.0) (records-at t (s.0 - 1) (omega arith) ∙ sym p-is) here ∙ sym z-is

        pub refuses-6 : z ≡ true → Err (BitOutOfSequence s) ≡ first_of (record_stages (records_of t) s.0)
        unfolding bit_stages
        refuses-6 f =
            sym (bit-decides rs s.0 (BitOutOfSequence s) kind-passed fields-passed (first-refuses (bit_stage rs s.0) [] (in-sequence ∙ f)))

        pub operands-left : z ≡ false → (v : Verdict) → v ≡ first_of (operand_stages (records_of t) s.0) → v ≡ first_of (record_stages (records_of t) s.0)
        operands-left z-no v v-is = v-is ∙ sym (operands-decide rs s.0 kind-passed fields-passed ((bit-exactly rs s.0).1 (in-sequence ∙ z-no)))

-- the loop over the records
module _ (t : List ℕ) (s : ℕ) (e : Ok tt ≡ first_of (slot_by_slot (record_stages (records_of t)) s)) where
  pub decided : s < length t / 16 → (x : Refusal) → Err x ≡ first_of (record_stages (records_of t) s) → Err x ≡ first_of (record_group (records_of t))
  unfolding record_group
  decided l x f = slots-refused (record_stages (records_of t)) (length (records_of t)) s x (omega (arith, records-length t)) e f

  pub passed : Ok tt ≡ first_of (record_stages (records_of t) s) → Ok tt ≡ first_of (slot_by_slot (record_stages (records_of t)) (s + 1))
  passed f = slots-more (record_stages (records_of t)) s e f

  pub all-passed : length t / 16 ≤ s → s ≤ length t / 16 → Ok tt ≡ first_of (record_group (records_of t))
  unfolding record_group
  all-passed l m = e ∙ ap (λ (k : ℕ). first_of (slot_by_slot (record_stages (records_of t)) k)) (omega (arith, records-length t))

-- the gate count, a record more each turn
count-more : (rs : List Record) (r : Record) → gate_count (rs ++ (r ∷ [])) ≡ gate_count rs + (kind_of r.kind).gates
unfolding gate_count
count-more [] r = omega arith
count-more (q ∷ rs) r = ap (λ (k : ℕ). (kind_of q.kind).gates + k) (count-more rs r) ∙ omega arith

-- what the record of a slot adds, and the sum over the first n slots: their gate count, at most one gate for each
module _ (t : List ℕ) where
  abbrev pub gates_at : ℕ → ℕ
  gates_at s = (kind_of (record_at t s).kind).gates

  pub gates-summed : (n : ℕ) → sum (map gates_at (range_with_len 0 n)) ≡ gate_count (tabulate (record_at t) n)
  unfolding tabulate gate_count
  gates-summed zero = refl
  gates-summed (suc n) =
      ap (λ (k : ℕ). sum (map gates_at (range_with_len 0 k))) (sym (add-one n))
      ∙ sum_by-map-range_with_len_more (λ (x : ℕ). x) gates_at 0 n n (omega arith)
      ∙ ap (λ (k : ℕ). k + gates_at n) (gates-summed n)
      ∙ sym (count-more (tabulate (record_at t) n) (record_at t n))

  pub gates-few : (n : ℕ) → gate_count (tabulate (record_at t) n) ≤ n
  unfolding tabulate gate_count
  gates-few zero = omega arith
  gates-few (suc n) = omega (arith, gates-few n, gates-one (record_at t n).kind, count-more (tabulate (record_at t) n) (record_at t n))

  pub counts_all : (n : ℕ) → n ≡ length t / 16 → sum (map gates_at (range_with_len 0 n)) ≡ gate_count (records_of t)
  unfolding records_of
  counts_all n e = gates-summed n ∙ ap (λ (k : ℕ). gate_count (tabulate (record_at t) k)) e

-- what the functions of the code cite
pub ruleset undriven_steps = (undriven-past, undriven-kind)

pub ruleset operand_steps = (refuses-a, refuses-b, refuses-c, all-driven)

pub ruleset record_steps = (refuses-4, refuses-5, refuses-6, operands-left)

pub ruleset records_steps = (slots-none, decided, passed, all-passed)
