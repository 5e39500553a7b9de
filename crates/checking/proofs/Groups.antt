-- The groups of the stages of checking, by their names: all stages pass exactly if each group does, the first group that refuses decides, and
-- what it means that a group passes; which field 7 names; the numbers that each group gives. A group that is put in is said here, and where
-- that group itself is spoken of. Assumes nothing.
use mathlib.Core.Path.{◌≡◌, refl, sym, ◌∙◌, subst}
use mathlib.Core.Bool.{Bool, true, false, not, false≢true}
use mathlib.Core.Logic.{◌↔◌, ◌⊎◌, ⊎_elim}
use mathlib.Core.List.{List, ◌++◌}
use Prim.Native.Nat.{ℕ, ◌/◌, ◌%◌, ◌<◌}
use native.Mathlib.Omega.{arith}
use lib.Dec.{eqb, ltb}
use lib.ListN.{length}
use Rattle.std.specs.Prelude.{Ok, Err}
use Rattle.basics.proofs.Truth.{either}
use Rattle.value.specs.Value.{slot_at}
use Rattle.cell.specs.declared.Record.{Record}
use Rattle.cell.specs.Operands.{is_operand}
use Rattle.cell.proofs.Operands.{operand-field}
use Rattle.cell.specs.Limits.{work_words, max_records}
use Rattle.cell.specs.Records.{records_of, record_in}
use Rattle.loops.specs.Reach.{on_loop}
use Rattle.refusals.specs.declared.Refusal.{Refusal}
use Rattle.refusals.specs.declared.Refusal.TheVariants.{UndrivenOperand}
use Rattle.refusals.specs.Refusals.{Stage, first_of}
use Rattle.checking.specs.Checking.{unknown_kind, reserved_field, bit_out_of_sequence, undriven_field, kind_stage, field_stage, bit_stage, operand_stage, loop_stage, work_stage, length_stage, size_stage, kind_stages, field_stages, bit_stages, operand_stages, record_stages, loop_stages, size_group, record_group, loop_group, netlist_stages, check_stages}
use Rattle.refusals.proofs.Stages.{passed-exactly, one-exactly, later-decides, earlier-decides, passes-both, both-exactly, first-refuses, first_passes, passes-not, refused-inj, slots-exactly, EachGives, both-give, slots-give, Within, each-imp}

-- ---- the fields of one record
module _ (rs : List Record) (r : Record) where
  -- a field that fails is a, b or c
  pub failing-field : (f : ℕ) → undriven_field rs r f ≡ true → (f ≡ 1) ⊎ ((f ≡ 2) ⊎ (f ≡ 3))
  unfolding undriven_field
  failing-field f e = either (is_operand r f) (operand-field r f) (λ o. absurd (false≢true (sym (rw o) ∙ e)))

  -- so that one does not fail is asked of these alone
  driven-by : (f : ℕ) → (f ≡ 1 → undriven_field rs r 1 ≡ false) → (f ≡ 2 → undriven_field rs r 2 ≡ false) → (f ≡ 3 → undriven_field rs r 3 ≡ false)
      → undriven_field rs r f ≡ false
  driven-by f a b c = either (undriven_field rs r f) (λ e. ⊎_elim (at 1 a) (⊎_elim (at 2 b) (at 3 c)) (failing-field f e)) (λ e. e)
    where
      at : (k : ℕ) → (f ≡ k → undriven_field rs r k ≡ false) → f ≡ k → undriven_field rs r f ≡ false
      at k h q = subst (λ (j : ℕ). undriven_field rs r j ≡ false) (sym q) (h q)

  pub fields-driven : undriven_field rs r 1 ≡ false → undriven_field rs r 2 ≡ false → undriven_field rs r 3 ≡ false → (f : ℕ) → undriven_field rs r f ≡ false
  fields-driven a b c f = driven-by f (λ q. a) (λ q. b) (λ q. c)

-- ---- the groups of one record
module _ (rs : List Record) (s : ℕ) where
  pub kind-exactly : (first_of (kind_stages rs s) ≡ Ok tt) ↔ (unknown_kind (record_in rs s) ≡ false)
  unfolding kind_stages
  kind-exactly = one-exactly (kind_stage rs s)

  pub field-exactly : (first_of (field_stages rs s) ≡ Ok tt) ↔ (reserved_field (record_in rs s) ≡ false)
  unfolding field_stages
  field-exactly = one-exactly (field_stage rs s)

  pub bit-exactly : (first_of (bit_stages rs s) ≡ Ok tt) ↔ (bit_out_of_sequence rs s ≡ false)
  unfolding bit_stages
  bit-exactly = one-exactly (bit_stage rs s)

  pub operand-exactly : (first_of (operand_stages rs s) ≡ Ok tt) ↔ ((f : ℕ) → undriven_field rs (record_in rs s) f ≡ false)
  unfolding operand_stages
  operand-exactly = (
    λ e.
        let p = (passed-exactly (operand_stages rs s)).0 e in
        fields-driven rs (record_in rs s) (p 0 (omega arith)) (p 1 (omega arith)) (p 2 (omega arith)),
    λ p. first_passes (operand_stage rs s 1) _ (p 1) ∙ first_passes (operand_stage rs s 2) _ (p 2) ∙ (one-exactly (operand_stage rs s 3)).1 (p 3),
  )

  pub loop-exactly : (first_of (loop_stages rs s) ≡ Ok tt) ↔ (on_loop rs s ≡ false)
  unfolding loop_stages
  loop-exactly = one-exactly (loop_stage rs s)

-- ---- 7 by field
-- a refusal is 7 at s, and names the least field that fails
pub record NamesField (rs : List Record) (s : ℕ) (x : Refusal) : Type 0 where
  pub field : ℕ
  pub is : x ≡ UndrivenOperand (slot_at s) field
  pub fails : undriven_field rs (record_in rs s) field ≡ true
  pub least : (g : ℕ) → g < field → undriven_field rs (record_in rs s) g ≡ false

module _ (rs : List Record) (s : ℕ) where
  abbrev undriven-at : ℕ → Bool
  undriven-at = undriven_field rs (record_in rs s)

  abbrev Names : ℕ → Type 0
  Names f = first_of (operand_stages rs s) ≡ Err (UndrivenOperand (slot_at s) f)

  pub first_field : undriven-at 1 ≡ true → Names 1
  unfolding operand_stages
  first_field a = first-refuses (operand_stage rs s 1) _ a

  pub second-field : undriven-at 1 ≡ false → undriven-at 2 ≡ true → Names 2
  unfolding operand_stages
  second-field a b = first_passes (operand_stage rs s 1) _ a ∙ first-refuses (operand_stage rs s 2) _ b

  pub third-field : undriven-at 1 ≡ false → undriven-at 2 ≡ false → undriven-at 3 ≡ true → Names 3
  unfolding operand_stages
  third-field a b c = first_passes (operand_stage rs s 1) _ a ∙ first_passes (operand_stage rs s 2) _ b ∙ first-refuses (operand_stage rs s 3) _ c

  -- the group names the least field that fails
  pub names-least : (f : ℕ) → undriven-at f ≡ true → ((g : ℕ) → g < f → undriven-at g ≡ false) → Names f
  names-least f fails least = ⊎_elim (at 1 one) (⊎_elim (at 2 two) (at 3 three)) (failing-field rs (record_in rs s) f fails)
    where
      one : undriven-at 1 ≡ true → f ≡ 1 → Names 1
      one h q = first_field h

      two : undriven-at 2 ≡ true → f ≡ 2 → Names 2
      two h q = second-field (least 1 (omega arith)) h

      three : undriven-at 3 ≡ true → f ≡ 3 → Names 3
      three h q = third-field (least 1 (omega arith)) (least 2 (omega arith)) h

      at : (k : ℕ) → (undriven-at k ≡ true → f ≡ k → Names k) → f ≡ k → Names f
      at k h q = subst Names (sym q) (h (subst (λ (j : ℕ). undriven-at j ≡ true) q fails) q)

  -- and no other refusal
  pub group-names : (x : Refusal) → first_of (operand_stages rs s) ≡ Err x → NamesField rs s x
  group-names x e = go (undriven-at 1) (undriven-at 2) (undriven-at 3) refl refl refl
    where
      named : (f : ℕ) → Names f → undriven-at f ≡ true → ((g : ℕ) → g < f → undriven-at g ≡ false) → NamesField rs s x
      named f n h l = record { field = f; is = refused-inj x (UndrivenOperand (slot_at s) f) (sym e ∙ n); fails = h; least = l }

      go : (a b c : Bool) → undriven-at 1 ≡ a → undriven-at 2 ≡ b → undriven-at 3 ≡ c → NamesField rs s x
      go true b c p q r = named 1 (first_field p) p (λ g l. driven-by rs (record_in rs s) g (λ i. absurd (omega arith)) (λ i. absurd (omega arith)) (λ i. absurd (omega arith)))
      go false true c p q r = named 2 (second-field p q) q (λ g l. driven-by rs (record_in rs s) g (λ i. p) (λ i. absurd (omega arith)) (λ i. absurd (omega arith)))
      go false false true p q r = named 3 (third-field p q r) r (λ g l. driven-by rs (record_in rs s) g (λ i. p) (λ i. q) (λ i. absurd (omega arith)))
      go false false false p q r = absurd (passes-not x (sym ((operand-exactly rs s).1 (fields-driven rs (record_in rs s) p q r)) ∙ e))

-- each group of a record passes
pub record RecordPasses (rs : List Record) (s : ℕ) : Type 0 where
  pub kind : first_of (kind_stages rs s) ≡ Ok tt
  pub fields : first_of (field_stages rs s) ≡ Ok tt
  pub bits : first_of (bit_stages rs s) ≡ Ok tt
  pub operands : first_of (operand_stages rs s) ≡ Ok tt

module _ (rs : List Record) (s : ℕ) where
  abbrev pub upto-fields : List Stage
  upto-fields = kind_stages rs s ++ field_stages rs s

  abbrev pub upto-bits : List Stage
  upto-bits = upto-fields ++ bit_stages rs s

  record-exactly : (first_of (record_stages rs s) ≡ Ok tt) ↔ RecordPasses rs s
  unfolding record_stages
  record-exactly = (
    λ e.
        let p = passes-both upto-bits (operand_stages rs s) e in
        let q = passes-both upto-fields (bit_stages rs s) p.0 in
        let r = passes-both (kind_stages rs s) (field_stages rs s) q.0 in
        record { kind = r.0; fields = r.1; bits = q.1; operands = p.1 },
    λ p.
        (both-exactly upto-bits (operand_stages rs s)).1 (
          (both-exactly upto-fields (bit_stages rs s)).1 ((both-exactly (kind_stages rs s) (field_stages rs s)).1 (p.kind, p.fields), p.bits),
          p.operands,
        ),
  )

  -- the first group that refuses decides
  module _ (x : Refusal) where
    pub kind-decides : first_of (kind_stages rs s) ≡ Err x → first_of (record_stages rs s) ≡ Err x
    unfolding record_stages
    kind-decides e =
        earlier-decides upto-bits (operand_stages rs s) x
        (earlier-decides upto-fields (bit_stages rs s) x (earlier-decides (kind_stages rs s) (field_stages rs s) x e))

    module _ (kind : first_of (kind_stages rs s) ≡ Ok tt) where
      pub field-decides : first_of (field_stages rs s) ≡ Err x → first_of (record_stages rs s) ≡ Err x
      unfolding record_stages
      field-decides e =
          earlier-decides upto-bits (operand_stages rs s) x
          (earlier-decides upto-fields (bit_stages rs s) x (later-decides (kind_stages rs s) (field_stages rs s) kind ∙ e))

      module _ (fields : first_of (field_stages rs s) ≡ Ok tt) where
        fields-passed : first_of upto-fields ≡ Ok tt
        fields-passed = (both-exactly (kind_stages rs s) (field_stages rs s)).1 (kind, fields)

        pub bit-decides : first_of (bit_stages rs s) ≡ Err x → first_of (record_stages rs s) ≡ Err x
        unfolding record_stages
        bit-decides e = earlier-decides upto-bits (operand_stages rs s) x (later-decides upto-fields (bit_stages rs s) fields-passed ∙ e)

  -- and behind groups that pass the last
  pub operands-decide : first_of (kind_stages rs s) ≡ Ok tt → first_of (field_stages rs s) ≡ Ok tt → first_of (bit_stages rs s) ≡ Ok tt
      → first_of (record_stages rs s) ≡ first_of (operand_stages rs s)
  unfolding record_stages
  operands-decide kind fields bits =
      later-decides upto-bits (operand_stages rs s)
      ((both-exactly upto-fields (bit_stages rs s)).1 ((both-exactly (kind_stages rs s) (field_stages rs s)).1 (kind, fields), bits))

-- ---- the groups of all records
-- each group passes
pub record NetlistPasses (rs : List Record) : Type 0 where
  pub records : first_of (record_group rs) ≡ Ok tt
  pub loops : first_of (loop_group rs) ≡ Ok tt

module _ (rs : List Record) where
  pub records-exactly : (first_of (record_group rs) ≡ Ok tt) ↔ ((s : ℕ) → s < length rs → RecordPasses rs s)
  unfolding record_group
  records-exactly =
      let slots = slots-exactly (record_stages rs) (length rs) in
      (λ e s l. (record-exactly rs s).0 (slots.0 e s l), λ h. slots.1 (λ s l. (record-exactly rs s).1 (h s l)))

  pub loops-exactly : (first_of (loop_group rs) ≡ Ok tt) ↔ ((s : ℕ) → s < length rs → on_loop rs s ≡ false)
  unfolding loop_group
  loops-exactly =
      let slots = slots-exactly (loop_stages rs) (length rs) in
      (λ e s l. (loop-exactly rs s).0 (slots.0 e s l), λ h. slots.1 (λ s l. (loop-exactly rs s).1 (h s l)))

  pub netlist-exactly : (first_of (netlist_stages rs) ≡ Ok tt) ↔ NetlistPasses rs
  unfolding netlist_stages
  netlist-exactly =
      let both = both-exactly (record_group rs) (loop_group rs) in
      (λ e. let p = both.0 e in record { records = p.0; loops = p.1 }, λ p. both.1 (p.records, p.loops))

  -- the first group that refuses decides; behind one that passes the next does
  pub records-decide : (x : Refusal) → first_of (record_group rs) ≡ Err x → first_of (netlist_stages rs) ≡ Err x
  unfolding netlist_stages
  records-decide x e = earlier-decides (record_group rs) (loop_group rs) x e

  pub records-passed : first_of (record_group rs) ≡ Ok tt → first_of (netlist_stages rs) ≡ first_of (loop_group rs)
  unfolding netlist_stages
  records-passed e = later-decides (record_group rs) (loop_group rs) e

-- ---- the groups of a ticket
-- each stage of the first group passes
pub record SizesPass (words : ℕ) (t : List ℕ) : Type 0 where
  pub work : ltb words work_words ≡ false
  pub whole : not (eqb (length t % 16) 0) ≡ false
  pub few : ltb max_records (length t / 16) ≡ false

-- each group passes
pub record CheckPasses (words : ℕ) (t : List ℕ) : Type 0 where
  pub sizes : first_of (size_group words t) ≡ Ok tt
  pub netlist : first_of (netlist_stages (records_of t)) ≡ Ok tt

module _ (words : ℕ) (t : List ℕ) where
  pub sizes-exactly : (first_of (size_group words t) ≡ Ok tt) ↔ SizesPass words t
  unfolding size_group
  sizes-exactly = (
    λ e. let p = (passed-exactly (size_group words t)).0 e in record { work = p 0 (omega arith); whole = p 1 (omega arith); few = p 2 (omega arith) },
    λ p. first_passes (work_stage words) _ p.work ∙ first_passes (length_stage t) _ p.whole ∙ (one-exactly (size_stage t)).1 p.few,
  )

  pub check-exactly : (first_of (check_stages words t) ≡ Ok tt) ↔ CheckPasses words t
  unfolding check_stages
  check-exactly =
      let both = both-exactly (size_group words t) (netlist_stages (records_of t)) in
      (λ e. let p = both.0 e in record { sizes = p.0; netlist = p.1 }, λ p. both.1 (p.sizes, p.netlist))

  -- the first group that refuses decides; behind one that passes the next does
  pub sizes-decide : (x : Refusal) → first_of (size_group words t) ≡ Err x → first_of (check_stages words t) ≡ Err x
  unfolding check_stages
  sizes-decide x e = earlier-decides (size_group words t) (netlist_stages (records_of t)) x e

  pub sizes-passed : first_of (size_group words t) ≡ Ok tt → first_of (check_stages words t) ≡ first_of (netlist_stages (records_of t))
  unfolding check_stages
  sizes-passed e = later-decides (size_group words t) (netlist_stages (records_of t)) e

-- ---- the numbers that a group gives
module _ (rs : List Record) where
  pub tests-give : (s : ℕ) → EachGives (Within 4 6) (upto-bits rs s)
  unfolding kind_stages field_stages bit_stages
  tests-give s = (omega arith, (omega arith, (omega arith, tt)))

  record-gives : (s : ℕ) → EachGives (Within 4 7) (record_stages rs s)
  unfolding record_stages operand_stages
  record-gives s =
      both-give (Within 4 7) (upto-bits rs s) (operand_stages rs s) (each-imp (Within 4 6) (Within 4 7) (λ x l. omega arith) (upto-bits rs s) (tests-give s))
      (omega arith, (omega arith, (omega arith, tt)))

  pub loops-give : EachGives (Within 8 8) (loop_group rs)
  unfolding loop_group loop_stages
  loops-give = slots-give (Within 8 8) (loop_stages rs) (λ s. (omega arith, tt)) (length rs)

  netlist-gives : EachGives (Within 4 8) (netlist_stages rs)
  unfolding netlist_stages record_group
  netlist-gives =
      both-give (Within 4 8) (record_group rs) (loop_group rs)
      (each-imp (Within 4 7) (Within 4 8) (λ x l. omega arith) (record_group rs) (slots-give (Within 4 7) (record_stages rs) record-gives (length rs)))
      (each-imp (Within 8 8) (Within 4 8) (λ x l. omega arith) (loop_group rs) loops-give)

module _ (words : ℕ) (t : List ℕ) where
  pub sizes-give : EachGives (Within 1 3) (size_group words t)
  unfolding size_group
  sizes-give = (omega arith, (omega arith, (omega arith, tt)))

  pub check-gives : EachGives (Within 1 8) (check_stages words t)
  unfolding check_stages
  check-gives =
      both-give (Within 1 8) (size_group words t) (netlist_stages (records_of t))
      (each-imp (Within 1 3) (Within 1 8) (λ x l. omega arith) (size_group words t) sizes-give)
      (each-imp (Within 4 8) (Within 1 8) (λ x l. omega arith) (netlist_stages (records_of t)) (netlist-gives (records_of t)))
