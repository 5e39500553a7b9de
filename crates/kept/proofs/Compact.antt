-- Compacting: the kept slots in their order, under new numbers. A valuation goes along, in any algebra, and the result is sound.
-- Assumes nothing.
use mathlib.Core.Path.{◌≡◌, refl, sym, ap, ap₂, ◌∙◌, subst}
use mathlib.Core.Bool.{Bool, true, false}
use mathlib.Core.List.{List, map}
use Prim.Native.Nat.{ℕ, suc, ◌+◌, ◌-◌, ◌≤◌, ◌<◌}
use native.Mathlib.Omega.{arith}
use lib.Dec.{eqb}
use lib.ListN.{length, get_or, length-map}
use borrow.Author.Tests.{eqb-false, ne_eqb}
use Rattle.logic.specs.declared.Trit.{Trit}
use Rattle.value.specs.declared.Net.{Net}
use Rattle.value.specs.declared.Slot.{Slot}
use Rattle.value.specs.declared.Driver.{Driver}
use Rattle.value.specs.declared.Driver.TheVariants as driven
use Rattle.value.specs.Value.{slot_at, driver}
use Rattle.value.proofs.Laws.{driver-cell}
use Rattle.cell.specs.declared.Record.{Record}
use Rattle.cell.specs.declared.Cell.{Cell}
use Rattle.cell.specs.declared.Cell.TheVariants.{Input}
use Rattle.cell.specs.Records.{cell_record}
use Rattle.checking.specs.Checking.{out_of_sequence}
use Rattle.netlist.specs.Shape.{visit, comb_reads, visit_mut, is_output}
use Rattle.netlist.specs.Netlist.{Netlist, cell_in}
use Rattle.compact.specs.Compact.{keep, is_kept, kept_slots, count_kept, renumbered, net_map, compact}
use Rattle.basics.specs.Lists.{All}
use Rattle.order_laws.specs.Members.{Drives}
use Rattle.basics.proofs.Truth.{either}
use Rattle.basics.proofs.Members.{all-imp, all_both}
use Rattle.order_laws.proofs.Operands.{comb-all, drives-at, drives-none, visited-all, visited-comb}
use Rattle.basics.proofs.Indices.{get_d-mapped}
use Rattle.order_laws.proofs.Sorts.{record-bit, output-mapped}
use Rattle.levels_laws.specs.Algebra.{Algebra, net_value, cell_value, Fits, Before, Ranked}
use Rattle.levels_laws.proofs.Operands.{value-const, value-slot, cell_same, cell-visit_mut}
use Rattle.kept.proofs.Chosen.{chosen, count, count_yes, count-le, PlaceOf, place_of, SlotAt, slot-at}
use Rattle.kept.proofs.Records.{Continues, sequence-zero, sequence-more, continues-mapped}
use Rattle.kept.proofs.Sound.{record_in, Inside, NoOutput, Sound, Inner, inner, bit-continues}
use Rattle.kept.proofs.Keep.{KeptNet, reads_kept}

module _ (d : Netlist) (rank : ℕ → ℕ) (sound : Sound d rank) where
  abbrev pub kept : ℕ → Bool
  kept = is_kept d.bits (keep d)

  abbrev total : ℕ
  total = length d.cells

  abbrev mapped : Net → Net
  mapped = net_map d.bits (keep d)

  -- the slot that stands at a new place
  abbrev pub old : ℕ → ℕ
  old j = get_or (chosen kept total) j 0

  pub compact-cells : (compact d).cells ≡ map (λ s. visit_mut mapped (cell_in d.cells s)) (chosen kept total)
  unfolding compact kept_slots chosen
  compact-cells = refl

  compact-bits : (compact d).bits ≡ map (λ s. get_or d.bits s 0) (chosen kept total)
  unfolding compact kept_slots chosen
  compact-bits = refl

  pub compact-length : length (compact d).cells ≡ count kept total
  compact-length = ap length compact-cells ∙ length-map (chosen kept total) (λ s. visit_mut mapped (cell_in d.cells s))

  pub compact-shorter : length (compact d).cells ≤ total
  compact-shorter = let e : length (compact d).cells ≡ count kept total = compact-length in omega (arith, count-le kept total)

  pub cell_at : (j : ℕ) → j < count kept total → cell_in (compact d).cells j ≡ visit_mut mapped (cell_in d.cells (old j))
  cell_at j l =
      ap (λ (cs : List Cell). cell_in cs j) compact-cells
      ∙ get_d-mapped (λ s. visit_mut mapped (cell_in d.cells s)) (chosen kept total) j 0 (Input 0) l

  pub bit_at : (j : ℕ) → j < count kept total → get_or (compact d).bits j 0 ≡ get_or d.bits (old j) 0
  bit_at j l = ap (λ (bs : List ℕ). get_or bs j 0) compact-bits ∙ get_d-mapped (λ s. get_or d.bits s 0) (chosen kept total) j 0 0 l

  -- the new net of an operand
  mapped-const : (m : Net) (t : Trit) → driver m ≡ driven.Const t → driver (mapped m) ≡ driven.Const t
  unfolding net_map
  mapped-const m t e = ap (λ x. driver (renumbered d.bits (keep d) m x)) e ∙ e

  pub mapped-slot : (m : Net) (x : Slot) → driver m ≡ driven.Cell x → x.0 < total → driver (mapped m) ≡ driven.Cell (slot_at (count kept x.0))
  unfolding net_map count_kept kept_slots chosen
  mapped-slot m x e l =
      ap (λ y. driver (renumbered d.bits (keep d) m y)) e
      ∙ driver-cell (slot_at (count kept x.0)) (let f : total ≤ 65536 = sound.few in let c : count kept x.0 ≤ x.0 = count-le kept x.0 in omega arith)

  abbrev Operand : Net → Type 0
  Operand m = Inside d.cells m × KeptNet d rank sound m

  operands : (s : ℕ) → s < total → kept s ≡ true → All Operand (visit (cell_in d.cells s))
  operands s l k = all_both (Inside d.cells) (KeptNet d rank sound) (visit (cell_in d.cells s)) (sound.inside s l) (reads_kept d rank sound s l k)

  -- what holds of the new slot of each operand
  mapped-has : (Q : ℕ → Type 0) (m : Net) → Operand m → Drives (λ x. Q (count kept x)) m → Drives Q (mapped m)
  mapped-has Q m o h = go (driver m) refl
    where
      go : (r : Driver) → driver m ≡ r → Drives Q (mapped m)
      go (driven.Const t) q = drives-none Q (mapped m) t (mapped-const m t q)
      go (driven.Cell x) q = drives-at Q (mapped m) (slot_at (count kept x.0)) (mapped-slot m x q (o.0 x q)) (h x q)

  -- a valuation goes along
  module _ {A : Type 0} (alg : Algebra A) (v : ℕ → A) where
    mapped-value : (m : Net) → Operand m → net_value alg v m ≡ net_value alg (λ j. v (old j)) (mapped m)
    mapped-value m o = go (driver m) refl
      where
        go : (r : Driver) → driver m ≡ r → net_value alg v m ≡ net_value alg (λ j. v (old j)) (mapped m)
        go (driven.Const t) q = value-const alg v m t q ∙ sym (value-const alg (λ j. v (old j)) (mapped m) t (mapped-const m t q))
        go (driven.Cell x) q =
            value-slot alg v m x q
            ∙ ap v (sym (place_of kept total x.0 (o.0 x q) (o.1 x q)).at)
            ∙ sym (value-slot alg (λ j. v (old j)) (mapped m) (slot_at (count kept x.0)) (mapped-slot m x q (o.0 x q)))

    pub compact-fits : (own : ℕ → A) → Fits alg own d.cells v → Fits alg (λ j. own (old j)) (compact d).cells (λ j. v (old j))
    unfolding Fits
    compact-fits own f j l =
        let k : j < count kept total = let e : length (compact d).cells ≡ count kept total = compact-length in omega arith in
        let s : SlotAt kept total j = slot-at kept total j k in
        let v' : ℕ → A = λ j. v (old j) in
        f (old j) s.small
        ∙ cell_same alg (net_value alg v) (λ m. net_value alg v' (mapped m)) (own (old j)) (cell_in d.cells (old j))
        (comb-all _ (cell_in d.cells (old j))
        (all-imp Operand (λ m. net_value alg v m ≡ net_value alg v' (mapped m)) mapped-value (visit (cell_in d.cells (old j)))
        (operands (old j) s.small s.passes)))
        ∙ sym (cell-visit_mut alg (net_value alg v') mapped (own (old j)) (cell_in d.cells (old j)))
        ∙ ap (cell_value alg (net_value alg v') (own (old j))) (sym (cell_at j k))

  -- the result is sound
  new-inside : (j : ℕ) → j < length (compact d).cells → j < count kept total
  new-inside j l = let e : length (compact d).cells ≡ count kept total = compact-length in omega arith

  -- what holds of each cell, whatever its operands are
  pub compact-each : (P : Cell → Type 0) → ((f : Net → Net) (c : Cell) → P c → P (visit_mut f c)) → ((s : ℕ) → s < total → P (cell_in d.cells s))
      → (j : ℕ) → j < length (compact d).cells → P (cell_in (compact d).cells j)
  compact-each P h g j l =
      let k : j < count kept total = new-inside j l in
      subst P (sym (cell_at j k)) (h mapped (cell_in d.cells (old j)) (g (old j) (slot-at kept total j k).small))

  visits : (P : Net → Type 0) (j : ℕ) → j < count kept total → All (λ m. P (mapped m)) (visit (cell_in d.cells (old j))) → All P (visit (cell_in (compact d).cells j))
  visits P j l h = subst (λ (c : Cell). All P (visit c)) (sym (cell_at j l)) (visited-all P mapped (cell_in d.cells (old j)) h)

  place-old : (x : ℕ) → x < total → kept x ≡ true → old (count kept x) ≡ x
  place-old x l k = (place_of kept total x l k).at

  place_inside : (x : ℕ) → x < total → kept x ≡ true → count kept x < length (compact d).cells
  place_inside x l k = let e : length (compact d).cells ≡ count kept total = compact-length in omega (arith, (place_of kept total x l k).below)

  compact-ranked : Ranked (compact d).cells (λ j. rank (old j))
  unfolding Ranked
  compact-ranked j l =
      let k : j < count kept total = new-inside j l in
      let s : SlotAt kept total j = slot-at kept total j k in
      let c : Cell = cell_in d.cells (old j) in
      let New : Net → Type 0 = Before (compact d).cells (λ j. rank (old j)) j in
      subst (λ (x : Cell). All New (comb_reads x)) (sym (cell_at j k))
      (visited-comb New mapped c
      (all-imp (λ m. Operand m × Before d.cells rank (old j) m) (λ m. New (mapped m))
      (λ m o. mapped-has (λ y. (y < length (compact d).cells) × (rank (old y) < rank (old j))) m o.0
      (λ x q.
      let i : x.0 < total = o.0.0 x q in
      (place_inside x.0 i (o.0.1 x q), subst (λ (y : ℕ). rank y < rank (old j)) (sym (place-old x.0 i (o.0.1 x q))) (o.1 x q).1)))
      (comb_reads c)
      (all_both Operand (Before d.cells rank (old j)) (comb_reads c) (comb-all Operand c (operands (old j) s.small s.passes)) (sound.ranked (old j) s.small))))

  compact-inside : (j : ℕ) → j < length (compact d).cells → All (Inside (compact d).cells) (visit (cell_in (compact d).cells j))
  compact-inside j l =
      let k : j < count kept total = new-inside j l in
      let s : SlotAt kept total j = slot-at kept total j k in
      visits (Inside (compact d).cells) j k
      (all-imp Operand (λ m. Inside (compact d).cells (mapped m))
      (λ m o. mapped-has (λ y. y < length (compact d).cells) m o (λ x q. place_inside x.0 (o.0 x q) (o.1 x q)))
      (visit (cell_in d.cells (old j))) (operands (old j) s.small s.passes))

  compact-driven : (j : ℕ) → j < length (compact d).cells → All (NoOutput (compact d).cells) (visit (cell_in (compact d).cells j))
  compact-driven j l =
      let k : j < count kept total = new-inside j l in
      let s : SlotAt kept total j = slot-at kept total j k in
      let cs : List Cell = (compact d).cells in
      visits (NoOutput cs) j k
      (all-imp (λ m. Operand m × NoOutput d.cells m) (λ m. NoOutput cs (mapped m))
      (λ m o. mapped-has (λ y. is_output (cell_in cs y) ≡ false) m o.0
      (λ x q.
      let i : x.0 < total = o.0.0 x q in
      ap is_output (cell_at (count kept x.0) (place_of kept total x.0 i (o.0.1 x q)).below)
      ∙ output-mapped mapped (cell_in d.cells (old (count kept x.0)))
      ∙ ap (λ (y : ℕ). is_output (cell_in d.cells y)) (place-old x.0 i (o.0.1 x q))
      ∙ o.1 x q))
      (visit (cell_in d.cells (old j)))
      (all_both Operand (NoOutput d.cells) (visit (cell_in d.cells (old j))) (operands (old j) s.small s.passes) (sound.driven (old j) s.small)))

  -- the record of a kept slot
  abbrev new_record : ℕ → Record
  new_record s = cell_record (get_or d.bits s 0) (visit_mut mapped (cell_in d.cells s))

  record-at : (j : ℕ) → j < count kept total → record_in (compact d) j ≡ new_record (old j)
  record-at j l = ap₂ cell_record (bit_at j l) (cell_at j l)

  -- the slot before one that is not the first of its cell is kept with it
  kept-before : (s : ℕ) → Inner d rank sound s → kept s ≡ true → kept (s - 1) ≡ true
  kept-before s i k =
      let b : get_or d.bits (s - 1) 0 + 1 ≡ get_or d.bits s 0 = i.bit in
      ap (λ (st : ℕ). get_or (keep d) st false) (omega arith) ∙ k

  compact-sequence : (j : ℕ) → j < length (compact d).cells → out_of_sequence j (record_in (compact d) (j - 1)) (record_in (compact d) j) ≡ false
  compact-sequence j l =
      let k : j < count kept total = new-inside j l in
      let s : SlotAt kept total j = slot-at kept total j k in
      let b : (record_in (compact d) j).bit ≡ get_or d.bits (old j) 0 = ap (λ (r : Record). r.bit) (record-at j k) ∙ record-bit _ (visit_mut mapped (cell_in d.cells (old j))) in
      either (eqb (get_or d.bits (old j) 0) 0)
      (λ e. sequence-zero j (record_in (compact d) (j - 1)) (record_in (compact d) j) (ap (λ (i : ℕ). eqb i 0) b ∙ e))
      (λ e. go k s (eqb-false (get_or d.bits (old j) 0) 0 e))
    where
      go : j < count kept total → SlotAt kept total j → (get_or d.bits (old j) 0 ≡ 0 → ⊥) → out_of_sequence j (record_in (compact d) (j - 1)) (record_in (compact d) j) ≡ false
      go k s h =
          let x : ℕ = old j in
          let i : Inner d rank sound x = inner d rank sound x s.small h in
          let c : Continues x (record_in d (x - 1)) (record_in d x) = bit-continues d rank sound x s.small h in
          let one : 1 ≤ x = i.later in
          let small : x < total = s.small in
          let before : kept (x - 1) ≡ true = kept-before x i s.passes in
          let next : suc (x - 1) ≡ x = omega arith in
          let place : count kept x ≡ suc (count kept (x - 1)) = ap (count kept) (sym next) ∙ count_yes kept (x - 1) before in
          let is : count kept x ≡ j = s.place in
          let q : j - 1 ≡ count kept (x - 1) = omega arith in
          let p : PlaceOf kept total (x - 1) = place_of kept total (x - 1) (omega arith) before in
          let r : record_in (compact d) (j - 1) ≡ new_record (x - 1) =
          ap (record_in (compact d)) q ∙ record-at (count kept (x - 1)) p.below ∙ ap new_record p.at in
          ap₂ (out_of_sequence j) r (record-at j k)
          ∙ sequence-more j (new_record (x - 1)) (new_record x)
          (continues-mapped mapped x j (get_or d.bits (x - 1) 0) (get_or d.bits x 0) (cell_in d.cells (x - 1)) (cell_in d.cells x) (ne_eqb j 0 (λ z. omega arith)) c)

  pub compact-sound : Sound (compact d) (λ j. rank (old j))
  compact-sound = record {
    wide = ap length compact-bits ∙ length-map (chosen kept total) (λ s. get_or d.bits s 0) ∙ sym compact-length;
    few = let e : length (compact d).cells ≡ count kept total = compact-length in let f : total ≤ 65536 = sound.few in omega (arith, count-le kept total);
    ranked = compact-ranked;
    inside = compact-inside;
    driven = compact-driven;
    sequence = compact-sequence;
  }
