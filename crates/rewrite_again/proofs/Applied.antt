-- The cells after the run over a normal netlist, with their operands replaced: they make a sound netlist, of which all but the slots whose
-- cells were added anew are reached. Assumes nothing.
use mathlib.Core.Path.{◌≡◌, sym, ap, ap₂, ◌∙◌, subst}
use mathlib.Core.Bool.{true, false}
use mathlib.Core.List.{List, ◌++◌}
use Prim.Native.Nat.{ℕ, ◌+◌, ◌-◌, ◌≤◌, ◌<◌}
use native.Mathlib.Omega.{arith}
use lib.Dec.{eqb, ltb}
use lib.ListN.{length, get_or, replicate, length-append, length-replicate, get_or-eq_default}
use borrow.Author.Tests.{eqb-false, ltb-true, ltb-false}
use Rattle.value.specs.declared.Net.{Net}
use Rattle.value.specs.Value.{slot_at}
use Rattle.cell.specs.declared.Cell.{Cell}
use Rattle.cell.specs.Records.{cell_record}
use Rattle.checking.specs.Checking.{out_of_sequence}
use Rattle.netlist.specs.Shape.{visit, comb_reads, visit_mut, is_input, is_output, has_effects}
use Rattle.netlist.specs.Netlist.{Netlist, cell_in}
use Rattle.order.specs.Orders.{topo_sort}
use Rattle.design.specs.Queue.{applied}
use Rattle.rewrite.specs.Rewriter.{Rewriter}
use Rattle.basics.specs.Lists.{All}
use Rattle.order_laws.specs.Members.{Drives, Wired}
use Rattle.basics.proofs.Truth.{either}
use Rattle.basics.proofs.Members.{all-imp}
use Rattle.basics.proofs.Indices.{get_d-padded}
use Rattle.order_laws.proofs.Sorts.{record-bit, splittable-gate, gate-parts, inputs-by, outputs-by}
use Rattle.order_laws.proofs.Queue.{applied-at, applied-length}
use Rattle.levels_laws.specs.Algebra.{Before, Ranked}
use Rattle.kept.proofs.Records.{sequence-zero}
use Rattle.kept.proofs.Sound.{record_in, Inside, NoOutput, Sound, Inner, inner, same_by, sound-wired}
use Rattle.normal.specs.Paired.{Alike}
use Rattle.normal.proofs.Normal.{Normal}
use Rattle.normal.proofs.Alike.{image-sort, image-operands, image-comb}
use Rattle.rewrite_again.proofs.Cells.{input-same}
use Rattle.rewrite_again.proofs.Origin.{made, origin, origin-old, origin-inside, inside-origin, origin-splits, back-driven}
use Rattle.rewrite_again.proofs.State.{g, few, made-few, mapped-cell}
use Rattle.rewrite_again.proofs.Item.{St}

-- a normal netlist, and the rewriter at the end of its run
pub record Ended : Type 0 where
  pub netlist : Netlist
  pub rank : ℕ → ℕ
  pub normal : Normal netlist rank
  pub small : length netlist.cells ≤ 32768
  pub last : Rewriter
  pub state : St netlist rank normal (topo_sort netlist.cells) last

module _ (u : Ended) where
  open u use {netlist, rank, normal, small, last, state}

  abbrev pub C : List Cell
  C = netlist.cells

  abbrev pub G : Net → Net
  G = g netlist rank normal

  abbrev pub rs : List Net
  rs = last.design.replaced

  abbrev pub O : ℕ → ℕ
  O = origin C

  abbrev pub A : List Cell
  A = applied last.design

  abbrev pub len : ℕ
  len = length C + length (made C)

  -- the netlist that is compacted
  abbrev pub E : Netlist
  E = record { cells = A; bits = netlist.bits ++ replicate (length A - length netlist.bits) 0 }

  pub long : length A ≡ len
  unfolding applied
  long = applied-length last.design ∙ state.size

  pub alike : (m : ℕ) → m < len → Alike (visit_mut G (cell_in A m)) (cell_in C (O m))
  unfolding applied
  alike m l =
      let k : m < length last.design.cells = omega (arith, l, state.size) in
      subst (λ (y : Cell). Alike y (cell_in C (O m)))
      (sym (ap (visit_mut G) (applied-at last.design m k) ∙ mapped-cell netlist rank normal (topo_sort C) last state (cell_in last.design.cells m)))
      (state.likes m k)

  -- Bits
  bit-padded : (m : ℕ) → get_or E.bits m 0 ≡ get_or netlist.bits m 0
  bit-padded m = get_d-padded netlist.bits (length A - length netlist.bits) m 0

  bit-new : (m : ℕ) → length C ≤ m → get_or E.bits m 0 ≡ 0
  bit-new m l = bit-padded m ∙ get_or-eq_default netlist.bits 0 {n = m} (omega (arith, l, normal.sound.wide))

  added-gate : (m : ℕ) → length C ≤ m → m < len → has_effects (cell_in C (O m)) ≡ false
  added-gate m h l = splittable-gate (cell_in C (O m)) (origin-splits C m h l)

  pub bit-same : (m : ℕ) → m < len → get_or E.bits m 0 ≡ get_or netlist.bits (O m) 0
  bit-same m l = either (ltb m (length C))
      (λ q. bit-padded m ∙ ap (λ (i : ℕ). get_or netlist.bits i 0) (sym (origin-old C m (ltb-true m (length C) q))))
      (λ q. let k : length C ≤ m = ltb-false m (length C) q in
      bit-new m k ∙ sym (normal.single (O m) (origin-inside C m l) (gate-parts (cell_in C (O m)) (added-gate m k l)).0))

  pub single-bits : (m : ℕ) → m < length A → is_input (cell_in A m) ≡ false → get_or E.bits m 0 ≡ 0
  single-bits m l e =
      let k : m < len = omega (arith, l, long) in
      bit-same m k ∙ normal.single (O m) (origin-inside C m k) (sym (image-sort inputs-by G (cell_in A m) (cell_in C (O m)) (alike m k)) ∙ e)

  -- It is sound
  abbrev pub rank_e : ℕ → ℕ
  rank_e m = rank (O m)

  -- an operand, by what its image is in the netlist
  operand-slot : (P : ℕ → Type 0) (n : Net) → Drives P (G n) → Drives (λ x. P (O x)) n
  operand-slot P n h x e = h (slot_at (O x.0)) (back-driven C (few netlist rank normal) n x e)

  origin-slot : (x : ℕ) → O x < length C → x < length A
  origin-slot x l = omega (arith, long, inside-origin C x l)

  operands : (m : ℕ) → m < len → All (λ n. Wired C (G n)) (visit (cell_in A m))
  operands m l =
      image-operands (Wired C) G (cell_in A m) (cell_in C (O m)) (alike m l) (sound-wired netlist rank normal.sound (O m) (origin-inside C m l))

  ranked : Ranked A rank_e
  unfolding Ranked
  ranked m l =
      let k : m < len = omega (arith, l, long) in
      all-imp (λ n. Before C rank (O m) (G n)) (Before A rank_e m)
      (λ n h x e. let o = operand-slot (λ y. (y < length C) × (rank y < rank (O m))) n h x e in (origin-slot x.0 o.0, o.1))
      (comb_reads (cell_in A m))
      (image-comb (Before C rank (O m)) G (cell_in A m) (cell_in C (O m)) (alike m k) (normal.sound.ranked (O m) (origin-inside C m k)))

  inside-cells : (m : ℕ) → m < length A → All (Inside A) (visit (cell_in A m))
  inside-cells m l =
      all-imp (λ n. Wired C (G n)) (Inside A)
      (λ n h x e. origin-slot x.0 (operand-slot (λ y. (y < length C) × (is_output (cell_in C y) ≡ false)) n h x e).0)
      (visit (cell_in A m)) (operands m (omega (arith, l, long)))

  driven-cells : (m : ℕ) → m < length A → All (NoOutput A) (visit (cell_in A m))
  driven-cells m l =
      all-imp (λ n. Wired C (G n)) (NoOutput A)
      (λ n h x e.
      let o = operand-slot (λ y. (y < length C) × (is_output (cell_in C y) ≡ false)) n h x e in
      image-sort outputs-by G (cell_in A x.0) (cell_in C (O x.0)) (alike x.0 (inside-origin C x.0 o.0)) ∙ o.1)
      (visit (cell_in A m)) (operands m (omega (arith, l, long)))

  -- inputs are as they were
  input-cell : (m : ℕ) → m < length C → is_input (cell_in C m) ≡ true → cell_in A m ≡ cell_in C m
  input-cell m l e =
      input-same G (cell_in A m) (cell_in C m) (subst (λ (i : ℕ). Alike (visit_mut G (cell_in A m)) (cell_in C i)) (origin-old C m l) (alike m (omega (arith, l)))) e

  input-record : (m : ℕ) → m < length C → is_input (cell_in C m) ≡ true → record_in E m ≡ record_in netlist m
  input-record m l e = ap₂ cell_record (bit-padded m) (input-cell m l e)

  sequence : (m : ℕ) → m < length A → out_of_sequence m (record_in E (m - 1)) (record_in E m) ≡ false
  sequence m l = either (eqb (get_or E.bits m 0) 0)
      (λ q. sequence-zero m (record_in E (m - 1)) (record_in E m) (ap (λ (i : ℕ). eqb i 0) (record-bit (get_or E.bits m 0) (cell_in A m)) ∙ q))
      (λ q. later (eqb-false (get_or E.bits m 0) 0 q))
    where
      later : (get_or E.bits m 0 ≡ 0 → ⊥) → out_of_sequence m (record_in E (m - 1)) (record_in E m) ≡ false
      later h =
          let k : m < length C = either (ltb m (length C)) (λ q. ltb-true m (length C) q) (λ q. absurd (h (bit-new m (ltb-false m (length C) q)))) in
          let b : get_or netlist.bits m 0 ≡ 0 → ⊥ = λ z. h (bit-padded m ∙ z) in
          let w : Inner netlist rank normal.sound m = inner netlist rank normal.sound m k b in
          let i : is_input (cell_in C m) ≡ true = either (is_input (cell_in C m)) (λ q. q) (λ q. absurd (b (normal.single m k q))) in
          let one : 1 ≤ m = w.later in
          ap₂ (out_of_sequence m) (input-record (m - 1) (omega arith) (same_by netlist rank normal.sound inputs-by m (m - 1) w.kind ∙ i)) (input-record m k i)
          ∙ normal.sound.sequence m k

  pub sound_e : Sound E rank_e
  sound_e = record {
    wide = length-append netlist.bits (replicate (length A - length netlist.bits) 0)
        ∙ ap (λ (k : ℕ). length netlist.bits + k) (length-replicate (length A - length netlist.bits) 0) ∙ omega (arith, long, normal.sound.wide);
    few = omega (arith, long, made-few netlist rank normal);
    ranked = ranked;
    inside = inside-cells;
    driven = driven-cells;
    sequence = sequence;
  }
