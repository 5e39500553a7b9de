-- The netlist of a run, after the change queue is applied and before it is compacted, is sound: stamps are its rank. Assumes nothing.
use mathlib.Core.Path.{◌≡◌, refl, sym, ap, ap₂, ◌∙◌, subst}
use mathlib.Core.Bool.{true, false, ◌&&◌}
use mathlib.Core.List.{List, ◌++◌}
use mathlib.Core.Logic.{inl, inr}
use Prim.Native.Nat.{ℕ, ◌+◌, ◌-◌, ◌≤◌, ◌<◌}
use native.Mathlib.Omega.{arith}
use lib.Dec.{eqb, ltb, leb}
use lib.ListN.{length, get_or, replicate, length-append, length-replicate, get_or-eq_default}
use borrow.Author.Tests.{eqb-true, eqb-false, ltb-true, ltb-false, le-leb, leb-false, leb-true}
use Rattle.cell.specs.declared.Cell.{Cell}
use Rattle.kinds.specs.Kinds.{kind_of, sort_of}
use Rattle.cell.specs.Records.{cell_record}
use Rattle.checking.specs.Checking.{out_of_sequence}
use Rattle.netlist.specs.Shape.{visit, visit_mut, is_output, has_effects}
use Rattle.netlist.specs.Netlist.{Netlist, cell_in}
use Rattle.design.specs.Queue.{applied}
use Rattle.rewrite.specs.Rewriter.{Rewriter}
use Rattle.basics.specs.Lists.{All}
use Rattle.basics.proofs.Truth.{either, never}
use Rattle.basics.proofs.Members.{all-imp}
use Rattle.order_laws.proofs.Operands.{comb-all}
use Rattle.order_laws.proofs.Sorts.{record-bit, output-mapped, effects-kind, kind-last, splittable-kind}
use Rattle.basics.proofs.Indices.{get_d-padded}
use Rattle.order_laws.proofs.Queue.{applied-at, applied-length}
use Rattle.levels_laws.specs.Algebra.{Before, Ranked}
use Rattle.kept.proofs.Records.{Continues, sequence-zero, sequence-mapped}
use Rattle.kept.proofs.Sound.{record_in, Inside, NoOutput, Sound, bit-continues}
use Rattle.kept.proofs.Bytes.{label_of, Labelled, gate-label}
use Rattle.rewrite_sound.proofs.Shaped.{InPlace, Holds}
use Rattle.rewrite_sound.proofs.Operands.{Ended, was, follow, rank, Operand, operands-below, Below, operand-slot}
use Rattle.rewrite_sound.proofs.Ports.{more-slots, label-stays, ticket-effects, added-gate}

-- a cell that may be rewritten in its slot is an and-inverter, so it has one bit
in-place-one-bit : (bit : ℕ) (c : Cell) → InPlace c → (kind_of (cell_record bit c).kind).one_bit ≡ true
unfolding kind_of sort_of
in-place-one-bit bit c h =
    let k : ℕ = (cell_record bit c).kind in
    let low : 2 < k = leb-false k 2 (sym (effects-kind bit c) ∙ h.1) in
    let last : k ≤ 9 = leb-true k 9 (kind-last bit c) in
    let nine : 8 < k → k ≡ 9 = λ l. omega arith in
    let out : (leb 3 k && leb k 8) ≡ false = sym (splittable-kind bit c) ∙ h.0 in
    subst (λ (i : ℕ). (kind_of i).one_bit ≡ true) (sym (nine (leb-false k 8 (sym (ap (λ b. b && leb k 8) (le-leb 3 k (omega arith))) ∙ out)))) refl

-- the netlist of a run, before it is compacted
abbrev pub applied_netlist : List ℕ → Rewriter → Netlist
applied_netlist bits r =
    let cs = applied r.design in
    record { cells = cs; bits = bits ++ replicate (length cs - length bits) 0 }

module _ (d₀ : Netlist) (rank₀ : ℕ → ℕ) (sound₀ : Sound d₀ rank₀) (r : Rewriter) (end : Ended d₀.cells r) (few : length r.design.cells ≤ 65536) where
  abbrev cs₀ : List Cell
  cs₀ = d₀.cells

  abbrev cs : List Cell
  cs = applied r.design

  abbrev after : Netlist
  after = applied_netlist d₀.bits r

  abbrev ranks : ℕ → ℕ
  ranks = rank r

  slots : length cs ≡ length r.design.cells
  slots = applied-length r.design

  is-ranked : Ranked cs ranks
  unfolding Ranked
  is-ranked s l =
      comb-all (Before cs ranks s) (cell_in cs s)
      (all-imp (Operand cs₀ r end s) (Before cs ranks s)
      (λ m o x e. let b : Below cs₀ r end s x.0 = operand-slot cs₀ r end s m o x e in
      (let i : x.0 < length r.design.cells = b.inside in omega (arith, slots), b.falls))
      (visit (cell_in cs s)) (operands-below cs₀ r end s l))

  is-inside : (s : ℕ) → s < length cs → All (Inside cs) (visit (cell_in cs s))
  is-inside s l =
      all-imp (Operand cs₀ r end s) (Inside cs)
      (λ m o x e. let i : x.0 < length r.design.cells = (operand-slot cs₀ r end s m o x e).inside in omega (arith, slots))
      (visit (cell_in cs s)) (operands-below cs₀ r end s l)

  is-driven : (s : ℕ) → s < length cs → All (NoOutput cs) (visit (cell_in cs s))
  is-driven s l =
      all-imp (Operand cs₀ r end s) (NoOutput cs)
      (λ m o x e. let b : Below cs₀ r end s x.0 = operand-slot cs₀ r end s m o x e in
      ap is_output (applied-at r.design x.0 b.inside) ∙ output-mapped (follow r) (was r x.0) ∙ b.other)
      (visit (cell_in cs s)) (operands-below cs₀ r end s l)

  -- the bits of the ticket's slots stay, and added cells have bit 0
  bits-wide : length d₀.bits ≡ length cs₀
  bits-wide = sound₀.wide

  same_bit : (s : ℕ) → get_or after.bits s 0 ≡ get_or d₀.bits s 0
  same_bit s = get_d-padded d₀.bits (length cs - length d₀.bits) s 0

  -- a cell of more than one bit stays
  wide-stays : (s : ℕ) → s < length cs₀ → (kind_of (record_in d₀ s).kind).one_bit ≡ false → record_in after s ≡ cell_record (get_or d₀.bits s 0) (visit_mut (follow r) (cell_in cs₀ s))
  wide-stays s l h =
      ap₂ cell_record (same_bit s) (applied-at r.design s (omega (arith, slots, more-slots cs₀ r end)) ∙ ap (visit_mut (follow r)) (go (end.shaped.olds s l)))
    where
      go : Holds (cell_in cs₀ s) (was r s) → was r s ≡ cell_in cs₀ s
      go (inl e) = e
      go (inr k) = never (in-place-one-bit (get_or d₀.bits s 0) (cell_in cs₀ s) k.0) h

  zero-sequence : (s : ℕ) → get_or after.bits s 0 ≡ 0 → out_of_sequence s (record_in after (s - 1)) (record_in after s) ≡ false
  zero-sequence s e =
      sequence-zero s (record_in after (s - 1)) (record_in after s)
      (ap (λ (i : ℕ). eqb i 0) (record-bit (get_or after.bits s 0) (cell_in cs s) ∙ e))

  later-sequence : (s : ℕ) → s < length cs₀ → (get_or d₀.bits s 0 ≡ 0 → ⊥) → out_of_sequence s (record_in after (s - 1)) (record_in after s) ≡ false
  later-sequence s l h =
      let c : Continues s (record_in d₀ (s - 1)) (record_in d₀ s) = bit-continues d₀ rank₀ sound₀ s l h in
      let k : (kind_of (record_in d₀ (s - 1)).kind).one_bit ≡ false = ap (λ (i : ℕ). (kind_of i).one_bit) c.after.kind ∙ c.wide in
      ap₂ (out_of_sequence s) (wide-stays (s - 1) (omega arith) k) (wide-stays s l c.wide)
      ∙ sequence-mapped (follow r) s (get_or d₀.bits (s - 1) 0) (get_or d₀.bits s 0) (cell_in cs₀ (s - 1)) (cell_in cs₀ s) (sound₀.sequence s l)

  is-sequence : (s : ℕ) → s < length cs → out_of_sequence s (record_in after (s - 1)) (record_in after s) ≡ false
  is-sequence s m =
      either (ltb s (length cs₀))
      (λ e. let l : s < length cs₀ = ltb-true s (length cs₀) e in
      either (eqb (get_or d₀.bits s 0) 0) (λ z. zero-sequence s (same_bit s ∙ eqb-true (get_or d₀.bits s 0) 0 z))
      (λ z. later-sequence s l (eqb-false (get_or d₀.bits s 0) 0 z)))
      (λ e. zero-sequence s (same_bit s ∙ get_or-eq_default d₀.bits 0 {n = s} (omega (arith, bits-wide, ltb-false s (length cs₀) e))))

  -- the law
  pub applied-sound : Sound (applied_netlist d₀.bits r) (rank r)
  applied-sound = record {
    wide =
        length-append d₀.bits (replicate (length cs - length d₀.bits) 0)
        ∙ ap (λ (k : ℕ). length d₀.bits + k) (length-replicate (length cs - length d₀.bits) 0)
        ∙ omega (arith, bits-wide, more-slots cs₀ r end);
    few = omega (arith, slots);
    ranked = is-ranked;
    inside = is-inside;
    driven = is-driven;
    sequence = is-sequence;
  }

  -- labels of the ticket that have 32 bits stay so
  pub applied-labelled : Labelled d₀ → Labelled (applied_netlist d₀.bits r)
  applied-labelled h s m =
      either (ltb s (length cs₀))
      (λ e. let l : s < length cs₀ = ltb-true s (length cs₀) e in
      either (has_effects (cell_in cs₀ s)) (λ g. subst (λ (k : ℕ). k < 4294967296) (sym (label-stays cs₀ r end s l g)) (h s l))
      (λ g. no_label (cell_in cs s) (ticket-effects cs₀ r end s l ∙ g)))
      (λ e. no_label (cell_in cs s) (added-gate cs₀ r end s (ltb-false s (length cs₀) e) m))
    where
      no_label : (c : Cell) → has_effects c ≡ false → label_of c < 4294967296
      no_label c g = omega (arith, gate-label c g)
