-- Records of cells, and two of them in sequence. Assumes nothing.
use mathlib.Core.Path.{◌≡◌, refl, sym, ap, ◌∙◌}
use mathlib.Core.Bool.{Bool, true, false, cond, not, ◌&&◌, ◌||◌, true≢false, false≢true, and-eq-true_iff}
use Prim.Native.Nat.{ℕ, ◌+◌}
use lib.Dec.{eqb}
use borrow.Author.Tests.{eqb-true, eq-eqb}
use Rattle.value.specs.declared.Net.{Net}
use Rattle.value.specs.Value.{net_at}
use Rattle.cell.specs.declared.Record.{Record}
use Rattle.cell.specs.declared.Cell.{Cell}
use Rattle.cell.specs.declared.Cell.TheVariants.{Input, Output, Buf, Not, And, Or, Xor, Mux, Aig}
use Rattle.kinds.specs.Kinds.{kind_of, sort_of}
use Rattle.cell.specs.Records.{cell_record}
use Rattle.checking.specs.Checking.{follows, out_of_sequence}
use Rattle.netlist.specs.Shape.{visit_mut}
use Rattle.basics.proofs.Truth.{either}
use Rattle.order_laws.proofs.Sorts.{kind-kept, record-bit}

-- field a, where all bits of a cell have it in common, changes by the kind alone under a function put to each operand
module _ (f : Net → Net) where
  common_mapped : ℕ → ℕ → ℕ
  common_mapped kind a = cond (eqb kind 8) (f (net_at a)).0 a

  common-mapped : (bit : ℕ) (c : Cell) → (kind_of (cell_record bit c).kind).common_a ≡ true
      → (cell_record bit (visit_mut f c)).a ≡ common_mapped (cell_record bit c).kind (cell_record bit c).a
  unfolding visit_mut cell_record kind_of common_mapped sort_of
  common-mapped bit (Input l) e = refl
  common-mapped bit (Output a l) e = absurd (false≢true e)
  common-mapped bit (Buf a) e = absurd (false≢true e)
  common-mapped bit (Not a) e = absurd (false≢true e)
  common-mapped bit (And a b) e = absurd (false≢true e)
  common-mapped bit (Or a b) e = absurd (false≢true e)
  common-mapped bit (Xor a b) e = absurd (false≢true e)
  common-mapped bit (Mux a b c) e = refl
  common-mapped bit (Aig p q) e = absurd (false≢true e)

-- p is the bit before r in one cell
pub record Precedes (p r : Record) : Type 0 where
  pub kind : p.kind ≡ r.kind
  pub bit : p.bit + 1 ≡ r.bit
  pub common : (kind_of r.kind).common_a ≡ true → p.a ≡ r.a

unless : (b c : Bool) → (not b || c) ≡ true → b ≡ true → c ≡ true
unless true c e h = e
unless false c e h = absurd (false≢true h)

unless-out : (b c : Bool) → (b ≡ true → c ≡ true) → (not b || c) ≡ true
unless-out true c h = h refl
unless-out false c h = refl

pub precedes : (p r : Record) → follows p r ≡ true → Precedes p r
unfolding follows
precedes p r e =
    let h : (eqb p.kind r.kind && eqb (p.bit + 1) r.bit ≡ true) × ((not (kind_of r.kind).common_a || eqb p.a r.a) ≡ true) =
    (and-eq-true_iff (eqb p.kind r.kind && eqb (p.bit + 1) r.bit) _).0 e in
    let g : (eqb p.kind r.kind ≡ true) × (eqb (p.bit + 1) r.bit ≡ true) = (and-eq-true_iff (eqb p.kind r.kind) _).0 h.0 in
    record {
      kind = eqb-true _ _ g.0;
      bit = eqb-true _ _ g.1;
      common = λ c. eqb-true _ _ (unless (kind_of r.kind).common_a _ h.1 c);
    }

pub follows_by : (p r : Record) → Precedes p r → follows p r ≡ true
unfolding follows
follows_by p r h =
    (and-eq-true_iff (eqb p.kind r.kind && eqb (p.bit + 1) r.bit) _).1 (
      (and-eq-true_iff (eqb p.kind r.kind) _).1 (eq-eqb p.kind r.kind h.kind, eq-eqb (p.bit + 1) r.bit h.bit),
      unless-out (kind_of r.kind).common_a _ (λ c. eq-eqb p.a r.a (h.common c)),
    )

-- a bit above 0 in sequence
pub record Continues (s : ℕ) (p r : Record) : Type 0 where
  pub wide : (kind_of r.kind).one_bit ≡ false
  pub later : eqb s 0 ≡ false
  pub after : Precedes p r

split : (b o z f : Bool) → (not b && (o || (z || not f))) ≡ false → b ≡ false → (o ≡ false) × (z ≡ false) × (f ≡ true)
split true o z f e h = absurd (true≢false h)
split false true z f e h = absurd (true≢false e)
split false false true f e h = absurd (true≢false e)
split false false false true e h = (refl, refl, refl)
split false false false false e h = absurd (true≢false e)

pub continues : (s : ℕ) (p r : Record) → out_of_sequence s p r ≡ false → eqb r.bit 0 ≡ false → Continues s p r
unfolding out_of_sequence
continues s p r e h =
    let g = split (eqb r.bit 0) (kind_of r.kind).one_bit (eqb s 0) (follows p r) e h in
    record { wide = g.0; later = g.1; after = precedes p r g.2 }

pub sequence-zero : (s : ℕ) (p r : Record) → eqb r.bit 0 ≡ true → out_of_sequence s p r ≡ false
unfolding out_of_sequence
sequence-zero s p r e = rw e

pub sequence-more : (s : ℕ) (p r : Record) → Continues s p r → out_of_sequence s p r ≡ false
unfolding out_of_sequence
sequence-more s p r h = go (eqb r.bit 0) (kind_of r.kind).one_bit (eqb s 0) (follows p r) h.wide h.later (follows_by p r h.after)
  where
    go : (b o z f : Bool) → o ≡ false → z ≡ false → f ≡ true → (not b && (o || (z || not f))) ≡ false
    go true o z f x y w = refl
    go false o z f x y w = rw (x, y, w)

-- the same after a function is put to the operands, in other slots
precedes-mapped : (f : Net → Net) (b c : ℕ) (p r : Cell) → Precedes (cell_record b p) (cell_record c r)
    → Precedes (cell_record b (visit_mut f p)) (cell_record c (visit_mut f r))
precedes-mapped f b c p r h =
    let k : kind_of (cell_record c (visit_mut f r)).kind ≡ kind_of (cell_record c r).kind = ap kind_of (kind-kept f c r) in
    record {
      kind = kind-kept f b p ∙ h.kind ∙ sym (kind-kept f c r);
      bit = ap (λ (i : ℕ). i + 1) (record-bit b (visit_mut f p) ∙ sym (record-bit b p)) ∙ h.bit ∙ record-bit c r ∙ sym (record-bit c (visit_mut f r));
      common = λ e.
          let e₁ : (kind_of (cell_record c r).kind).common_a ≡ true = ap (λ k. k.common_a) (sym k) ∙ e in
          let e₂ : (kind_of (cell_record b p).kind).common_a ≡ true = ap (λ (i : ℕ). (kind_of i).common_a) h.kind ∙ e₁ in
          common-mapped f b p e₂
          ∙ ap (λ (i : ℕ). common_mapped f i (cell_record b p).a) h.kind
          ∙ ap (common_mapped f (cell_record c r).kind) (h.common e₁)
          ∙ sym (common-mapped f c r e₁);
    }

pub continues-mapped : (f : Net → Net) (s t b c : ℕ) (p r : Cell) → eqb t 0 ≡ false → Continues s (cell_record b p) (cell_record c r)
    → Continues t (cell_record b (visit_mut f p)) (cell_record c (visit_mut f r))
continues-mapped f s t b c p r e h = record {
  wide = ap (λ (k : ℕ). (kind_of k).one_bit) (kind-kept f c r) ∙ h.wide;
  later = e;
  after = precedes-mapped f b c p r h.after;
}

pub sequence-mapped : (f : Net → Net) (s b c : ℕ) (p r : Cell) → out_of_sequence s (cell_record b p) (cell_record c r) ≡ false
    → out_of_sequence s (cell_record b (visit_mut f p)) (cell_record c (visit_mut f r)) ≡ false
sequence-mapped f s b c p r h =
    either (eqb c 0)
    (λ e. sequence-zero s (cell_record b (visit_mut f p)) (cell_record c (visit_mut f r)) (ap (λ (i : ℕ). eqb i 0) (record-bit c (visit_mut f r)) ∙ e))
    (λ e. let k : Continues s (cell_record b p) (cell_record c r) = continues s (cell_record b p) (cell_record c r) h (ap (λ (i : ℕ). eqb i 0) (record-bit c r) ∙ e) in
    sequence-more s (cell_record b (visit_mut f p)) (cell_record c (visit_mut f r)) (continues-mapped f s s b c p r k.later k))
