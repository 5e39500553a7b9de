-- Netlists that pair off do so record by record. Assumes nothing.
use mathlib.Core.Path.{◌≡◌, refl, sym, ap, ◌∙◌}
use mathlib.Core.Bool.{Bool}
use mathlib.Core.List.{List, map}
use mathlib.Core.Logic.{◌⊎◌, inl, inr, ⊎_elim}
use Prim.Native.Nat.{ℕ, ◌<◌}
use native.Mathlib.Omega.{arith}
use lib.Dec.{eqb}
use lib.ListN.{length, get_or}
use Rattle.value.specs.declared.ControlNet.TheVariants.{Pos, Neg}
use Rattle.cell.specs.declared.Record.{Record}
use Rattle.cell.specs.declared.Cell.{Cell}
use Rattle.cell.specs.declared.Cell.TheVariants.{Input, Output, Buf, Not, And, Or, Xor, Mux, Aig}
use Rattle.kinds.specs.Kinds.{kind_of, use_of, sort_of}
use Rattle.cell.specs.Operands.{field_of, is_operand}
use Rattle.cell.specs.Records.{record_in, cell_record}
use Rattle.netlist.specs.Shape.{visit_mut, is_input, is_output}
use Rattle.netlist.specs.Netlist.{Netlist, cell_in, encode}
use Rattle.basics.specs.Lists.{slots, those}
use Rattle.levels.specs.Evaluate.{input_slots, output_slots}
use Rattle.basics.proofs.Members.{all-tabulate, those-same}
use Rattle.order_laws.proofs.Sorts.{input-kind, output-kind}
use Rattle.kept.proofs.Sound.{Sound}
use Rattle.kept.proofs.Passing.{encode-length, encode-at}
use Rattle.normal.specs.Paired.{exchange, Alike, renumber, PairedBy}
use Rattle.repeat.specs.Pairing.{record_by, exchanged, slots_of_kind, RecordsPaired}

-- a cell's record by another numbering, and exchanged
record-by : (p : ℕ → ℕ) (bit : ℕ) (c : Cell) → record_by p (cell_record bit c) ≡ cell_record bit (visit_mut (renumber p) c)
unfolding record_by cell_record visit_mut is_operand use_of kind_of field_of sort_of
record-by p bit (Input l) = refl
record-by p bit (Output a l) = refl
record-by p bit (Buf a) = refl
record-by p bit (Not a) = refl
record-by p bit (And a b) = refl
record-by p bit (Or a b) = refl
record-by p bit (Xor a b) = refl
record-by p bit (Mux a b c) = refl
record-by p bit (Aig (Pos a) (Pos b)) = refl
record-by p bit (Aig (Pos a) (Neg b)) = refl
record-by p bit (Aig (Neg a) (Pos b)) = refl
record-by p bit (Aig (Neg a) (Neg b)) = refl

record-exchanged : (bit : ℕ) (c : Cell) → exchanged (cell_record bit c) ≡ cell_record bit (exchange c)
unfolding exchanged cell_record exchange
record-exchanged bit (Input l) = refl
record-exchanged bit (Output a l) = refl
record-exchanged bit (Buf a) = refl
record-exchanged bit (Not a) = refl
record-exchanged bit (And a b) = refl
record-exchanged bit (Or a b) = refl
record-exchanged bit (Xor a b) = refl
record-exchanged bit (Mux a b c) = refl
record-exchanged bit (Aig (Pos a) (Pos b)) = refl
record-exchanged bit (Aig (Pos a) (Neg b)) = refl
record-exchanged bit (Aig (Neg a) (Pos b)) = refl
record-exchanged bit (Aig (Neg a) (Neg b)) = refl

record-alike : (p : ℕ → ℕ) (bit : ℕ) (c c' : Cell) → Alike (visit_mut (renumber p) c) c'
    → (record_by p (cell_record bit c) ≡ cell_record bit c') ⊎ (exchanged (record_by p (cell_record bit c)) ≡ cell_record bit c')
record-alike p bit c c' =
    ⊎_elim (λ e. inl (record-by p bit c ∙ ap (cell_record bit) e))
    (λ e. inr (ap exchanged (record-by p bit c) ∙ record-exchanged bit (visit_mut (renumber p) c) ∙ ap (cell_record bit) e))

-- the slots of a kind are those of its cells
kind-slots : (d : Netlist) (rank : ℕ → ℕ) → Sound d rank → (k : ℕ) (sort : Cell → Bool) → ((bit : ℕ) (c : Cell) → sort c ≡ eqb (cell_record bit c).kind k)
    → slots_of_kind k (encode d) ≡ those (λ s. sort (cell_in d.cells s)) (slots (length d.cells))
unfolding slots_of_kind
kind-slots d rank good k sort same =
    let rs : List Record = encode d in
    ap (λ (n : ℕ). those (λ s. eqb (record_in rs s).kind k) (slots n)) (encode-length d rank good)
    ∙ those-same (λ s. eqb (record_in rs s).kind k) (λ s. sort (cell_in d.cells s)) (slots (length d.cells))
    (all-tabulate (λ s. eqb (record_in rs s).kind k ≡ sort (cell_in d.cells s)) (λ s. s) (length d.cells)
    (λ s l. ap (λ (r : Record). eqb r.kind k) (encode-at d rank good s l) ∙ sym (same (get_or d.bits s 0) (cell_in d.cells s))))

module _ (d e : Netlist) (rank rank' : ℕ → ℕ) (good : Sound d rank) (good' : Sound e rank') (p : ℕ → ℕ) (pairs : PairedBy p d e) where
  here : (s : ℕ) → s < length (encode d) → s < length d.cells
  here s l = omega (arith, l, encode-length d rank good)

  there : (s : ℕ) → s < length e.cells → s < length (encode e)
  there s l = omega (arith, l, encode-length e rank' good')

  records-alike : (s : ℕ) → s < length (encode d)
      → (record_by p (record_in (encode d) s) ≡ record_in (encode e) (p s)) ⊎ (exchanged (record_by p (record_in (encode d) s)) ≡ record_in (encode e) (p s))
  records-alike s h =
      let l : s < length d.cells = here s h in
      let bit : ℕ = get_or d.bits s 0 in
      let is : cell_record bit (cell_in d.cells s) ≡ record_in (encode d) s = sym (encode-at d rank good s l) in
      let is' : cell_record bit (cell_in e.cells (p s)) ≡ record_in (encode e) (p s) =
      ap (λ (b : ℕ). cell_record b (cell_in e.cells (p s))) (pairs.bits s l) ∙ sym (encode-at e rank' good' (p s) (pairs.inside s l)) in
      ⊎_elim (λ q. inl (ap (record_by p) (sym is) ∙ q ∙ is')) (λ q. inr (ap (λ (r : Record). exchanged (record_by p r)) (sym is) ∙ q ∙ is'))
      (record-alike p bit (cell_in d.cells s) (cell_in e.cells (p s)) (pairs.cells s l))

  kinds-paired : (k : ℕ) (sort : Cell → Bool) → ((bit : ℕ) (c : Cell) → sort c ≡ eqb (cell_record bit c).kind k)
      → map p (those (λ s. sort (cell_in d.cells s)) (slots (length d.cells))) ≡ those (λ s. sort (cell_in e.cells s)) (slots (length e.cells))
      → map p (slots_of_kind k (encode d)) ≡ slots_of_kind k (encode e)
  kinds-paired k sort same h = ap (map p) (kind-slots d rank good k sort same) ∙ h ∙ sym (kind-slots e rank' good' k sort same)

  -- each field follows by arithmetic or congruence
  pub records-paired : RecordsPaired (encode d) (encode e)
  unfolding input_slots output_slots
  records-paired =
      let ins : map p (slots_of_kind 1 (encode d)) ≡ slots_of_kind 1 (encode e) = kinds-paired 1 is_input input-kind pairs.inputs in
      let outs : map p (slots_of_kind 2 (encode d)) ≡ slots_of_kind 2 (encode e) = kinds-paired 2 is_output output-kind pairs.outputs in
      record {
        pairing = p;
        paired = record {
          many = omega (arith, encode-length d rank good, pairs.many, encode-length e rank' good');
          inside = λ s l. omega (arith, there (p s) (pairs.inside s (here s l)));
          single = λ s s' l l' q. omega (arith, pairs.single s s' (here s l) (here s' l') q);
          inputs = cc ins;
          outputs = cc outs;
          records = λ s l. ⊎_elim (λ q. inl (cc q)) (λ q. inr (cc q)) (records-alike s l);
        };
      }
