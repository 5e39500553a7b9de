-- Pairing off is the same both ways, and goes on from one netlist to the next. Assumes nothing.
use mathlib.Core.Path.{◌≡◌, refl, sym, ap, ◌∙◌, subst}
use mathlib.Core.List.{map-map, map-id, List, map}
use mathlib.Core.Logic.{inl}
use mathlib.Core.Bool.{Bool}
use Prim.Native.Nat.{ℕ, ◌≤◌, ◌<◌}
use native.Mathlib.Omega.{arith}
use lib.ListN.{length, get_or}
use Rattle.value.specs.declared.Net.{Net}
use Rattle.cell.specs.declared.Cell.{Cell}
use Rattle.netlist.specs.Shape.{visit, visit_mut, is_input, is_output}
use Rattle.netlist.specs.Netlist.{Netlist, cell_in}
use Rattle.basics.specs.Lists.{slots, those, All}
use Rattle.levels.specs.Evaluate.{input_slots, output_slots}
use Rattle.basics.proofs.Members.{all-imp, all-those, all_slots}
use Rattle.basics.proofs.Indices.{map_same}
use Rattle.kept.proofs.Sound.{Inside, Sound}
use Rattle.normal.specs.Paired.{Alike, renumber, PairedBy, Paired}
use Rattle.normal.proofs.Alike.{visit-same, visit-stays, visit-back, alike-sym, alike-visit, image-image, renumber-stays, renumber-renumber}
use Rattle.normal.proofs.Inverse.{Into, inverse, inverse-inside, inverse-right, inverse_left}

-- slots of a sort are slots
sort-inside : (sort : Cell → Bool) (cs : List Cell) → All (λ s. s < length cs) (those (λ s. sort (cell_in cs s)) (slots (length cs)))
sort-inside sort cs = all-those (λ s. sort (cell_in cs s)) (λ s. s < length cs) (slots (length cs)) (all_slots (length cs))

module _ (d : Netlist) (rank : ℕ → ℕ) (sound : Sound d rank) where
  abbrev total : ℕ
  total = length d.cells

  abbrev cell : ℕ → Cell
  cell = cell_in d.cells

  -- what holds of nets by their slots holds of each operand
  operands : (P : Net → Type 0) → ((n : Net) → Inside d.cells n → P n) → (s : ℕ) → s < total → All P (visit (cell s))
  operands P f s l = all-imp (Inside d.cells) P f (visit (cell s)) (sound.inside s l)

  module _ (e : Netlist) (p : ℕ → ℕ) (pairs : PairedBy p d e) where
    into : Into p total
    into = record { inside = λ s l. subst (λ (k : ℕ). p s < k) (sym pairs.many) (pairs.inside s l); single = pairs.single }

    small : (s : ℕ) → s < total → p s ≤ 65536
    small s l = let a : p s < total = into.inside s l in let b : total ≤ 65536 = sound.few in omega arith

    abbrev back : ℕ → ℕ
    back = inverse total p into

    here : (t : ℕ) → t < length e.cells → t < total
    here t l = subst (λ (k : ℕ). t < k) (sym pairs.many) l

    there_back : (t : ℕ) → t < length e.cells → p (back t) ≡ t
    there_back t l = inverse-right total p into t (here t l)

    list_back : (xs ys : List ℕ) → All (λ s. s < total) xs → map p xs ≡ ys → map back ys ≡ xs
    list_back xs ys h m =
        ap (map back) (sym m) ∙ map-map back p xs
        ∙ map_same (λ s. back (p s)) (λ s. s) xs (all-imp (λ s. s < total) (λ s. back (p s) ≡ s) (inverse_left total p into) xs h) ∙ map-id xs

    cells-back : (t : ℕ) → t < length e.cells → Alike (visit_mut (renumber back) (cell_in e.cells t)) (cell (back t))
    cells-back t l =
        let s : ℕ = back t in
        let k : s < total = inverse-inside total p into t (here t l) in
        let c : Cell = cell_in e.cells t in
        let there : Alike (visit_mut (renumber p) (cell s)) c =
        subst (λ (i : ℕ). Alike (visit_mut (renumber p) (cell s)) (cell_in e.cells i)) (there_back t l) (pairs.cells s k) in
        let same : visit_mut (renumber back) (visit_mut (renumber p) (cell s)) ≡ cell s =
        visit-back (renumber back) (renumber p) (cell s) (operands _
        (λ n h. renumber-renumber p back n (λ x e. small x.0 (h x e)) ∙ renumber-stays (λ i. back (p i)) n (λ x e. inverse_left total p into x.0 (h x e))) s k) in
        subst (Alike (visit_mut (renumber back) c)) same
        (alike-sym (visit_mut (renumber back) (visit_mut (renumber p) (cell s))) (visit_mut (renumber back) c) (alike-visit (renumber back) (visit_mut (renumber p) (cell s)) c there))

    back_by : PairedBy back e d
    unfolding input_slots output_slots
    back_by = record {
      many = sym pairs.many;
      inside = λ t l. inverse-inside total p into t (here t l);
      single = λ t t' l l' q. sym (there_back t l) ∙ ap p q ∙ there_back t' l';
      inputs = list_back (input_slots d.cells) (input_slots e.cells) (sort-inside is_input d.cells) pairs.inputs;
      outputs = list_back (output_slots d.cells) (output_slots e.cells) (sort-inside is_output d.cells) pairs.outputs;
      bits = λ t l. ap (λ (i : ℕ). get_or e.bits i 0) (sym (there_back t l)) ∙ sym (pairs.bits (back t) (inverse-inside total p into t (here t l)));
      cells = cells-back;
    }

    pub paired-back : Paired e d
    paired-back = record { pairing = back; paired = back_by }

    -- and on to a third
    pub paired-on : (f : Netlist) (q : ℕ → ℕ) → PairedBy q e f → PairedBy (λ s. q (p s)) d f
    paired-on f q next = record {
      many = pairs.many ∙ next.many;
      inside = λ s l. next.inside (p s) (pairs.inside s l);
      single = λ s s' l l' h. pairs.single s s' l l' (next.single (p s) (p s') (pairs.inside s l) (pairs.inside s' l') h);
      inputs = sym (map-map q p (input_slots d.cells)) ∙ ap (map q) pairs.inputs ∙ next.inputs;
      outputs = sym (map-map q p (output_slots d.cells)) ∙ ap (map q) pairs.outputs ∙ next.outputs;
      bits = λ s l. pairs.bits s l ∙ next.bits (p s) (pairs.inside s l);
      cells = λ s l.
          subst (λ (c : Cell). Alike c (cell_in f.cells (q (p s))))
          (visit-same (λ n. renumber q (renumber p n)) (renumber (λ i. q (p i))) (cell s) (operands _ (λ n h. renumber-renumber p q n (λ x e. small x.0 (h x e))) s l))
          (image-image (renumber q) (renumber p) (cell s) (cell_in e.cells (p s)) (cell_in f.cells (q (p s))) (pairs.cells s l) (next.cells (p s) (pairs.inside s l)));
    }

  pub paired-self : PairedBy (λ s. s) d d
  paired-self = record {
    many = refl;
    inside = λ s l. l;
    single = λ s s' l l' h. h;
    inputs = map-id (input_slots d.cells);
    outputs = map-id (output_slots d.cells);
    bits = λ s l. refl;
    cells = λ s l. inl (visit-stays (renumber (λ i. i)) (cell s) (operands _ (λ n h. renumber-stays (λ i. i) n (λ x e. refl)) s l));
  }
