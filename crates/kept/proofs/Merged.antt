-- The merged netlist: slot by slot it has the values that it had, in any algebra; it is sound; and every output keeps its level.
-- Assumes nothing.
use mathlib.Core.Path.{◌≡◌, refl, sym, ap, ap₂, ◌∙◌, subst}
use mathlib.Core.Bool.{Bool, false, cond}
use mathlib.Core.List.{List, [], ◌∷◌, map}
use Prim.Native.Nat.{ℕ, ◌-◌, ◌≤◌, ◌<◌}
use native.Mathlib.Omega.{arith}
use lib.ListN.{length, get_or, drop, length-map}
use Rattle.logic.specs.declared.Trit.{Trit}
use Rattle.logic.specs.declared.Trit.TheVariants.{Undef}
use Rattle.logic.specs.Levels.{level_of}
use Rattle.value.specs.declared.Net.{Net}
use Rattle.cell.specs.declared.Cell.{Cell}
use Rattle.cell.specs.declared.Cell.TheVariants.{Input}
use Rattle.cell.specs.Records.{cell_record}
use Rattle.checking.specs.Checking.{out_of_sequence}
use Rattle.netlist.specs.Shape.{visit, comb_reads, visit_mut, is_input, is_output}
use Rattle.netlist.specs.Netlist.{Netlist, cell_in}
use Rattle.basics.specs.Lists.{slots, those, All}
use Rattle.design.specs.Queue.{map_net_new, applied}
use Rattle.merge.specs.Merge.{merging, merged_netlist, merge}
use Rattle.levels.specs.Evaluate.{levels, given_levels, input_slots, output_slots, output_levels}
use Rattle.basics.proofs.Members.{all-imp, all_both, all-tabulate, all-those, those-same}
use Rattle.order_laws.proofs.Operands.{comb-all, visited-all, visited-comb}
use Rattle.basics.proofs.Indices.{get_d-mapped, map_same}
use Rattle.order_laws.proofs.Sorts.{input-mapped, output-mapped}
use Rattle.levels_laws.specs.Algebra.{Algebra, Commutative, net_value, cell_value, Fits, Before, Ranked}
use Rattle.levels_laws.specs.Instances.{kleene, size, sizes_in}
use Rattle.levels_laws.proofs.Commutes.{kleene-commutes, size-commutes}
use Rattle.levels_laws.proofs.Operands.{value-slot}
use Rattle.levels_laws.proofs.Valuations.{unique}
use Rattle.levels_laws.proofs.Levels.{levels-fit, sizes-fit, size-grows}
use Rattle.kept.proofs.Records.{sequence-mapped}
use Rattle.kept.proofs.Sound.{record_in, Inside, NoOutput, Sound}
use Rattle.kept.proofs.Compact.{old, compact-each, compact-shorter, compact-sound}
use Rattle.kept.proofs.Outputs.{compact-inputs, compact-keeps-levels}
use Rattle.kept.proofs.Merge.{Stands, operands-stand, mapped-value, merging-cells, merging-replaces}

-- the stimulus goes to the inputs, and their sort is kept
given-mapped : (f : Net → Net) (cs : List Cell) (bs : List ℕ) → given_levels (map (visit_mut f) cs) bs ≡ given_levels cs bs
unfolding given_levels
given-mapped f [] bs = refl
given-mapped f (c ∷ cs) bs =
    ap (λ (b : Bool). cond b (level_of (get_or bs 0 2)) Undef ∷ given_levels (map (visit_mut f) cs) (cond b (drop 1 bs) bs)) (input-mapped f c)
    ∙ ap (λ (ls : List Trit). cond (is_input c) (level_of (get_or bs 0 2)) Undef ∷ ls) (given-mapped f cs (cond (is_input c) (drop 1 bs) bs))

module _ (d : Netlist) (rank : ℕ → ℕ) (sound : Sound d rank) where
  abbrev total : ℕ
  total = length d.cells

  abbrev sizes : ℕ → ℕ
  sizes = sizes_in total d.cells

  abbrev mapped : Net → Net
  mapped = map_net_new (merging d).replaced

  -- the netlist before it is compacted
  abbrev pub rewired : Netlist
  rewired = merged_netlist d (merging d)

  sized : Fits size (λ s. 0) d.cells sizes
  sized = sizes-fit d.cells rank sound.ranked

  rewired-cells : rewired.cells ≡ map (visit_mut mapped) d.cells
  unfolding applied
  rewired-cells = ap (map (visit_mut mapped)) (merging-cells d rank sound size size-commutes (λ s. 0) sizes sized)

  rewired-length : length rewired.cells ≡ total
  rewired-length = ap length rewired-cells ∙ length-map d.cells (visit_mut mapped)

  inside : (s : ℕ) → s < length rewired.cells → s < total
  inside s l = let e : length rewired.cells ≡ total = rewired-length in omega arith

  cell_at : (s : ℕ) → s < total → cell_in rewired.cells s ≡ visit_mut mapped (cell_in d.cells s)
  cell_at s l = ap (λ (cs : List Cell). cell_in cs s) rewired-cells ∙ get_d-mapped (visit_mut mapped) d.cells s (Input 0) (Input 0) l

  module _ {A : Type 0} (alg : Algebra A) (comm : Commutative alg) (own v : ℕ → A) (fits : Fits alg own d.cells v) where
    pub rewired-fits : Fits alg own rewired.cells v
    unfolding Fits
    rewired-fits s l =
        sym (mapped-value d rank sound alg comm own v fits (merging d).replaced (merging-replaces d rank sound alg comm own v fits) s (inside s l))
        ∙ ap (cell_value alg (net_value alg v) (own s)) (sym (cell_at s (inside s l)))

  -- what each operand of a slot stands for, and its size if it is read within a tick
  abbrev Operand : Net → Type 0
  Operand m = Stands d rank sound size size-commutes (λ s. 0) sizes sized (net_value size sizes m) (mapped m)

  operands : (s : ℕ) → s < total → All Operand (visit (cell_in d.cells s))
  operands = operands-stand d rank sound size size-commutes (λ s. 0) sizes sized (merging d).replaced (merging-replaces d rank sound size size-commutes (λ s. 0) sizes sized)

  smaller : (s : ℕ) → s < total → All (λ m. net_value size sizes m < sizes s) (comb_reads (cell_in d.cells s))
  unfolding Fits
  smaller s l =
      all-imp (λ m. net_value size sizes m < cell_value size (net_value size sizes) 0 (cell_in d.cells s)) (λ m. net_value size sizes m < sizes s)
      (λ m h. subst (λ (k : ℕ). net_value size sizes m < k) (sym (sized s l)) h)
      (comb_reads (cell_in d.cells s)) (size-grows (net_value size sizes) 0 (cell_in d.cells s))

  visits : (P : Net → Type 0) (s : ℕ) → s < total → ((m : Net) → Operand m → P (mapped m)) → All P (visit (cell_in rewired.cells s))
  visits P s l h =
      subst (λ (c : Cell). All P (visit c)) (sym (cell_at s l))
      (visited-all P mapped (cell_in d.cells s) (all-imp Operand (λ m. P (mapped m)) h (visit (cell_in d.cells s)) (operands s l)))

  rewired-ranked : Ranked rewired.cells sizes
  unfolding Ranked
  rewired-ranked s l =
      let c : Cell = cell_in d.cells s in
      let New : Net → Type 0 = Before rewired.cells sizes s in
      subst (λ (y : Cell). All New (comb_reads y)) (sym (cell_at s (inside s l)))
      (visited-comb New mapped c
      (all-imp (λ m. Operand m × (net_value size sizes m < sizes s)) (λ m. New (mapped m))
      (λ m o x e.
      let in₁ : x.0 < total = (o.0.driven x e).0 in
      let n : length rewired.cells ≡ total = rewired-length in
      let q : net_value size sizes (mapped m) ≡ sizes x.0 = value-slot size sizes (mapped m) x e in
      let r : net_value size sizes (mapped m) ≡ net_value size sizes m = o.0.value in
      let t : net_value size sizes m < sizes s = o.1 in
      (omega arith, subst (λ (k : ℕ). k < sizes s) (sym r ∙ q) t))
      (comb_reads c)
      (all_both Operand (λ m. net_value size sizes m < sizes s) (comb_reads c) (comb-all Operand c (operands s (inside s l))) (smaller s (inside s l)))))

  rewired-inside : (s : ℕ) → s < length rewired.cells → All (Inside rewired.cells) (visit (cell_in rewired.cells s))
  rewired-inside s l =
      visits (Inside rewired.cells) s (inside s l)
      (λ m o x e. let i : x.0 < total = (o.driven x e).0 in let n : length rewired.cells ≡ total = rewired-length in omega arith)

  rewired-driven : (s : ℕ) → s < length rewired.cells → All (NoOutput rewired.cells) (visit (cell_in rewired.cells s))
  rewired-driven s l =
      visits (NoOutput rewired.cells) s (inside s l)
      (λ m o x e. ap is_output (cell_at x.0 (o.driven x e).0) ∙ output-mapped mapped (cell_in d.cells x.0) ∙ (o.driven x e).1)

  rewired-sequence : (s : ℕ) → s < length rewired.cells → out_of_sequence s (record_in rewired (s - 1)) (record_in rewired s) ≡ false
  rewired-sequence s l =
      let k : s < total = inside s l in
      ap₂ (λ (p r : Cell). out_of_sequence s (cell_record (get_or d.bits (s - 1) 0) p) (cell_record (get_or d.bits s 0) r)) (cell_at (s - 1) (omega arith)) (cell_at s k)
      ∙ sequence-mapped mapped s (get_or d.bits (s - 1) 0) (get_or d.bits s 0) (cell_in d.cells (s - 1)) (cell_in d.cells s) (sound.sequence s k)

  pub rewired-sound : Sound rewired sizes
  rewired-sound = record {
    wide = sound.wide ∙ sym rewired-length;
    few = let n : length rewired.cells ≡ total = rewired-length in let f : total ≤ 65536 = sound.few in omega arith;
    ranked = rewired-ranked;
    inside = rewired-inside;
    driven = rewired-driven;
    sequence = rewired-sequence;
  }

  pub merge-sound : Sound (merge d).0 (λ j. sizes (old rewired sizes rewired-sound j))
  unfolding merge
  merge-sound = compact-sound rewired sizes rewired-sound

  pub merge-each : (P : Cell → Type 0) → ((f : Net → Net) (c : Cell) → P c → P (visit_mut f c)) → ((s : ℕ) → s < total → P (cell_in d.cells s))
      → (j : ℕ) → j < length (merge d).0.cells → P (cell_in (merge d).0.cells j)
  unfolding merge
  merge-each P h g =
      compact-each rewired sizes rewired-sound P h
      (λ s l. subst P (sym (cell_at s (inside s l))) (h mapped (cell_in d.cells s) (g s (inside s l))))

  -- cells of a sort stand in their old places
  places_same : (sort : Cell → Bool) → ((f : Net → Net) (c : Cell) → sort (visit_mut f c) ≡ sort c)
      → those (λ s. sort (cell_in rewired.cells s)) (slots (length rewired.cells)) ≡ those (λ s. sort (cell_in d.cells s)) (slots total)
  places_same sort alike =
      ap (λ (k : ℕ). those (λ s. sort (cell_in rewired.cells s)) (slots k)) rewired-length
      ∙ those-same (λ s. sort (cell_in rewired.cells s)) (λ s. sort (cell_in d.cells s)) (slots total)
      (all-tabulate (λ s. sort (cell_in rewired.cells s) ≡ sort (cell_in d.cells s)) (λ s. s) total
      (λ s l. ap sort (cell_at s l) ∙ alike mapped (cell_in d.cells s)))

  outputs-same : output_slots rewired.cells ≡ output_slots d.cells
  unfolding output_slots
  outputs-same = places_same is_output output-mapped

  inputs-same : input_slots rewired.cells ≡ input_slots d.cells
  unfolding input_slots
  inputs-same = places_same is_input input-mapped

  pub merge-inputs : length (input_slots (merge d).0.cells) ≡ length (input_slots d.cells)
  unfolding merge
  merge-inputs = compact-inputs rewired sizes rewired-sound ∙ ap length inputs-same

  pub merge-shorter : length (merge d).0.cells ≤ total
  unfolding merge
  merge-shorter = let n : length rewired.cells ≡ total = rewired-length in omega (arith, compact-shorter rewired sizes rewired-sound)

  module _ (bs : List ℕ) where
    given-same : given_levels rewired.cells bs ≡ given_levels d.cells bs
    given-same = ap (λ (cs : List Cell). given_levels cs bs) rewired-cells ∙ given-mapped mapped d.cells bs

    abbrev given : List Trit
    given = given_levels d.cells bs

    levels-same : (s : ℕ) → s < total → get_or (levels rewired.cells given) s Undef ≡ get_or (levels d.cells given) s Undef
    levels-same s l =
        let own : ℕ → Trit = λ s. get_or given s Undef in
        unique kleene rewired.cells sizes rewired-ranked own (λ s. get_or (levels rewired.cells given) s Undef) (λ s. get_or (levels d.cells given) s Undef)
        (levels-fit rewired.cells sizes rewired-ranked given)
        (rewired-fits kleene kleene-commutes own (λ s. get_or (levels d.cells given) s Undef) (levels-fit d.cells rank sound.ranked given))
        s (let n : length rewired.cells ≡ total = rewired-length in omega arith)

    rewired-keeps-levels : output_levels rewired.cells bs ≡ output_levels d.cells bs
    unfolding output_levels output_slots
    rewired-keeps-levels =
        let v : List Trit → ℕ → Trit = λ ls s. get_or ls s Undef in
        ap₂ (λ (g : List Trit) (ss : List ℕ). map (v (levels rewired.cells g)) ss) given-same outputs-same
        ∙ map_same (v (levels rewired.cells given)) (v (levels d.cells given)) (output_slots d.cells)
        (all-those (λ s. is_output (cell_in d.cells s)) (λ s. v (levels rewired.cells given) s ≡ v (levels d.cells given) s) (slots total)
        (all-tabulate (λ s. v (levels rewired.cells given) s ≡ v (levels d.cells given) s) (λ s. s) total levels-same))

    -- after merging every output has its old level, undefined included
    pub merge-keeps-levels : output_levels (merge d).0.cells bs ≡ output_levels d.cells bs
    unfolding merge
    merge-keeps-levels = compact-keeps-levels rewired sizes rewired-sound bs ∙ rewired-keeps-levels
