-- The levels of the outputs, in their order, before and after compacting. Assumes nothing.
use mathlib.Core.Path.{◌≡◌, sym, ap, ◌∙◌}
use mathlib.Core.Bool.{Bool, true}
use mathlib.Core.List.{List, map, map-map}
use Prim.Native.Nat.{ℕ, ◌<◌}
use native.Mathlib.Omega.{arith}
use lib.ListN.{length, get_or, length-map}
use Rattle.logic.specs.declared.Trit.{Trit}
use Rattle.logic.specs.declared.Trit.TheVariants.{Undef}
use Rattle.value.specs.declared.Net.{Net}
use Rattle.cell.specs.declared.Cell.{Cell}
use Rattle.cell.specs.declared.Cell.TheVariants.{Input}
use Rattle.netlist.specs.Shape.{visit_mut, is_input, is_output, has_effects}
use Rattle.netlist.specs.Netlist.{Netlist, cell_in}
use Rattle.basics.specs.Lists.{slots, those}
use Rattle.compact.specs.Compact.{keep, net_map, compact}
use Rattle.levels.specs.Evaluate.{levels, given_levels, input_slots, output_slots, output_levels}
use Rattle.basics.proofs.Members.{all-tabulate, all-those, those-those, those-same, map-those}
use Rattle.basics.proofs.Indices.{map_same, map-slots}
use Rattle.order_laws.proofs.Sorts.{input-mapped, output-mapped, input-effects, output-effects}
use Rattle.levels_laws.specs.Instances.{kleene}
use Rattle.levels_laws.proofs.Valuations.{unique, fits-own}
use Rattle.levels_laws.proofs.Levels.{levels-fit}
use Rattle.kept.proofs.Chosen.{chosen, count, SlotAt, slot-at}
use Rattle.kept.proofs.Sound.{Sound}
use Rattle.kept.proofs.Keep.{effects-kept}
use Rattle.kept.proofs.Stimulus.{same-given}
use Rattle.kept.proofs.Compact.{kept, old, compact-cells, compact-length, cell_at, compact-fits, compact-sound}

module _ (d : Netlist) (rank : ℕ → ℕ) (sound : Sound d rank) where
  abbrev n : ℕ
  n = length d.cells

  abbrev p : ℕ → Bool
  p = kept d rank sound

  abbrev from : ℕ → ℕ
  from = old d rank sound

  -- cells of a sort that is always kept stand in their old order
  module _ (sort : Cell → Bool) (alike : (f : Net → Net) (c : Cell) → sort (visit_mut f c) ≡ sort c) (effects : (c : Cell) → sort c ≡ true → has_effects c ≡ true) where
    sort-kept : (s : ℕ) → s < n → sort (cell_in d.cells s) ≡ true → p s ≡ true
    sort-kept s l e = effects-kept d rank sound s l (effects (cell_in d.cells s) e)

    places-kept : map from (those (λ s. sort (cell_in (compact d).cells s)) (slots (length (compact d).cells))) ≡ those (λ s. sort (cell_in d.cells s)) (slots n)
    unfolding chosen
    places-kept =
        let is : ℕ → Bool = λ s. sort (cell_in d.cells s) in
        let is' : ℕ → Bool = λ s. sort (cell_in (compact d).cells s) in
        let all : List ℕ = slots (length (compact d).cells) in
        ap (map from)
        (those-same is' (λ j. is (from j)) all
        (all-tabulate (λ j. is' j ≡ is (from j)) (λ j. j) (length (compact d).cells)
        (λ j l. ap sort (cell_at d rank sound j (let e : length (compact d).cells ≡ count p n = compact-length d rank sound in omega arith))
        ∙ alike (net_map d.bits (keep d)) (cell_in d.cells (from j)))))
        ∙ map-those from is all
        ∙ ap (λ (k : ℕ). those is (map from (slots k))) (compact-length d rank sound)
        ∙ ap (those is) (map-slots 0 (chosen p n))
        ∙ those-those p is (slots n) (all-tabulate (λ s. is s ≡ true → p s ≡ true) (λ s. s) n sort-kept)

  pub outputs-kept : map from (output_slots (compact d).cells) ≡ output_slots d.cells
  unfolding output_slots
  outputs-kept = places-kept is_output output-mapped output-effects

  pub inputs-kept : map from (input_slots (compact d).cells) ≡ input_slots d.cells
  unfolding input_slots
  inputs-kept = places-kept is_input input-mapped input-effects

  pub compact-inputs : length (input_slots (compact d).cells) ≡ length (input_slots d.cells)
  compact-inputs = sym (length-map (input_slots (compact d).cells) from) ∙ ap length inputs-kept

  module _ (bs : List ℕ) where
    -- each kept input has its old level
    given-kept : (j : ℕ) → j < length (compact d).cells → get_or (given_levels d.cells bs) (from j) Undef ≡ get_or (given_levels (compact d).cells bs) j Undef
    given-kept j l =
        let f = net_map d.bits (keep d) in
        let k : j < count p n = let e : length (compact d).cells ≡ count p n = compact-length d rank sound in omega arith in
        let s : SlotAt p n j = slot-at p n j k in
        ap (λ (cs : List Cell). get_or (given_levels cs bs) (from j) Undef) (sym (map-slots (Input 0) d.cells))
        ∙ sym (same-given (cell_in d.cells) (λ x. visit_mut f (cell_in d.cells x)) p (λ x. input-mapped f (cell_in d.cells x)) bs n (sort-kept is_input input-mapped input-effects) (from j) s.small s.passes)
        ∙ ap (λ (i : ℕ). get_or (given_levels (map (λ x. visit_mut f (cell_in d.cells x)) (chosen p n)) bs) i Undef) s.place
        ∙ ap (λ (cs : List Cell). get_or (given_levels cs bs) j Undef) (sym (compact-cells d rank sound))

    -- and each kept slot
    pub levels-kept : (j : ℕ) → j < length (compact d).cells
        → get_or (levels (compact d).cells (given_levels (compact d).cells bs)) j Undef ≡ get_or (levels d.cells (given_levels d.cells bs)) (from j) Undef
    levels-kept j l =
        let own : ℕ → Trit = λ s. get_or (given_levels d.cells bs) s Undef in
        let own' : ℕ → Trit = λ j. get_or (given_levels (compact d).cells bs) j Undef in
        let v : ℕ → Trit = λ s. get_or (levels d.cells (given_levels d.cells bs)) s Undef in
        let v' : ℕ → Trit = λ j. get_or (levels (compact d).cells (given_levels (compact d).cells bs)) j Undef in
        let ranked = (compact-sound d rank sound).ranked in
        unique kleene (compact d).cells (λ j. rank (from j)) ranked own' v' (λ j. v (from j))
        (levels-fit (compact d).cells (λ j. rank (from j)) ranked (given_levels (compact d).cells bs))
        (fits-own kleene (compact d).cells (λ j. own (from j)) own' (λ j. v (from j)) given-kept
        (compact-fits d rank sound kleene v own (levels-fit d.cells rank sound.ranked (given_levels d.cells bs))))
        j l

    -- after compacting every output has its old level, undefined included
    pub compact-keeps-levels : output_levels (compact d).cells bs ≡ output_levels d.cells bs
    unfolding output_levels output_slots
    compact-keeps-levels =
        let v : ℕ → Trit = λ s. get_or (levels d.cells (given_levels d.cells bs)) s Undef in
        let v' : ℕ → Trit = λ j. get_or (levels (compact d).cells (given_levels (compact d).cells bs)) j Undef in
        map_same v' (λ j. v (from j)) (output_slots (compact d).cells)
        (all-those (λ s. is_output (cell_in (compact d).cells s)) (λ j. v' j ≡ v (from j)) (slots (length (compact d).cells))
        (all-tabulate (λ j. v' j ≡ v (from j)) (λ j. j) (length (compact d).cells) levels-kept))
        ∙ sym (map-map v from (output_slots (compact d).cells))
        ∙ ap (map v) outputs-kept
