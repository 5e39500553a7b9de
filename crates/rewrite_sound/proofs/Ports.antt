-- At the end of a run, after the change queue is applied: inputs and outputs stand in their slots, in their order, with their labels, and each
-- input is given its old level of a stimulus. Assumes nothing.
use mathlib.Core.Path.{◌≡◌, sym, ap, ◌∙◌}
use mathlib.Core.Bool.{Bool, true, false, cond}
use mathlib.Core.List.{List, [], ◌∷◌}
use Prim.Native.Nat.{ℕ, zero, suc, ◌+◌, ◌≤◌, ◌<◌, ◌-◌}
use native.Mathlib.Omega.{arith}
use lib.ListN.{length, get_or, drop}
use Rattle.logic.specs.declared.Trit.TheVariants.{Undef}
use Rattle.logic.specs.Levels.{level_of}
use Rattle.value.specs.declared.Net.{Net}
use Rattle.cell.specs.declared.Cell.{Cell}
use Rattle.netlist.specs.Shape.{visit_mut, is_input, is_output, has_effects}
use Rattle.netlist.specs.Netlist.{cell_in}
use Rattle.basics.specs.Lists.{slots, those}
use Rattle.design.specs.Queue.{applied}
use Rattle.rewrite.specs.Rewriter.{Rewriter}
use Rattle.levels.specs.Evaluate.{given_levels, input_slots, output_slots}
use Rattle.basics.proofs.Truth.{either, never}
use Rattle.order_laws.proofs.Sorts.{effects-mapped, input-mapped, output-mapped, input-effects, output-effects}
use Rattle.basics.proofs.Members.{those-same, all-tabulate}
use Rattle.order_laws.proofs.Queue.{applied-at, applied-length}
use Rattle.kept.proofs.Bytes.{label_of, label_kept}
use Rattle.kept.proofs.Chosen.{chosen, chosen-rest}
use Rattle.rewrite_sound.proofs.Shaped.{holds-effects}
use Rattle.rewrite_sound.proofs.Operands.{Ended, follow, port-stays}

-- a stimulus gives each input the same level, whatever cells stand behind
given-before : (cs ds : List Cell) (bs : List ℕ) → length cs ≤ length ds → ((i : ℕ) → i < length cs → is_input (cell_in ds i) ≡ is_input (cell_in cs i))
    → (i : ℕ) → i < length cs → get_or (given_levels ds bs) i Undef ≡ get_or (given_levels cs bs) i Undef
unfolding given_levels
given-before [] ds bs l h i k = absurd (omega arith)
given-before (c ∷ cs) [] bs l h i k = absurd (omega arith)
given-before (c ∷ cs) (d ∷ ds) bs l h zero k = ap (λ (b : Bool). cond b (level_of (get_or bs 0 2)) Undef) (h 0 (omega arith))
given-before (c ∷ cs) (d ∷ ds) bs l h (suc i) k =
    ap (λ (b : Bool). get_or (given_levels ds (cond b (drop 1 bs) bs)) i Undef) (h 0 (omega arith))
    ∙ given-before cs ds (cond (is_input c) (drop 1 bs) bs) (omega arith) (λ j m. h (suc j) (omega arith)) i (omega arith)

module _ (cs₀ : List Cell) (r : Rewriter) (end : Ended cs₀ r) where
  abbrev cs : List Cell
  cs = applied r.design

  pub more-slots : length cs₀ ≤ length cs
  more-slots = let m : length cs₀ ≤ length r.design.cells = end.shaped.many in omega (arith, applied-length r.design)

  -- an input or output of the ticket is in its slot, and no other slot holds one
  pub port-cell : (s : ℕ) → s < length cs₀ → has_effects (cell_in cs₀ s) ≡ true → cell_in cs s ≡ visit_mut (follow r) (cell_in cs₀ s)
  port-cell s l e =
      applied-at r.design s (omega (arith, more-slots, applied-length r.design)) ∙ ap (visit_mut (follow r)) (port-stays cs₀ r end s l e)

  pub ticket-effects : (s : ℕ) → s < length cs₀ → has_effects (cell_in cs s) ≡ has_effects (cell_in cs₀ s)
  ticket-effects s l =
      ap has_effects (applied-at r.design s (omega (arith, more-slots, applied-length r.design)))
      ∙ effects-mapped (follow r) (cell_in r.design.cells s)
      ∙ holds-effects (cell_in cs₀ s) (cell_in r.design.cells s) (end.shaped.olds s l)

  pub added-gate : (s : ℕ) → length cs₀ ≤ s → s < length cs → has_effects (cell_in cs s) ≡ false
  added-gate s l m =
      let k : s < length r.design.cells = omega (arith, applied-length r.design) in
      ap has_effects (applied-at r.design s k) ∙ effects-mapped (follow r) (cell_in r.design.cells s) ∙ (end.shaped.adds s l k).0

  -- cells of a sort that is always an input or output stand in their old order
  module _ (sort : Cell → Bool) (alike : (f : Net → Net) (c : Cell) → sort (visit_mut f c) ≡ sort c) (effects : (c : Cell) → sort c ≡ true → has_effects c ≡ true) where
    other : (c : Cell) → has_effects c ≡ false → sort c ≡ false
    other c g = either (sort c) (λ e. never (effects c e) g) (λ e. e)

    sort-stays : (s : ℕ) → s < length cs₀ → sort (cell_in cs s) ≡ sort (cell_in cs₀ s)
    sort-stays s l =
        either (has_effects (cell_in cs₀ s)) (λ e. ap sort (port-cell s l e) ∙ alike (follow r) (cell_in cs₀ s))
        (λ e. other (cell_in cs s) (ticket-effects s l ∙ e) ∙ sym (other (cell_in cs₀ s) e))

    abbrev found : List ℕ
    found = those (λ s. sort (cell_in cs₀ s)) (slots (length cs₀))

    slots-stay : those (λ s. sort (cell_in cs s)) (slots (length cs)) ≡ found
    unfolding chosen
    slots-stay =
        ap (λ (k : ℕ). those (λ s. sort (cell_in cs s)) (slots k)) (let q : length cs ≡ length cs₀ + (length cs - length cs₀) = omega (arith, more-slots) in q)
        ∙ chosen-rest (λ s. sort (cell_in cs s)) (length cs₀) (length cs - length cs₀) (λ s l m. other (cell_in cs s) (added-gate s l (omega (arith, m, more-slots))))
        ∙ those-same (λ s. sort (cell_in cs s)) (λ s. sort (cell_in cs₀ s)) (slots (length cs₀))
        (all-tabulate (λ s. sort (cell_in cs s) ≡ sort (cell_in cs₀ s)) (λ s. s) (length cs₀) sort-stays)

  pub inputs-stay : input_slots cs ≡ input_slots cs₀
  unfolding input_slots
  inputs-stay = slots-stay is_input input-mapped input-effects

  pub outputs-stay : output_slots cs ≡ output_slots cs₀
  unfolding output_slots
  outputs-stay = slots-stay is_output output-mapped output-effects

  -- with their labels
  pub label-stays : (s : ℕ) → s < length cs₀ → has_effects (cell_in cs₀ s) ≡ true → label_of (cell_in cs s) ≡ label_of (cell_in cs₀ s)
  label-stays s l e = ap label_of (port-cell s l e) ∙ label_kept (follow r) (cell_in cs₀ s)

  -- each input is given its level
  pub given_stays : (stimulus : List ℕ) (s : ℕ) → s < length cs₀ → get_or (given_levels cs stimulus) s Undef ≡ get_or (given_levels cs₀ stimulus) s Undef
  given_stays stimulus = given-before cs₀ cs stimulus more-slots (sort-stays is_input input-mapped input-effects)
