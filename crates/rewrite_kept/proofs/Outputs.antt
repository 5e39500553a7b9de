-- The levels of the outputs, in their order, before and after rewriting. Assumes nothing.
use mathlib.Core.Path.{◌≡◌, refl, sym, ap, ap₂, ◌∙◌, subst}
use mathlib.Core.Bool.{Bool, true}
use mathlib.Core.List.{List, [], ◌∷◌, map}
use Prim.Native.Nat.{ℕ, zero, suc, ◌<◌}
use native.Mathlib.Omega.{arith}
use lib.Dec.{ltb}
use lib.ListN.{length, get_or, length-map}
use borrow.Author.Tests.{lt-ltb}
use Rattle.logic.specs.declared.Trit.{Trit}
use Rattle.logic.specs.declared.Trit.TheVariants.{Undef}
use Rattle.logic.specs.Levels.{byte_of, eq_level, refines, Refines}
use Rattle.logic.proofs.Table.{same, finer, passes, given, at}
use Rattle.logic.proofs.Laws.{refines-refl}
use Rattle.value.specs.declared.Net.{Net}
use Rattle.cell.specs.declared.Cell.{Cell}
use Rattle.netlist.specs.Shape.{is_input, is_output, has_effects}
use Rattle.netlist.specs.Netlist.{cell_in}
use Rattle.basics.specs.Lists.{slots, All}
use Rattle.order.specs.Orders.{bit_deps, topo_sort}
use Rattle.design.specs.Queue.{net_in, applied}
use Rattle.rewrite.specs.Rewriter.{Rewriter, Lookup}
use Rattle.levels.specs.Evaluate.{levels, given_levels, output_slots, output_levels}
use Rattle.order_laws.specs.Ordered.{FedAfter}
use Rattle.basics.proofs.Truth.{either, or_right}
use Rattle.basics.proofs.Members.{all-imp, all_both, those-pass, all-those, all-tabulate}
use Rattle.order_laws.proofs.Queue.{applied-length}
use Rattle.order_laws.proofs.Sorts.{gate-other}
use Rattle.rewrite_laws.specs.State.{Inv}
use Rattle.levels_laws.specs.Algebra.{cell_value, Fits, Ranked}
use Rattle.levels_laws.specs.Instances.{kleene}
use Rattle.levels_laws.proofs.Operands.{cell-own}
use Rattle.levels_laws.proofs.Levels.{levels-fit}
use Rattle.rewrite_sound.proofs.Operands.{port-stays}
use Rattle.rewrite_sound.proofs.Ports.{more-slots, outputs-stay, given_stays}
use Rattle.rewrite_sound.proofs.Result.{Ran}
use Rattle.rewrite_kept.specs.Outcomes.{Constants}
use Rattle.rewrite_kept.specs.Definite.{Definite}
use Rattle.rewrite_kept.proofs.Runs.{Looks, Refined, run-leads}
use Rattle.rewrite_kept.proofs.Refined.{slots-refined}
use Rattle.rewrite_kept.proofs.Valued.{valued, valued-constants, valued-slot, valued-cell, valued_fits, unstamped}

-- levels as bytes
definite-level : (x y : Trit) → Refines y x → ltb (byte_of x) 2 ≡ true → y ≡ x
unfolding refines eq_level
definite-level = at 2 (λ x y. given (finer y x) (given (passes (ltb (byte_of x) 2)) (same y x))) tt

definite-at : (f g : ℕ → Trit) (xs : List ℕ) → All (λ x. Refines (g x) (f x)) xs → (k : ℕ) → get_or (map byte_of (map f xs)) k 2 < 2
    → get_or (map byte_of (map g xs)) k 2 ≡ get_or (map byte_of (map f xs)) k 2
unfolding All
definite-at f g [] h k l = refl
definite-at f g (x ∷ xs) h zero l = ap byte_of (definite-level (f x) (g x) h.0 (lt-ltb (byte_of (f x)) 2 l))
definite-at f g (x ∷ xs) h (suc k) l = definite-at f g xs h.1 k l

pub definite-levels : (f g : ℕ → Trit) (xs : List ℕ) → All (λ x. Refines (g x) (f x)) xs → Definite (map byte_of (map f xs)) (map byte_of (map g xs))
definite-levels f g xs h = record {
  long = length-map (map g xs) byte_of ∙ length-map xs g ∙ sym (length-map (map f xs) byte_of ∙ length-map xs f);
  same = λ k l. definite-at f g xs h k (omega arith);
}

-- the netlist of a run, after the change queue is applied
module _ (look : Lookup) (cs₀ : List Cell) (looks : Looks look cs₀) (fed : FedAfter (length cs₀) (bit_deps cs₀) [] (topo_sort cs₀)) (rank : ℕ → ℕ) (ranked : Ranked cs₀ rank)
    (x : Ran look cs₀) (rank' : ℕ → ℕ) (ranked' : Ranked (applied x.last.design) rank') (stimulus : List ℕ) where
  abbrev r : Rewriter
  r = x.last

  abbrev cs : List Cell
  cs = applied r.design

  abbrev inv : Inv cs₀ r
  inv = x.ended.state.inv

  -- the inputs' levels and those of all slots, before and after
  abbrev own : List Cell → ℕ → Trit
  own ds s = get_or (given_levels ds stimulus) s Undef

  abbrev level : List Cell → ℕ → Trit
  level ds s = get_or (levels ds (given_levels ds stimulus)) s Undef

  fits' : Fits kleene (own cs) cs (level cs)
  fits' = levels-fit cs rank' ranked' (given_levels cs stimulus)

  abbrev v : Net → Trit
  v = valued cs₀ r inv x.ended.few (own cs) (level cs) fits'

  consts : Constants v
  consts = valued-constants cs₀ r inv x.ended.few (own cs) (level cs) fits'

  -- inputs and outputs stand in their slots
  module _ (s : ℕ) (l : s < length cs₀) (e : has_effects (cell_in cs₀ s) ≡ true) where
    inside : s < length r.design.cells
    inside = omega (arith, more-slots cs₀ r x.ended, applied-length r.design)

    itself : get_or r.design.replaced s (net_in s) ≡ net_in s
    itself = unstamped cs₀ r inv x.ended.few (own cs) (level cs) fits' s l (x.ended.shaped.ports s l e)

    port-level : v (net_in s) ≡ level cs s
    port-level = valued-slot cs₀ r inv x.ended.few (own cs) (level cs) fits' s inside itself

    port-cell : v (net_in s) ≡ cell_value kleene v (own cs₀ s) (cell_in cs₀ s)
    port-cell =
        valued-cell cs₀ r inv x.ended.few (own cs) (level cs) fits' s inside itself
        ∙ ap₂ (cell_value kleene v) (given_stays cs₀ r x.ended stimulus s l) (port-stays cs₀ r x.ended s l e)

  gate-refined : (s : ℕ) → s < length cs₀ → Refined cs₀ v consts s
  gate-refined s l =
      run-leads cs₀ v consts look looks x.ended.wired fed r x.is x.ended.few
      (valued_fits cs₀ r inv x.ended.few (own cs) (level cs) fits') s l

  each : (s : ℕ) → s < length cs₀ → Refines (v (net_in s)) (cell_value kleene v (own cs₀ s) (cell_in cs₀ s))
  each s l =
      either (has_effects (cell_in cs₀ s))
      (λ e. subst (Refines (v (net_in s))) (port-cell s l e) (refines-refl (v (net_in s))))
      (λ e. subst (Refines (v (net_in s))) (cell-own kleene v Undef (own cs₀ s) (cell_in cs₀ s) (gate-other (cell_in cs₀ s) e)) (gate-refined s l e))

  output-refined : (s : ℕ) → s < length cs₀ → is_output (cell_in cs₀ s) ≡ true → Refines (level cs s) (level cs₀ s)
  unfolding has_effects
  output-refined s l e =
      subst (λ (y : Trit). Refines y (level cs₀ s)) (port-level s l (or_right (is_input (cell_in cs₀ s)) (is_output (cell_in cs₀ s)) e))
      (slots-refined cs₀ rank ranked v consts (own cs₀) (level cs₀)
      (levels-fit cs₀ rank ranked (given_levels cs₀ stimulus)) each s l)

  outputs-refined : All (λ s. Refines (level cs s) (level cs₀ s)) (output_slots cs₀)
  unfolding output_slots
  outputs-refined =
      let is : ℕ → Bool = λ s. is_output (cell_in cs₀ s) in
      let P : ℕ → Type 0 = λ s. is s ≡ true → Refines (level cs s) (level cs₀ s) in
      all-imp (λ s. P s × (is s ≡ true)) (λ s. Refines (level cs s) (level cs₀ s)) (λ s a. a.0 a.1) (output_slots cs₀)
      (all_both P (λ s. is s ≡ true) (output_slots cs₀)
      (all-those is P (slots (length cs₀)) (all-tabulate P (λ s. s) (length cs₀) output-refined))
      (those-pass is (slots (length cs₀))))

  -- the law
  pub applied-keeps : Definite (map byte_of (output_levels cs₀ stimulus)) (map byte_of (output_levels (applied x.last.design) stimulus))
  unfolding output_levels
  applied-keeps =
      subst (λ (ss : List ℕ). Definite (map byte_of (map (level cs₀) (output_slots cs₀))) (map byte_of (map (level cs) ss))) (sym (outputs-stay cs₀ r x.ended))
      (definite-levels (level cs₀) (level cs) (output_slots cs₀) outputs-refined)
