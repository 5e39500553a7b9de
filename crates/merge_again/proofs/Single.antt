-- Where all cells but inputs have one bit: a slot that is no input is the only one of its cell; and what is kept. Assumes nothing.
use mathlib.Core.Path.{◌≡◌, refl, sym, ap, ◌∙◌, subst}
use mathlib.Core.List.{List, [], ◌∷◌}
use mathlib.Core.Bool.{false, Bool, true}
use Prim.Native.Nat.{ℕ, suc, ◌+◌, ◌-◌, ◌<◌}
use native.Mathlib.Omega.{arith}
use lib.ListN.{get_or, length, drop, get_or-eq_default}
use lib.Dec.{ltb, eqb}
use lib.Seq.{get_or-drop}
use borrow.Author.Tests.{eq-eqb, ltb-true, eqb-true, eqb-false, ltb-false}
use Rattle.basics.specs.Lists.{tabulate, All}
use Rattle.netlist.specs.Netlist.{Netlist, run, cell_in, output_of, start_of}
use Rattle.netlist.specs.Shape.{is_input, visit, has_effects}
use Rattle.compact.specs.Compact.{keep, is_kept}
use Rattle.order_laws.specs.Members.{Drives}
use Rattle.basics.proofs.Truth.{either, never}
use Rattle.order_laws.proofs.Sorts.{inputs-by, input-effects}
use Rattle.basics.proofs.Members.{all-imp, all_both}
use Rattle.order_laws.proofs.Operands.{input-reads}
use Rattle.kept.proofs.Sound.{Inner, Inside, Sound, inner, same_by, Bit, output-bits, start-inside, start-zero, start-kind}
use Rattle.kept.proofs.Keep.{marked-has}

run_none : (l : List ℕ) → get_or l 0 0 ≡ 0 → run l ≡ 0
unfolding run
run_none [] e = refl
run_none (x ∷ l) e = rw (eq-eqb x 0 e) refl

module _ (d : Netlist) (rank : ℕ → ℕ) (sound : Sound d rank)
    (single : (s : ℕ) → s < length d.cells → is_input (cell_in d.cells s) ≡ false → get_or d.bits s 0 ≡ 0) where
  abbrev n : ℕ
  n = length d.cells

  abbrev is-input : ℕ → Bool
  is-input s = is_input (cell_in d.cells s)

  abbrev bit : ℕ → ℕ
  bit s = get_or d.bits s 0

  -- the slot after it starts a cell
  next-first : (s : ℕ) → s < n → is-input s ≡ false → bit (s + 1) ≡ 0
  next-first s l e = either (ltb (s + 1) n)
      (λ q. let k : s + 1 < n = ltb-true (s + 1) n q in
      either (is-input (s + 1))
      (λ i. either (eqb (bit (s + 1)) 0) (λ z. eqb-true (bit (s + 1)) 0 z)
      (λ z. let w : Inner d rank sound (s + 1) = inner d rank sound (s + 1) k (eqb-false (bit (s + 1)) 0 z) in
      never i (sym (same_by d rank sound inputs-by (s + 1) (s + 1 - 1) w.kind) ∙ ap is-input (let q : s + 1 - 1 ≡ s = omega arith in q) ∙ e)))
      (λ i. single (s + 1) k i))
      (λ q. get_or-eq_default d.bits 0 {n = s + 1} (omega (arith, sound.wide, ltb-false (s + 1) n q)))

  pub one_bit : (s : ℕ) → s < n → is-input s ≡ false → output_of d.bits s ≡ s ∷ []
  unfolding output_of tabulate
  one_bit s l e =
      ap (λ (k : ℕ). tabulate (λ i. s + i) (suc k))
      (run_none (drop (s + 1) d.bits) (get_or-drop (s + 1) d.bits 0 0 ∙ ap bit (let z : s + 1 + 0 ≡ s + 1 = omega arith in z) ∙ next-first s l e))
      ∙ ap (λ (i : ℕ). i ∷ []) (let z : s + 0 ≡ s = omega arith in z)

  -- what holds of all cells with effects and, with a slot, of all that it reads, holds of every kept slot
  module _ (P : ℕ → Type 0) (roots : (s : ℕ) → s < n → has_effects (cell_in d.cells s) ≡ true → P s)
      (closed : (s : ℕ) → s < n → P s → All (Drives P) (visit (cell_in d.cells s))) where
    -- of the starts of cells
    record Start (s : ℕ) : Type 0 where
      inside : s < n
      first : bit s ≡ 0
      holds : P s

    of-input : (s : ℕ) → s < n → is-input s ≡ true → P s
    of-input s l e = roots s l (input-effects (cell_in d.cells s) e)

    start : (s : ℕ) → s < n → P s → Start (start_of d.bits s)
    start s l h = either (is-input s)
        (λ e. record {
          inside = start-inside d rank sound s l;
          first = start-zero d rank sound s l;
          holds = of-input (start_of d.bits s) (start-inside d rank sound s l) (same_by d rank sound inputs-by s (start_of d.bits s) (start-kind d rank sound s l) ∙ e);
        })
        (λ e. let z : bit s ≡ 0 = single s l e in
        subst Start (let q : s ≡ s - bit s = omega arith in q) (record { inside = l; first = z; holds = h }))

    deps-start : (s : ℕ) → Start s → All (λ i. All (Drives (λ x. Start (start_of d.bits x))) (visit (cell_in d.cells i))) (output_of d.bits s)
    unfolding All
    deps-start s h =
        let F : ℕ → Type 0 = λ i. All (Drives (λ x. Start (start_of d.bits x))) (visit (cell_in d.cells i)) in
        either (is-input s)
        (λ e. all-imp (Bit d rank sound s) F
        (λ i b. input-reads (Drives (λ x. Start (start_of d.bits x))) (cell_in d.cells i) (same_by d rank sound inputs-by s i b.kind ∙ e))
        (output_of d.bits s) (output-bits d rank sound s h.inside))
        (λ e. subst (All F) (sym (one_bit s h.inside e)) (
          all-imp (λ m. Drives P m × Inside d.cells m) (Drives (λ x. Start (start_of d.bits x)))
              (λ m k x q. start x.0 (k.1 x q) (k.0 x q)) (visit (cell_in d.cells s))
              (all_both (Drives P) (Inside d.cells) (visit (cell_in d.cells s)) (closed s h.inside h.holds) (sound.inside s h.inside)),
          tt,
        ))

    marked_start : (s : ℕ) → get_or (keep d) s false ≡ true → Start s
    marked_start =
        marked-has d Start (λ s l z e. let k : s < n = omega (arith, l, sound.wide) in record { inside = k; first = z; holds = roots s k e }) deps-start

    -- the law
    pub kept-has : (s : ℕ) → s < n → is_kept d.bits (keep d) s ≡ true → P s
    kept-has s l k = either (is-input s) (λ e. of-input s l e)
        (λ e. let z : bit s ≡ 0 = single s l e in
        subst P (let q : s - bit s ≡ s = omega arith in q) (marked_start (start_of d.bits s) k).holds)
