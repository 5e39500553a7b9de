-- Compacting keeps inputs, outputs and what kept cells read. Assumes nothing.
use mathlib.Core.Path.{◌≡◌, sym, ◌∙◌}
use mathlib.Core.Bool.{Bool, true, false}
use mathlib.Core.List.{List, map}
use Prim.Native.Nat.{ℕ, ◌<◌}
use native.Mathlib.Omega.{arith}
use lib.Dec.{eqb}
use lib.ListN.{length, get_or}
use borrow.Author.Tests.{eq-eqb, eqb-true}
use Rattle.value.specs.declared.Net.{Net}
use Rattle.netlist.specs.Shape.{visit, has_effects}
use Rattle.netlist.specs.Netlist.{Netlist, cell_in, sources, start_of, output_of, iter_cells, cell_deps}
use Rattle.basics.specs.Lists.{slots, those, any_of, joined, has, All}
use Rattle.compact.specs.Compact.{keep, is_kept}
use Rattle.order_laws.specs.Members.{Drives}
use Rattle.order_laws.proofs.Closed.{reached-wide, roots-reached, deps-reached, least}
use Rattle.basics.proofs.Members.{has-slots, all-imp, all_both, has-passing, has-any, has-map, has-joined, all_slots, all-those, those-pass}
use Rattle.basics.proofs.Indices.{get_d_any}
use Rattle.order_laws.proofs.Operands.{all-sources, all-deps}
use Rattle.order_laws.proofs.Sorts.{effects-by}
use Rattle.kept.proofs.Sound.{Inside, Sound, start-inside, start-zero, start-kind, start_has, same_by}

module _ (d : Netlist) (rank : ℕ → ℕ) (sound : Sound d rank) where
  abbrev roots : List ℕ
  roots = those (λ s. has_effects (cell_in d.cells s)) (iter_cells d.bits)

  abbrev kept : ℕ → Bool
  kept = is_kept d.bits (keep d)

  -- the marks are those of a walk
  keep-wide : length (keep d) ≡ length d.cells
  unfolding keep
  keep-wide = reached-wide (length d.cells) (cell_deps d) roots

  marked-at : (s : ℕ) → s < length d.cells → get_or (keep d) s true ≡ get_or (keep d) s false
  marked-at s l = get_d_any (keep d) s true false (let e : length (keep d) ≡ length d.cells = keep-wide in omega arith)

  root-marked : (s : ℕ) → s < length d.cells → has s roots ≡ true → get_or (keep d) s false ≡ true
  unfolding keep
  root-marked s l h = sym (marked-at s l) ∙ roots-reached (length d.cells) (cell_deps d) roots s h

  dep-marked : (s x : ℕ) → s < length d.cells → x < length d.cells → get_or (keep d) s false ≡ true → has x (cell_deps d s) ≡ true → get_or (keep d) x false ≡ true
  unfolding keep
  dep-marked s x l m h k =
      sym (marked-at x m) ∙ deps-reached (length d.cells) (cell_deps d) roots s x l (marked-at s l ∙ h) k

  pub effects-kept : (s : ℕ) → s < length d.cells → has_effects (cell_in d.cells s) ≡ true → kept s ≡ true
  unfolding iter_cells
  effects-kept s l h =
      let st = start_of d.bits s in
      let w : length d.bits ≡ length d.cells = sound.wide in
      root-marked st (start-inside d rank sound s l)
      (has-passing (λ x. has_effects (cell_in d.cells x)) (iter_cells d.bits) st
      (has-passing (λ x. eqb (get_or d.bits x 0) 0) (slots (length d.bits)) st (has-slots (length d.bits) st (omega (arith, start-inside d rank sound s l)))
      (eq-eqb (get_or d.bits st 0) 0 (start-zero d rank sound s l)))
      (same_by d rank sound effects-by s st (start-kind d rank sound s l) ∙ h))

  dep-has : (s x : ℕ) → s < length d.cells → x < length d.cells → has x (sources (visit (cell_in d.cells s))) ≡ true
      → has (start_of d.bits x) (cell_deps d (start_of d.bits s)) ≡ true
  unfolding cell_deps
  dep-has s x l m h =
      let F : ℕ → List ℕ = λ i. sources (visit (cell_in d.cells i)) in
      let read : List ℕ = map (start_of d.bits) (joined (map F (output_of d.bits (start_of d.bits s)))) in
      has-passing (λ y. any_of (eqb y) read) (slots (length d.cells)) (start_of d.bits x)
      (has-slots (length d.cells) (start_of d.bits x) (omega arith))
      (sym (has-any (start_of d.bits x) read)
      ∙ has-map (start_of d.bits) x (joined (map F (output_of d.bits (start_of d.bits s))))
      (has-joined F s x (output_of d.bits (start_of d.bits s)) (start_has d rank sound s l) h))

  -- a net that a kept slot drives
  abbrev pub KeptNet : Net → Type 0
  KeptNet = Drives (λ x. kept x ≡ true)

  pub reads_kept : (s : ℕ) → s < length d.cells → kept s ≡ true → All KeptNet (visit (cell_in d.cells s))
  reads_kept s l h =
      let P : Net → Type 0 = Drives (λ x. x < length d.cells → kept x ≡ true) in
      all-imp (λ m. P m × Inside d.cells m) KeptNet (λ m a x e. a.0 x e (a.1 x e)) (visit (cell_in d.cells s))
      (all_both P (Inside d.cells) (visit (cell_in d.cells s))
      (all-sources (λ x. x < length d.cells → kept x ≡ true) (visit (cell_in d.cells s))
      (λ x k m. dep-marked (start_of d.bits s) (start_of d.bits x) (start-inside d rank sound s l) (omega arith) h (dep-has s x l m k)))
      (sound.inside s l))

-- what holds of the start of each input and output and, with a cell, of the start of each that it reads, holds of all that is marked
pub marked-has : (d : Netlist) (P : ℕ → Type 0)
    → ((s : ℕ) → s < length d.bits → get_or d.bits s 0 ≡ 0 → has_effects (cell_in d.cells s) ≡ true → P s)
    → ((s : ℕ) → P s → All (λ i. All (Drives (λ x. P (start_of d.bits x))) (visit (cell_in d.cells i))) (output_of d.bits s))
    → (s : ℕ) → get_or (keep d) s false ≡ true → P s
unfolding keep iter_cells
marked-has d P roots closed =
    let bits : List ℕ = d.bits in
    let first : ℕ → Bool = λ s. eqb (get_or bits s 0) 0 in
    let effects : ℕ → Bool = λ s. has_effects (cell_in d.cells s) in
    let starts : List ℕ = those first (slots (length bits)) in
    let Start : ℕ → Type 0 = λ s. (s < length bits) × (first s ≡ true) in
    least (cell_deps d) P (λ s h. all-deps P d s (closed s h)) (length d.cells) (those effects starts)
    (all-imp (λ s. Start s × (effects s ≡ true)) P (λ s h. roots s h.0.0 (eqb-true (get_or bits s 0) 0 h.0.1) h.1) (those effects starts)
    (all_both Start (λ s. effects s ≡ true) (those effects starts)
    (all-those effects Start starts
    (all_both (λ s. s < length bits) (λ s. first s ≡ true) starts
    (all-those first (λ s. s < length bits) (slots (length bits)) (all_slots (length bits))) (those-pass first (slots (length bits)))))
    (those-pass effects starts)))
