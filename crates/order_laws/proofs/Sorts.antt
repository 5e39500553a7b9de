-- What the kind of a cell decides. Assumes nothing.
use mathlib.Core.Path.{◌≡◌, refl, sym, ap, ◌∙◌}
use mathlib.Core.Bool.{Bool, true, false, ◌&&◌, true≢false}
use mathlib.Core.List.{List}
use Prim.Native.Nat.{ℕ, ◌<◌}
use native.Mathlib.Omega.{arith}
use lib.Dec.{eqb, leb}
use lib.ListN.{length}
use borrow.Author.Tests.{eqb-true, leb-true, ne_eqb, lt-leb}
use Rattle.value.specs.declared.Net.{Net}
use Rattle.cell.specs.declared.Cell.{Cell}
use Rattle.cell.specs.declared.Cell.TheVariants.{Input, Output, Buf, Not, And, Or, Xor, Mux, Aig}
use Rattle.kinds.specs.Kinds.{is_known, kind_of, sort_of}
use Rattle.cell.specs.Records.{cell_record}
use Rattle.netlist.specs.Shape.{visit_mut, is_input, is_source, is_output, has_effects, is_splittable}
use Rattle.netlist.specs.Netlist.{cell_in}
use Rattle.netlist.proofs.Sources.{input-source, source-input}
use Rattle.basics.proofs.Truth.{either, never, or_left, or_right, neither, and_both}
use Rattle.basics.proofs.Indices.{get_d-inside}

-- the kind by its number
abbrev pub kind_in : Cell → ℕ
kind_in c = (cell_record 0 c).kind

-- a cell's record has the bit that it is made with; the kind stays under a function put to each operand, and is in the table; and each sort
-- of cells by the kind
described : (f : Net → Net) (bit : ℕ) (c : Cell)
    → ((cell_record bit c).bit ≡ bit)
    × ((cell_record bit (visit_mut f c)).kind ≡ (cell_record bit c).kind)
    × (is_known (cell_record bit c).kind ≡ true)
    × (leb (cell_record bit c).kind 9 ≡ true)
    × (is_input c ≡ eqb (cell_record bit c).kind 1)
    × (is_output c ≡ eqb (cell_record bit c).kind 2)
    × (has_effects c ≡ leb (cell_record bit c).kind 2)
    × (is_splittable c ≡ (leb 3 (cell_record bit c).kind && leb (cell_record bit c).kind 8))
    × (is_source c ≡ eqb (cell_record bit c).kind 1)
unfolding cell_record visit_mut kind_of has_effects sort_of
described f bit (Input l) = (refl, refl, refl, refl, refl, refl, refl, refl, refl)
described f bit (Output a l) = (refl, refl, refl, refl, refl, refl, refl, refl, refl)
described f bit (Buf a) = (refl, refl, refl, refl, refl, refl, refl, refl, refl)
described f bit (Not a) = (refl, refl, refl, refl, refl, refl, refl, refl, refl)
described f bit (And a b) = (refl, refl, refl, refl, refl, refl, refl, refl, refl)
described f bit (Or a b) = (refl, refl, refl, refl, refl, refl, refl, refl, refl)
described f bit (Xor a b) = (refl, refl, refl, refl, refl, refl, refl, refl, refl)
described f bit (Mux a b c) = (refl, refl, refl, refl, refl, refl, refl, refl, refl)
described f bit (Aig p q) = (refl, refl, refl, refl, refl, refl, refl, refl, refl)

pub record-bit : (bit : ℕ) (c : Cell) → (cell_record bit c).bit ≡ bit
record-bit bit c = (described (λ n. n) bit c).0

pub kind-kept : (f : Net → Net) (bit : ℕ) (c : Cell) → (cell_record bit (visit_mut f c)).kind ≡ (cell_record bit c).kind
kind-kept f bit c = (described f bit c).1

pub kind-known : (bit : ℕ) (c : Cell) → is_known (cell_record bit c).kind ≡ true
kind-known bit c = (described (λ n. n) bit c).2

pub kind-last : (bit : ℕ) (c : Cell) → leb (cell_record bit c).kind 9 ≡ true
kind-last bit c = (described (λ n. n) bit c).3

pub input-kind : (bit : ℕ) (c : Cell) → is_input c ≡ eqb (cell_record bit c).kind 1
input-kind bit c = (described (λ n. n) bit c).4

pub output-kind : (bit : ℕ) (c : Cell) → is_output c ≡ eqb (cell_record bit c).kind 2
output-kind bit c = (described (λ n. n) bit c).5

pub effects-kind : (bit : ℕ) (c : Cell) → has_effects c ≡ leb (cell_record bit c).kind 2
effects-kind bit c = (described (λ n. n) bit c).6

pub splittable-kind : (bit : ℕ) (c : Cell) → is_splittable c ≡ (leb 3 (cell_record bit c).kind && leb (cell_record bit c).kind 8)
splittable-kind bit c = (described (λ n. n) bit c).7

pub source-kind : (bit : ℕ) (c : Cell) → is_source c ≡ eqb (cell_record bit c).kind 1
source-kind bit c = (described (λ n. n) bit c).8

-- a sort of cells that the kind decides
pub record ByKind (sort : Cell → Bool) : Type 0 where
  pub test : ℕ → Bool
  pub is : (bit : ℕ) (c : Cell) → sort c ≡ test (cell_record bit c).kind

pub inputs-by : ByKind is_input
inputs-by = record { test = λ k. eqb k 1; is = input-kind }

pub sources-by : ByKind is_source
sources-by = record { test = λ k. eqb k 1; is = source-kind }

pub outputs-by : ByKind is_output
outputs-by = record { test = λ k. eqb k 2; is = output-kind }

pub effects-by : ByKind has_effects
effects-by = record { test = λ k. leb k 2; is = effects-kind }

pub splits-by : ByKind is_splittable
splits-by = record { test = λ k. leb 3 k && leb k 8; is = splittable-kind }

module _ {sort : Cell → Bool} (by : ByKind sort) where
  pub same-sort : (b b' : ℕ) (c d : Cell) → (cell_record b c).kind ≡ (cell_record b' d).kind → sort c ≡ sort d
  same-sort b b' c d e = by.is b c ∙ ap by.test e ∙ sym (by.is b' d)

  pub sort-kept : (f : Net → Net) (c : Cell) → sort (visit_mut f c) ≡ sort c
  sort-kept f c = same-sort 0 0 (visit_mut f c) c (kind-kept f 0 c)

pub input-mapped : (f : Net → Net) (c : Cell) → is_input (visit_mut f c) ≡ is_input c
input-mapped = sort-kept inputs-by

pub source-mapped : (f : Net → Net) (c : Cell) → is_source (visit_mut f c) ≡ is_source c
source-mapped = sort-kept sources-by

pub output-mapped : (f : Net → Net) (c : Cell) → is_output (visit_mut f c) ≡ is_output c
output-mapped = sort-kept outputs-by

pub effects-mapped : (f : Net → Net) (c : Cell) → has_effects (visit_mut f c) ≡ has_effects c
effects-mapped = sort-kept effects-by

-- cells with effects are inputs and outputs, and no cell is both
module _ (c : Cell) where
  pub input-effects : is_input c ≡ true → has_effects c ≡ true
  unfolding has_effects
  input-effects e = or_left (is_input c) (is_output c) e

  pub output-effects : is_output c ≡ true → has_effects c ≡ true
  unfolding has_effects
  output-effects e = or_right (is_input c) (is_output c) e

  pub gate-parts : has_effects c ≡ false → (is_input c ≡ false) × (is_output c ≡ false)
  unfolding has_effects
  gate-parts e = neither (is_input c) (is_output c) e

  pub gate-by : is_input c ≡ false → is_output c ≡ false → has_effects c ≡ false
  unfolding has_effects
  gate-by i o = rw (i, o)

  pub source-no-output : is_source c ≡ true → is_output c ≡ false
  source-no-output e = output-kind 0 c ∙ ne_eqb (kind_in c) 2 (λ q. omega (arith, q, eqb-true (kind_in c) 1 (sym (source-kind 0 c) ∙ e)))

  -- what is neither source nor output is a gate
  pub other-gate : is_source c ≡ false → is_output c ≡ false → has_effects c ≡ false
  other-gate s o = gate-by (either (is_input c) (λ i. never (input-source c i) s) (λ i. i)) o

  -- sources have effects, and gates are none: these two rest on `source-input`, which holds today only
  pub source-effects : is_source c ≡ true → has_effects c ≡ true
  source-effects e = input-effects (source-input c e)

  pub gate-other : has_effects c ≡ false → is_source c ≡ false
  gate-other g = either (is_source c) (λ e. never (source-effects e) g) (λ e. e)

  -- what is cut into bits is a gate
  pub splittable-gate : is_splittable c ≡ true → has_effects c ≡ false
  splittable-gate e =
      effects-kind 0 c ∙ lt-leb (kind_in c) 2 (omega (arith, leb-true 3 (kind_in c) (and_both _ _ (sym (splittable-kind 0 c) ∙ e)).0))

-- past the last slot there is a source and no gate
pub other-inside : (cs : List Cell) (s : ℕ) → is_source (cell_in cs s) ≡ false → s < length cs
other-inside cs s e = get_d-inside cs s (Input 0) (λ q. true≢false (sym (ap is_source q) ∙ e))

pub gate-inside : (cs : List Cell) (s : ℕ) → has_effects (cell_in cs s) ≡ false → s < length cs
unfolding has_effects
gate-inside cs s e = get_d-inside cs s (Input 0) (λ q. true≢false (sym (ap has_effects q) ∙ e))
