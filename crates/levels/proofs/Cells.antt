-- The level of a net and of a cell, arm by arm. Assumes nothing.
use mathlib.Core.Path.{◌≡◌, sym, ap, ap₂, ◌∙◌}
use mathlib.Core.List.{List}
use Prim.Native.Nat.{ℕ}
use lib.ListN.{get_or}
use Rattle.logic.specs.declared.Trit.{Trit}
use Rattle.logic.specs.declared.Trit.TheVariants.{Undef}
use Rattle.logic.specs.Levels.{not_level, and_level, or_level, xor_level, mux_level}
use Rattle.value.specs.declared.Net.{Net}
use Rattle.value.specs.declared.Slot.{Slot}
use Rattle.value.specs.declared.ControlNet.{ControlNet}
use Rattle.value.specs.declared.Driver.{Driver}
use Rattle.value.specs.declared.Driver.TheVariants as driven
use Rattle.value.specs.Value.{driver}
use Rattle.cell.specs.declared.Cell.{Cell}
use Rattle.cell.specs.declared.Cell.TheVariants.{Input, Output, Buf, Not, And, Or, Xor, Mux, Aig}
use Rattle.levels.specs.Evaluate.{net_level, driven_level, control_level, cell_level}

module _ (ls : List Trit) (x : Net) (d : Driver) (d-is : d ≡ driver x) (r : Trit) where
  pub net-const : d ≡ driven.Const r → r ≡ net_level ls x
  unfolding net_level
  net-const e = sym (ap (driven_level ls) (sym d-is ∙ e))

  pub net-cell : (s : Slot) → d ≡ driven.Cell s → r ≡ get_or ls s.0 Undef → r ≡ net_level ls x
  unfolding net_level
  net-cell s e f = f ∙ sym (ap (driven_level ls) (sym d-is ∙ e))

module _ (v : Net → Trit) (own : Trit) (c : Cell) where
  pub input-level : (l : ℕ) → c ≡ Input l → own ≡ cell_level v own c
  unfolding cell_level
  input-level l e = rw e

  module _ (x : Net) (a : Trit) (a-is : a ≡ v x) where
    pub output-level : (l : ℕ) → c ≡ Output x l → a ≡ cell_level v own c
    unfolding cell_level
    output-level l e = rw e a-is

    pub buf-level : c ≡ Buf x → a ≡ cell_level v own c
    unfolding cell_level
    buf-level e = rw e a-is

    pub not-level : c ≡ Not x → (r : Trit) → r ≡ not_level a → r ≡ cell_level v own c
    unfolding cell_level
    not-level e r f = rw e (f ∙ ap not_level a-is)

    module _ (y : Net) (b : Trit) (b-is : b ≡ v y) where
      pub and-level : c ≡ And x y → (r : Trit) → r ≡ and_level a b → r ≡ cell_level v own c
      unfolding cell_level
      and-level e r f = rw e (f ∙ ap₂ and_level a-is b-is)

      pub or-level : c ≡ Or x y → (r : Trit) → r ≡ or_level a b → r ≡ cell_level v own c
      unfolding cell_level
      or-level e r f = rw e (f ∙ ap₂ or_level a-is b-is)

      pub xor-level : c ≡ Xor x y → (r : Trit) → r ≡ xor_level a b → r ≡ cell_level v own c
      unfolding cell_level
      xor-level e r f = rw e (f ∙ ap₂ xor_level a-is b-is)

      pub mux-level : (z : Net) → c ≡ Mux x y z → (d : Trit) → d ≡ v z → (r : Trit) → r ≡ mux_level a b d → r ≡ cell_level v own c
      unfolding cell_level
      mux-level z e d g r f = rw e (f ∙ ap₂ (λ (i j : Trit). mux_level i j d) a-is b-is ∙ ap (mux_level (v x) (v y)) g)

  pub aig-level : (p q : ControlNet) → c ≡ Aig p q → (a b : Trit) → a ≡ control_level v p → b ≡ control_level v q → (r : Trit) → r ≡ and_level a b
      → r ≡ cell_level v own c
  unfolding cell_level
  aig-level p q e a b f g r h = rw e (h ∙ ap₂ and_level f g)
