-- Operands of a cell: a cell's value follows from those of the nets that it reads within a tick. Assumes nothing.
use mathlib.Core.Path.{◌≡◌, refl, sym, ap, ap₂, ◌∙◌}
use mathlib.Core.Bool.{false, true≢false, true, false≢true}
use Prim.Native.Nat.{ℕ}
use Rattle.logic.specs.declared.Trit.{Trit}
use Rattle.value.specs.declared.Net.{Net}
use Rattle.value.specs.declared.Slot.{Slot}
use Rattle.value.specs.declared.ControlNet.{ControlNet}
use Rattle.value.specs.declared.ControlNet.TheVariants.{Pos, Neg}
use Rattle.value.specs.declared.Driver.{Driver}
use Rattle.value.specs.declared.Driver.TheVariants as driven
use Rattle.value.specs.Value.{driver, net}
use Rattle.cell.specs.declared.Cell.{Cell}
use Rattle.cell.specs.declared.Cell.TheVariants.{Input, Output, Buf, Not, And, Or, Xor, Mux, Aig}
use Rattle.netlist.specs.Shape.{visit, visit_control, visit_mut, is_source, comb_reads}
use Rattle.basics.specs.Lists.{All}
use Rattle.order_laws.specs.Members.{Drives}
use Rattle.levels_laws.specs.Algebra.{Algebra, driven_value, net_value, control_value, cell_value}

module _ {A : Type 0} (alg : Algebra A) where
  pub value-const : (v : ℕ → A) (n : Net) (t : Trit) → driver n ≡ driven.Const t → net_value alg v n ≡ alg.const t
  unfolding net_value
  value-const v n t e = ap (driven_value alg v) e

  pub value-slot : (v : ℕ → A) (n : Net) (x : Slot) → driver n ≡ driven.Cell x → net_value alg v n ≡ v x.0
  unfolding net_value
  value-slot v n x e = ap (driven_value alg v) e

  -- two valuations agree on a net if they agree on the slot that drives it
  pub value_same : (u v : ℕ → A) (n : Net) → Drives (λ x. u x ≡ v x) n → net_value alg u n ≡ net_value alg v n
  value_same u v n h = go (driver n) refl
    where
      go : (d : Driver) → driver n ≡ d → net_value alg u n ≡ net_value alg v n
      go (driven.Const t) e = value-const u n t e ∙ sym (value-const v n t e)
      go (driven.Cell x) e = value-slot u n x e ∙ h x e ∙ sym (value-slot v n x e)

  control-same : (u v : Net → A) (p : ControlNet) → u (net p) ≡ v (net p) → control_value alg u p ≡ control_value alg v p
  control-same u v (Pos n) e = e
  control-same u v (Neg n) e = ap alg.not e

  pub cell_same : (u v : Net → A) (own : A) (c : Cell) → All (λ n. u n ≡ v n) (comb_reads c) → cell_value alg u own c ≡ cell_value alg v own c
  unfolding All visit comb_reads cell_value
  cell_same u v own (Input l) h = refl
  cell_same u v own (Output a l) h = ap alg.output h.0
  cell_same u v own (Buf a) h = ap alg.buf h.0
  cell_same u v own (Not a) h = ap alg.not h.0
  cell_same u v own (And a b) h = ap₂ alg.and h.0 h.1.0
  cell_same u v own (Or a b) h = ap₂ alg.or h.0 h.1.0
  cell_same u v own (Xor a b) h = ap₂ alg.xor h.0 h.1.0
  cell_same u v own (Mux a b c) h = ap₂ (λ (x y : A). alg.mux x y (u c)) h.0 h.1.0 ∙ ap (alg.mux (v a) (v b)) h.1.1.0
  cell_same u v own (Aig p q) h = ap₂ alg.and (control-same u v p h.0) (control-same u v q h.1.0)

  control-visit : (v : Net → A) (f : Net → Net) (p : ControlNet) → control_value alg v (visit_control f p) ≡ control_value alg (λ n. v (f n)) p
  control-visit v f (Pos n) = refl
  control-visit v f (Neg n) = refl

  -- a function put to each operand
  pub cell-visit_mut : (v : Net → A) (f : Net → Net) (own : A) (c : Cell) → cell_value alg v own (visit_mut f c) ≡ cell_value alg (λ n. v (f n)) own c
  unfolding visit_mut cell_value
  cell-visit_mut v f own (Input l) = refl
  cell-visit_mut v f own (Output a l) = refl
  cell-visit_mut v f own (Buf a) = refl
  cell-visit_mut v f own (Not a) = refl
  cell-visit_mut v f own (And a b) = refl
  cell-visit_mut v f own (Or a b) = refl
  cell-visit_mut v f own (Xor a b) = refl
  cell-visit_mut v f own (Mux a b c) = refl
  cell-visit_mut v f own (Aig p q) = ap₂ alg.and (control-visit v f p) (control-visit v f q)

  -- a source has its own value, and no other cell has one
  pub source-own : (v : Net → A) (own : A) (c : Cell) → is_source c ≡ true → cell_value alg v own c ≡ own
  unfolding cell_value
  source-own v own (Input l) e = refl
  source-own v own (Output a l) e = absurd (false≢true e)
  source-own v own (Buf a) e = absurd (false≢true e)
  source-own v own (Not a) e = absurd (false≢true e)
  source-own v own (And a b) e = absurd (false≢true e)
  source-own v own (Or a b) e = absurd (false≢true e)
  source-own v own (Xor a b) e = absurd (false≢true e)
  source-own v own (Mux a b c) e = absurd (false≢true e)
  source-own v own (Aig p q) e = absurd (false≢true e)

  pub cell-own : (v : Net → A) (x y : A) (c : Cell) → is_source c ≡ false → cell_value alg v x c ≡ cell_value alg v y c
  unfolding cell_value
  cell-own v x y (Input l) e = absurd (true≢false e)
  cell-own v x y (Output a l) e = refl
  cell-own v x y (Buf a) e = refl
  cell-own v x y (Not a) e = refl
  cell-own v x y (And a b) e = refl
  cell-own v x y (Or a b) e = refl
  cell-own v x y (Xor a b) e = refl
  cell-own v x y (Mux a b c) e = refl
  cell-own v x y (Aig p q) e = refl
