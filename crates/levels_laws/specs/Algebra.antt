-- Valuations of a netlist in any algebra of the cell kinds. Assumes nothing: these are definitions.
use Rattle.std.specs.Prelude.{◌≡◌, List, ℕ, ◌<◌, length}
use Rattle.logic.specs.declared.Trit.{Trit}
use Rattle.value.specs.declared.Net.{Net}
use Rattle.value.specs.declared.ControlNet.{ControlNet}
use Rattle.value.specs.declared.ControlNet.TheVariants.{Pos, Neg}
use Rattle.value.specs.declared.Driver.{Driver}
use Rattle.value.specs.declared.Driver.TheVariants as driven
use Rattle.value.specs.Value.{driver}
use Rattle.cell.specs.declared.Cell.{Cell}
use Rattle.cell.specs.declared.Cell.TheVariants.{Input, Output, Buf, Not, And, Or, Xor, Mux, Aig}
use Rattle.netlist.specs.Shape.{comb_reads}
use Rattle.netlist.specs.Netlist.{cell_in}
use Rattle.basics.specs.Lists.{All}
use Rattle.order_laws.specs.Members.{Drives}

-- what a constant is worth, and how each kind of cell computes its value from those of its operands. An and-inverter is an and of operands, inverted where they are negative
pub record Algebra (A : Type 0) : Type 0 where
  pub const : Trit → A
  pub output : A → A
  pub buf : A → A
  pub not : A → A
  pub and : A → A → A
  pub or : A → A → A
  pub xor : A → A → A
  pub mux : A → A → A → A

-- one in which the order of two operands does not matter
pub record Commutative {A : Type 0} (alg : Algebra A) : Type 0 where
  pub and_comm : (x y : A) → alg.and x y ≡ alg.and y x
  pub or_comm : (x y : A) → alg.or x y ≡ alg.or y x
  pub xor_comm : (x y : A) → alg.xor x y ≡ alg.xor y x

module _ {A : Type 0} (alg : Algebra A) where
  -- the value of a net, given those of the slots
  abbrev pub driven_value : (ℕ → A) → Driver → A
  driven_value v (driven.Const t) = alg.const t
  driven_value v (driven.Cell s) = v s.0

  unfoldable pub net_value : (ℕ → A) → Net → A
  net_value v n = driven_value v (driver n)

  abbrev pub control_value : (Net → A) → ControlNet → A
  control_value v (Pos n) = v n
  control_value v (Neg n) = alg.not (v n)

  -- the value of a cell, given those of the nets and, for a source, its own
  unfoldable pub cell_value : (Net → A) → A → Cell → A
  cell_value v own (Input l) = own
  cell_value v own (Output a l) = alg.output (v a)
  cell_value v own (Buf a) = alg.buf (v a)
  cell_value v own (Not a) = alg.not (v a)
  cell_value v own (And a b) = alg.and (v a) (v b)
  cell_value v own (Or a b) = alg.or (v a) (v b)
  cell_value v own (Xor a b) = alg.xor (v a) (v b)
  cell_value v own (Mux a b c) = alg.mux (v a) (v b) (v c)
  cell_value v own (Aig p q) = alg.and (control_value v p) (control_value v q)

  -- a valuation that fits every cell, given the sources' values by slot
  unfoldable pub Fits : (ℕ → A) → List Cell → (ℕ → A) → Type 0
  Fits own cs v = (s : ℕ) → s < length cs → v s ≡ cell_value (net_value v) (own s) (cell_in cs s)

-- a net that slot s reads within a tick is constant or is the net of a slot of lower rank
abbrev pub Before : List Cell → (ℕ → ℕ) → ℕ → Net → Type 0
Before cs rank s = Drives (λ x. (x < length cs) × (rank x < rank s))

-- a rank that falls from each slot to those that it reads within a tick
unfoldable pub Ranked : List Cell → (ℕ → ℕ) → Type 0
Ranked cs rank = (s : ℕ) → s < length cs → All (Before cs rank s) (comb_reads (cell_in cs s))
