-- Two netlists with the same records up to renumbering and the exchange of operands (paper, "What demand 3 compares"). Assumes nothing: these
-- are definitions.
use Rattle.std.specs.Prelude.{◌≡◌, map, ◌⊎◌, ℕ, ◌<◌, length, get_or}
use Rattle.value.specs.declared.Net.{Net}
use Rattle.value.specs.declared.Driver.{Driver}
use Rattle.value.specs.declared.Driver.TheVariants as driven
use Rattle.value.specs.Value.{driver}
use Rattle.cell.specs.declared.Cell.{Cell}
use Rattle.cell.specs.declared.Cell.TheVariants.{Input, Output, Buf, Not, And, Or, Xor, Mux, Aig}
use Rattle.netlist.specs.Shape.{visit_mut}
use Rattle.netlist.specs.Netlist.{Netlist, cell_in}
use Rattle.design.specs.Queue.{net_in}
use Rattle.levels.specs.Evaluate.{input_slots, output_slots}

-- the operands in a and b exchanged, an and-inverter's flags with them; only of an xor and an and-inverter
unfoldable pub exchange : Cell → Cell
exchange (Xor a b) = Xor b a
exchange (Aig p q) = Aig q p
exchange (Input l) = Input l
exchange (Output a l) = Output a l
exchange (Buf a) = Buf a
exchange (Not a) = Not a
exchange (And a b) = And a b
exchange (Or a b) = Or a b
exchange (Mux a b c) = Mux a b c

-- the same cell, but for that exchange
abbrev pub Alike : Cell → Cell → Type 0
Alike c d = (c ≡ d) ⊎ (exchange c ≡ d)

-- a net by another numbering of the slots; constants stay
abbrev pub driven_as : (ℕ → ℕ) → Net → Driver → Net
driven_as p n (driven.Const t) = n
driven_as p n (driven.Cell s) = net_in (p s.0)

unfoldable pub renumber : (ℕ → ℕ) → Net → Net
renumber p n = driven_as p n (driver n)

-- the slots of d pair off with those of e by p: equally many, one to one; inputs and outputs in their order; kind, bit and label the same;
-- each operand the same constant, or the paired slot
pub record PairedBy (p : ℕ → ℕ) (d e : Netlist) : Type 0 where
  pub many : length d.cells ≡ length e.cells
  pub inside : (s : ℕ) → s < length d.cells → p s < length e.cells
  pub single : (s s' : ℕ) → s < length d.cells → s' < length d.cells → p s ≡ p s' → s ≡ s'
  pub inputs : map p (input_slots d.cells) ≡ input_slots e.cells
  pub outputs : map p (output_slots d.cells) ≡ output_slots e.cells
  pub bits : (s : ℕ) → s < length d.cells → get_or d.bits s 0 ≡ get_or e.bits (p s) 0
  pub cells : (s : ℕ) → s < length d.cells → Alike (visit_mut (renumber p) (cell_in d.cells s)) (cell_in e.cells (p s))

pub record Paired (d e : Netlist) : Type 0 where
  pub pairing : ℕ → ℕ
  pub paired : PairedBy pairing d e
