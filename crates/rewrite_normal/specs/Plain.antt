-- Netlists without and-inverters (paper, demand 3). Assumes nothing: these are definitions.
use Rattle.std.specs.Prelude.{◌≡◌, Bool, true, false, List, ℕ, ◌<◌, length}
use Rattle.cell.specs.declared.Cell.{Cell}
use Rattle.cell.specs.declared.Cell.TheVariants.{Input, Output, Buf, Not, And, Or, Xor, Mux, Aig}
use Rattle.netlist.specs.Netlist.{cell_in}

abbrev pub is_aig : Cell → Bool
is_aig (Aig p q) = true
is_aig (Input l) = false
is_aig (Output a l) = false
is_aig (Buf a) = false
is_aig (Not a) = false
is_aig (And a b) = false
is_aig (Or a b) = false
is_aig (Xor a b) = false
is_aig (Mux a b c) = false

abbrev pub Plain : List Cell → Type 0
Plain cs = (s : ℕ) → s < length cs → is_aig (cell_in cs s) ≡ false
