-- How the walk goes down from a bit. Assumes nothing: these are definitions.
use Rattle.std.specs.Prelude.{not, List, ◌++◌, map, ℕ}
use Rattle.value.specs.declared.Net.{Net}
use Rattle.value.specs.Value.{ZERO, net, driver}
use Rattle.cell.specs.declared.Record.{Record}
use Rattle.cell.specs.declared.Cell.{Cell}
use Rattle.cell.specs.declared.Cell.TheVariants.{Input, Output, Buf, Not, And, Or, Xor, Mux, Aig}
use Rattle.cell.specs.Records.{cell_of}
use Rattle.basics.specs.Lists.{those}
use Rattle.netlist.specs.Shape.{is_source}
use Rattle.netlist.specs.Netlist.{cell_in, driven_by}
use Rattle.netlist.specs.declared.fields.Operands.{Operands}

-- the operands of a cell by field, and a constant where there is none
unfoldable pub operands_of : Cell → Operands
operands_of (Input l) = record { 0 = ZERO; 1 = ZERO; 2 = ZERO }
operands_of (Output a l) = record { 0 = a; 1 = ZERO; 2 = ZERO }
operands_of (Buf a) = record { 0 = a; 1 = ZERO; 2 = ZERO }
operands_of (Not a) = record { 0 = a; 1 = ZERO; 2 = ZERO }
operands_of (And a b) = record { 0 = a; 1 = b; 2 = ZERO }
operands_of (Or a b) = record { 0 = a; 1 = b; 2 = ZERO }
operands_of (Xor a b) = record { 0 = a; 1 = b; 2 = ZERO }
operands_of (Mux a b c) = record { 0 = a; 1 = b; 2 = c }
operands_of (Aig p q) = record { 0 = net p; 1 = net q; 2 = ZERO }

-- the bit that a net leads down to: its slot unless that is a source
unfoldable pub bits_of : List Record → Net → List ℕ
bits_of rs x = those (λ s. not (is_source (cell_in (map cell_of rs) s))) (driven_by (driver x))

-- the bits that operands lead down to, the last first
unfoldable pub operand_bits : List Record → Operands → List ℕ
operand_bits rs o = bits_of rs o.2 ++ (bits_of rs o.1 ++ bits_of rs o.0)
