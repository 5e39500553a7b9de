-- Normal netlists: no rule applies to a gate, no two gates are alike, each is reached from an output, and all but inputs have one bit. What
-- rewriting makes of a ticket without and-inverters is normal, and what is normal stays as it is. Assumes nothing.
use mathlib.Core.Path.{◌≡◌}
use mathlib.Core.Bool.{Bool, true, false}
use mathlib.Core.List.{List}
use Prim.Native.Nat.{ℕ, ◌<◌}
use lib.ListN.{length, get_or}
use Rattle.value.specs.declared.Net.{Net}
use Rattle.value.specs.Value.{driver}
use Rattle.cell.specs.declared.Cell.{Cell}
use Rattle.cell.specs.declared.Cell.TheVariants.{Input, Output, Buf, Not, And, Or, Xor, Mux, Aig}
use Rattle.netlist.specs.Shape.{is_input, has_effects}
use Rattle.netlist.specs.Netlist.{Netlist, cell_in}
use Rattle.std.specs.Prelude.{None, Some}
use Rattle.design.specs.Queue.{source_in, Source}
use Rattle.compact.specs.Compact.{keep, is_kept}
use Rattle.normalize.specs.Outcomes.{Outcome}
use Rattle.normalize.specs.declared.Change.TheVariants.{Value, Form, Add, NotOf, AddNotOf}
use Rattle.aig.specs.Aig.{simple_aig_opt}
use Rattle.kept.proofs.Sound.{Sound}
use Rattle.normal.specs.Paired.{Alike}

-- a rule applies
abbrev pub fires : Outcome → Bool
fires None = false
fires (Some c) = true

-- a net's cell in the netlist itself
abbrev pub look_in : List Cell → Net → Source
look_in cs n = source_in cs (driver n)

abbrev pub is_buf : Cell → Bool
is_buf (Buf a) = true
is_buf (Input l) = false
is_buf (Output a l) = false
is_buf (Not a) = false
is_buf (And a b) = false
is_buf (Or a b) = false
is_buf (Xor a b) = false
is_buf (Mux a b c) = false
is_buf (Aig p q) = false

-- what is normal of a netlist but its order: a gate of one bit to which no rule applies, whatever the order of its operands
pub record Still (cs : List Cell) (c : Cell) : Type 0 where
  pub unbuffered : is_buf c ≡ false
  pub still : fires (simple_aig_opt (look_in cs) c) ≡ false

pub record Normal (d : Netlist) (rank : ℕ → ℕ) : Type 0 where
  pub sound : Sound d rank
  pub single : (s : ℕ) → s < length d.cells → is_input (cell_in d.cells s) ≡ false → get_or d.bits s 0 ≡ 0
  pub still : (s : ℕ) → s < length d.cells → Still d.cells (cell_in d.cells s)
  pub distinct : (s s' : ℕ) → s < length d.cells → s' < length d.cells → has_effects (cell_in d.cells s) ≡ false
      → Alike (cell_in d.cells s) (cell_in d.cells s') → s ≡ s'
  pub reached : (s : ℕ) → s < length d.cells → is_kept d.bits (keep d) s ≡ true
