-- Two algebras: Kleene's levels, and a size that grows from operands to their reader. Assumes nothing: these are definitions.
use Rattle.std.specs.Prelude.{◌≡◌, List, ℕ, zero, suc, ◌+◌, ◌<◌, length, get_or}
use Rattle.logic.specs.declared.Trit.{Trit}
use Rattle.logic.specs.declared.Trit.TheVariants.{Undef}
use Rattle.logic.specs.Levels.{not_level, and_level, or_level, xor_level, mux_level}
use Rattle.cell.specs.declared.Cell.{Cell}
use Rattle.netlist.specs.Netlist.{cell_in}
use Rattle.levels.specs.Evaluate.{net_level, cell_level}
use Rattle.levels_laws.specs.Algebra.{Algebra, net_value, cell_value}

abbrev pub kleene : Algebra Trit
kleene = record {
  const = λ t. t;
  output = λ x. x;
  buf = λ x. x;
  not = not_level;
  and = and_level;
  or = or_level;
  xor = xor_level;
  mux = mux_level;
}

abbrev pub size : Algebra ℕ
size = record {
  const = λ t. 0;
  output = suc;
  buf = suc;
  not = suc;
  and = λ x y. suc (x + y);
  or = λ x y. suc (x + y);
  xor = λ x y. suc (x + y);
  mux = λ x y z. suc (x + y + z);
}

-- the sizes of the slots after k rounds
unfoldable pub sizes_in : ℕ → List Cell → ℕ → ℕ
sizes_in zero cs s = 0
sizes_in (suc k) cs s = cell_value size (net_value size (sizes_in k cs)) 0 (cell_in cs s)

-- levels of the slots that fit every cell by the tables, given the inputs' levels by slot
unfoldable pub LevelsFit : List Cell → List Trit → List Trit → Type 0
LevelsFit cs given ls = (s : ℕ) → s < length cs → get_or ls s Undef ≡ cell_level (net_level ls) (get_or given s Undef) (cell_in cs s)
