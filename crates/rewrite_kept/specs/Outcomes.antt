-- When an outcome of the rules may stand for a cell: levels that were 0 or 1 are kept. Assumes nothing: these are definitions.
use Rattle.std.specs.Prelude.{◌≡◌, None, Some}
use Rattle.logic.specs.declared.Trit.{Trit}
use Rattle.logic.specs.declared.Trit.TheVariants.{Undef}
use Rattle.logic.specs.Levels.{not_level, Refines}
use Rattle.value.specs.declared.Net.{Net}
use Rattle.value.specs.declared.Driver.TheVariants as driven
use Rattle.value.specs.Value.{driver}
use Rattle.cell.specs.declared.Cell.{Cell}
use Rattle.design.specs.Queue.{Source}
use Rattle.normalize.specs.Outcomes.{Outcome}
use Rattle.normalize.specs.declared.Change.TheVariants.{Value, Form, Add, NotOf, AddNotOf}
use Rattle.levels_laws.specs.Algebra.{cell_value}
use Rattle.levels_laws.specs.Instances.{kleene}

-- the level of a gate by Kleene's tables, given those of all nets; of an input, undefined
abbrev pub gate_level : (Net → Trit) → Cell → Trit
gate_level v c = cell_value kleene v Undef c

-- constants have their level
abbrev pub Constants : (Net → Trit) → Type 0
Constants v = (n : Net) (t : Trit) → driver n ≡ driven.Const t → v n ≡ t

-- a cell that is looked up for a net has the net's level; so an input says nothing
abbrev pub SourceFits : (Net → Trit) → Net → Source → Type 0
SourceFits v n None = Unit {0}
SourceFits v n (Some c) = v n ≡ cell_value kleene v (v n) c

-- the level that an outcome gives in place of a cell of level x; none leaves the cell
abbrev pub outcome_level : (Net → Trit) → Trit → Outcome → Trit
outcome_level v x None = x
outcome_level v x (Some (Value n)) = v n
outcome_level v x (Some (Form c)) = gate_level v c
outcome_level v x (Some (Add c)) = gate_level v c
outcome_level v x (Some (NotOf c)) = not_level (gate_level v c)
outcome_level v x (Some (AddNotOf c)) = not_level (gate_level v c)

-- it is x, or any if x is undefined
abbrev pub Refining : (Net → Trit) → Trit → Outcome → Type 0
Refining v x o = Refines (outcome_level v x o) x
