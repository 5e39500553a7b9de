-- Outcomes of rules and how tests are strung together. Assumes nothing: these are definitions.
use Rattle.std.specs.Prelude.{Bool, cond, Option, None, Some}
use Rattle.value.specs.declared.ControlNet.{ControlNet}
use Rattle.value.specs.declared.ControlNet.TheVariants.{Pos, Neg}
use Rattle.cell.specs.declared.Cell.TheVariants.{Not}
use Rattle.normalize.specs.declared.Change.{Change}
use Rattle.normalize.specs.declared.Change.TheVariants.{Value, Form}

-- what a rule gives: `None` is `RewriteResult::None`
abbrev pub Outcome : Type 0
Outcome = Option Change

-- the first that is not none
unfoldable pub first_change : Outcome → Outcome → Outcome
first_change None o = o
first_change (Some c) o = Some c

infixr 20 ◌or_else◌
abbrev pub ◌or_else◌ : Outcome → Outcome → Outcome
o or_else p = first_change o p

-- `if test { return o; }`
abbrev pub given : Bool → Outcome → Outcome
given test o = cond test o None

-- `for (x, y) in [(x1, x2), (x2, x1)]`
abbrev pub either_way : {A : Type 0} → (A → A → Outcome) → A → A → Outcome
either_way body x1 x2 = body x1 x2 or_else body x2 x1

-- `From<ControlNet> for RewriteResult`
unfoldable pub from_control : ControlNet → Outcome
from_control (Pos n) = Some (Value n)
from_control (Neg n) = Some (Form (Not n))
