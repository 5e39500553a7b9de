-- What the laws of the rules say of nets. Assumes nothing: these are definitions.
use Rattle.std.specs.Prelude.{◌≡◌, false, None, Some}
use Rattle.value.specs.declared.Net.{Net}
use Rattle.cell.specs.declared.Cell.{Cell}
use Rattle.netlist.specs.Shape.{visit, has_effects}
use Rattle.design.specs.Queue.{Source}
use Rattle.normalize.specs.Outcomes.{Outcome}
use Rattle.normalize.specs.declared.Change.TheVariants.{Value, Form, Add, NotOf, AddNotOf}
use Rattle.basics.specs.Lists.{All}

-- a gate whose operands pass N
abbrev pub GateOf : (Net → Type 0) → Cell → Type 0
GateOf N c = All N (visit c) × (has_effects c ≡ false)

-- the operands of the cell that was looked up pass N
abbrev pub SourceNets : (Net → Type 0) → Source → Type 0
SourceNets N None = Unit {0}
SourceNets N (Some c) = All N (visit c)

-- the cells of an outcome pass q, its net passes v
abbrev pub GoodOutcome : (Cell → Type 0) → (Net → Type 0) → Outcome → Type 0
GoodOutcome q v None = Unit {0}
GoodOutcome q v (Some (Value n)) = v n
GoodOutcome q v (Some (Form c)) = q c
GoodOutcome q v (Some (Add c)) = q c
GoodOutcome q v (Some (NotOf c)) = q c
GoodOutcome q v (Some (AddNotOf c)) = q c
