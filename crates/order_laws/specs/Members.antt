-- What holds of the slot that drives a net. Assumes nothing: these are definitions.
use Rattle.std.specs.Prelude.{◌≡◌, List, false, ℕ, ◌<◌, length}
use Rattle.value.specs.declared.Net.{Net}
use Rattle.value.specs.declared.Slot.{Slot}
use Rattle.value.specs.declared.Driver.TheVariants as driven
use Rattle.value.specs.Value.{driver}
use Rattle.cell.specs.declared.Cell.{Cell}
use Rattle.netlist.specs.Shape.{is_output}
use Rattle.netlist.specs.Netlist.{cell_in}

-- of the slot that drives a net; of a constant nothing is said
abbrev pub Drives : (ℕ → Type 0) → Net → Type 0
Drives P n = (x : Slot) → driver n ≡ driven.Cell x → P x.0

-- a net that a slot of the netlist drives, and no output, or a constant: what refusal 7 leaves
abbrev pub Wired : List Cell → Net → Type 0
Wired cs = Drives (λ x. (x < length cs) × (is_output (cell_in cs x) ≡ false))
