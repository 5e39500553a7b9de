-- `netlist::is_output` meets its contract. Assumes nothing.
use mathlib.Core.Path.{◌∙◌}
use Rattle.netlist.proofs.Cells.{output-slot}
use Rattle.netlist.proofs.is_output.Goals as goal

pub returns : goal.returns
returns c = c.is_output.ensures ∙ output-slot _ _ _ c.record_in.ensures
