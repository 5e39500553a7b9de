use mathlib.Core.Path.{◌∙◌}
use Rattle.netlist.proofs.Cells.{source-slot}
use Rattle.netlist.proofs.is_source.Goals as goal

pub returns : goal.returns
returns c = c.is_source.ensures ∙ source-slot _ _ _ c.record_in.ensures
