-- A map from cells to the nets that hold them: `Numberer` of merge.rs, and the rewriter's `cache`. Assumes nothing: these are definitions.
use Rattle.std.specs.Prelude.{cond, List, [], ◌∷◌}
use Rattle.value.specs.declared.Net.{Net}
use Rattle.cell.specs.declared.Cell.{Cell}
use Rattle.design.specs.Queue.{eq_cell}
use Rattle.std.specs.Prelude.{Option, Some, None}

-- `HashMap<Cell, Value>`, of merging and of the rewriter: cells, each with the net that holds it, and the search for one
abbrev pub Entry : Type 0
Entry = Cell × Net

unfoldable pub seek : List Entry → Cell → Option Net
seek [] c = None
seek (e ∷ es) c = let rest = seek es c in cond (eq_cell e.0 c) (Some e.1) rest
