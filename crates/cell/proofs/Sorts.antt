-- The cell of a record of a given sort, and of one of no kind. Assumes nothing.
use Rattle.std.specs.Prelude.{Option, None}
use mathlib.Core.Path.{◌≡◌, sym, ap}
use mathlib.Core.Bool.{Bool, true, false, not, false≢true}
use Rattle.value.specs.Value.{ZERO}
use Rattle.kinds.specs.declared.Sort.{Sort}
use Rattle.kinds.specs.Kinds.{sort_of, is_known}
use Rattle.kinds.proofs.Laws.{unknown-sort}
use Rattle.cell.specs.declared.Record.{Record}
use Rattle.cell.specs.declared.Cell.TheVariants.{Buf}
use Rattle.cell.specs.Records.{cell_by, cell_of}

no-cell : (r : Record) → None ≡ sort_of r.kind → Buf ZERO ≡ cell_of r
unfolding cell_of
no-cell r e = ap (λ (y : Option Sort). cell_by y r) e

pub unknown-cell : (b : Bool) (r : Record) → b ≡ is_known r.kind → not b ≡ true → Buf ZERO ≡ cell_of r
unknown-cell true r e t = absurd (false≢true t)
unknown-cell false r e t = no-cell r (unknown-sort r.kind (sym e))

pub ruleset unknown = (unknown-cell)
