-- Looking up nets in the words. Assumes nothing.
use mathlib.Core.Path.{◌≡◌, sym, ap, ◌∙◌}
use mathlib.Core.List.{List}
use Prim.Native.Nat.{ℕ, ◌<◌, ◌≤◌}
use native.Mathlib.Omega.{arith}
use lib.ListN.{get_or-eq_default}
use Rattle.logic.specs.declared.Trit.{Trit}
use Rattle.value.specs.declared.Net.{Net}
use Rattle.value.specs.declared.Slot.{Slot}
use Rattle.value.specs.declared.Driver.{Driver}
use Rattle.value.specs.declared.Driver.TheVariants as driven
use Rattle.value.specs.Value.{driver}
use Rattle.cell.specs.declared.Cell.{Cell}
use Rattle.cell.specs.declared.Cell.TheVariants.{Input}
use Rattle.cell.specs.Records.{cell_of}
use Rattle.netlist.specs.inner.Areas.{word_record}
use Rattle.std.specs.Prelude.{None, Some}
use Rattle.design.specs.Queue.{source_in, map_net_new, find_new_cell}
use Rattle.design.specs.inner.Words.{netlist_in, replaced_in}
use Rattle.design.proofs.Words.{cells-length, cell_at}
use Rattle.rewriter_state.specs.declared.Extent.{Extent}
use Rattle.rewriter_state.specs.inner.Words.{rewriter_in}

-- the cell of a net
module _ (x : Extent) (ws : List ℕ) (n y : Net) (y-is : y ≡ map_net_new (replaced_in x.tickets ws) n) (d : Driver) (d-is : d ≡ driver y) where
  abbrev cells : List Cell
  cells = (netlist_in x.slots ws).cells

  by-driver : (v : Driver) → d ≡ v → source_in cells v ≡ find_new_cell (rewriter_in x ws).design n
  unfolding find_new_cell rewriter_in
  by-driver v e = ap (source_in cells) (sym e ∙ d-is ∙ ap driver y-is)

  pub source-const : (t : Trit) → d ≡ driven.Const t → None ≡ find_new_cell (rewriter_in x ws).design n
  source-const t e = by-driver (driven.Const t) e

  module _ (s : Slot) (e : d ≡ driven.Cell s) where
    pub source-cell : s.0 < x.slots → (c : Cell) → c ≡ cell_of (word_record ws s.0) → Some c ≡ find_new_cell (rewriter_in x ws).design n
    source-cell h c f = ap Some (f ∙ sym (cell_at x.slots ws s.0 h)) ∙ by-driver (driven.Cell s) e

    pub source-past : x.slots ≤ s.0 → Some (Input 0) ≡ find_new_cell (rewriter_in x ws).design n
    source-past h =
        ap Some (sym (get_or-eq_default cells (Input 0) (omega (arith, cells-length x.slots ws)))) ∙ by-driver (driven.Cell s) e
