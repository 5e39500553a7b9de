-- What the parts of `iter_cells_topo` ask and tell. Assumes nothing: these are definitions.
use Rattle.std.specs.Prelude.{◌≡◌, Bool, not, List, ◌++◌, map, ℕ, ◌+◌, ◌<◌, ◌≤◌, eqb, length, get_or}
use Rattle.cell.specs.declared.Record.{Record}
use Rattle.cell.specs.declared.Cell.{Cell}
use Rattle.cell.specs.Records.{cell_of}
use Rattle.netlist.specs.Shape.{is_source, is_output}
use Rattle.netlist.specs.Netlist.{cell_in}
use Rattle.basics.specs.Lists.{slots, those}
use Rattle.netlist.specs.inner.Areas.{records_in, words_in, Within, visited_at, order_at, replaced_at}
use Rattle.order.specs.Walk.{each, fresh}
use Rattle.order.specs.Orders.{emit}
use Rattle.order.specs.inner.Code.{walk_of, visited_in, unvisited_in}
use Rattle.cell_order.specs.inner.Descent.{bits_in}

-- those of some slots where cells start that pass a test
unfoldable pub starts_that : (Cell → Bool) → List Record → List ℕ → List ℕ
starts_that q rs xs = those (λ s. q (cell_in (map cell_of rs) s)) (those (λ s. eqb (get_or (bits_in rs) s 0) 0) xs)

abbrev pub not_output : Cell → Bool
not_output c = not (is_output c)

-- the slot s, which was not visited, was emitted or left
pub record Emits (items : List ℕ) (s n count : ℕ) (ws ws' : List ℕ) (r : ℕ) : Type 0 where
  pub said : walk_of n r ws' ≡ each emit items (walk_of n count ws)
  pub total : r + unvisited_in n ws' ≡ count + unvisited_in n ws
  pub others : (u : ℕ) → (u ≡ s → ⊥) → visited_in n ws' u ≡ visited_in n ws u
  pub frame : Within visited_at replaced_at ws ws'

pub record PutsSources (n : ℕ) (ws ws' : List ℕ) (r : ℕ) : Type 0 where
  pub said : walk_of n r ws' ≡ each emit (starts_that is_source (records_in n ws) (slots n)) (fresh n)
  pub total : r + unvisited_in n ws' ≡ n
  pub frame : Within visited_at replaced_at ws ws'

-- there is room in the order
pub record Free (n count : ℕ) (ws : List ℕ) : Type 0 where
  pub long : 16384 ≤ length ws
  pub few : n ≤ 1024
  pub room : count < 1024

-- items were put behind those in the order
pub record Appends (items : List ℕ) (count : ℕ) (ws ws' : List ℕ) (r : ℕ) : Type 0 where
  pub said : words_in order_at r ws' ≡ words_in order_at count ws ++ items
  pub frame : Within order_at replaced_at ws ws'
