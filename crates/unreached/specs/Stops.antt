-- What must hold at a step so that the Rust does not stop there: its asserts, and that what it looks up is there. docs/DIFFERENCES.md ("What
-- could stop the Rust") has each place. Assumes nothing: these are definitions.
use Rattle.std.specs.Prelude.{◌≡◌, true, false, not, List, [], ◌++◌, ◌⊎◌, ℕ, ◌+◌, ◌-◌, ◌<◌, ◌≤◌, length, get_or, replicate}
use Rattle.value.specs.declared.Net.{Net}
use Rattle.cell.specs.declared.Cell.{Cell}
use Rattle.netlist.specs.Shape.{visit, has_effects, is_splittable}
use Rattle.netlist.specs.Netlist.{Netlist, cell_in, start_of, output_of}
use Rattle.basics.specs.Lists.{those, has, All}
use Rattle.order.specs.Orders.{topo_sort, iter_cells_topo}
use Rattle.std.specs.Prelude.{Some}
use Rattle.design.specs.Queue.{Design, net_in, unchanged, map_net_new, find_new_cell, applied}
use Rattle.numberer.specs.Numberer.{seek}
use Rattle.compact.specs.Compact.{keep, is_kept}
use Rattle.merge.specs.Merge.{merging}
use Rattle.rewrite.specs.Rewriter.{Rewriter, begun}
use Rattle.rewrite.specs.Rewrite.{none, cell, process_cell, ran, run}
use Rattle.order_laws.specs.Members.{Drives, Wired}
use Rattle.order_laws.specs.Ends.{Ends}
use Rattle.unreached.specs.Steps.{EachCell, item_cell, EachItem}

-- A netlist in which nothing is missing, for `topo_sort`, `iter_cells_topo` and `compact`
pub record Complete (d : Netlist) : Type 0 where
  -- `find_cell`: the slot of each operand is there, and is no output
  pub wired : (s : ℕ) → s < length d.cells → All (Wired d.cells) (visit (cell_in d.cells s))
  -- a slot leads to the start of its cell, which is there and is no `Skip`, and is one of that cell's bits: `cells[start]`, `val[bit]`
  pub start : (s : ℕ) → s < length d.cells → start_of d.bits s < length d.cells
  pub first : (s : ℕ) → s < length d.cells → get_or d.bits (start_of d.bits s) 0 ≡ 0
  pub bit : (s : ℕ) → s < length d.cells → has s (output_of d.bits (start_of d.bits s)) ≡ true
  -- `CellIter::next`: behind the bits of a cell the next one starts, or there is no slot
  pub next : (s : ℕ) → get_or d.bits (s + length (output_of d.bits s)) 0 ≡ 0
  -- `net_map[net]` of `compact`: what a kept cell reads is kept
  pub kept : (s : ℕ) → s < length d.cells → is_kept d.bits (keep d) s ≡ true
      → All (Drives (λ x. is_kept d.bits (keep d) x ≡ true)) (visit (cell_in d.cells s))

-- a slot's net is not in `replaced_nets`
abbrev pub Unreplaced : Design → ℕ → Type 0
Unreplaced d s = get_or d.replaced s (net_in s) ≡ net_in s

-- Merging. A net that a slot below n drives, so no constant
pub record SlotNet (n : ℕ) (m : Net) : Type 0 where
  pub slot : ℕ
  pub below : slot < n
  pub is : m ≡ net_in slot

-- `merge` at a bit: `find_cell` of the net found, and `replace_net` of the bit's own, which inserts it for the first time
pub record BitGoes (n : ℕ) (d : Design) (s : ℕ) (found : Net) : Type 0 where
  pub there : SlotNet n found
  pub once : Unreplaced d s

-- the whole of `merge`: its loop, and `compact` of what is left
pub record MergeGoes (d : Netlist) : Type 0 where
  pub cells : EachCell (λ m. BitGoes (length d.cells) m.design) d (record { design = unchanged d.cells; numberer = [] })
      (those (λ s. not (has_effects (cell_in d.cells s))) (iter_cells_topo d))
  pub complete : Complete (record { cells = applied (merging d); bits = d.bits })

-- Rewriting. A net that is looked up by `find_new_cell` or `append_metadata_by_net`
pub record Located (void : List ℕ) (d : Design) (m : Net) : Type 0 where
  -- the loop of `map_net_new` is at its end
  pub ended : Ends d.replaced m
  -- `cells[index]`, `added_cells[index - cells.len()]`
  pub inside : Drives (λ x. x < length d.cells) (map_net_new d.replaced m)
  -- `unalived_cells.contains(&index)`
  pub alive : Drives (λ x. has x void ≡ false) (map_net_new d.replaced m)

-- a pass over the rules, and `cache.get` after it
pub record PassGoes (void : List ℕ) (r : Rewriter) (c : Cell) : Type 0 where
  -- an added cell has a net: `Net::from_cell_index`
  pub room : length r.design.cells ≤ 1024
  -- no rule looks up what an input or output reads
  pub sources : has_effects c ≡ false → All (Located void r.design) (visit c)
  pub cached : (m : Net) → seek r.cache c ≡ Some m → Located void r.design m

-- an item of `Rewriter::run`; cs are the cells of the ticket
pub record ItemGoes (cs : List Cell) (s : ℕ) (r : Rewriter) : Type 0 where
  pub inside : s < length cs
  -- `CellRef::replace` and `replace_net` insert the cell and the net for the first time
  pub unchanged : cell_in r.design.cells s ≡ cell_in cs s
  pub once : Unreplaced r.design s
  -- `assert_eq!(value.len(), output.len())`: an input, which can be wide, and an output, which has no net, are left as they are
  pub port : has_effects (cell_in cs s) ≡ true → process_cell find_new_cell r (item_cell s r) ≡ none r
  -- `CellRef::replace`: what is put into the slot has a net, as the and-inverter there had
  pub form : (c : Cell) (r' : Rewriter) → process_cell find_new_cell r (item_cell s r) ≡ cell c r' → has_effects c ≡ false

-- `apply` after the run
pub record QueueGoes (cs : List Cell) (void : List ℕ) (r : Rewriter) : Type 0 where
  -- no operand names a void slot: `find_cell` in `compact`
  pub alive : (s : ℕ) → s < length (applied r.design) → All (Drives (λ x. has x void ≡ false)) (visit (cell_in (applied r.design) s))
  -- a cell that was replaced was an and-inverter, and a gate of one bit stands for it: `assert_eq!` of both widths
  pub width : (s : ℕ) → s < length cs → (cell_in r.design.cells s ≡ cell_in cs s)
      ⊎ ((is_splittable (cell_in cs s) ≡ false) × (has_effects (cell_in cs s) ≡ false) × (has_effects (cell_in r.design.cells s) ≡ false))

-- the whole of `Design::rewrite`: its run, and `compact` of what is left
pub record RewriteGoes (d : Netlist) : Type 0 where
  pub items : EachItem find_new_cell PassGoes (ItemGoes d.cells) (QueueGoes d.cells) [] (topo_sort d.cells) (begun d.cells)
  pub last : Rewriter
  pub ends : run find_new_cell d.cells ≡ ran last
  pub complete : Complete (record { cells = applied last.design; bits = d.bits ++ replicate (length (applied last.design) - length d.bits) 0 })
