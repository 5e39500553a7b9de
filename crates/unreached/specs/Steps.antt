-- What is said at each step of merging and of rewriting. Each definition goes along the one that it is named with. Assumes nothing: these are
-- definitions.
use Rattle.std.specs.Prelude.{cond, List, [], ◌∷◌, ◌++◌, map, ℕ, zero, suc, None, Some}
use Rattle.value.specs.declared.Net.{Net}
use Rattle.cell.specs.declared.Cell.{Cell}
use Rattle.cell.specs.declared.Cell.TheVariants.{Not}
use Rattle.netlist.specs.Shape.{visit_mut, is_splittable}
use Rattle.netlist.specs.Netlist.{Netlist, cell_in, output_of}
use Rattle.std.specs.Prelude.{Option, Some}
use Rattle.design.specs.Queue.{net_in, map_net_new}
use Rattle.numberer.specs.Numberer.{seek}
use Rattle.merge.specs.Merge.{key_of, Merging, find_or_insert, merge_cell}
use Rattle.normalize.specs.Outcomes.{Outcome}
use Rattle.normalize.specs.declared.Change.TheVariants.{Value, Form, Add, NotOf, AddNotOf}
use Rattle.rewrite.specs.Rewriter.{Rewriter, Lookup, weight}
use Rattle.rewrite.specs.Rewrite.{rules, Result, none, cell, value, spent, Added, at, unadded, perform, enter, process, process_cell, Run, ran, stuck, run_item}

-- Merging. The net that `Numberer::find_or_insert` gives for a slot's net: `canon` in `merge`
abbrev pub canon : ℕ → Option Net → Net
canon s (Some n) = n
canon s None = net_in s

-- the keys of `merge_cell`
abbrev pub keyed : Netlist → Merging → ℕ → List (Cell × ℕ)
keyed d m s = map (λ i. (key_of (visit_mut (map_net_new m.design.replaced) (cell_in d.cells i)), i)) (output_of d.bits s)

-- T at each bit, with the state before it, its slot and the net found
module _ (T : Merging → ℕ → Net → Type 0) where
  -- `find_or_insert_all`
  unfoldable pub EachBit : Merging → List (Cell × ℕ) → Type 0
  EachBit m [] = Unit {0}
  EachBit m (b ∷ bs) =
      let f = seek m.numberer b.0 in
      T m b.1 (canon b.1 f) × EachBit (find_or_insert m b.0 b.1 f) bs

  -- `merge_cells`
  unfoldable pub EachCell : Netlist → Merging → List ℕ → Type 0
  EachCell d m [] = Unit {0}
  EachCell d m (s ∷ ss) = EachBit m (keyed d m s) × EachCell d (merge_cell d m s) ss

-- Rewriting. In the cells that a rule adds
abbrev pub InInverse : (Rewriter → Cell → Type 0) → Added → Type 0
InInverse again (at n r) = again r (Not n)
InInverse again (unadded r) = Unit {0}

abbrev pub InAdded : (Rewriter → Cell → Type 0) → (Rewriter → Cell → Added) → Rewriter → Outcome → Type 0
InAdded again adder r None = Unit {0}
InAdded again adder r (Some (Value n)) = Unit {0}
InAdded again adder r (Some (Form c)) = Unit {0}
InAdded again adder r (Some (Add c)) = again r c
InAdded again adder r (Some (NotOf c)) = again r c
InAdded again adder r (Some (AddNotOf c)) = again r c × InInverse again (adder r c)

-- in the form that it leaves
abbrev pub InForm : (Rewriter → Cell → Type 0) → Result → Type 0
InForm again (none r) = Unit {0}
InForm again (cell d r) = again r d
InForm again (value n r) = Unit {0}
InForm again (spent r) = Unit {0}

-- after an item
abbrev pub After : (Rewriter → Type 0) → Run → Type 0
After rest (ran r) = rest r
After rest (stuck r) = Unit {0}

-- the cell of an item with its operands mapped
abbrev pub item_cell : ℕ → Rewriter → Cell
item_cell s r = visit_mut (map_net_new r.design.replaced) (cell_in r.design.cells s)

-- the slot that an item makes void: `cell_ref.unalive()`, where a value stands for a cell that is not cut into bits
abbrev pub by_value : ℕ → Result → List ℕ
by_value s (none r) = []
by_value s (cell d r) = []
by_value s (value n r) = s ∷ []
by_value s (spent r) = []

unfoldable pub unalived : Lookup → ℕ → Rewriter → List ℕ
unalived look s r = cond (is_splittable (item_cell s r)) [] (by_value s (process_cell look r (item_cell s r)))

-- T at each pass over the rules, with the state and the cell
module _ (look : Lookup) (T : Rewriter → Cell → Type 0) where
  -- `process`
  unfoldable pub EachPass : ℕ → Rewriter → Cell → Type 0
  EachPass zero r c = Unit {0}
  EachPass (suc k) r c =
      let adder : Rewriter → Cell → Added = λ r c. enter c (process k look r c) in
      T r c × InAdded (EachPass k) adder r (rules look r c) × InForm (EachPass k) (perform adder r (rules look r c))

-- `run_items`: I at each item, with its slot and the state before it; T at each pass, and E at the end, with the slots that are void
module _ (look : Lookup) (T : List ℕ → Rewriter → Cell → Type 0) (I : ℕ → Rewriter → Type 0) (E : List ℕ → Rewriter → Type 0) where
  unfoldable pub EachItem : List ℕ → List ℕ → Rewriter → Type 0
  EachItem void [] r = E void r
  EachItem void (s ∷ ss) r =
      I s r × EachPass look (T void) (suc (weight r.stamps (item_cell s r))) r (item_cell s r)
      × After (EachItem (void ++ unalived look s r) ss) (run_item look s r)
