-- Merging in the words of the work slice. Public contracts do not cite this file: at return the words are 0.
-- Assumes nothing: these are definitions.
use Rattle.std.specs.Prelude.{◌≡◌, Bool, cond, not, ◌&&◌, ◌||◌, List, [], ◌∷◌, ◌⊎◌, ℕ, suc, ◌+◌, ◌-◌, ◌≤◌, ◌<◌, eqb, leb, length, get_or, drop}
use Rattle.kinds.specs.Kinds.{sort_of, commutes}
use Rattle.cell.specs.declared.Record.{Record}
use Rattle.cell.specs.declared.Cell.{Cell}
use Rattle.cell.specs.Records.{record_of, cell_of, cell_record}
use Rattle.basics.specs.Lists.{tabulate, those}
use Rattle.netlist.specs.inner.Areas.{word_record, records_in, words_in, order_at, Within, free_at, keys_at, keys_from, replaced_at, visited_at}
use Rattle.netlist.specs.Shape.{visit_mut, has_effects}
use Rattle.netlist.specs.Netlist.{Netlist, cell_in, run}
use Rattle.design.specs.Queue.{map_net_new}
use Rattle.numberer.specs.Numberer.{seek}
use Rattle.design.specs.inner.Words.{netlist_in, replaced_in, design_in}
use Rattle.numberer.specs.inner.Words.{numberer_in, Entered, Mixed}
use Rattle.merge.specs.Merge.{Merging, key_of, find_or_insert, find_or_insert_all, merge_cell, merge_cells, merging, merged_netlist, merge}

-- the bits of a cell are numbered from 0, slot after slot
pub record Sequenced (bits : List ℕ) : Type 0 where
  pub next : (s : ℕ) → s < length bits → (get_or bits s 0 ≡ 0) ⊎ (get_or bits s 0 ≡ get_or bits (s - 1) 0 + 1)

-- the key of a cell by the fields of its record: whether two operands are exchanged, which flags are then, and the key's record
unfoldable pub turned : Record → Bool
turned r = commutes (sort_of r.kind) && (eqb r.flags 1 || (not (eqb r.flags 2) && not (leb r.a r.b)))

unfoldable pub key_fields : ℕ → Record → Record
key_fields bit r =
    record_of r.kind (cond (eqb r.flags 1) 2 r.flags) bit (cond (turned r) r.b r.a) (cond (turned r) r.a r.b) r.c

-- n slots and k entries of the numberer
unfoldable pub merging_in : ℕ → ℕ → List ℕ → Merging
merging_in n k ws = record { design = design_in n ws; numberer = numberer_in k ws }

-- the key of a slot by the nets replaced so far, and the one that stands in its place
unfoldable pub key_in : ℕ → List ℕ → ℕ → Cell
key_in n ws s = key_of (visit_mut (map_net_new (replaced_in n ws)) (cell_of (word_record ws s)))

unfoldable pub key_at : List ℕ → ℕ → Cell
key_at ws s = cell_of (word_record ws (keys_at + s))

-- what merging asks
pub record Ready (n k : ℕ) (ws : List ℕ) : Type 0 where
  pub long : 16384 ≤ length ws
  pub few : n ≤ 512
  pub entered : Entered k ws
  pub mixed : Mixed k ws

-- the keys of the slots from s up to e stand in their places
pub record Keyed (s e : ℕ) (ws : List ℕ) : Type 0 where
  pub each : (i : ℕ) → s ≤ i → i < e → word_record ws (keys_at + i) ≡ cell_record i (key_at ws i)

pub record Keys (n s e : ℕ) (ws ws' : List ℕ) : Type 0 where
  pub each : (i : ℕ) → s ≤ i → i < e → word_record ws' (keys_at + i) ≡ cell_record i (key_in n ws i)
  pub frame : Within keys_from free_at ws ws'

-- the key in a slot's place is found or entered
pub record Numbers (n k s : ℕ) (ws ws' : List ℕ) (r : ℕ) : Type 0 where
  pub said : merging_in n r ws' ≡ find_or_insert (merging_in n k ws) (key_at ws s) s (seek (numberer_in k ws) (key_at ws s))
  pub ready : Ready n r ws'
  pub most : r ≤ k + 1
  pub frame : Within replaced_at keys_from ws ws'

-- so are those of the slots from s up to e
pub record NumbersAll (n k s e : ℕ) (ws ws' : List ℕ) (r : ℕ) : Type 0 where
  pub said : merging_in n r ws' ≡ find_or_insert_all (merging_in n k ws) (tabulate (λ i. (key_at ws (s + i), s + i)) (e - s))
  pub ready : Ready n r ws'
  pub most : r ≤ k + (e - s)
  pub frame : Within replaced_at keys_from ws ws'

-- how many bits the cell has that starts at a slot
unfoldable pub width_of : List ℕ → ℕ → ℕ
width_of bits s = suc (run (drop (s + 1) bits))

-- a cell was merged
pub record Merges (n k s : ℕ) (ws ws' : List ℕ) (r : ℕ) : Type 0 where
  pub said : merging_in n r ws' ≡ merge_cell (netlist_in n ws) (merging_in n k ws) s
  pub ready : Ready n r ws'
  pub most : r ≤ k + width_of (netlist_in n ws).bits s
  pub frame : Within replaced_at free_at ws ws'

-- whether a slot's cell is looked for, and how many keys it may enter
unfoldable pub looks_for : Netlist → ℕ → Bool
looks_for d s = not (has_effects (cell_in d.cells s))

unfoldable pub load_of : Netlist → ℕ → ℕ
load_of d s = cond (has_effects (cell_in d.cells s)) 0 (width_of d.bits s)

-- a cell was merged, or passed by
pub record MergesNext (n k s : ℕ) (ws ws' : List ℕ) (r : ℕ) : Type 0 where
  pub said : merging_in n r ws' ≡ merge_cells (netlist_in n ws) (merging_in n k ws) (those (looks_for (netlist_in n ws)) (s ∷ []))
  pub ready : Ready n r ws'
  pub most : r ≤ k + load_of (netlist_in n ws) s
  pub frame : Within replaced_at free_at ws ws'

-- a figure for each item, summed over a list
unfoldable pub sum : (ℕ → ℕ) → List ℕ → ℕ
sum f [] = 0
sum f (s ∷ ss) = f s + sum f ss

-- the order area names slots, and all that its cells may enter has room
pub record Ordered (n count : ℕ) (ws : List ℕ) : Type 0 where
  pub long : 16384 ≤ length ws
  pub few : n ≤ 512
  pub short : count ≤ 1024
  pub inside : (j : ℕ) → j < count → get_or ws (order_at + j) 0 < n
  pub room : sum (load_of (netlist_in n ws)) (words_in order_at count ws) ≤ 1024

-- the cells of the order area were merged
pub record MergesCells (n count : ℕ) (ws ws' : List ℕ) : Type 0 where
  pub said : design_in n ws' ≡ (merge_cells (netlist_in n ws) (merging_in n 0 ws) (those (looks_for (netlist_in n ws)) (words_in order_at count ws))).design
  pub frame : Within replaced_at free_at ws ws'

-- all cells were
pub record MergesAll (n : ℕ) (ws ws' : List ℕ) : Type 0 where
  pub said : design_in n ws' ≡ merging (netlist_in n ws)
  pub records : records_in n ws' ≡ records_in n ws
  pub frame : Within visited_at free_at ws ws'

-- the replacements were applied: what is left to do is `compact`
pub record MergesNetlist (n : ℕ) (ws ws' : List ℕ) (r : Bool) : Type 0 where
  pub result : netlist_in n ws' ≡ merged_netlist (netlist_in n ws) (merging (netlist_in n ws))
  pub flag : r ≡ (merge (netlist_in n ws)).1
  pub frame : Within 0 free_at ws ws'
