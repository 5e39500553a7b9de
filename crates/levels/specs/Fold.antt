-- Levels in the words of the work slice, and levels by a fold in the bit order. Assumes nothing: these are definitions.
use Rattle.std.specs.Prelude.{Bool, cond, List, [], ◌∷◌, map, ℕ, ◌+◌, eqb, length, get_or, set}
use Rattle.logic.specs.declared.Trit.{Trit}
use Rattle.logic.specs.declared.Trit.TheVariants.{Undef}
use Rattle.logic.specs.Levels.{level_of}
use Rattle.kinds.specs.declared.Sort.TheVariants as sort
use Rattle.kinds.specs.Kinds.{number_of}
use Rattle.cell.specs.declared.Record.{Record}
use Rattle.cell.specs.declared.Cell.{Cell}
use Rattle.cell.specs.Records.{record_in, cell_of}
use Rattle.basics.specs.Lists.{tabulate, slots, those}
use Rattle.netlist.specs.Netlist.{cell_in}
use Rattle.netlist.specs.inner.Areas.{word_record, records_in, figures_at}
use Rattle.order.specs.Orders.{topo_sort}
use Rattle.levels.specs.Evaluate.{net_level, cell_level, given_levels, output_slots}

-- the cells of the first n slots of the work slice
abbrev pub cells_in : ℕ → List ℕ → List Cell
cells_in n ws = map cell_of (records_in n ws)

-- the slots of a kind, in slot order
unfoldable pub of_kind : ℕ → List Record → List ℕ
of_kind kind rs = those (λ s. eqb (record_in rs s).kind kind) (slots (length rs))

-- the levels of the first n slots, each the byte of a level in a word
unfoldable pub levels_at : ℕ → List ℕ → List Trit
levels_at n ws = tabulate (λ s. level_of (get_or ws (figures_at + s) 0)) n

-- whether a slot's record is an input's
abbrev pub input_at : List ℕ → ℕ → Bool
input_at ws s = eqb (word_record ws s).kind (number_of sort.Input)

-- a slot's level before the fold, if k bytes of the stimulus are taken
abbrev pub placed_level : List ℕ → ℕ → List ℕ → ℕ → Trit
placed_level ws s stimulus k = cond (input_at ws s) (level_of (get_or stimulus k 2)) Undef

-- values by slot, each from those so far, slot after slot of an order
unfoldable pub fold_in : {A : Type 0} → (List A → ℕ → A) → List ℕ → List A → List A
fold_in f [] vs = vs
fold_in f (s ∷ ss) vs = fold_in f ss (set vs s (f vs s))

-- a slot's level from those so far; a source keeps its own
unfoldable pub slot_level : List Cell → List Trit → ℕ → Trit
slot_level cs ls s = cell_level (net_level ls) (get_or ls s Undef) (cell_in cs s)

-- the levels of all slots, in the bit order, from those of the sources
unfoldable pub bit_levels : List Cell → List Trit → List Trit
bit_levels cs given = fold_in (slot_level cs) (topo_sort cs) given

-- the outputs' levels for a stimulus, by the fold
unfoldable pub bit_outputs : List Cell → List ℕ → List Trit
bit_outputs cs bs =
    let ls = bit_levels cs (given_levels cs bs) in
    map (λ s. get_or ls s Undef) (output_slots cs)
