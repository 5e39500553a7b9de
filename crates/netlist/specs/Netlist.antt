-- A netlist: the cell of each slot, cut into bits, and the number of that bit in its cell. After the `cells` of `Design`
-- (netlist/src/design.rs), whose wide cell stands in its first slot, with a `Skip` to there in the others. Assumes nothing: these are definitions.
use Rattle.std.specs.Prelude.{cond, List, [], ◌∷◌, map, ℕ, suc, ◌+◌, ◌-◌, eqb, length, get_or, drop}
use Rattle.value.specs.declared.Net.{Net}
use Rattle.value.specs.declared.Driver.{Driver}
use Rattle.value.specs.declared.Driver.TheVariants as driven
use Rattle.value.specs.Value.{driver}
use Rattle.cell.specs.declared.Record.{Record}
use Rattle.cell.specs.declared.Cell.{Cell}
use Rattle.cell.specs.declared.Cell.TheVariants.{Input}
use Rattle.cell.specs.Records.{cell_of, cell_record, bytes_of}
use Rattle.basics.specs.Lists.{tabulate, slots, those, any_of, joined}
use Rattle.netlist.specs.Shape.{visit}

pub record Netlist : Type 0 where
  pub cells : List Cell
  pub bits : List ℕ

-- the netlist of a ticket's records
unfoldable pub netlist_of : List Record → Netlist
netlist_of rs = record { cells = map cell_of rs; bits = map (λ r. r.bit) rs }

-- the cell of a slot; past the last one an input, which reads nothing
abbrev pub cell_in : List Cell → ℕ → Cell
cell_in cs s = get_or cs s (Input 0)

-- the slot that drives a net, as a list of one; none for a constant
abbrev pub driven_by : Driver → List ℕ
driven_by (driven.Const t) = []
driven_by (driven.Cell s) = s.0 ∷ []

-- the slots that drive these nets
unfoldable pub sources : List Net → List ℕ
sources ns = joined (map (λ n. driven_by (driver n)) ns)

-- the slot where a slot's cell starts (`Design::find_cell`), and the slots of the cell that starts at one (`CellRef::output`)
abbrev pub start_of : List ℕ → ℕ → ℕ
start_of bits s = s - get_or bits s 0

unfoldable pub run : List ℕ → ℕ
run [] = 0
run (b ∷ bs) = let rest = run bs in cond (eqb b 0) 0 (suc rest)

unfoldable pub output_of : List ℕ → ℕ → List ℕ
output_of bits s = tabulate (λ i. s + i) (suc (run (drop (s + 1) bits)))

-- `Design::iter_cells`: the slots where cells start
unfoldable pub iter_cells : List ℕ → List ℕ
iter_cells bits = those (λ s. eqb (get_or bits s 0) 0) (slots (length bits))

-- the cells that a cell reads, each by its start, lowest first (a `BTreeSet` in the Rust): `get_deps` of `Design::iter_cells_topo`
unfoldable pub cell_deps : Netlist → ℕ → List ℕ
cell_deps d s =
    let read = map (start_of d.bits) (joined (map (λ i. sources (visit (cell_in d.cells i))) (output_of d.bits s))) in
    those (λ x. any_of (eqb x) read) (slots (length d.cells))

-- and back to records, and to the ticket's bytes
unfoldable pub encode : Netlist → List Record
encode d = tabulate (λ s. cell_record (get_or d.bits s 0) (cell_in d.cells s)) (length d.cells)

unfoldable pub ticket_of : List Record → List ℕ
ticket_of rs = joined (map bytes_of rs)
