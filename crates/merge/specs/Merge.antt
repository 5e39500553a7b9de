-- Merging (generic/src/merge.rs). Assumes nothing: these are definitions.
use Rattle.std.specs.Prelude.{Bool, cond, not, List, [], ◌∷◌, ◌++◌, map, ℕ}
use Rattle.value.specs.Value.{le_net, le_control}
use Rattle.cell.specs.declared.Cell.{Cell}
use Rattle.cell.specs.declared.Cell.TheVariants.{Input, Output, Buf, Not, And, Or, Xor, Mux, Aig}
use Rattle.netlist.specs.Shape.{visit_mut, has_effects}
use Rattle.netlist.specs.Netlist.{Netlist, cell_in, output_of}
use Rattle.basics.specs.Lists.{those}
use Rattle.order.specs.Orders.{iter_cells_topo}
use Rattle.std.specs.Prelude.{Option, Some, None}
use Rattle.value.specs.declared.Net.{Net}
use Rattle.design.specs.Queue.{Design, unchanged, net_in, map_net_new, replace_net, applied, did_change}
use Rattle.numberer.specs.Numberer.{Entry, seek}
use Rattle.compact.specs.Compact.{compact}

-- two operands in their order
abbrev pub sorted : {A : Type 0} → (A → A → Bool) → (A → A → Cell) → A → A → Cell
sorted le rebuild a b = cond (le a b) (rebuild a b) (rebuild b a)

-- the cell of one bit that is looked for: `bitwise_unary`, `commutative_bitwise_binary`, `bitwise_binary` with the select beside, and the arm
-- of `Cell::Aig`. Inputs and outputs are left out before
unfoldable pub key_of : Cell → Cell
key_of (Input l) = Input l
key_of (Output a l) = Output a l
key_of (Buf a) = Buf a
key_of (Not a) = Not a
key_of (And a b) = sorted le_net And a b
key_of (Or a b) = sorted le_net Or a b
key_of (Xor a b) = sorted le_net Xor a b
key_of (Mux a b c) = Mux a b c
key_of (Aig p q) = sorted le_control Aig p q

-- the design with the nets replaced so far, and `Numberer`
pub record Merging : Type 0 where
  pub design : Design
  pub numberer : List Entry

-- `Numberer::find_or_insert` for the net of a slot, and `replace_value` for that net
abbrev pub find_or_insert : Merging → Cell → ℕ → Option Net → Merging
find_or_insert m key s (Some n) = record { design = replace_net m.design s n; numberer = m.numberer }
find_or_insert m key s None = record { design = m.design; numberer = m.numberer ++ ((key, net_in s) ∷ []) }

unfoldable pub find_or_insert_all : Merging → List (Cell × ℕ) → Merging
find_or_insert_all m [] = m
find_or_insert_all m (b ∷ bs) = find_or_insert_all (find_or_insert m b.0 b.1 (seek m.numberer b.0)) bs

-- a cell: the operands of all its bits are mapped first (`map_net`, which is `map_net_new` where no cell was added)
unfoldable pub merge_cell : Netlist → Merging → ℕ → Merging
merge_cell d m s =
    let key : ℕ → Cell = λ i. key_of (visit_mut (map_net_new m.design.replaced) (cell_in d.cells i)) in
    find_or_insert_all m (map (λ i. (key i, i)) (output_of d.bits s))

unfoldable pub merge_cells : Netlist → Merging → List ℕ → Merging
merge_cells d m [] = m
merge_cells d m (s ∷ ss) = merge_cells d (merge_cell d m s) ss

-- the loop of `merge`
unfoldable pub merging : Netlist → Design
merging d =
    let cells = those (λ s. not (has_effects (cell_in d.cells s))) (iter_cells_topo d) in
    (merge_cells d (record { design = unchanged d.cells; numberer = [] }) cells).design

-- what is left to `compact`: the netlist with the replaced nets put in, which `compact` begins with (`apply`)
abbrev pub merged_netlist : Netlist → Design → Netlist
merged_netlist d m = record { cells = applied m; bits = d.bits }

-- `merge`: the netlist, and the flag
unfoldable pub merge : Netlist → Netlist × Bool
merge d =
    let m = merging d in
    (compact (merged_netlist d m), did_change m)
