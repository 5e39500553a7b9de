-- Merging on small netlists, computed. Assumes nothing.
use mathlib.Core.Path.{◌≡◌, refl}
use mathlib.Core.Bool.{true, false}
use mathlib.Core.List.{List, [], ◌∷◌}
use Rattle.value.specs.Value.{eq_net, le_net, driver}
use Rattle.kinds.specs.Kinds.{sort_of}
use Rattle.cell.specs.declared.Record.{Record}
use Rattle.cell.specs.Records.{record_of, cell_of, cell_record}
use Rattle.basics.specs.Lists.{tabulate, those, any_of, joined}
use Rattle.netlist.specs.Shape.{visit, visit_mut, has_effects}
use Rattle.netlist.specs.Netlist
use Rattle.netlist.specs.Netlist.{netlist_of, encode, sources, output_of, iter_cells, cell_deps}
use Rattle.order.specs.Walk.{each, down, walk, walk_from}
use Rattle.order.specs.Orders.{iter_cells_topo}
use Rattle.design.specs.Queue.{unchanged, followed, map_net_new, applied, did_change, eq_record, eq_cell}
use Rattle.numberer.specs.Numberer.{seek}
use Rattle.compact.specs.Compact.{keep, kept_slots, count_kept, net_map, compact}
use Rattle.merge.specs.Merge.{key_of, find_or_insert_all, merge_cell, merge_cells, merging, merge}

-- the paper's T8: one of two equal inverters is unread and dropped, and the flag is not set
abbrev T8 : List Record
T8 = record_of 1 0 0 1 0 0 ∷ record_of 4 0 0 2 0 0 ∷ record_of 4 0 0 2 0 0 ∷ record_of 2 0 0 3 9 0 ∷ []

-- and(3, 2) before and(2, 3), both read
abbrev turned : List Record
turned = record_of 1 0 0 1 0 0 ∷ record_of 1 0 0 2 0 0 ∷ record_of 5 0 0 3 2 0 ∷ record_of 5 0 0 2 3 0 ∷ record_of 2 0 0 4 9 0 ∷ record_of 2 0 0 5 10 0 ∷ []

-- bit 1 of the second cell reads its bit 0, which is found; the key of bit 1 was made before
abbrev wide : List Record
wide =
    record_of 1 0 0 1 0 0 ∷ record_of 4 0 0 2 0 0 ∷ record_of 4 0 0 3 0 0 ∷ record_of 4 0 0 2 0 0 ∷ record_of 4 0 1 5 0 0 ∷ record_of 2 0 0 4 9 0 ∷ record_of 2 0 0 6 11 0 ∷ []

pub as-expected : ((merge (netlist_of T8)).1 ≡ false)
    × (encode (merge (netlist_of turned)).0
    ≡ record_of 1 0 0 1 0 0 ∷ record_of 1 0 0 2 0 0 ∷ record_of 5 0 0 3 2 0 ∷ record_of 2 0 0 4 9 0 ∷ record_of 2 0 0 4 10 0 ∷ [])
    × ((merge (netlist_of turned)).1 ≡ true)
    × (encode (merge (netlist_of wide)).0
    ≡ record_of 1 0 0 1 0 0
    ∷ record_of 4 0 0 2 0 0
    ∷ record_of 4 0 0 3 0 0
    ∷ record_of 4 0 0 2 0 0
    ∷ record_of 4 0 1 3 0 0
    ∷ record_of 2 0 0 4 9 0
    ∷ record_of 2 0 0 6 11 0 ∷ [])
unfolding eq_net le_net driver cell_of cell_record tabulate visit visit_mut has_effects netlist_of encode those any_of joined sources output_of iter_cells cell_deps Netlist.run each down walk walk_from iter_cells_topo unchanged followed map_net_new applied did_change eq_record eq_cell seek keep kept_slots count_kept net_map compact key_of find_or_insert_all merge_cell merge_cells merging merge sort_of
as-expected = (refl, refl, refl, refl)
