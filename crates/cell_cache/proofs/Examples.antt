-- The cell cache of a run, computed by the checker: of two equal xors one is added, for the rewriter's cache answers the second. With the ticket's
-- slots in the cell cache too, it would answer the first, and none would be added: the equation is no matter of course. So it is where a rule
-- has given the cell another form before. Assumes nothing.
use Rattle.normalize.specs.Outcomes.{first_change}
use mathlib.Core.Path.{◌≡◌, refl}
use mathlib.Core.List.{List, [], ◌∷◌}
use Rattle.value.specs.Value.{eq_net, le_net, driver}
use Rattle.cell.specs.declared.Cell.{Cell}
use Rattle.cell.specs.declared.Cell.TheVariants.{Input, Output, Xor}
use Rattle.cell.specs.Records.{cell_record}
use Rattle.basics.specs.Lists.{tabulate, those, joined}
use Rattle.netlist.specs.Shape.{visit, visit_mut, has_effects}
use Rattle.netlist.specs.Netlist.{sources}
use Rattle.order.specs.Walk.{each, down, walk, walk_from}
use Rattle.order.specs.Orders.{bit_deps, topo_sort}
use Rattle.numberer.specs.Numberer.{Entry, seek}
use Rattle.design.specs.Queue.{net_in, unchanged, followed, map_net_new, find_new_cell, eq_record, eq_cell}
use Rattle.normalize.specs.Normalize.{normalize}
use Rattle.aig.specs.Aig.{if_not, if_aig, if_xor, and_xor, xor_xor, xor_order, xor_rule, simple_aig_opt}
use Rattle.rewrite.specs.Rewriter.{stamp, find_cell, entered, finished, weight}
use Rattle.rewrite.specs.Rewrite.{rules, process, process_cell, add_cell, Run, ran, stuck, run_item, run_items, run, slots_of}
use Rattle.cell_cache.specs.CellCache.{cell_cache, add_cell_with_metadata_index}
use Rattle.cell_cache.specs.Exchanged.{process_by, process_cell_by, add_cell_by, run_item_by, run_items_by, run_by}

abbrev xor : Cell
xor = Xor (net_in 0) (net_in 1)

abbrev cs : List Cell
cs = Input 1 ∷ Input 2 ∷ xor ∷ xor ∷ Output (net_in 2) 3 ∷ Output (net_in 3) 4 ∷ []

-- the first xor has its operands exchanged before it is added
abbrev turned : List Cell
turned = Input 1 ∷ Input 2 ∷ Xor (net_in 1) (net_in 0) ∷ xor ∷ Output (net_in 2) 3 ∷ Output (net_in 3) 4 ∷ []

abbrev with_tickets : List Cell → Run
with_tickets = run_by (λ n. add_cell_with_metadata_index 0) find_new_cell

abbrev cache_of : Run → List Entry
cache_of (ran r) = cell_cache 6 r.design.cells
cache_of (stuck r) = []

computed : (cache_of (run find_new_cell cs) ≡ (xor, net_in 6) ∷ []) × ((slots_of (with_tickets cs) ≡ 6) × (slots_of (with_tickets turned) ≡ 6))
unfolding eq_net le_net driver cell_record tabulate visit visit_mut has_effects those joined sources each down walk walk_from bit_deps topo_sort unchanged followed map_net_new find_new_cell eq_record eq_cell seek first_change normalize if_not if_aig if_xor and_xor xor_xor xor_order xor_rule simple_aig_opt stamp find_cell entered finished weight rules process process_cell add_cell run_item run_items run cell_cache add_cell_with_metadata_index process_by process_cell_by add_cell_by run_item_by run_items_by run_by
computed = (refl, (refl, refl))

pub one-added : cache_of (run find_new_cell cs) ≡ (xor, net_in 6) ∷ []
one-added = computed.0

pub none-would-be : (slots_of (with_tickets cs) ≡ 6) × (slots_of (with_tickets turned) ≡ 6)
none-would-be = computed.1
