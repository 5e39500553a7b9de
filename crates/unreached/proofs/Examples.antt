-- Two refused tickets that would stop the Rust, computed by the checker. An operand without a slot (7): `find_cell` has nothing to find. Two and-inverters
-- that read each other (8): one is replaced by its own net, so it is unalived and its net still stands, and `compact` finds a void cell by the
-- output. And which items make their slots void. Assumes nothing.
use mathlib.Core.Path.{◌≡◌, refl}
use mathlib.Core.Bool.{true≢false}
use mathlib.Core.List.{List, [], ◌∷◌}
use Prim.Native.Nat.{◌<◌}
use native.Mathlib.Omega.{arith}
use Rattle.value.specs.declared.ControlNet.TheVariants.{Pos}
use Rattle.value.specs.Value.{slot_at, eq_net, le_net, le_control, eq_control, is_always, canonicalize, not_control, driver}
use Rattle.cell.specs.declared.Cell.{Cell}
use Rattle.cell.specs.declared.Cell.TheVariants.{Input, Output, Aig}
use Rattle.basics.specs.Lists.{tabulate, those, joined, has, All}
use Rattle.netlist.specs.Shape.{visit, visit_mut, has_effects}
use Rattle.netlist.specs.Netlist.{Netlist, sources}
use Rattle.order.specs.Walk.{each, down, walk, walk_from}
use Rattle.order.specs.Orders.{bit_deps, topo_sort}
use Rattle.design.specs.Queue.{net_in, unchanged, followed, map_net_new, find_new_cell, applied}
use Rattle.numberer.specs.Numberer.{seek}
use Rattle.normalize.specs.Outcomes.{from_control, first_change}
use Rattle.normalize.specs.Normalize.{normalize}
use Rattle.aig.specs.Aig.{if_not, if_aig, if_xor, aig_of_not, aig_of_and, aig_of_nand, aig_of_xor, aig_order, aig_rule, simple_aig_opt}
use Rattle.rewrite.specs.Rewriter.{begun, stamp, find_cell, finished, weight}
use Rattle.rewrite.specs.Rewrite.{rules, process, process_cell, run_item}
use Rattle.unreached.specs.Steps.{unalived, EachPass, EachItem}
use Rattle.unreached.specs.Stops.{Complete, PassGoes, ItemGoes, QueueGoes}

abbrev loose : Netlist
loose = record { cells = Output (net_in 1) 9 ∷ []; bits = 0 ∷ [] }

pub loose-stops : Complete loose → ⊥
unfolding All visit driver eq_net
loose-stops c = let h : 1 < 1 = ((c.wired 0 (omega arith)).0 (slot_at 1) refl).0 in omega arith

abbrev loop : List Cell
loop = Aig (Pos (net_in 1)) (Pos (net_in 1)) ∷ Aig (Pos (net_in 0)) (Pos (net_in 0)) ∷ Output (net_in 0) 9 ∷ []

pub loop-stops : EachItem find_new_cell PassGoes (ItemGoes loop) (QueueGoes loop) [] (topo_sort loop) (begun loop) → ⊥
unfolding eq_net le_net le_control eq_control driver tabulate visit visit_mut has_effects those joined sources each down walk walk_from bit_deps topo_sort unchanged followed map_net_new find_new_cell applied seek first_change from_control normalize aig_order aig_rule simple_aig_opt stamp find_cell finished weight rules process process_cell run_item unalived EachPass EachItem All has
loop-stops h = true≢false ((h.2.2.2.alive 2 (omega arith)).0 (slot_at 0) refl)

-- an and-inverter that takes another form in its slot is not void, one that a value stands for is
abbrev gates : List Cell
gates = Input 1 ∷ Input 2 ∷ Aig (Pos (net_in 1)) (Pos (net_in 0)) ∷ Aig (Pos (net_in 0)) (Pos (net_in 0)) ∷ []

pub void-by-value : (unalived find_new_cell 2 (begun gates) ≡ []) × (unalived find_new_cell 3 (begun gates) ≡ 3 ∷ [])
unfolding eq_net le_net le_control eq_control is_always canonicalize not_control driver tabulate visit_mut unchanged followed map_net_new seek first_change from_control normalize if_not if_aig if_xor aig_of_not aig_of_and aig_of_nand aig_of_xor aig_order aig_rule simple_aig_opt stamp find_cell weight rules process process_cell unalived
void-by-value = (refl, refl)
