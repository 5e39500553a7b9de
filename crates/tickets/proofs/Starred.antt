-- The starred tickets, the corners, the levels, the calls that are turned away and the wrong programs, computed from the definitions by the checker. Assumes
-- nothing.
use mathlib.Core.Path.{refl, ap, ◌≡◌}
use mathlib.Core.List.{List, ◌∷◌}
use Prim.Native.Nat.{ℕ}
use native.Mathlib.Omega.{arith}
use lib.ListN.{get_or}
use Rattle.logic.specs.Levels.{level_of, eq_level}
use Rattle.value.specs.Value.{eq_net, le_net, driver, is_always, canonicalize, not_control, eq_control, le_control}
use Rattle.cell.specs.Bytes.{word16, word32, bytes16, bytes32}
use Rattle.kinds.specs.Kinds.{kind_of, use_of, sort_of}
use Rattle.cell.specs.Operands.{field_of, is_operand, is_comb_edge, edge_at}
use Rattle.cell.specs.Records.{record_at, records_of, bytes_of, cell_of, cell_record}
use Rattle.basics.specs.Lists.{tabulate, those, any_of, joined}
use Rattle.loops.specs.Reach.{step_back, reaching_in, reaches, on_loop}
use Rattle.refusals.specs.Refusals.{first_of, slot_by_slot}
use Rattle.checking.specs.Checking.{unknown_kind, reserved_field, follows, out_of_sequence, bit_out_of_sequence, undriven_field, kind_stages, field_stages, bit_stages, operand_stages, record_stages, loop_stages, size_group, record_group, loop_group, netlist_stages, check_stages, gate_count}
use Rattle.netlist.specs.Shape.{visit, visit_mut, has_effects}
use Rattle.netlist.specs.Netlist
use Rattle.netlist.specs.Netlist.{netlist_of, encode, ticket_of, sources, output_of, iter_cells, cell_deps}
use Rattle.order.specs.Walk.{each, down, walk, walk_from}
use Rattle.order.specs.Orders.{bit_deps, topo_sort, iter_cells_topo}
use Rattle.design.specs.Queue.{unchanged, followed, map_net_new, find_new_cell, applied, did_change, eq_record, eq_cell}
use Rattle.numberer.specs.Numberer.{seek}
use Rattle.compact.specs.Compact.{keep, kept_slots, count_kept, net_map, compact}
use Rattle.merge.specs.Merge.{key_of, find_or_insert_all, merge_cell, merge_cells, merging, merge}
use Rattle.normalize.specs.Outcomes.{from_control, first_change}
use Rattle.normalize.specs.Normalize.{normalize}
use Rattle.aig.specs.Aig.{if_not, if_aig, if_xor, not_rule, aig_of_not, and_and, and_with, aig_of_and, nand_and, xor_of, nand_nand, nand_with, aig_of_nand, xor_and, xor_with, aig_of_xor, aig_order, aig_rule, and_xor, xor_xor, xor_order, xor_rule, simple_aig_opt}
use Rattle.rewrite.specs.Rewriter.{stamp, find_cell, entered, finished, weight}
use Rattle.rewrite.specs.Rewrite.{rules, process, process_cell, add_cell, run_item, run_items, run, rewrite}
use Rattle.levels.specs.Evaluate.{net_level, cell_level, round_of, levels_in, levels, given_levels, input_slots, output_slots, output_levels}
use Rattle.calls.specs.Work.{wiped, cleared}
use Rattle.calls.specs.Answers.{Told}
use Rattle.calls.specs.Calls.{put, check_verdict, check_answer, compact_bytes, compact_verdict, compact_answer, compact_reply, merge_bytes, merge_verdict, merge_answer, merge_reply, rewrite_run, rewrite_bytes, rewrite_stages, rewrite_verdict, rewrite_answer, rewrite_reply, level_bytes, stimulus_stages, level_verdict, level_answer, level_reply}
use Rattle.tickets.specs.Starred.{lines, called, computed, printed, starred, AsPrinted}
use Rattle.tickets.specs.Corners.{corners}
use Rattle.tickets.specs.Levels.{tables}
use Rattle.tickets.specs.Refused.{given, wanted, trials, AnsweredAsPrinted, NumberedAsPrinted, ClearedAsPrinted}
use Rattle.tickets.specs.Wrong.{Fails, WrongFail}

-- the numbers of an answer in a row, then the bytes of the reply: 0 number, 2 count, 3 gate count or flag, 4 field
abbrev at : ℕ → Told × List ℕ → ℕ
at i x = get_or (x.0.number ∷ x.0.place ∷ x.0.count ∷ x.0.extra ∷ x.0.field ∷ x.1) i 0

as-printed : AsPrinted starred × AsPrinted corners × AsPrinted tables × AnsweredAsPrinted × WrongFail
unfolding level_of eq_level eq_net le_net driver is_always canonicalize not_control eq_control le_control word16 word32 bytes16 bytes32 kind_of field_of use_of is_operand is_comb_edge edge_at record_at records_of bytes_of cell_of cell_record tabulate step_back reaching_in reaches on_loop first_of slot_by_slot unknown_kind reserved_field follows out_of_sequence bit_out_of_sequence undriven_field kind_stages field_stages bit_stages operand_stages record_stages loop_stages size_group record_group loop_group netlist_stages check_stages gate_count visit visit_mut has_effects netlist_of encode ticket_of those any_of joined sources output_of iter_cells cell_deps Netlist.run each down walk walk_from bit_deps topo_sort iter_cells_topo unchanged followed map_net_new find_new_cell applied did_change eq_record eq_cell seek keep kept_slots count_kept net_map compact key_of find_or_insert_all merge_cell merge_cells merging merge first_change from_control normalize if_not if_aig if_xor not_rule aig_of_not and_and and_with aig_of_and nand_and xor_of nand_nand nand_with aig_of_nand xor_and xor_with aig_of_xor aig_order aig_rule and_xor xor_xor xor_order xor_rule simple_aig_opt stamp find_cell entered finished weight rules process process_cell add_cell run_item run_items run rewrite net_level cell_level round_of levels_in levels given_levels input_slots output_slots output_levels put check_verdict check_answer compact_bytes compact_verdict compact_answer compact_reply merge_bytes merge_verdict merge_answer merge_reply rewrite_run rewrite_bytes rewrite_stages rewrite_verdict rewrite_answer rewrite_reply level_bytes stimulus_stages level_verdict level_answer level_reply lines called computed printed starred corners tables AsPrinted given wanted trials AnsweredAsPrinted Fails WrongFail sort_of
as-printed = (
  refl,
  refl,
  refl,
  refl,
  (
    λ e. let z : ◌≡◌ {A = ℕ} 12 0 = ap (at 0) e in omega arith,
    λ e. let z : ◌≡◌ {A = ℕ} 64 80 = ap (at 2) e in omega arith,
    λ e. let z : ◌≡◌ {A = ℕ} 5 2 = ap (at 37) e in omega arith,
    λ e. let z : ◌≡◌ {A = ℕ} 144 128 = ap (at 2) e in omega arith,
    λ e. let z : ◌≡◌ {A = ℕ} 64 80 = ap (at 2) e in omega arith,
    λ e. let z : ◌≡◌ {A = ℕ} 4 1 = ap (at 3) e in omega arith,
    λ e. let z : ◌≡◌ {A = ℕ} 2 0 = ap (at 3) e in omega arith,
    λ e. let z : ◌≡◌ {A = ℕ} 3 2 = ap (at 4) e in omega arith,
    λ e. let z : ◌≡◌ {A = ℕ} 0 2 = ap (at 4) e in omega arith,
    λ e. let z : ◌≡◌ {A = ℕ} 2 0 = ap (at 4) e in omega arith,
    λ e. let z : ◌≡◌ {A = ℕ} 2 0 = ap (at 4) e in omega arith,
    λ e. let z : ◌≡◌ {A = ℕ} 128 144 = ap (at 2) e in omega arith,
    λ e. let z : ◌≡◌ {A = ℕ} 1 0 = ap (at 3) e in omega arith,
    λ e. let z : ◌≡◌ {A = ℕ} 2 3 = ap (at 41) e in omega arith,
  ),
)

pub starred-as-printed : AsPrinted starred
starred-as-printed = as-printed.0

pub corners-as-printed : AsPrinted corners
corners-as-printed = as-printed.1

pub levels-as-printed : AsPrinted tables
levels-as-printed = as-printed.2

pub answered-as-printed : AnsweredAsPrinted
answered-as-printed = as-printed.3

pub wrong-fail : WrongFail
wrong-fail = as-printed.4

-- what needs no computing of tickets
pub numbered-as-printed : NumberedAsPrinted
unfolding NumberedAsPrinted
numbered-as-printed = refl

pub cleared-as-printed : ClearedAsPrinted
unfolding wiped cleared ClearedAsPrinted
cleared-as-printed = (refl, refl)
