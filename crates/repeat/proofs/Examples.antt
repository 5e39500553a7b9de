-- Two runs on a ticket, computed by the checker: the second result has other bytes than the first. Assumes nothing.
use mathlib.Core.Path.{◌≡◌, refl, ap}
use mathlib.Core.List.{List, [], ◌∷◌, ◌++◌}
use Prim.Native.Nat.{ℕ}
use native.Mathlib.Omega.{arith}
use lib.ListN.{get_or, replicate}
use Rattle.value.specs.Value.{eq_net, le_net, driver, is_always, canonicalize, not_control, eq_control, le_control}
use Rattle.cell.specs.declared.Record.{Record}
use Rattle.cell.specs.Bytes.{word16, word32, bytes16, bytes32}
use Rattle.kinds.specs.Kinds.{kind_of, use_of, sort_of}
use Rattle.cell.specs.Operands.{field_of, is_operand, is_comb_edge, edge_at}
use Rattle.cell.specs.Records.{record_of, record_at, records_of, bytes_of, cell_of, cell_record}
use Rattle.basics.specs.Lists.{tabulate, those, any_of, joined}
use Rattle.loops.specs.Reach.{step_back, reaching_in, reaches, on_loop}
use Rattle.refusals.specs.Refusals.{first_of, slot_by_slot}
use Rattle.checking.specs.Checking.{unknown_kind, reserved_field, follows, out_of_sequence, bit_out_of_sequence, undriven_field, kind_stages, field_stages, bit_stages, operand_stages, record_stages, loop_stages, size_group, record_group, loop_group, netlist_stages, check_stages}
use Rattle.netlist.specs.Shape.{visit, visit_mut, has_effects}
use Rattle.netlist.specs.Netlist
use Rattle.netlist.specs.Netlist.{netlist_of, encode, ticket_of, sources, output_of, iter_cells, cell_deps}
use Rattle.order.specs.Walk.{each, down, walk, walk_from}
use Rattle.order.specs.Orders.{bit_deps, topo_sort}
use Rattle.design.specs.Queue.{unchanged, followed, map_net_new, find_new_cell, applied, eq_record, eq_cell}
use Rattle.numberer.specs.Numberer.{seek}
use Rattle.compact.specs.Compact.{keep, kept_slots, count_kept, net_map, compact}
use Rattle.normalize.specs.Outcomes.{from_control, first_change}
use Rattle.normalize.specs.Normalize.{normalize}
use Rattle.aig.specs.Aig.{if_not, if_aig, if_xor, not_rule, aig_of_not, and_and, and_with, aig_of_and, nand_and, xor_of, nand_nand, nand_with, aig_of_nand, xor_and, xor_with, aig_of_xor, aig_order, aig_rule, and_xor, xor_xor, xor_order, xor_rule, simple_aig_opt}
use Rattle.rewrite.specs.Rewriter.{stamp, find_cell, entered, finished, weight}
use Rattle.rewrite.specs.Rewrite.{rules, process, process_cell, add_cell, run_item, run_items, run, rewrite}
use Rattle.calls.specs.Calls.{put, encoded, check_verdict, rewrite_run, rewrite_bytes, rewrite_stages, rewrite_verdict, rewrite_answer, rewrite_reply}
use Rattle.rewrite_sound.proofs.Encoded.{encoded-bytes}
use Rattle.repeat.specs.Pairing.{RecordsPaired}
use Rattle.repeat.specs.Repeat.{NoAndInverter, Rewriting}
use Rattle.repeat.proofs.Calls.{one-rewriting}

abbrev inputs : List Record
inputs = record_of 1 0 0 1 0 0 ∷ record_of 1 0 0 2 0 0 ∷ record_of 1 0 0 3 0 0 ∷ record_of 1 0 0 4 0 0 ∷ []

-- and of two xors
abbrev gates : List Record
gates = record_of 7 0 0 2 3 0 ∷ record_of 7 0 0 4 5 0 ∷ record_of 5 0 0 6 7 0 ∷ record_of 2 0 0 8 9 0 ∷ []

abbrev t : List ℕ
t = encoded (netlist_of (inputs ++ gates))

abbrev u : List ℕ
u = encoded (netlist_of (inputs ++ (record_of 2 0 0 9 9 0 ∷ record_of 7 0 0 2 3 0 ∷ record_of 7 0 0 4 5 0 ∷ record_of 9 0 0 7 8 0 ∷ [])))

-- the and-inverter stays in its slot; the xors are added behind it, last operand first, and its operands are sorted anew
abbrev v : List ℕ
v = encoded (netlist_of (inputs ++ (record_of 2 0 0 7 9 0 ∷ record_of 9 0 0 8 9 0 ∷ record_of 7 0 0 4 5 0 ∷ record_of 7 0 0 2 3 0 ∷ [])))

-- a work and a reply slice that are long enough
computed : Rewriting t u × Rewriting u v
unfolding eq_net le_net driver is_always canonicalize not_control eq_control le_control word16 word32 bytes16 bytes32 kind_of field_of use_of is_operand is_comb_edge edge_at record_at records_of bytes_of cell_of cell_record tabulate step_back reaching_in reaches on_loop first_of slot_by_slot unknown_kind reserved_field follows out_of_sequence bit_out_of_sequence undriven_field kind_stages field_stages bit_stages operand_stages record_stages loop_stages size_group record_group loop_group netlist_stages check_stages visit visit_mut has_effects netlist_of encode ticket_of those any_of joined sources output_of iter_cells cell_deps Netlist.run each down walk walk_from bit_deps topo_sort unchanged followed map_net_new find_new_cell applied eq_record eq_cell seek keep kept_slots count_kept net_map compact first_change from_control normalize if_not if_aig if_xor not_rule aig_of_not and_and and_with aig_of_and nand_and xor_of nand_nand nand_with aig_of_nand xor_and xor_with aig_of_xor aig_order aig_rule and_xor xor_xor xor_order xor_rule simple_aig_opt stamp find_cell entered finished weight rules process process_cell add_cell run_item run_items run rewrite put check_verdict rewrite_run rewrite_bytes rewrite_stages rewrite_verdict rewrite_answer rewrite_reply sort_of
computed = (
  record { words = 16384; reply = replicate 160 255; count = 128; accepted = refl; result = refl },
  record { words = 16384; reply = replicate 160 255; count = 128; accepted = refl; result = refl },
)

first : Rewriting t u
first = computed.0

second : Rewriting u v
second = computed.1

-- byte 68, the net that the output reads, is 9 in u and 7 in v
pub other-bytes : u ≡ v → ⊥
unfolding bytes_of bytes16 bytes32 cell_of cell_record tabulate netlist_of encode ticket_of joined sort_of
other-bytes e = let z : ◌≡◌ {A = ℕ} 9 7 = ap (λ (x : List ℕ). get_or x 68 0) e in omega arith

-- but the records pair off
plain : NoAndInverter t
unfolding any_of records_of record_at word16 word32 bytes_of bytes16 bytes32 cell_of cell_record tabulate netlist_of encode ticket_of joined sort_of
plain = refl

pub same-records : RecordsPaired (records_of v) (records_of u)
same-records = (one-rewriting t (encoded-bytes (netlist_of (inputs ++ gates))) plain).again u v first second
