-- WHAT `Kept` FORBIDS: for each of its clauses a ticket u that would not do in place of t, computed by the checker. Assumes nothing.
use mathlib.Core.Path.{ap, ◌≡◌}
use mathlib.Core.List.{List, [], ◌∷◌}
use Prim.Native.Nat.{ℕ}
use native.Mathlib.Omega.{arith}
use lib.ListN.{get_or}
use Rattle.std.specs.Prelude.{Ok, Err}
use Rattle.logic.specs.Levels.{level_of, eq_level}
use Rattle.value.specs.Value.{eq_net, driver}
use Rattle.cell.specs.declared.Record.{Record}
use Rattle.cell.specs.Bytes.{word16, word32, bytes16, bytes32}
use Rattle.kinds.specs.Kinds.{kind_of, use_of, sort_of}
use Rattle.cell.specs.Operands.{field_of, is_operand, is_comb_edge, edge_at}
use Rattle.cell.specs.Records.{record_of, record_at, records_of, bytes_of, cell_of}
use Rattle.basics.specs.Lists.{tabulate, those, any_of, joined}
use Rattle.loops.specs.Reach.{step_back, reaching_in, reaches, on_loop}
use Rattle.refusals.specs.Refusals.{figures, first_of, slot_by_slot, Verdict}
use Rattle.checking.specs.Checking.{unknown_kind, reserved_field, follows, out_of_sequence, bit_out_of_sequence, undriven_field, kind_stages, field_stages, bit_stages, operand_stages, record_stages, loop_stages, size_group, record_group, loop_group, netlist_stages, check_stages}
use Rattle.netlist.specs.Netlist.{netlist_of, ticket_of}
use Rattle.levels.specs.Evaluate.{net_level, cell_level, round_of, levels_in, levels, given_levels, input_slots, output_slots, output_levels}
use Rattle.calls.specs.Answers.{written_figures}
use Rattle.calls.specs.Calls.{put, check_verdict, level_bytes, stimulus_stages, level_verdict, level_answer, level_reply}
use Rattle.kept.specs.Kept.{Kept}

abbrev input : Record
input = record_of 1 0 0 1 0 0

abbrev output : ℕ → Record
output a = record_of 2 0 0 a 2 0

abbrev Forbidden : List Record → List Record → Type 0
Forbidden rs rs' = Kept 16384 (ticket_of rs) (ticket_of rs') → ⊥

abbrev byte : ℕ → List ℕ → ℕ
byte k bs = get_or bs k 9

abbrev number : Verdict → ℕ
number (Ok u) = 0
number (Err r) = (figures r).number

-- a loop; a record more; an input's level for a constant's; 0 for an undefined level; an input less, which no output read; the reply for
-- another level
pub forbidden :
    Forbidden [] (record_of 3 0 0 2 0 0 ∷ [])
    × Forbidden [] (input ∷ [])
    × Forbidden (input ∷ output 0 ∷ []) (input ∷ output 2 ∷ [])
    × Forbidden (output 4294967295 ∷ []) (output 0 ∷ [])
    × Forbidden (input ∷ output 0 ∷ []) (output 0 ∷ [])
    × Forbidden (input ∷ output 0 ∷ []) (input ∷ output 2 ∷ [])
unfolding level_of eq_level eq_net driver word16 word32 bytes16 bytes32 kind_of field_of use_of is_operand is_comb_edge edge_at record_at records_of bytes_of cell_of tabulate step_back reaching_in reaches on_loop first_of slot_by_slot unknown_kind reserved_field follows out_of_sequence bit_out_of_sequence undriven_field kind_stages field_stages bit_stages operand_stages record_stages loop_stages size_group record_group loop_group netlist_stages check_stages netlist_of ticket_of those any_of joined net_level cell_level round_of levels_in levels given_levels input_slots output_slots output_levels put check_verdict level_bytes stimulus_stages level_verdict level_answer level_reply sort_of
forbidden = (
  λ k. let z : ◌≡◌ {A = ℕ} 8 0 = ap number k.passes in omega arith,
  λ k. omega (arith, k.shorter),
  λ k. let z : ◌≡◌ {A = ℕ} 1 0 = ap (byte 0) (k.levels (1 ∷ [])) in omega arith,
  λ k. let z : ◌≡◌ {A = ℕ} 0 2 = ap (byte 0) (k.levels []) in omega arith,
  λ k. let z : ◌≡◌ {A = ℕ} 10 0 = ap (λ w. (written_figures w).number) (k.answers (1 ∷ []) (255 ∷ [])) in omega arith,
  λ k. let z : ◌≡◌ {A = ℕ} 1 0 = ap (byte 0) (k.replies (1 ∷ []) (255 ∷ [])) in omega arith,
)
