-- Examples that the checker computes. Assumes nothing.
use mathlib.Core.Path.{◌≡◌, refl}
use mathlib.Core.Bool.{true, false}
use mathlib.Core.List.{List, [], ◌∷◌, map}
use Rattle.cell.specs.declared.Record.{Record}
use Rattle.kinds.specs.Kinds.{kind_of, use_of, sort_of}
use Rattle.cell.specs.Operands.{field_of, is_operand, is_comb_edge, edge_at}
use Rattle.cell.specs.Records.{record_of}
use Rattle.value.specs.Value.{driver, eq_net}
use Rattle.loops.specs.Reach.{step_back, reaching_in, reaches, on_loop}

-- a two-bit not whose bit 1 reads bit 0 (paper, T12): its cell reads itself, and no bit does
wide : List Record
wide = record_of 4 0 0 0 0 0 ∷ record_of 4 0 1 2 0 0 ∷ []

wide-free : map (on_loop wide) (0 ∷ 1 ∷ []) ≡ false ∷ false ∷ []
unfolding wide on_loop reaches reaching_in step_back edge_at is_comb_edge is_operand kind_of use_of field_of driver eq_net sort_of
wide-free = refl

-- a not and a buf that read each other, an and that reads both, and a mux that reads itself as its third operand
rings : List Record
rings = record_of 4 0 0 3 0 0 ∷ record_of 3 0 0 2 0 0 ∷ record_of 5 0 0 2 3 0 ∷ record_of 8 0 0 0 1 5 ∷ []

rings-found : map (on_loop rings) (0 ∷ 1 ∷ 2 ∷ 3 ∷ []) ≡ true ∷ true ∷ false ∷ true ∷ []
unfolding rings on_loop reaches reaching_in step_back edge_at is_comb_edge is_operand kind_of use_of field_of driver eq_net sort_of
rings-found = refl
