-- Levels of a netlist by Kleene's tables (paper, module 2). Assumes nothing: these are definitions.
use Rattle.std.specs.Prelude.{cond, List, [], ◌∷◌, map, ℕ, zero, suc, length, get_or, drop, replicate}
use Rattle.logic.specs.declared.Trit.{Trit}
use Rattle.logic.specs.declared.Trit.TheVariants.{Undef}
use Rattle.logic.specs.Levels.{not_level, and_level, or_level, xor_level, mux_level, level_of}
use Rattle.value.specs.declared.Net.{Net}
use Rattle.value.specs.declared.ControlNet.{ControlNet}
use Rattle.value.specs.declared.ControlNet.TheVariants.{Pos, Neg}
use Rattle.value.specs.declared.Driver.{Driver}
use Rattle.value.specs.declared.Driver.TheVariants as driven
use Rattle.value.specs.Value.{driver}
use Rattle.cell.specs.declared.Cell.{Cell}
use Rattle.cell.specs.declared.Cell.TheVariants.{Input, Output, Buf, Not, And, Or, Xor, Mux, Aig}
use Rattle.basics.specs.Lists.{tabulate, slots, those}
use Rattle.netlist.specs.Shape.{is_input, is_output}
use Rattle.netlist.specs.Netlist.{cell_in}

-- the level of a net, given the levels of the slots
abbrev pub driven_level : List Trit → Driver → Trit
driven_level ls (driven.Const t) = t
driven_level ls (driven.Cell s) = get_or ls s.0 Undef

unfoldable pub net_level : List Trit → Net → Trit
net_level ls n = driven_level ls (driver n)

abbrev pub control_level : (Net → Trit) → ControlNet → Trit
control_level v (Pos n) = v n
control_level v (Neg n) = not_level (v n)

-- the level of a cell, given the levels of nets and, for a source, its own
unfoldable pub cell_level : (Net → Trit) → Trit → Cell → Trit
cell_level v own (Input l) = own
cell_level v own (Output a l) = v a
cell_level v own (Buf a) = v a
cell_level v own (Not a) = not_level (v a)
cell_level v own (And a b) = and_level (v a) (v b)
cell_level v own (Or a b) = or_level (v a) (v b)
cell_level v own (Xor a b) = xor_level (v a) (v b)
cell_level v own (Mux a b c) = mux_level (v a) (v b) (v c)
cell_level v own (Aig p q) = and_level (control_level v p) (control_level v q)

-- the levels of all slots after k rounds, from undefined ones; `given` holds the inputs' levels by slot. Where there is no loop, as many
-- rounds as there are slots are enough
unfoldable pub round_of : List Cell → List Trit → List Trit → List Trit
round_of cs given ls = tabulate (λ s. cell_level (net_level ls) (get_or given s Undef) (cell_in cs s)) (length cs)

unfoldable pub levels_in : ℕ → List Cell → List Trit → List Trit
levels_in zero cs given = replicate (length cs) Undef
levels_in (suc k) cs given = round_of cs given (levels_in k cs given)

unfoldable pub levels : List Cell → List Trit → List Trit
levels cs given = levels_in (length cs) cs given

-- the stimulus: a byte for each input, in slot order, put to its slot
unfoldable pub given_levels : List Cell → List ℕ → List Trit
given_levels [] bs = []
given_levels (c ∷ cs) bs =
    cond (is_input c) (level_of (get_or bs 0 2)) Undef ∷ given_levels cs (cond (is_input c) (drop 1 bs) bs)

-- inputs and outputs, in slot order
unfoldable pub input_slots : List Cell → List ℕ
input_slots cs = those (λ s. is_input (cell_in cs s)) (slots (length cs))

unfoldable pub output_slots : List Cell → List ℕ
output_slots cs = those (λ s. is_output (cell_in cs s)) (slots (length cs))

-- the outputs' levels for a stimulus
unfoldable pub output_levels : List Cell → List ℕ → List Trit
output_levels cs bs =
    let ls = levels cs (given_levels cs bs) in
    map (λ s. get_or ls s Undef) (output_slots cs)
