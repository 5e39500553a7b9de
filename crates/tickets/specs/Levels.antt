-- Levels of every kind of gate, for every pair of input levels (paper, module 2: Kleene's tables, and mux as `Trit::mux`). Assumes nothing: these
-- are definitions.
use Rattle.std.specs.Prelude.{List, [], ◌∷◌, ◌++◌, ℕ}
use Rattle.cell.specs.declared.Record.{Record}
use Rattle.cell.specs.Records.{record_of}
use Rattle.tickets.specs.Starred.{Row, levels}

-- inputs, then buf, not, and, or, xor, a mux that takes the second input at one and 1 at zero, an and-inverter with the first and one with the second
-- operand inverted; then an output of each gate
abbrev pub gates : List Record
gates =
    record_of 1 0 0 1 0 0 ∷ record_of 1 0 0 2 0 0 ∷ record_of 3 0 0 2 0 0 ∷ record_of 4 0 0 2 0 0 ∷ record_of 5 0 0 2 3 0 ∷ record_of 6 0 0 2 3 0 ∷ record_of 7 0 0 2 3 0 ∷ record_of 8 0 0 2 3 1 ∷ record_of 9 1 0 2 3 0 ∷ record_of 9 2 0 2 3 0 ∷ []

abbrev pub outputs : List Record
outputs =
    record_of 2 0 0 4 3 0 ∷ record_of 2 0 0 5 4 0 ∷ record_of 2 0 0 6 5 0 ∷ record_of 2 0 0 7 6 0 ∷ record_of 2 0 0 8 7 0 ∷ record_of 2 0 0 9 8 0 ∷ record_of 2 0 0 10 9 0 ∷ record_of 2 0 0 11 10 0 ∷ []

abbrev pair : ℕ → ℕ → List ℕ → Row
pair x y line = (levels (x ∷ y ∷ []), gates ++ outputs, (0 ∷ 0 ∷ 8 ∷ []) ∷ line ∷ [])

unfoldable pub tables : List Row
tables =
    pair 0 0 (0 ∷ 1 ∷ 0 ∷ 0 ∷ 0 ∷ 1 ∷ 0 ∷ 0 ∷ [])
    ∷ pair 0 1 (0 ∷ 1 ∷ 0 ∷ 1 ∷ 1 ∷ 1 ∷ 1 ∷ 0 ∷ [])
    ∷ pair 0 2 (0 ∷ 1 ∷ 0 ∷ 2 ∷ 2 ∷ 1 ∷ 2 ∷ 0 ∷ [])
    ∷ pair 1 0 (1 ∷ 0 ∷ 0 ∷ 1 ∷ 1 ∷ 0 ∷ 0 ∷ 1 ∷ [])
    ∷ pair 1 1 (1 ∷ 0 ∷ 1 ∷ 1 ∷ 0 ∷ 1 ∷ 0 ∷ 0 ∷ [])
    ∷ pair 1 2 (1 ∷ 0 ∷ 2 ∷ 1 ∷ 2 ∷ 2 ∷ 0 ∷ 2 ∷ [])
    ∷ pair 2 0 (2 ∷ 2 ∷ 0 ∷ 2 ∷ 2 ∷ 2 ∷ 0 ∷ 2 ∷ [])
    ∷ pair 2 1 (2 ∷ 2 ∷ 2 ∷ 1 ∷ 2 ∷ 1 ∷ 2 ∷ 0 ∷ [])
    ∷ pair 2 2 (2 ∷ 2 ∷ 2 ∷ 2 ∷ 2 ∷ 2 ∷ 2 ∷ 2 ∷ [])
    ∷ []
