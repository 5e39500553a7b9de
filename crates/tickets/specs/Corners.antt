-- Corners of the Rust that the starred tickets do not show, with what the unchanged Rust answers and writes. Assumes nothing: these are definitions.
use Rattle.std.specs.Prelude.{List, [], ◌∷◌, ℕ}
use Rattle.cell.specs.Records.{record_of}
use Rattle.tickets.specs.Starred.{Row, merging, rewriting, compacting}

-- what two ands that share an operand end as, in whichever order a third reads them
abbrev shared : List (List ℕ)
shared =
    (0 ∷ 0 ∷ 96 ∷ [])
    ∷ (0 ∷ 1 ∷ 0 ∷ 0 ∷ 1 ∷ 0 ∷ 0 ∷ [])
    ∷ (1 ∷ 1 ∷ 0 ∷ 0 ∷ 2 ∷ 0 ∷ 0 ∷ [])
    ∷ (2 ∷ 1 ∷ 0 ∷ 0 ∷ 3 ∷ 0 ∷ 0 ∷ [])
    ∷ (3 ∷ 2 ∷ 0 ∷ 0 ∷ 7 ∷ 9 ∷ 0 ∷ [])
    ∷ (4 ∷ 9 ∷ 0 ∷ 0 ∷ 2 ∷ 3 ∷ 0 ∷ [])
    ∷ (5 ∷ 9 ∷ 0 ∷ 0 ∷ 4 ∷ 6 ∷ 0 ∷ []) ∷ []

unfoldable pub corners : List Row
corners =
    -- and(3, 2) stays and(3, 2)
    (
      merging,
      record_of 1 0 0 1 0 0 ∷ record_of 1 0 0 2 0 0 ∷ record_of 5 0 0 3 2 0 ∷ record_of 2 0 0 4 9 0 ∷ [],
      (0 ∷ 0 ∷ 64 ∷ 0 ∷ [])
          ∷ (0 ∷ 1 ∷ 0 ∷ 0 ∷ 1 ∷ 0 ∷ 0 ∷ [])
          ∷ (1 ∷ 1 ∷ 0 ∷ 0 ∷ 2 ∷ 0 ∷ 0 ∷ [])
          ∷ (2 ∷ 5 ∷ 0 ∷ 0 ∷ 3 ∷ 2 ∷ 0 ∷ [])
          ∷ (3 ∷ 2 ∷ 0 ∷ 0 ∷ 4 ∷ 9 ∷ 0 ∷ []) ∷ [],
    )
    -- mux(s, p, q) and mux(s, q, p) are two
    ∷ (
      merging,
      record_of 1 0 0 1 0 0 ∷ record_of 1 0 0 2 0 0 ∷ record_of 1 0 0 3 0 0 ∷ record_of 8 0 0 2 3 4 ∷ record_of 8 0 0 2 4 3 ∷ record_of 2 0 0 5 9 0 ∷ record_of 2 0 0 6 10 0 ∷ [],
      (0 ∷ 0 ∷ 112 ∷ 0 ∷ [])
          ∷ (0 ∷ 1 ∷ 0 ∷ 0 ∷ 1 ∷ 0 ∷ 0 ∷ [])
          ∷ (1 ∷ 1 ∷ 0 ∷ 0 ∷ 2 ∷ 0 ∷ 0 ∷ [])
          ∷ (2 ∷ 1 ∷ 0 ∷ 0 ∷ 3 ∷ 0 ∷ 0 ∷ [])
          ∷ (3 ∷ 8 ∷ 0 ∷ 0 ∷ 2 ∷ 3 ∷ 4 ∷ [])
          ∷ (4 ∷ 8 ∷ 0 ∷ 0 ∷ 2 ∷ 4 ∷ 3 ∷ [])
          ∷ (5 ∷ 2 ∷ 0 ∷ 0 ∷ 5 ∷ 9 ∷ 0 ∷ [])
          ∷ (6 ∷ 2 ∷ 0 ∷ 0 ∷ 6 ∷ 10 ∷ 0 ∷ []) ∷ [],
    )
    -- all bits of a cell are mapped before the first is looked up
    ∷ (
      merging,
      record_of 1 0 0 1 0 0 ∷ record_of 4 0 0 2 0 0 ∷ record_of 4 0 0 3 0 0 ∷ record_of 4 0 0 2 0 0 ∷ record_of 4 0 1 5 0 0 ∷ record_of 2 0 0 4 9 0 ∷ record_of 2 0 0 5 10 0 ∷ record_of 2 0 0 6 11 0 ∷ [],
      (0 ∷ 0 ∷ 128 ∷ 1 ∷ [])
          ∷ (0 ∷ 1 ∷ 0 ∷ 0 ∷ 1 ∷ 0 ∷ 0 ∷ [])
          ∷ (1 ∷ 4 ∷ 0 ∷ 0 ∷ 2 ∷ 0 ∷ 0 ∷ [])
          ∷ (2 ∷ 4 ∷ 0 ∷ 0 ∷ 3 ∷ 0 ∷ 0 ∷ [])
          ∷ (3 ∷ 4 ∷ 0 ∷ 0 ∷ 2 ∷ 0 ∷ 0 ∷ [])
          ∷ (4 ∷ 4 ∷ 0 ∷ 1 ∷ 3 ∷ 0 ∷ 0 ∷ [])
          ∷ (5 ∷ 2 ∷ 0 ∷ 0 ∷ 4 ∷ 9 ∷ 0 ∷ [])
          ∷ (6 ∷ 2 ∷ 0 ∷ 0 ∷ 3 ∷ 10 ∷ 0 ∷ [])
          ∷ (7 ∷ 2 ∷ 0 ∷ 0 ∷ 6 ∷ 11 ∷ 0 ∷ []) ∷ [],
    )
    -- the first found is so by the cell order, not by the slot
    ∷ (
      merging,
      record_of 1 0 0 1 0 0 ∷ record_of 1 0 0 2 0 0 ∷ record_of 3 0 0 6 0 0 ∷ record_of 5 0 0 2 3 0 ∷ record_of 5 0 0 3 2 0 ∷ record_of 2 0 0 4 9 0 ∷ [],
      (0 ∷ 0 ∷ 80 ∷ 0 ∷ [])
          ∷ (0 ∷ 1 ∷ 0 ∷ 0 ∷ 1 ∷ 0 ∷ 0 ∷ [])
          ∷ (1 ∷ 1 ∷ 0 ∷ 0 ∷ 2 ∷ 0 ∷ 0 ∷ [])
          ∷ (2 ∷ 3 ∷ 0 ∷ 0 ∷ 5 ∷ 0 ∷ 0 ∷ [])
          ∷ (3 ∷ 5 ∷ 0 ∷ 0 ∷ 3 ∷ 2 ∷ 0 ∷ [])
          ∷ (4 ∷ 2 ∷ 0 ∷ 0 ∷ 4 ∷ 9 ∷ 0 ∷ []) ∷ [],
    )
    -- the cell order goes down the lowest dependency first
    ∷ (
      merging,
      record_of 1 0 0 1 0 0 ∷ record_of 1 0 0 2 0 0 ∷ record_of 7 0 0 6 5 0 ∷ record_of 5 0 0 2 3 0 ∷ record_of 5 0 0 3 2 0 ∷ record_of 2 0 0 4 9 0 ∷ [],
      (0 ∷ 0 ∷ 80 ∷ 1 ∷ [])
          ∷ (0 ∷ 1 ∷ 0 ∷ 0 ∷ 1 ∷ 0 ∷ 0 ∷ [])
          ∷ (1 ∷ 1 ∷ 0 ∷ 0 ∷ 2 ∷ 0 ∷ 0 ∷ [])
          ∷ (2 ∷ 7 ∷ 0 ∷ 0 ∷ 5 ∷ 5 ∷ 0 ∷ [])
          ∷ (3 ∷ 5 ∷ 0 ∷ 0 ∷ 2 ∷ 3 ∷ 0 ∷ [])
          ∷ (4 ∷ 2 ∷ 0 ∷ 0 ∷ 4 ∷ 9 ∷ 0 ∷ []) ∷ [],
    )
    -- the bit order goes down the last operand first
    ∷ (
      rewriting,
      record_of 1 0 0 1 0 0 ∷ record_of 1 0 0 2 0 0 ∷ record_of 8 0 0 2 6 7 ∷ record_of 2 0 0 4 9 0 ∷ record_of 5 0 0 2 3 0 ∷ record_of 6 0 0 2 3 0 ∷ [],
      (0 ∷ 0 ∷ 112 ∷ [])
          ∷ (0 ∷ 1 ∷ 0 ∷ 0 ∷ 1 ∷ 0 ∷ 0 ∷ [])
          ∷ (1 ∷ 1 ∷ 0 ∷ 0 ∷ 2 ∷ 0 ∷ 0 ∷ [])
          ∷ (2 ∷ 2 ∷ 0 ∷ 0 ∷ 8 ∷ 9 ∷ 0 ∷ [])
          ∷ (3 ∷ 9 ∷ 3 ∷ 0 ∷ 2 ∷ 3 ∷ 0 ∷ [])
          ∷ (4 ∷ 4 ∷ 0 ∷ 0 ∷ 5 ∷ 0 ∷ 0 ∷ [])
          ∷ (5 ∷ 9 ∷ 0 ∷ 0 ∷ 2 ∷ 3 ∷ 0 ∷ [])
          ∷ (6 ∷ 8 ∷ 0 ∷ 0 ∷ 2 ∷ 7 ∷ 6 ∷ []) ∷ [],
    )
    -- a kept cell keeps all its bits and their feeds
    ∷ (
      compacting,
      record_of 1 0 0 1 0 0 ∷ record_of 1 0 0 2 0 0 ∷ record_of 4 0 0 3 0 0 ∷ record_of 4 0 0 2 0 0 ∷ record_of 4 0 1 4 0 0 ∷ record_of 2 0 0 5 9 0 ∷ [],
      (0 ∷ 0 ∷ 96 ∷ [])
          ∷ (0 ∷ 1 ∷ 0 ∷ 0 ∷ 1 ∷ 0 ∷ 0 ∷ [])
          ∷ (1 ∷ 1 ∷ 0 ∷ 0 ∷ 2 ∷ 0 ∷ 0 ∷ [])
          ∷ (2 ∷ 4 ∷ 0 ∷ 0 ∷ 3 ∷ 0 ∷ 0 ∷ [])
          ∷ (3 ∷ 4 ∷ 0 ∷ 0 ∷ 2 ∷ 0 ∷ 0 ∷ [])
          ∷ (4 ∷ 4 ∷ 0 ∷ 1 ∷ 4 ∷ 0 ∷ 0 ∷ [])
          ∷ (5 ∷ 2 ∷ 0 ∷ 0 ∷ 5 ∷ 9 ∷ 0 ∷ []) ∷ [],
    )
    -- an and-inverter becomes a xor in its slot
    ∷ (
      rewriting,
      record_of 1 0 0 1 0 0 ∷ record_of 1 0 0 2 0 0 ∷ record_of 9 0 0 2 3 0 ∷ record_of 9 3 0 2 3 0 ∷ record_of 9 3 0 4 5 0 ∷ record_of 2 0 0 6 9 0 ∷ [],
      (0 ∷ 0 ∷ 64 ∷ [])
          ∷ (0 ∷ 1 ∷ 0 ∷ 0 ∷ 1 ∷ 0 ∷ 0 ∷ [])
          ∷ (1 ∷ 1 ∷ 0 ∷ 0 ∷ 2 ∷ 0 ∷ 0 ∷ [])
          ∷ (2 ∷ 7 ∷ 0 ∷ 0 ∷ 2 ∷ 3 ∷ 0 ∷ [])
          ∷ (3 ∷ 2 ∷ 0 ∷ 0 ∷ 4 ∷ 9 ∷ 0 ∷ []) ∷ [],
    )
    -- the cache knows an equal cell
    ∷ (
      rewriting,
      record_of 1 0 0 1 0 0 ∷ record_of 1 0 0 2 0 0 ∷ record_of 5 0 0 2 3 0 ∷ record_of 5 0 0 3 2 0 ∷ record_of 2 0 0 4 9 0 ∷ record_of 2 0 0 5 10 0 ∷ [],
      (0 ∷ 0 ∷ 80 ∷ [])
          ∷ (0 ∷ 1 ∷ 0 ∷ 0 ∷ 1 ∷ 0 ∷ 0 ∷ [])
          ∷ (1 ∷ 1 ∷ 0 ∷ 0 ∷ 2 ∷ 0 ∷ 0 ∷ [])
          ∷ (2 ∷ 2 ∷ 0 ∷ 0 ∷ 6 ∷ 9 ∷ 0 ∷ [])
          ∷ (3 ∷ 2 ∷ 0 ∷ 0 ∷ 6 ∷ 10 ∷ 0 ∷ [])
          ∷ (4 ∷ 9 ∷ 0 ∷ 0 ∷ 2 ∷ 3 ∷ 0 ∷ []) ∷ [],
    )
    -- the inverse of undefined is undefined, so and(2, X) with its own inverse is not seen through
    ∷ (
      rewriting,
      record_of 1 0 0 1 0 0 ∷ record_of 9 0 0 2 4294967295 0 ∷ record_of 9 2 0 2 3 0 ∷ record_of 2 0 0 4 9 0 ∷ [],
      (0 ∷ 0 ∷ 48 ∷ [])
          ∷ (0 ∷ 1 ∷ 0 ∷ 0 ∷ 1 ∷ 0 ∷ 0 ∷ [])
          ∷ (1 ∷ 9 ∷ 0 ∷ 0 ∷ 2 ∷ 4294967295 ∷ 0 ∷ [])
          ∷ (2 ∷ 2 ∷ 0 ∷ 0 ∷ 3 ∷ 9 ∷ 0 ∷ []) ∷ [],
    )
    -- flags are not canonicalised
    ∷ (
      rewriting,
      record_of 1 0 0 1 0 0 ∷ record_of 9 2 0 2 4294967295 0 ∷ record_of 2 0 0 3 9 0 ∷ [],
      (0 ∷ 0 ∷ 48 ∷ [])
          ∷ (0 ∷ 1 ∷ 0 ∷ 0 ∷ 1 ∷ 0 ∷ 0 ∷ [])
          ∷ (1 ∷ 9 ∷ 2 ∷ 0 ∷ 2 ∷ 4294967295 ∷ 0 ∷ [])
          ∷ (2 ∷ 2 ∷ 0 ∷ 0 ∷ 3 ∷ 9 ∷ 0 ∷ []) ∷ [],
    )
    -- an untouched and-inverter is cached under its mapped operands
    ∷ (
      rewriting,
      record_of 1 0 0 1 0 0 ∷ record_of 1 0 0 2 0 0 ∷ record_of 1 0 0 3 0 0 ∷ record_of 7 0 0 2 3 0 ∷ record_of 9 0 0 4 5 0 ∷ record_of 5 0 0 4 5 0 ∷ record_of 2 0 0 6 9 0 ∷ record_of 2 0 0 7 10 0 ∷ [],
      (0 ∷ 0 ∷ 112 ∷ [])
          ∷ (0 ∷ 1 ∷ 0 ∷ 0 ∷ 1 ∷ 0 ∷ 0 ∷ [])
          ∷ (1 ∷ 1 ∷ 0 ∷ 0 ∷ 2 ∷ 0 ∷ 0 ∷ [])
          ∷ (2 ∷ 1 ∷ 0 ∷ 0 ∷ 3 ∷ 0 ∷ 0 ∷ [])
          ∷ (3 ∷ 9 ∷ 0 ∷ 0 ∷ 4 ∷ 8 ∷ 0 ∷ [])
          ∷ (4 ∷ 2 ∷ 0 ∷ 0 ∷ 5 ∷ 9 ∷ 0 ∷ [])
          ∷ (5 ∷ 2 ∷ 0 ∷ 0 ∷ 5 ∷ 10 ∷ 0 ∷ [])
          ∷ (6 ∷ 7 ∷ 0 ∷ 0 ∷ 2 ∷ 3 ∷ 0 ∷ []) ∷ [],
    )
    -- after each form the rules begin again with Normalize
    ∷ (
      rewriting,
      record_of 1 0 0 1 0 0 ∷ record_of 1 0 0 2 0 0 ∷ record_of 4 0 0 3 0 0 ∷ record_of 9 0 0 2 4 0 ∷ record_of 2 0 0 5 9 0 ∷ [],
      (0 ∷ 0 ∷ 64 ∷ [])
          ∷ (0 ∷ 1 ∷ 0 ∷ 0 ∷ 1 ∷ 0 ∷ 0 ∷ [])
          ∷ (1 ∷ 1 ∷ 0 ∷ 0 ∷ 2 ∷ 0 ∷ 0 ∷ [])
          ∷ (2 ∷ 9 ∷ 2 ∷ 0 ∷ 2 ∷ 3 ∷ 0 ∷ [])
          ∷ (3 ∷ 2 ∷ 0 ∷ 0 ∷ 4 ∷ 9 ∷ 0 ∷ []) ∷ [],
    )
    -- positive control nets before negative ones
    ∷ (
      rewriting,
      record_of 1 0 0 1 0 0 ∷ record_of 1 0 0 2 0 0 ∷ record_of 9 1 0 2 3 0 ∷ record_of 2 0 0 4 9 0 ∷ [],
      (0 ∷ 0 ∷ 64 ∷ [])
          ∷ (0 ∷ 1 ∷ 0 ∷ 0 ∷ 1 ∷ 0 ∷ 0 ∷ [])
          ∷ (1 ∷ 1 ∷ 0 ∷ 0 ∷ 2 ∷ 0 ∷ 0 ∷ [])
          ∷ (2 ∷ 9 ∷ 2 ∷ 0 ∷ 3 ∷ 2 ∷ 0 ∷ [])
          ∷ (3 ∷ 2 ∷ 0 ∷ 0 ∷ 4 ∷ 9 ∷ 0 ∷ []) ∷ [],
    )
    -- undefined is its own inverse: that both operands are the same is asked before that they are opposite
    ∷ (
      rewriting,
      record_of 9 0 0 4294967295 4294967295 0 ∷ record_of 2 0 0 2 9 0 ∷ [],
      (0 ∷ 0 ∷ 16 ∷ []) ∷ (0 ∷ 2 ∷ 0 ∷ 0 ∷ 4294967295 ∷ 9 ∷ 0 ∷ []) ∷ [],
    )
    -- where a rule applies in both operand orders, the order as written comes first
    ∷ (
      rewriting,
      record_of 1 0 0 1 0 0 ∷ record_of 1 0 0 2 0 0 ∷ record_of 1 0 0 3 0 0 ∷ record_of 5 0 0 2 3 0 ∷ record_of 5 0 0 2 4 0 ∷ record_of 5 0 0 5 6 0 ∷ record_of 2 0 0 7 9 0 ∷ [],
      shared,
    )
    -- rules come after Normalize: the and-inverter of and(6, 5) has sorted operands before its rule is asked
    ∷ (
      rewriting,
      record_of 1 0 0 1 0 0 ∷ record_of 1 0 0 2 0 0 ∷ record_of 1 0 0 3 0 0 ∷ record_of 5 0 0 2 3 0 ∷ record_of 5 0 0 2 4 0 ∷ record_of 5 0 0 6 5 0 ∷ record_of 2 0 0 7 9 0 ∷ [],
      shared,
    )
    -- a buffer is its operand, and the operands of a xor are sorted
    ∷ (
      rewriting,
      record_of 1 0 0 1 0 0 ∷ record_of 1 0 0 2 0 0 ∷ record_of 7 0 0 3 2 0 ∷ record_of 3 0 0 4 0 0 ∷ record_of 2 0 0 5 9 0 ∷ [],
      (0 ∷ 0 ∷ 64 ∷ [])
          ∷ (0 ∷ 1 ∷ 0 ∷ 0 ∷ 1 ∷ 0 ∷ 0 ∷ [])
          ∷ (1 ∷ 1 ∷ 0 ∷ 0 ∷ 2 ∷ 0 ∷ 0 ∷ [])
          ∷ (2 ∷ 2 ∷ 0 ∷ 0 ∷ 5 ∷ 9 ∷ 0 ∷ [])
          ∷ (3 ∷ 7 ∷ 0 ∷ 0 ∷ 2 ∷ 3 ∷ 0 ∷ []) ∷ [],
    )
    -- negative control nets by index
    ∷ (
      rewriting,
      record_of 1 0 0 1 0 0 ∷ record_of 1 0 0 2 0 0 ∷ record_of 9 3 0 3 2 0 ∷ record_of 2 0 0 4 9 0 ∷ [],
      (0 ∷ 0 ∷ 64 ∷ [])
          ∷ (0 ∷ 1 ∷ 0 ∷ 0 ∷ 1 ∷ 0 ∷ 0 ∷ [])
          ∷ (1 ∷ 1 ∷ 0 ∷ 0 ∷ 2 ∷ 0 ∷ 0 ∷ [])
          ∷ (2 ∷ 9 ∷ 3 ∷ 0 ∷ 2 ∷ 3 ∷ 0 ∷ [])
          ∷ (3 ∷ 2 ∷ 0 ∷ 0 ∷ 4 ∷ 9 ∷ 0 ∷ []) ∷ [],
    )
    -- an and-inverter is cached in the form that it has in its slot
    ∷ (
      rewriting,
      record_of 1 0 0 1 0 0 ∷ record_of 1 0 0 2 0 0 ∷ record_of 9 0 0 3 2 0 ∷ record_of 5 0 0 2 3 0 ∷ record_of 2 0 0 4 9 0 ∷ record_of 2 0 0 5 10 0 ∷ [],
      (0 ∷ 0 ∷ 80 ∷ [])
          ∷ (0 ∷ 1 ∷ 0 ∷ 0 ∷ 1 ∷ 0 ∷ 0 ∷ [])
          ∷ (1 ∷ 1 ∷ 0 ∷ 0 ∷ 2 ∷ 0 ∷ 0 ∷ [])
          ∷ (2 ∷ 9 ∷ 0 ∷ 0 ∷ 2 ∷ 3 ∷ 0 ∷ [])
          ∷ (3 ∷ 2 ∷ 0 ∷ 0 ∷ 4 ∷ 9 ∷ 0 ∷ [])
          ∷ (4 ∷ 2 ∷ 0 ∷ 0 ∷ 4 ∷ 10 ∷ 0 ∷ []) ∷ [],
    )
    -- or, xor and and-inverter are found with their operands exchanged, flags with them
    ∷ (
      merging,
      record_of 1 0 0 1 0 0 ∷ record_of 1 0 0 2 0 0 ∷ record_of 6 0 0 2 3 0 ∷ record_of 6 0 0 3 2 0 ∷ record_of 7 0 0 2 3 0 ∷ record_of 7 0 0 3 2 0 ∷ record_of 9 2 0 2 3 0 ∷ record_of 9 1 0 3 2 0 ∷ record_of 9 1 0 2 3 0 ∷ record_of 2 0 0 5 9 0 ∷ record_of 2 0 0 7 10 0 ∷ record_of 2 0 0 9 11 0 ∷ record_of 2 0 0 10 12 0 ∷ [],
      (0 ∷ 0 ∷ 160 ∷ 1 ∷ [])
          ∷ (0 ∷ 1 ∷ 0 ∷ 0 ∷ 1 ∷ 0 ∷ 0 ∷ [])
          ∷ (1 ∷ 1 ∷ 0 ∷ 0 ∷ 2 ∷ 0 ∷ 0 ∷ [])
          ∷ (2 ∷ 6 ∷ 0 ∷ 0 ∷ 2 ∷ 3 ∷ 0 ∷ [])
          ∷ (3 ∷ 7 ∷ 0 ∷ 0 ∷ 2 ∷ 3 ∷ 0 ∷ [])
          ∷ (4 ∷ 9 ∷ 2 ∷ 0 ∷ 2 ∷ 3 ∷ 0 ∷ [])
          ∷ (5 ∷ 9 ∷ 1 ∷ 0 ∷ 2 ∷ 3 ∷ 0 ∷ [])
          ∷ (6 ∷ 2 ∷ 0 ∷ 0 ∷ 4 ∷ 9 ∷ 0 ∷ [])
          ∷ (7 ∷ 2 ∷ 0 ∷ 0 ∷ 5 ∷ 10 ∷ 0 ∷ [])
          ∷ (8 ∷ 2 ∷ 0 ∷ 0 ∷ 6 ∷ 11 ∷ 0 ∷ [])
          ∷ (9 ∷ 2 ∷ 0 ∷ 0 ∷ 7 ∷ 12 ∷ 0 ∷ []) ∷ [],
    )
    -- inputs and outputs are never merged, not even where their labels repeat
    ∷ (
      merging,
      record_of 1 0 0 1 0 0 ∷ record_of 1 0 0 1 0 0 ∷ record_of 2 0 0 3 9 0 ∷ record_of 2 0 0 3 9 0 ∷ [],
      (0 ∷ 0 ∷ 64 ∷ 0 ∷ [])
          ∷ (0 ∷ 1 ∷ 0 ∷ 0 ∷ 1 ∷ 0 ∷ 0 ∷ [])
          ∷ (1 ∷ 1 ∷ 0 ∷ 0 ∷ 1 ∷ 0 ∷ 0 ∷ [])
          ∷ (2 ∷ 2 ∷ 0 ∷ 0 ∷ 3 ∷ 9 ∷ 0 ∷ [])
          ∷ (3 ∷ 2 ∷ 0 ∷ 0 ∷ 3 ∷ 9 ∷ 0 ∷ []) ∷ [],
    )
    ∷ []
