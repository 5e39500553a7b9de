-- The marks and tallies of `compact` in the words of the work slice. Public contracts do not cite this file: at return the words are 0. Assumes
-- nothing: these are definitions.
use Rattle.std.specs.Prelude.{◌≡◌, Bool, cond, ◌&&◌, List, [], ◌∷◌, ℕ, zero, suc, ◌+◌, ◌*◌, ◌<◌, ◌≤◌, eqb, length, get_or}
use Rattle.value.specs.declared.Net.{Net}
use Rattle.cell.specs.declared.Record.{Record}
use Rattle.cell.specs.Records.{cell_of, bytes_of}
use Rattle.netlist.specs.inner.Areas.{word_record, records_in, marks_in, visited_at, order_at, replaced_at, Within}
use Rattle.netlist.specs.Shape.{has_effects}
use Rattle.netlist.specs.inner.Fields.{renamed_record}
use Rattle.design.specs.inner.Words.{netlist_in}
use Rattle.compact.specs.Compact.{keep, is_kept, count_kept, net_map}

-- a slot where an input or an output starts, and it as a list of one
unfoldable pub is_root : List ℕ → ℕ → Bool
is_root ws s = eqb (word_record ws s).bit 0 && has_effects (cell_of (word_record ws s))

unfoldable pub root_at : List ℕ → ℕ → List ℕ
root_at ws s = cond (is_root ws s) (s ∷ []) []

-- whether a slot is kept by the marks, and how many of the first s slots are
abbrev pub kept_at : ℕ → List ℕ → ℕ → Bool
kept_at n ws s = is_kept (netlist_in n ws).bits (marks_in visited_at n ws) s

abbrev pub kept_in : ℕ → List ℕ → ℕ → ℕ
kept_in n ws s = count_kept (netlist_in n ws).bits (marks_in visited_at n ws) s

-- the marks are set as `keep` has them
pub record Marked (n : ℕ) (ws ws' : List ℕ) : Type 0 where
  pub records : records_in n ws' ≡ records_in n ws
  pub marks : marks_in visited_at n ws' ≡ keep (netlist_in n ws')
  pub frame : Within visited_at replaced_at ws ws'

-- request 2026-05: the tally that is kept while going over the slots, 0 before the first, one more behind each that is kept. It equals
-- `count_kept` (proofs/Tally.antt, `tally-is-count`)
unfoldable pub tally : List ℕ → List Bool → ℕ → ℕ
tally bits marks zero = 0
tally bits marks (suc s) = tally bits marks s + cond (is_kept bits marks s) 1 0

abbrev pub tally_in : ℕ → List ℕ → ℕ → ℕ
tally_in n ws s = tally (netlist_in n ws).bits (marks_in visited_at n ws) s

-- the word of a slot: twice the tally before it, and one more if it is kept itself
abbrev pub tally_word : ℕ → List ℕ → ℕ → ℕ
tally_word n ws s = 2 * tally_in n ws s + cond (kept_at n ws s) 1 0

-- these words stand in the area of the order, which is not needed any more; the tally behind the last slot stands in no word: it is `total`
pub record Tallied (n total : ℕ) (ws : List ℕ) : Type 0 where
  pub long : 16384 ≤ length ws
  pub few : n ≤ 1024
  pub each : (s : ℕ) → s < n → get_or ws (order_at + s) 0 ≡ tally_word n ws s
  pub all : total ≡ tally_in n ws n

pub record Tallies (n total : ℕ) (ws ws' : List ℕ) : Type 0 where
  pub tallied : Tallied n total ws'
  pub frame : Within order_at replaced_at ws ws'

-- marked, and then tallied
pub record Keeps (n total : ℕ) (ws ws' : List ℕ) : Type 0 where
  pub records : records_in n ws' ≡ records_in n ws
  pub marks : marks_in visited_at n ws' ≡ keep (netlist_in n ws')
  pub tallied : Tallied n total ws'
  pub frame : Within visited_at replaced_at ws ws'

-- a net's new number
abbrev pub renumbered_in : ℕ → List ℕ → Net → Net
renumbered_in n ws = net_map (netlist_in n ws).bits (marks_in visited_at n ws)

-- the record of a slot with its operands under new numbers
abbrev pub renumbered_record : ℕ → List ℕ → ℕ → Record
renumbered_record n ws s = renamed_record (renumbered_in n ws) (word_record ws s)

-- the bytes of a slot's record under its new number, if it is kept
unfoldable pub kept_bytes : ℕ → List ℕ → ℕ → List ℕ
kept_bytes n ws s = cond (kept_at n ws s) (bytes_of (renumbered_record n ws s)) []
