-- The numberer in the words of the work slice. Public contracts do not cite this file: at return the words are 0.
-- Assumes nothing: these are definitions.
use Rattle.std.specs.Prelude.{◌≡◌, List, [], ◌∷◌, ◌++◌, ℕ, ◌+◌, ◌*◌, ◌%◌, ◌<◌, get_or}
use Rattle.cell.specs.declared.Record.{Record}
use Rattle.cell.specs.declared.Cell.{Cell}
use Rattle.cell.specs.Records.{cell_of, cell_record}
use Rattle.basics.specs.Lists.{tabulate}
use Rattle.netlist.specs.inner.Areas.{word_record, Within, keys_from, mixes_at, numberer_at}
use Rattle.numberer.specs.Numberer.{Entry}
use Rattle.design.specs.Queue.{net_in}

-- a number that equal keys have in common; it does not look at the bit
unfoldable pub mix_of : Record → ℕ
mix_of r = r.a % 2048 + 2048 * (r.b % 2048 + 2048 * (r.kind % 16 + 16 * (r.flags % 4 + 4 * (r.c % 16))))

-- keys stand as records whose bit is the slot of the cell
abbrev pub entry_of : Record → Entry
entry_of r = (cell_of r, net_in r.bit)

unfoldable pub numberer_in : ℕ → List ℕ → List Entry
numberer_in k ws = tabulate (λ i. entry_of (word_record ws (numberer_at + i))) k

-- a record is a cell's
pub record IsCell (r : Record) : Type 0 where
  pub back : r ≡ cell_record r.bit (cell_of r)

-- k keys are entered
pub record Entered (k : ℕ) (ws : List ℕ) : Type 0 where
  pub each : (i : ℕ) → i < k → IsCell (word_record ws (numberer_at + i))

-- and their numbers
abbrev pub MixedAt : ℕ → List ℕ → Type 0
MixedAt i ws = get_or ws (mixes_at + i) 0 ≡ mix_of (word_record ws (numberer_at + i))

pub record Mixed (k : ℕ) (ws : List ℕ) : Type 0 where
  pub each : (i : ℕ) → i < k → MixedAt i ws

-- a count that is 0 only if none of the keys has a number
pub record Counts (k x : ℕ) (ws : List ℕ) (r : ℕ) : Type 0 where
  pub none : r ≡ 0 → (i : ℕ) → i < k → get_or ws (mixes_at + i) 0 ≡ x → ⊥

-- a cell is entered behind the first k, for the net of a slot
pub record Inserts (k s : ℕ) (c : Cell) (ws ws' : List ℕ) : Type 0 where
  pub said : numberer_in (k + 1) ws' ≡ numberer_in k ws ++ ((c, net_in s) ∷ [])
  pub entered : Entered k ws → Entered (k + 1) ws'
  pub mixed : Mixed k ws → Mixed (k + 1) ws'
  pub frame : Within mixes_at keys_from ws ws'
