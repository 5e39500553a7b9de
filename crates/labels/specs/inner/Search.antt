-- What the search for a doubled label (request 2026-02) asks of the ticket and of the words, and what its parts answer. Assumes nothing: these
-- are definitions.
use Rattle.std.specs.Prelude.{◌≡◌, Bool, true, false, cond, List, ℕ, ◌+◌, ◌/◌, ◌%◌, ◌<◌, ◌≤◌, length}
use Rattle.cell.specs.declared.Record.{Record}
use Rattle.cell.specs.Limits.{work_words, max_records}
use Rattle.cell.specs.Records.{record_in, record_at, records_of}
use Rattle.netlist.specs.inner.Areas.{Within}
use Rattle.chains.specs.Chains.{Chained}
use Rattle.labels.specs.declared.TheConstants.{LABELS}
use Rattle.labels.specs.Labels.{is_labelled, label_of, doubled_label}

-- the class of a slot; without a label it is in none, as 512 is no class
unfoldable pub class_in : List Record → ℕ → ℕ
class_in rs s = let r = record_in rs s in cond (is_labelled r) (label_of r % 512) 512

-- the words hold the labelled ones of a ticket's first s slots
pub record Listed (t : List ℕ) (s : ℕ) (ws : List ℕ) : Type 0 where
  pub chained : Chained LABELS (class_in (records_of t)) s ws
  pub long : work_words ≤ length ws

-- what is asked of slot s, whose record is r
pub record Asked (t : List ℕ) (s : ℕ) (r : Record) : Type 0 where
  pub inside : s < length t / 16
  pub few : length t / 16 ≤ max_records
  pub is : r ≡ record_at t s
  pub labelled : is_labelled r ≡ true

-- whether slot s repeats a label; if not, the words hold it too
pub record Steps (t : List ℕ) (s : ℕ) (ws ws' : List ℕ) (b : Bool) : Type 0 where
  pub told : b ≡ doubled_label (records_of t) s
  pub listed : b ≡ false → Listed t (s + 1) ws'
  pub frame : Within 0 1536 ws ws'
