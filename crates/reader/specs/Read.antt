-- What a reader reads, and where it stands (paper, "What must change shape"). Assumes nothing: these are definitions.
use Rattle.std.specs.Prelude.{◌≡◌, Bool, true, false, List, ℕ, ◌+◌, ◌/◌, ltb, length, Option, Some, None}
use Rattle.std.specs.Borrow.{Bor}
use Rattle.cell.specs.declared.Record.{Record}
use Rattle.cell.specs.Records.{record_at}
use Rattle.reader.specs.declared.Reader.{Reader}

-- the bytes of a ticket have a record of this slot
unfoldable pub has_record : List ℕ → ℕ → Bool
has_record t s = ltb s (length t / 16)

-- a reader of these bytes at a slot
abbrev pub standing : Bor (List ℕ) → ℕ → Reader
standing bytes s = record { bytes = bytes; at = s }

-- the reader of the same bytes at the next slot
abbrev pub following : Reader → Reader
following r = standing r.bytes (r.at + 1)

-- what a reader gives, and what it is then: the record where it stands with its slot, and it moves on; or there is none
abbrev pub Reads : Reader → Option (ℕ × Record) → Reader → Type 0
Reads r (Some x) r' = (has_record r.bytes.now r.at ≡ true) × (x ≡ (r.at, record_at r.bytes.now r.at)) × (r' ≡ following r)
Reads r None r' = (has_record r.bytes.now r.at ≡ false) × (r' ≡ r)
