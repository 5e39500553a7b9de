-- The records of a ticket slot by slot. Assumes nothing.
use mathlib.Core.Path.{◌≡◌}
use mathlib.Core.List.{List}
use Prim.Native.Nat.{ℕ, ◌/◌, ◌<◌, ◌≤◌}
use lib.ListN.{length, get_or-eq_default}
use Rattle.cell.specs.declared.Record.{Record}
use Rattle.basics.proofs.Tables.{tabulate-length, tabulate-at}
use Rattle.cell.specs.Records.{record_of, record_at, records_of, record_in}

module _ (t : List ℕ) where
  pub records-length : length (records_of t) ≡ length t / 16
  unfolding records_of
  records-length = tabulate-length (record_at t) (length t / 16)

  pub records-at : (s : ℕ) → s < length t / 16 → record_in (records_of t) s ≡ record_at t s
  unfolding records_of
  records-at s h = tabulate-at (record_at t) (length t / 16) (record_of 0 0 0 0 0 0) s h

-- past the end there is a record of kind 0
pub record-past : (rs : List Record) (s : ℕ) → length rs ≤ s → record_in rs s ≡ record_of 0 0 0 0 0 0
record-past rs s h = get_or-eq_default rs (record_of 0 0 0 0 0 0) h
