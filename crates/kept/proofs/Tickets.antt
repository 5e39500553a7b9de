-- An accepted ticket: its netlist is sound, and its levels are the one valuation by Kleene's tables. Assumes nothing.
use mathlib.Core.Path.{◌≡◌, ◌∙◌}
use mathlib.Core.Bool.{false}
use mathlib.Core.List.{List}
use Prim.Native.Nat.{ℕ, ◌/◌, ◌≤◌, ◌<◌}
use native.Mathlib.Omega.{arith}
use lib.Dec.{ltb}
use lib.ListN.{length, get_or}
use borrow.Author.Tests.{ltb-false}
use Rattle.std.specs.Prelude.{Ok}
use Rattle.logic.specs.declared.Trit.{Trit}
use Rattle.logic.specs.declared.Trit.TheVariants.{Undef}
use Rattle.cell.specs.Records.{record_at, records_of, cell_record}
use Rattle.cell.proofs.Lists.{records-length, records-at}
use Rattle.loops.proofs.Rank.{rank}
use Rattle.refusals.specs.Refusals.{first_of}
use Rattle.checking.specs.Checking.{netlist_stages}
use Rattle.checking.proofs.Groups.{SizesPass, CheckPasses, sizes-exactly, check-exactly}
use Rattle.netlist.specs.Netlist.{Netlist, cell_in}
use Rattle.levels.specs.Evaluate.{levels}
use Rattle.calls.specs.Calls.{decoded, check_verdict}
use Rattle.levels_laws.specs.Instances.{LevelsFit}
use Rattle.levels_laws.proofs.Levels.{levels-are, levels-only}
use Rattle.kept.proofs.Sound.{Sound}
use Rattle.kept.proofs.Accepted.{netlist-length, netlist-record, accepted-sound}

module _ (words : ℕ) (t : List ℕ) (pass : check_verdict words t ≡ Ok tt) where
  groups : CheckPasses words t
  unfolding check_verdict
  groups = (check-exactly words t).0 pass

  sizes : SizesPass words t
  sizes = (sizes-exactly words t).0 groups.sizes

  pub ticket-passes : first_of (netlist_stages (records_of t)) ≡ Ok tt
  ticket-passes = groups.netlist

  pub ticket-work : ltb words 16384 ≡ false
  ticket-work = sizes.work

  few : length (records_of t) ≤ 512
  few =
      let e : length t / 16 ≤ 512 = ltb-false 512 (length t / 16) sizes.few in
      omega (arith, records-length t)

  abbrev ticket : Netlist
  ticket = decoded t

  slots-records : length ticket.cells ≡ length (records_of t)
  slots-records = netlist-length (records_of t) (omega (arith, few)) ticket-passes

  pub ticket-count : length ticket.cells ≡ length t / 16
  ticket-count = slots-records ∙ records-length t

  pub ticket-few : length ticket.cells ≤ 512
  ticket-few = omega (arith, few, slots-records)

  pub ticket-record : (s : ℕ) → s < length ticket.cells → cell_record (get_or ticket.bits s 0) (cell_in ticket.cells s) ≡ record_at t s
  ticket-record s l =
      netlist-record (records_of t) (omega (arith, few)) ticket-passes s (omega (arith, slots-records)) ∙ records-at t s (omega (arith, ticket-count))

  pub ticket-sound : Sound ticket (rank (records_of t))
  ticket-sound = accepted-sound (records_of t) (omega (arith, few)) ticket-passes

-- the levels of an accepted ticket fit all its cells, and no others do
pub ticket-levels : (words : ℕ) (t : List ℕ) → check_verdict words t ≡ Ok tt → (given : List Trit) → LevelsFit (decoded t).cells given (levels (decoded t).cells given)
ticket-levels words t pass given = levels-are (decoded t).cells (rank (records_of t)) (ticket-sound words t pass).ranked given

pub ticket-levels-only : (words : ℕ) (t : List ℕ) → check_verdict words t ≡ Ok tt → (given ls : List Trit) → LevelsFit (decoded t).cells given ls
    → (s : ℕ) → s < length (decoded t).cells → get_or ls s Undef ≡ get_or (levels (decoded t).cells given) s Undef
ticket-levels-only words t pass given ls fit = levels-only (decoded t).cells (rank (records_of t)) (ticket-sound words t pass).ranked given ls fit
