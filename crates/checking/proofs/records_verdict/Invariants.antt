use mathlib.Core.Path.{◌≡◌}
use Rattle.std.specs.Prelude.{Ok}
use Rattle.cell.specs.Records.{records_of}
use Rattle.refusals.specs.Refusals.{first_of, slot_by_slot}
use Rattle.checking.specs.Checking.{record_stages}
use Rattle.checking.proofs.records_verdict.Given as goal

abbrev pub invariant-loop-s : goal.invariant-loop-s
invariant-loop-s l = Ok tt ≡ first_of (slot_by_slot (record_stages (records_of l.t)) l.s)
