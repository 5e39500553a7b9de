-- A ticket loaded and compacted. Assumes nothing.
use mathlib.Core.Path.{◌≡◌, refl}
use mathlib.Core.List.{List}
use Prim.Native.Nat.{ℕ}
use Rattle.refusals.specs.declared.Refusal.{Refusal}
use Rattle.std.specs.Prelude.{Result}
use Rattle.cell.specs.Records.{records_of}
use Rattle.netlist.specs.inner.Areas.{records_in}
use Rattle.calls.specs.Calls.{compact_bytes}
use Rattle.delivery.specs.inner.Delivery.{Delivers, compacted_in}
use Rattle.delivery.proofs.Delivering.{delivers-from}

pub loaded-delivers : (t : List ℕ) (n : ℕ) (ws ws' reply reply' : List ℕ) (r : Result ℕ Refusal) → records_in n ws ≡ records_of t
    → Delivers (compacted_in n ws) ws ws' reply reply' r → Delivers (compact_bytes t) ws ws' reply reply' r
unfolding compact_bytes
loaded-delivers t n ws ws' reply reply' r loaded d = delivers-from (compacted_in n ws) (compact_bytes t) ws ws ws' reply reply' r (rw loaded) refl d
