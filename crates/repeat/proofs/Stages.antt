-- Stages that are passed in any case can be left out. Assumes nothing.
use mathlib.Core.Path.{◌≡◌, ap, ◌∙◌}
use mathlib.Core.Bool.{not}
use mathlib.Core.List.{List, [], ◌∷◌, ◌++◌}
use Prim.Native.Nat.{ℕ, ◌%◌}
use lib.ListN.{length}
use borrow.Author.Tests.{eq-eqb}
use Rattle.std.specs.Prelude.{Ok}
use Rattle.cell.specs.Records.{records_of}
use Rattle.refusals.specs.Refusals.{Stage, first_of}
use Rattle.checking.specs.Checking.{work_stage, length_stage, size_stage, size_group, netlist_stages, check_stages}
use Rattle.refusals.proofs.Stages.{one-exactly, group-out}

-- checking, where the records are whole and pass: 1 and 3 remain
pub checked-later : (words : ℕ) (t : List ℕ) → length t % 16 ≡ 0 → first_of (netlist_stages (records_of t)) ≡ Ok tt → (rest : List Stage)
    → first_of (check_stages words t ++ rest) ≡ first_of (work_stage words ∷ size_stage t ∷ rest)
unfolding check_stages size_group
checked-later words t whole pass rest =
    let records : List Stage = netlist_stages (records_of t) in
    group-out (work_stage words ∷ []) (length_stage t ∷ []) (size_stage t ∷ (records ++ rest))
    (λ e. (one-exactly (length_stage t)).1 (ap not (eq-eqb (length t % 16) 0 whole)))
    ∙ group-out (work_stage words ∷ size_stage t ∷ []) records rest (λ e. pass)
