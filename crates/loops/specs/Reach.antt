-- Loops (paper, refusal 8): a bit reaches itself through operands. Slots are numbers here. Assumes nothing: these are definitions.
use Rattle.std.specs.Prelude.{◌≡◌, Bool, false, ◌||◌, List, map, ℕ, zero, suc, eqb, length, get_or, Option, Some, None}
use Rattle.value.specs.declared.Slot.{Slot}
use Rattle.value.specs.Value.{slot_at}
use Rattle.cell.specs.declared.Record.{Record}
use Rattle.cell.specs.Operands.{edge_at}
use Rattle.cell.specs.Records.{record_in}

-- the relation: slot s reaches slot y by one combinational edge or more
pub data Reaches (rs : List Record) : ℕ → ℕ → Type 0 where
  edge : {s y : ℕ} (f : ℕ) → edge_at (record_in rs s) f ≡ Some (slot_at y) → Reaches rs s y
  path : {s x y : ℕ} (f : ℕ) → edge_at (record_in rs s) f ≡ Some (slot_at x) → Reaches rs x y → Reaches rs s y

abbrev pub OnLoop : List Record → ℕ → Type 0
OnLoop rs s = Reaches rs s s

-- the same computed. An edge of a record leads to a slot with the property p
abbrev pub hits : (ℕ → Bool) → Option Slot → Bool
hits p (Some x) = p x.0
hits p None = false

abbrev pub leads : (ℕ → Bool) → Record → Bool
leads p r = hits p (edge_at r 1) || hits p (edge_at r 2) || hits p (edge_at r 3)

-- one step back: the slots with an edge to y or to a marked slot
unfoldable pub step_back : List Record → ℕ → List Bool → List Bool
step_back rs y marks = map (leads (λ x. eqb x y || get_or marks x false)) rs

-- for each slot, whether it reaches y in at most k steps
unfoldable pub reaching_in : ℕ → List Record → ℕ → List Bool
reaching_in zero rs y = map (λ r. false) rs
reaching_in (suc k) rs y = step_back rs y (reaching_in k rs y)

-- as many steps as there are records are enough: proofs/Reach.antt, `reaches-iff`
unfoldable pub reaches : List Record → ℕ → ℕ → Bool
reaches rs s y = get_or (reaching_in (length rs) rs y) s false

unfoldable pub on_loop : List Record → ℕ → Bool
on_loop rs s = reaches rs s s
