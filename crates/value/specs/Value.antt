-- Nets and control nets, after netlist/src/value.rs. Clauses and tests stand in the order of the Rust's arms.
-- Assumes nothing: these are definitions.
use Rattle.std.specs.Prelude.{Bool, true, false, cond, not, ◌&&◌, ℕ, ◌+◌, ◌-◌, eqb, leb}
use Rattle.logic.specs.declared.Trit.{Trit}
use Rattle.logic.specs.declared.Trit.TheVariants.{Zero, One, Undef}
use Rattle.value.specs.declared.Net.{Net}
use Rattle.value.specs.declared.Slot.{Slot}
use Rattle.value.specs.declared.ControlNet.{ControlNet}
use Rattle.value.specs.declared.ControlNet.TheVariants.{Pos, Neg}
use Rattle.value.specs.declared.Driver.{Driver}
use Rattle.value.specs.declared.Driver.TheVariants.{Const, Cell}

-- `Net` with an index, and its constants
abbrev pub net_at : ℕ → Net
net_at i = record { 0 = i }

abbrev pub slot_at : ℕ → Slot
slot_at i = record { 0 = i }

abbrev pub UNDEF : Net
UNDEF = net_at 4294967295

abbrev pub ZERO : Net
ZERO = net_at 0

abbrev pub ONE : Net
ONE = net_at 1

-- `From<Trit> for Net`
abbrev pub from_trit : Trit → Net
from_trit Undef = UNDEF
from_trit Zero = ZERO
from_trit One = ONE

-- `PartialEq for Net`, `Ord for Net`
unfoldable pub eq_net : Net → Net → Bool
eq_net a b = eqb a.0 b.0

unfoldable pub le_net : Net → Net → Bool
le_net a b = leb a.0 b.0

-- `Net::from_cell_index`
abbrev pub net_of : Slot → Net
net_of s = net_at (s.0 + 2)

-- `Net::as_cell_index`; the Rust's `Err` is `Const`, and its level that of `Net::as_const`
unfoldable pub driver : Net → Driver
driver n =
    cond (leb 2 n.0 && not (eq_net n UNDEF)) (Cell (slot_at (n.0 - 2)))
    (Const (cond (eq_net n UNDEF) Undef (cond (eq_net n ZERO) Zero One)))

-- `Net::is_const`
abbrev pub constant : Driver → Bool
constant (Const t) = true
constant (Cell s) = false

unfoldable pub is_const : Net → Bool
is_const n = constant (driver n)

-- `ControlNet::from_net_invert`
abbrev pub from_net_invert : Net → Bool → ControlNet
from_net_invert n false = Pos n
from_net_invert n true = Neg n

-- `ControlNet::net`
abbrev pub net : ControlNet → Net
net (Pos n) = n
net (Neg n) = n

-- `ControlNet::is_positive`
abbrev pub is_positive : ControlNet → Bool
is_positive (Pos n) = true
is_positive (Neg n) = false

-- `ControlNet::is_negative`
abbrev pub is_negative : ControlNet → Bool
is_negative (Pos n) = false
is_negative (Neg n) = true

-- `ControlNet::is_always`, by the four arms of `ControlNet::is_active`
unfoldable pub is_always : ControlNet → Bool → Bool
is_always (Pos n) false = eq_net n ZERO
is_always (Neg n) false = eq_net n ONE
is_always (Pos n) true = eq_net n ONE
is_always (Neg n) true = eq_net n ZERO

-- `ControlNet::canonicalize`
unfoldable pub canonicalize : ControlNet → ControlNet
canonicalize (Neg n) =
    cond (eq_net n UNDEF) (Pos n) (cond (eq_net n ZERO) (Pos ONE) (cond (eq_net n ONE) (Pos ZERO) (Neg n)))
canonicalize (Pos n) = Pos n

-- `Not for ControlNet`
abbrev pub opposite : ControlNet → ControlNet
opposite (Pos n) = Neg n
opposite (Neg n) = Pos n

unfoldable pub not_control : ControlNet → ControlNet
not_control c = canonicalize (opposite c)

-- `PartialEq for ControlNet`
unfoldable pub eq_control : ControlNet → ControlNet → Bool
eq_control (Pos a) (Pos b) = eq_net a b
eq_control (Pos a) (Neg b) = false
eq_control (Neg a) (Pos b) = false
eq_control (Neg a) (Neg b) = eq_net a b

-- `Ord for ControlNet`: all positive before all negative, then by index
unfoldable pub le_control : ControlNet → ControlNet → Bool
le_control (Pos a) (Pos b) = le_net a b
le_control (Pos a) (Neg b) = true
le_control (Neg a) (Pos b) = false
le_control (Neg a) (Neg b) = le_net a b
