-- What the kind table says of a record: its operands, and where they lead (paper, "The ticket"). Assumes nothing: these are definitions.
use Rattle.std.specs.Prelude.{Bool, cond, ℕ, eqb, Option, Some, None}
use Rattle.value.specs.declared.Slot.{Slot}
use Rattle.value.specs.declared.Driver.{Driver}
use Rattle.value.specs.declared.Driver.TheVariants as driven
use Rattle.value.specs.Value.{net_at, driver}
use Rattle.kinds.specs.Kinds.{kind_of, use_of, is_operand_use}
use Rattle.cell.specs.declared.Record.{Record}

-- the fields by number: 1 is a, 2 is b, 3 is c
unfoldable pub field_of : Record → ℕ → ℕ
field_of r f = cond (eqb f 1) r.a (cond (eqb f 2) r.b (cond (eqb f 3) r.c 0))

-- a field is an operand: it holds a net
unfoldable pub is_operand : Record → ℕ → Bool
is_operand r f = is_operand_use (use_of (kind_of r.kind) f)

-- a combinational edge leaves a record by a field: the record's level follows from that operand's. So it is for every operand of these
-- kinds. This is judged at the reader; design.rs, `is_comb_edge`, judges the driver and leaves out inputs, which the bit order needs too
unfoldable pub is_comb_edge : Record → ℕ → Bool
is_comb_edge r f = is_operand r f

abbrev pub edge_of : Driver → Option Slot
edge_of (driven.Const t) = None
edge_of (driven.Cell s) = Some s

-- where the combinational edge of a field leads
unfoldable pub edge_at : Record → ℕ → Option Slot
edge_at r f = cond (is_comb_edge r f) (edge_of (driver (net_at (field_of r f)))) None
