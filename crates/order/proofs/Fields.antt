-- Operands by the fields of a record. Assumes nothing.
use Rattle.std.specs.Prelude.{Option, Some, None}
use mathlib.Core.Path.{◌≡◌, refl, ap₂}
use mathlib.Core.Bool.{Bool, true, false, cond}
use Prim.Native.Nat.{ℕ, ◌%◌, ◌/◌}
use lib.Dec.{eqb}
use Rattle.value.specs.declared.Net.{Net}
use Rattle.value.specs.Value.{ZERO, net_at, net, from_net_invert}
use Rattle.kinds.specs.declared.Sort.{Sort}
use Rattle.kinds.specs.declared.Sort.TheVariants as sort
use Rattle.kinds.specs.Kinds.{sort_of, kind_by, kind_of, use_of, is_operand_use}
use Rattle.cell.specs.declared.Record.{Record}
use Rattle.cell.specs.Operands.{field_of, is_operand}
use Rattle.cell.specs.Records.{cell_by, cell_of}
use Rattle.netlist.specs.inner.Fields.{operand_at, field_operands}
use Rattle.netlist.specs.declared.fields.Operands.{Operands}
use Rattle.order.specs.inner.Descent.{operands_of}

-- the net of a control net
plain-net : (x : Net) (b : Bool) → x ≡ net (from_net_invert x b)
plain-net x true = refl
plain-net x false = refl

-- by sort
nets_by : Option Sort → Record → Operands
nets_by s r =
    let at : Bool → ℕ → Net = λ b x. net_at (cond b x 0) in
    record { 0 = at (is_operand_use (kind_by s).a) r.a; 1 = at (is_operand_use (kind_by s).b) r.b; 2 = at (is_operand_use (kind_by s).c) r.c }

by-sort : (s : Option Sort) (r : Record) → nets_by s r ≡ operands_of (cell_by s r)
unfolding nets_by operands_of
by-sort None r = refl
by-sort (Some sort.Input) r = refl
by-sort (Some sort.Output) r = refl
by-sort (Some sort.Buf) r = refl
by-sort (Some sort.Not) r = refl
by-sort (Some sort.And) r = refl
by-sort (Some sort.Or) r = refl
by-sort (Some sort.Xor) r = refl
by-sort (Some sort.Mux) r = refl
by-sort (Some sort.Aig) r =
    ap₂ (λ (x y : Net). record { 0 = x; 1 = y; 2 = ZERO }) (plain-net (net_at r.a) (eqb (r.flags % 2) 1)) (plain-net (net_at r.b) (eqb (r.flags / 2 % 2) 1))

pub field-operands : (r : Record) → field_operands r ≡ operands_of (cell_of r)
unfolding field_operands operand_at is_operand use_of field_of kind_of cell_of nets_by
field-operands r = by-sort (sort_of r.kind) r
