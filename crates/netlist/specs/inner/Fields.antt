-- Operands at the fields of a record, and renamed there. Public contracts do not cite this file. Assumes nothing: these are definitions.
use Rattle.std.specs.Prelude.{cond, not, ℕ, ◌+◌, ◌*◌, ◌/◌, ◌%◌, eqb}
use Rattle.value.specs.declared.Net.{Net}
use Rattle.value.specs.Value.{net_at}
use Rattle.kinds.specs.declared.Sort.TheVariants as sort
use Rattle.kinds.specs.Kinds.{is_known, kind_of, number_of, is_used, is_operand_use}
use Rattle.cell.specs.declared.Record.{Record}
use Rattle.cell.specs.Operands.{field_of, is_operand}
use Rattle.cell.specs.Records.{record_of, cell_of, cell_record}
use Rattle.netlist.specs.declared.fields.Operands.{Operands}
use Rattle.netlist.specs.Shape.{visit_mut}

-- what the cell of a record keeps of it
unfoldable pub plain_fields : Record → Record
plain_fields r =
    let k = kind_of r.kind in
    record_of (cond (is_known r.kind) r.kind (number_of sort.Buf)) (cond (not (eqb k.flags 0)) (r.flags % 2 + r.flags / 2 % 2 * 2) 0) r.bit
    (cond (is_known r.kind) r.a 0) (cond (is_used k.b) r.b 0) (cond (is_operand_use k.c) r.c 0)

-- the net in a field; a constant where there is none
unfoldable pub operand_at : Record → ℕ → Net
operand_at r f = net_at (cond (is_operand r f) (field_of r f) 0)

-- the nets in all fields
unfoldable pub field_operands : Record → Operands
field_operands r = record { 0 = operand_at r 1; 1 = operand_at r 2; 2 = operand_at r 3 }

-- the record with other nets where there are any
abbrev pub field_with : Record → ℕ → Net → ℕ
field_with r f x = cond (is_operand r f) x.0 (field_of r f)

unfoldable pub with_nets : Record → Net → Net → Net → Record
with_nets r x y z = record_of r.kind r.flags r.bit (field_with r 1 x) (field_with r 2 y) (field_with r 3 z)

-- a function put to the nets: at the fields, and by way of the cell
unfoldable pub renamed_fields : (Net → Net) → Record → Record
renamed_fields f r = with_nets r (f (operand_at r 1)) (f (operand_at r 2)) (f (operand_at r 3))

unfoldable pub renamed_record : (Net → Net) → Record → Record
renamed_record f r = cell_record r.bit (visit_mut f (cell_of r))
