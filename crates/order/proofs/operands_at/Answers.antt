-- `order::operands_at` meets its contract. Assumes nothing.
use Rattle.order.proofs.Fields.{field-operands}
use Rattle.order.proofs.operands_at.Goals as goal

pub returns : goal.returns
returns c = rw (← field-operands) cc
