-- Orders of tests that show in the outcome. Assumes nothing.
use mathlib.Core.Path.{◌≡◌, refl}
use Rattle.value.specs.declared.ControlNet.TheVariants.{Pos, Neg}
use Rattle.value.specs.Value.{UNDEF, net_at, eq_net, eq_control, not_control, canonicalize, is_always}
use Rattle.cell.specs.declared.Cell.TheVariants.{Not, Aig}
use Rattle.std.specs.Prelude.{None, Some}
use Rattle.normalize.specs.declared.Change.TheVariants.{Value, Form}
use Rattle.normalize.specs.Outcomes.{first_change, from_control}
use Rattle.aig.specs.Aig.{if_not, if_aig, if_xor, aig_of_not, aig_of_and, aig_of_nand, aig_of_xor, aig_order, aig_rule}

-- undefined is its own inverse: idempotence is asked before contradiction
pub undefined-twice : aig_rule None None (Pos UNDEF) (Pos UNDEF) ≡ Some (Value UNDEF)
unfolding aig_rule aig_order eq_control eq_net not_control canonicalize is_always first_change from_control
undefined-twice = refl

-- the first operand's inverter is merged before the second's
pub first-inverter : aig_rule (Some (Not (net_at 2))) (Some (Not (net_at 3))) (Pos (net_at 8)) (Pos (net_at 9)) ≡ Some (Form (Aig (Neg (net_at 2)) (Pos (net_at 9))))
unfolding aig_rule aig_order eq_control eq_net not_control canonicalize is_always first_change from_control if_not if_aig if_xor aig_of_not aig_of_and aig_of_nand aig_of_xor
first-inverter = refl
