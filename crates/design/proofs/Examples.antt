-- The corner of the Rust's look-up. Assumes nothing.
use mathlib.Core.Path.{◌≡◌, refl}
use mathlib.Core.List.{[], ◌∷◌}
use Rattle.value.specs.declared.ControlNet.TheVariants.{Pos}
use Rattle.value.specs.Value.{net_at, eq_net, driver}
use Rattle.cell.specs.declared.Cell.TheVariants.{Input, Not, Aig}
use Rattle.basics.specs.Lists.{tabulate}
use Rattle.netlist.specs.Shape.{visit_mut}
use Rattle.std.specs.Prelude.{Some}
use Rattle.design.specs.Queue.{Design, replace_net, unchanged, followed, map_net_new, find_new_cell}

-- an input, an inverter whose net leads to the input's, and an and-inverter of both, which no rule touched
abbrev untouched : Design
untouched = replace_net (unchanged (Input 1 ∷ Not (net_at 2) ∷ Aig (Pos (net_at 2)) (Pos (net_at 3)) ∷ [])) 1 (net_at 2)

-- it comes with the operands of the ticket
pub stale-operands : find_new_cell untouched (net_at 4) ≡ Some (Aig (Pos (net_at 2)) (Pos (net_at 3)))
unfolding find_new_cell map_net_new followed unchanged tabulate driver eq_net visit_mut
stale-operands = refl
