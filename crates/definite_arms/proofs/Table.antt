-- The arms of the table tried at all levels: none changes a level 0 or 1, the thirteen make an undefined one definite, all others are exact.
-- Computed. Assumes nothing.
use mathlib.Core.Path.{refl}
use Rattle.logic.specs.Levels.{eq_level, refines}
use Rattle.value.specs.Value.{eq_net, driver}
use Rattle.basics.specs.Lists.{those, any_of, joined}
use Rattle.levels_laws.specs.Algebra.{net_value, cell_value}
use Rattle.definite_arms.specs.Arms.{makes_definite, arms}
use Rattle.definite_arms.specs.Definite.{assignments, shows, Decided}

pub table-decided : Decided
unfolding eq_level refines eq_net driver those any_of joined net_value cell_value makes_definite arms assignments shows
table-decided = record { keeps = refl; definite = refl; exact = refl }
