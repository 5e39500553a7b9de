-- Replacements that are followed to the end. Assumes nothing: these are definitions.
use Rattle.std.specs.Prelude.{◌≡◌, List}
use Rattle.value.specs.declared.Net.{Net}
use Rattle.value.specs.Value.{driver}
use Rattle.design.specs.Queue.{driven_to, map_net_new}

-- a net that no replacement leads on from
abbrev pub Final : List Net → Net → Type 0
Final rs m = driven_to rs m (driver m) ≡ m

-- the look-up of a net ends: its steps did not run out before a final net was met
abbrev pub Ends : List Net → Net → Type 0
Ends rs n = Final rs (map_net_new rs n)
