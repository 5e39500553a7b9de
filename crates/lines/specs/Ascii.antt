-- The bytes of a text. Assumes nothing: these are definitions.
use mathlib.Core.List as L
use Rattle.std.specs.Prelude.{List, ℕ}
use Prim.Native.Char.{code}
use Prim.Native.String.{String, [], ◌∷◌}

abbrev pub ascii : String → List ℕ
ascii [] = L.[]
ascii (c ∷ s) = L.◌∷◌ (code c) (ascii s)
