-- Little-endian numbers in a list of bytes (paper, "The ticket"). Assumes nothing: these are definitions.
use Rattle.std.specs.Prelude.{List, [], ◌∷◌, ℕ, ◌+◌, ◌*◌, ◌/◌, ◌%◌, get_or, set}

-- the 16-bit and the 32-bit number whose lowest byte stands at an index; past the end a byte counts as 0
unfoldable pub word16 : List ℕ → ℕ → ℕ
word16 t i = get_or t i 0 + 256 * get_or t (i + 1) 0

unfoldable pub word32 : List ℕ → ℕ → ℕ
word32 t i = get_or t i 0 + 256 * (get_or t (i + 1) 0 + 256 * (get_or t (i + 2) 0 + 256 * get_or t (i + 3) 0))

-- the bytes of a number, lowest first
unfoldable pub bytes16 : ℕ → List ℕ
bytes16 v = v % 256 ∷ v / 256 % 256 ∷ []

unfoldable pub bytes32 : ℕ → List ℕ
bytes32 v = v % 256 ∷ v / 256 % 256 ∷ v / 65536 % 256 ∷ v / 16777216 % 256 ∷ []

-- what the writers of a number leave, byte by byte; past the end nothing is stored
unfoldable pub store16 : List ℕ → ℕ → ℕ → List ℕ
store16 l i v = set (set l i (v % 256)) (i + 1) (v / 256 % 256)

unfoldable pub store32 : List ℕ → ℕ → ℕ → List ℕ
store32 l i v = set (set (set (set l i (v % 256)) (i + 1) (v / 256 % 256)) (i + 2) (v / 65536 % 256)) (i + 3) (v / 16777216 % 256)
