-- What reading an entry takes from a file whose bytes are known. Assumes nothing: these are definitions.
use Rattle.std.specs.Prelude.{List, ℕ, ◌++◌, Option, length}
use Rattle.std.specs.Int.{Width, to_le_bytes}
use Rattle.std.specs.Io.KnownBytes.{Consumes}

-- a piece behind its length, little-endian in so many bits
abbrev pub TakesPiece : Width → Option (List ℕ) → Option (List ℕ) → List ℕ → Type 0
TakesPiece w known left piece = Consumes known left (to_le_bytes w (length piece) ++ piece)
