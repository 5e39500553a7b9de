-- Text that is put together in a slice. Assumes nothing: these are definitions.
use Rattle.std.specs.Prelude.{◌≡◌, List, ℕ, ◌+◌, ◌≤◌, length}
use Rattle.std.proofs.lemmas.List.Edits.{sets}

-- bytes, at most so many, are put at a place of the text, which stays as it was elsewhere, and the next place is the one behind them
pub record Puts (most : ℕ) (text text' : List ℕ) (at : ℕ) (bytes : List ℕ) (next : ℕ) : Type 0 where
  pub stored : text' ≡ sets text at bytes
  pub place : next ≡ at + length bytes
  pub within : length bytes ≤ most
