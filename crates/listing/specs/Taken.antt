-- What reading a ticket takes. Assumes nothing: these are definitions.
use Rattle.std.specs.Prelude.{◌≡◌, List, ℕ, Option, Some, IfSome, drop}

-- of known bytes the first so many are gone
abbrev pub TakesMost : ℕ → Option (List ℕ) → Option (List ℕ) → Type 0
TakesMost most known left = IfSome known (λ xs. left ≡ Some (drop most xs))
