-- Where a case begins. Assumes nothing: these are definitions.
use Rattle.std.specs.Prelude.{Bool, false, List, [], ◌∷◌, ℕ}
use Rattle.std.specs.Char.{is_ascii_alphabetic}

-- a text begins with a letter
abbrev pub begins_with_letter : List ℕ → Bool
begins_with_letter [] = false
begins_with_letter (x ∷ xs) = is_ascii_alphabetic x
