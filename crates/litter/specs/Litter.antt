-- Litter: the word of a place, and which places are as they were spilled. Assumes nothing: these are definitions.
use Rattle.std.specs.Prelude.{Bool, cond, ℕ, ◌+◌, ◌%◌, nat_lt, nat_eq}

-- words are 1 to 1031, round a ring that a seed begins
abbrev pub word_at : ℕ → ℕ → ℕ
word_at seed place = (seed + place) % 1031 + 1

-- how many words at its start a call clears of a work slice of a length
abbrev pub cleared_of : ℕ → ℕ
cleared_of lent = cond (nat_lt lent 16384) 0 16384

-- whether the word of a place is as a call must leave it
abbrev pub is_left_at : ℕ → ℕ → ℕ × ℕ → Bool
is_left_at lent seed place = nat_eq place.1 (cond (nat_lt place.0 (cleared_of lent)) 0 (word_at seed place.0))
