-- Limits (paper, "When a ticket is turned away"). Assumes nothing: these are definitions.
use Rattle.std.specs.Prelude.{ℕ}

-- u32 words that a call asks of the work slice
abbrev pub work_words : ℕ
work_words = 16384

-- records of a ticket
abbrev pub max_records : ℕ
max_records = 512
