-- What a trial that is as expected says. Assumes nothing: these are definitions.
use Rattle.std.specs.Prelude.{◌≡◌, List, ℕ, length}
use Rattle.outcome.specs.declared.Figures.{Figures}
use Rattle.outcome.specs.Figures.{words_of}
use Rattle.calls.specs.Answers as answers
use Rattle.calls.specs.Answers.{Told}

-- what is told is what the figures say: the number and the answer words
abbrev pub IsTold : Told → Figures → Type 0
IsTold told f = (told.number ≡ f.number) × (answers.words_of told ≡ words_of f)

-- and so for some bytes that a reply of a length held at entry
abbrev pub IsToldFrom : ℕ → (List ℕ → Told) → Figures → Type 0
IsToldFrom len told f = (bytes : List ℕ) × (length bytes ≡ len) × IsTold (told bytes) f
