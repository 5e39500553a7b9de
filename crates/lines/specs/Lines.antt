-- The lines that are printed (paper, "Tickets to try"). Assumes nothing: these are definitions.
use Rattle.std.specs.Prelude.{cond, List, [], ◌∷◌, ◌++◌, ℕ, zero, suc, ◌/◌, eqb, length}
use Rattle.cell.specs.declared.Record.{Record}
use Rattle.cell.specs.Records.{record_at}
use Rattle.refusals.specs.declared.Refusal.{Refusal}
use Rattle.refusals.specs.declared.Figures.{Figures}
use Rattle.refusals.specs.Refusals.{figures}
use Rattle.lines.specs.Decimal.{decimal}
use Rattle.lines.specs.Ascii.{ascii}

-- numbers, each behind a space
unfoldable pub spaced : List ℕ → List ℕ
spaced [] = []
spaced (n ∷ ns) = (32 ∷ decimal n) ++ spaced ns

-- such numbers up to the end of the line
abbrev pub to_end : List ℕ → List ℕ
to_end ns = spaced ns ++ (10 ∷ [])

-- the line of a record: slot, kind, flags, bit, a, b, c
unfoldable pub record_line : ℕ → Record → List ℕ
record_line s r = decimal s ++ to_end (r.kind ∷ r.flags ∷ r.bit ∷ r.a ∷ r.b ∷ r.c ∷ [])

abbrev pub refused_word : List ℕ
refused_word = ascii "refused"

-- what is printed of a refusal: number and place, and third, after a 7 only, the field (request 2026-06)
abbrev pub refusal_numbers : Figures → List ℕ
refusal_numbers g = g.number ∷ g.place ∷ cond (eqb g.number 7) (g.field ∷ []) []

-- the line of a refusal
unfoldable pub refusal_line : Refusal → List ℕ
refusal_line x = refused_word ++ to_end (refusal_numbers (figures x))

-- the lines of a ticket's first records, slot by slot
unfoldable pub lines_to : List ℕ → ℕ → List ℕ
lines_to t zero = []
lines_to t (suc s) = lines_to t s ++ record_line s (record_at t s)

unfoldable pub lines_of : List ℕ → List ℕ
lines_of t = lines_to t (length t / 16)
