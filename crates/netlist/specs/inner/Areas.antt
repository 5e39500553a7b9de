-- A netlist and its lists in the words of the work slice, 1,024 slots. Public contracts do not cite this file: at return the words are 0.
-- Assumes nothing: these are definitions.
use Rattle.std.specs.Prelude.{◌≡◌, Bool, not, ◌&&◌, List, [], ◌∷◌, ℕ, ◌+◌, ◌*◌, ◌/◌, ◌%◌, ◌<◌, ◌≤◌, eqb, length, get_or, set}
use Rattle.cell.specs.declared.Record.{Record}
use Rattle.cell.specs.Limits.{work_words}
use Rattle.cell.specs.Records.{record_of}
use Rattle.basics.specs.Lists.{tabulate}

-- four words a slot, from word 0 on: kind, flags and bit in one, then a, b, c
unfoldable pub word_record : List ℕ → ℕ → Record
word_record ws s =
    let w = get_or ws (s * 4) 0 in
    record_of (w % 256) (w / 256 % 256) (w / 65536) (get_or ws (s * 4 + 1) 0) (get_or ws (s * 4 + 2) 0) (get_or ws (s * 4 + 3) 0)

unfoldable pub store_words : List ℕ → ℕ → Record → List ℕ
store_words ws s r =
    set (set (set (set ws (s * 4) (r.kind + 256 * (r.flags + 256 * r.bit))) (s * 4 + 1) r.a) (s * 4 + 2) r.b) (s * 4 + 3) r.c

-- the records of the first n slots
unfoldable pub records_in : ℕ → List ℕ → List Record
records_in n ws = tabulate (word_record ws) n

-- behind them areas of a word a slot, each up to where the next begins: the marks of a walk; the order that it gives; what nets are replaced
-- by; a figure of each slot, its level or its stamp
abbrev pub visited_at : ℕ
visited_at = 4096

abbrev pub order_at : ℕ
order_at = 5120

abbrev pub replaced_at : ℕ
replaced_at = 6144

abbrev pub figures_at : ℕ
figures_at = 7168

-- the numberer's areas: of its keys a number each, a word; the keys, four words each, counted in words and as `word_record` counts
abbrev pub mixes_at : ℕ
mixes_at = 8192

abbrev pub numberer_from : ℕ
numberer_from = 9216

abbrev pub numberer_at : ℕ
numberer_at = 2304

-- the keys of a cell that is being merged, four words each, counted both ways; behind them nothing is used
abbrev pub keys_from : ℕ
keys_from = 13312

abbrev pub keys_at : ℕ
keys_at = 3328

abbrev pub free_at : ℕ
free_at = 15360

-- all areas in order: where each begins, and how many words it has
abbrev pub areas : List (ℕ × ℕ)
areas =
    (0, 1024 * 4) ∷ (visited_at, 1024) ∷ (order_at, 1024) ∷ (replaced_at, 1024) ∷ (figures_at, 1024) ∷ (mixes_at, 1024) ∷ (numberer_from, 1024 * 4)
    ∷ (keys_from, 512 * 4) ∷ (free_at, 1024) ∷ []

-- each begins where the one before ends, the first at a word, and the last ends where a call's words do
unfoldable pub in_order : ℕ → List (ℕ × ℕ) → Bool
in_order at [] = eqb at work_words
in_order at (a ∷ rest) = eqb at a.0 && in_order (at + a.1) rest

-- an area's first n words, as numbers and as marks (a word that is not 0)
unfoldable pub words_in : ℕ → ℕ → List ℕ → List ℕ
words_in base n ws = tabulate (λ i. get_or ws (base + i) 0) n

unfoldable pub marks_in : ℕ → ℕ → List ℕ → List Bool
marks_in base n ws = tabulate (λ i. not (eqb (get_or ws (base + i) 0) 0)) n

-- from words ws to ws' none but those from one index up to another changed
pub record Within (from to : ℕ) (ws ws' : List ℕ) : Type 0 where
  pub before : (i : ℕ) → i < from → get_or ws' i 0 ≡ get_or ws i 0
  pub after : (i : ℕ) → to ≤ i → get_or ws' i 0 ≡ get_or ws i 0
  pub same : length ws' ≡ length ws
