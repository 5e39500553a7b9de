-- The work slice at return (paper, "When a ticket is turned away"). Assumes nothing: these are definitions.
use Rattle.std.specs.Prelude.{cond, List, ◌++◌, ℕ, ltb, length, drop, replicate}
use Rattle.cell.specs.Limits.{work_words}

-- the first k words, of at least as many, set to 0
unfoldable pub wiped : ℕ → List ℕ → List ℕ
wiped k ws = replicate k 0 ++ drop k ws

-- the first 16,384 words are 0 and the others as they were; a shorter slice is as it was
unfoldable pub cleared : List ℕ → List ℕ
cleared ws = cond (ltb (length ws) work_words) ws (wiped work_words ws)
