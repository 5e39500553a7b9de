-- The answer words that figures stand for. Assumes nothing: these are definitions.
use Rattle.std.specs.Prelude.{List, [], ◌∷◌, ℕ}
use Rattle.outcome.specs.declared.Figures.{Figures}

-- the first five, and the three behind them, which are 0
abbrev pub words_of : Figures → List ℕ
words_of f = f.place ∷ f.count ∷ f.extra ∷ f.field ∷ f.spare ∷ 0 ∷ 0 ∷ 0 ∷ []
