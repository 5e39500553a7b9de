use Rattle.std.proofs.Common.{◌≡◌, ℕ, ◌<◌, Some, slice_get}
use Rattle.litter.specs.Litter.{word_at}
use Rattle.litter.proofs.spill.Given as goal

abbrev pub invariant-loop-k : goal.invariant-loop-k
invariant-loop-k g l =
    (l.word ≡ word_at l.seed l.k)
    × ((k : ℕ) → k < l.k → slice_get l.space k ≡ Some (g.T.Scrap.scrap (word_at l.seed k)))
