-- The words from k on are left as they must be just if all are.
use Rattle.std.proofs.Common.{◌≡◌, ℕ, Bool, drop}
use Rattle.std.specs.List.{list_all, enumerate_from}
use Rattle.litter.specs.Litter.{word_at, is_left_at}
use Rattle.litter.proofs.is_left.Given as goal

abbrev pub invariant-loop-k : goal.invariant-loop-k
invariant-loop-k l =
    let left_from : ℕ → Bool = λ n. list_all (is_left_at l.lent l.seed) (enumerate_from n (drop n l.space)) in
    (l.word ≡ word_at l.seed l.k) × (left_from l.k ≡ left_from 0)
