-- The places from k on are kept just if all are.
use Rattle.std.proofs.Common.{◌≡◌, ◌||◌, ℕ, Bool, nat_lt, drop}
use Rattle.std.specs.List.{list_all, enumerate_from}
use Rattle.litter.specs.Litter.{word_at}
use Rattle.litter.proofs.is_kept_behind.Given as goal

abbrev pub invariant-loop-k : goal.invariant-loop-k
invariant-loop-k g l =
    let kept_from : ℕ → Bool = λ n. list_all (λ place. nat_lt place.0 l.written || g.T.PartialEq.eq place.1 (g.T.Scrap.scrap (word_at l.seed place.0))) (enumerate_from n (drop n l.space)) in
    (l.word ≡ word_at l.seed l.k) × (kept_from l.k ≡ kept_from 0)
