-- `levels_call::stimulus_verdict` meets its contract. Assumes nothing.
use native.Mathlib.Omega.{arith}
use borrow.Author.Rules.{rules}
use Rattle.levels_call.proofs.Stimulus.{wrong-count, no-level, tested}
use Rattle.levels_call.proofs.stimulus_verdict.Goals as goal

pub returns-then-stimulus-count : goal.returns-then-stimulus-count
returns-then-stimulus-count c = search wrong-count

pub returns-in-Some : goal.returns-in-Some
returns-in-Some c =
    let found = c.in-Some.ensures in
    no-level _ _ _ _ c.count_kind-count.ensures (search rules) _ found.0 found.1 (λ k l. found.2 k 0 (omega arith) l)

pub returns-in-None : goal.returns-in-None
returns-in-None c = tested _ _ _ _ c.count_kind-count.ensures (search rules) (λ k l. c.in-None.ensures k 0 (omega arith) l)
