-- Stamps of what a look-up gives. Assumes nothing: these are definitions.
use Rattle.std.specs.Prelude.{List, ℕ, ◌<◌}
use Rattle.value.specs.declared.Net.{Net}
use Rattle.design.specs.Queue.{Source}
use Rattle.normalize.specs.Outcomes.{Outcome}
use Rattle.rewrite.specs.Rewriter.{Rewriter, Lookup, stamp, weight, find_cell}
use Rattle.aig_laws.specs.Reads.{SourceNets, GoodOutcome}

-- the operands of the cell that was looked up are stamped below m
abbrev pub SourceBefore : List ℕ → ℕ → Source → Type 0
SourceBefore ts m src = SourceNets (λ n. stamp ts n < m) src

-- the operands of the cell that is looked up for a net are stamped below the net
abbrev pub Stamped : Lookup → Rewriter → Type 0
Stamped look r = (n : Net) → SourceBefore r.stamps (stamp r.stamps n) (find_cell look r n)

-- the cell that an outcome goes on with, or adds, weighs less than m
abbrev pub Lighter : List ℕ → ℕ → Outcome → Type 0
Lighter ts m = GoodOutcome (λ c. weight ts c < m) (λ n. Unit {0})
