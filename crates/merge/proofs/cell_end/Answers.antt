-- `merge::cell_end` meets its contract. Assumes nothing.
use borrow.Author.Rules.{rules}
use Rattle.std.proofs.iter.runs.Sources.{ranges}
use Rattle.merge.proofs.Cells.{cell-ends}
use Rattle.merge.proofs.cell_end.Goals as goal

-- `get_or` at j, of which nothing is used, has the search look at the item for j
pub returns-clause-value : goal.returns-clause-value
returns-clause-value c =
    cell-ends c.args.n c.args.work.now c.args.s.0 c.unwrap_or.result (search (rules, ranges)) (search (rules, ranges)) (λ j x q a b. search (rules, ranges))
    (λ a. search (rules, ranges))
