-- `numberer::count_mix` meets its contract. Assumes nothing.
use Rattle.numberer.proofs.Mixing.{counting-none, counting-fits, counting_more, counting-all}
use borrow.Author.Rules.{rules}
use Rattle.numberer.proofs.count_mix.Goals as goal

pub loop-m-init : goal.loop-m-init
loop-m-init c = counting-none _ _

pub overflow_add-count : goal.overflow_add-count
overflow_add-count c = let h = counting-fits _ _ _ c.next_multiple_of-end.ensures.lower_bound c.next_multiple_of-end.ensures.upper_bound _ _ _ c.loop-m.invariant c.requires.in_bounds c.requires.k_bound c.loop-m-test.true _ _ c.from-count.ensures in search rules

pub loop-m-preserved : goal.loop-m-preserved
loop-m-preserved c = counting_more _ _ _ _ c.loop-m.invariant _ c.from-count.ensures

pub returns : goal.returns
returns c = counting-all _ _ _ c.next_multiple_of-end.ensures.lower_bound c.next_multiple_of-end.ensures.upper_bound _ _ _ c.loop-m.invariant c.requires.in_bounds c.requires.k_bound c.loop-m-test.false
