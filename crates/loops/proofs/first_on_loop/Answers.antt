-- `loops::first_on_loop` meets its contract. Assumes nothing.
use Rattle.loops.proofs.Search.{seeking-more, seeking-found, seeking-ends}
use Rattle.loops.proofs.first_on_loop.Goals as goal

pub returns-then-is_on_loop : goal.returns-then-is_on_loop
returns-then-is_on_loop c = search seeking-found

pub loop-s-preserved : goal.loop-s-preserved
loop-s-preserved c = search seeking-more

pub returns : goal.returns
returns c = search seeking-ends
