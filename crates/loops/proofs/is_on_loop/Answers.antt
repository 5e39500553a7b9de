-- `loops::is_on_loop` meets its contract. Assumes nothing.
use Rattle.loops.proofs.Search.{visit-begins, tells}
use Rattle.loops.proofs.is_on_loop.Goals as goal

pub visit-requires : goal.visit-requires
visit-requires c = search visit-begins

pub returns : goal.returns
returns c = search tells
