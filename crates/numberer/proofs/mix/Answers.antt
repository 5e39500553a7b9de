-- `numberer::mix` meets its contract. Assumes nothing.
use Rattle.numberer.specs.inner.Words.{mix_of}
use Rattle.numberer.proofs.mix.Goals as goal

pub returns : goal.returns
unfolding mix_of
returns c = cc
