use Rattle.chains.proofs.Hops.{hopping-stops, hopping-more, hopping-ends}
use Rattle.chains.proofs.Chains.is_longer.Goals as goal

pub returns-in-None : goal.returns-in-None
returns-in-None c = search hopping-stops

pub hops-preserved : goal.hops-preserved
hops-preserved c = search hopping-more

pub returns : goal.returns
returns c = search hopping-ends
