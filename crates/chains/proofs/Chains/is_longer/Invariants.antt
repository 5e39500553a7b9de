use Rattle.chains.proofs.Hops.{Hopping}
use Rattle.chains.proofs.Chains.is_longer.Given as goal

abbrev pub invariant-hops : goal.invariant-hops
invariant-hops l = Hopping l.self l.work l.b l.n l.counter l.at
