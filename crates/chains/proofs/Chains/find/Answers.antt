use Rattle.chains.proofs.Searching.{searching-starts, searching-finds, searching-falls, searching-more, searching-ends}
use Rattle.chains.proofs.Chains.find.Goals as goal

pub loop-at-init : goal.loop-at-init
loop-at-init g c = search searching-starts

pub returns-then-test : goal.returns-then-test
returns-then-test g c = search searching-finds

pub loop-at-smaller : goal.loop-at-smaller
loop-at-smaller g c = search searching-falls

pub loop-at-preserved : goal.loop-at-preserved
loop-at-preserved g c = search searching-more

pub returns : goal.returns
returns g c = search searching-ends
