use native.Mathlib.Omega.{arith}
use mathlib.Core.Path.{◌∙◌}
use Rattle.std.proofs.Common.{rules, tests}
use Rattle.std.proofs.lemmas.Iterator.{YieldsList-from_range, YieldsList-from_map}
use Rattle.std.proofs.lemmas.Iterator.Consumers.{sum_from_yields_List, fits_from_yields_list}
use Rattle.checking.proofs.Records.{gates_at, gates-summed, gates-few, counts_all}
use Rattle.checking.proofs.gate_count.Goals as goal

pub sum-requires-clause-fits : goal.sum-requires-clause-fits
sum-requires-clause-fits c =
    fits_from_yields_list c.map.result _
    (YieldsList-from_map _ (gates_at c.args.t.now) (YieldsList-from_range 0 _ c.records.result c.map.ensures.source (omega arith)) c.map.ensures.closure (λ x r q k. search (rules, tests)))
    (omega (arith, gates-summed c.args.t.now c.records.result, gates-few c.args.t.now c.records.result, c.requires))

pub returns : goal.returns
returns c =
    sum_from_yields_List c.map.result _ c.sum.ensures.ran
    (YieldsList-from_map _ (gates_at c.args.t.now) (YieldsList-from_range 0 _ c.records.result c.map.ensures.source (omega arith)) c.map.ensures.closure (λ x r q k. search (rules, tests)))
    ∙ counts_all c.args.t.now c.records.result c.records.ensures
