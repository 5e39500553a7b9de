use native.Mathlib.Omega.{arith}
use lib.Dec.{eqb}
use mathlib.Core.Path.{◌∙◌}
use Rattle.std.proofs.Common.{rules}
use Rattle.std.proofs.Common.{tests}
use Rattle.std.proofs.lemmas.Iterator.{YieldsList-from_range}
use Rattle.std.proofs.lemmas.Iterator.Consumers.{YieldsList-from_filter, count_from_yields_List}
use Rattle.netlist.specs.inner.Areas.{word_record}
use Rattle.levels.proofs.Slots.{counted}
use Rattle.levels.proofs.count_kind.Goals as goal

pub returns : goal.returns
returns c =
    count_from_yields_List c.filter.result _ c.count.ensures.ran
    (YieldsList-from_filter _ (λ s. eqb (word_record c.args.work.now s).kind c.args.kind) (YieldsList-from_range 0 _ c.args.n c.filter.ensures.source (omega arith))
    c.filter.ensures.closure (λ x b q k. search (rules, tests)))
    ∙ counted c.args.n c.args.kind c.args.work.now
