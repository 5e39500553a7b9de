use Rattle.std.proofs.Common.{rules}
use Rattle.labels.proofs.Search.{listed-is}
use Rattle.labels.proofs.is_listed.Goals as goal

pub returns : goal.returns
returns c =
    listed-is _ _ _ c.requires.asked _ (search rules) _ _ _ c.requires.listed c.find.ensures (λ i y l p. search rules) _ c.is_some.ensures
