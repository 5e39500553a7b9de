use Rattle.std.proofs.Common.{◌∙◌}
use Rattle.text.proofs.Text.{number_put}
use Rattle.text.proofs.put_number.Goals as goal

pub returns : goal.returns
returns c = number_put _ _ _ _ _ _ c.ranges.x.fits (c.as_bytes.ensures.value ∙ c.format.ensures.text) c.put_all.ensures
