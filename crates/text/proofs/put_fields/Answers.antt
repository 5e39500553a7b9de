use Rattle.text.proofs.Text.{spacing-none, spacing-more, spacing-all}
use Rattle.text.proofs.put_fields.Goals as goal

pub loop-x-init : goal.loop-x-init
loop-x-init c = search spacing-none

pub loop-x-preserved : goal.loop-x-preserved
loop-x-preserved c = search spacing-more

pub returns : goal.returns
returns c = search spacing-all
