use Rattle.text.proofs.Text.{record-put}
use Rattle.text.proofs.put_record.Goals as goal

pub returns : goal.returns
returns c = search record-put
