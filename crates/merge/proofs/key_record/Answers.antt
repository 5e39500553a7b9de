-- `merge::key_record` meets its contract. Assumes nothing.
use Rattle.merge.specs.inner.Words.{key_fields}
use Rattle.merge.proofs.key_record.Goals as goal

pub returns : goal.returns
unfolding key_fields
returns c = cc
