-- `merge::put_keys` meets its contract. Assumes nothing.
use native.Mathlib.Omega.{arith}
use Rattle.merge.proofs.Cells.{keying-none, keying-more, keying-all}
use Rattle.merge.proofs.put_keys.Goals as goal

pub loop-i-init : goal.loop-i-init
loop-i-init c = search keying-none

pub put_key-requires : goal.put_key-requires
put_key-requires c = omega arith

pub loop-i-preserved : goal.loop-i-preserved
loop-i-preserved c = search keying-more

pub returns : goal.returns
returns c = search keying-all
