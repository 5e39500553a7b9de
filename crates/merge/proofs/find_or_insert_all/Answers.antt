-- `merge::find_or_insert_all` meets its contract. Assumes nothing.
use native.Mathlib.Omega.{arith}
use Rattle.merge.proofs.Numbering.{numbering-none, numbering-keyed, numbering-more, numbering-all}
use borrow.Author.Rules.{rules}
use Rattle.merge.proofs.find_or_insert_all.Goals as goal

pub loop-i-init : goal.loop-i-init
loop-i-init c = search numbering-none

pub find_or_insert-count-requires : goal.find_or_insert-count-requires
find_or_insert-count-requires c = record { ready = search rules; k_bound = omega arith; s_lt_n = omega arith; keyed = search numbering-keyed }

pub loop-i-preserved : goal.loop-i-preserved
loop-i-preserved c = search numbering-more

pub returns : goal.returns
returns c = search numbering-all
