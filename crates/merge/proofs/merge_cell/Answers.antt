-- `merge::merge_cell` meets its contract. Assumes nothing.
use native.Mathlib.Omega.{arith}
use Rattle.merge.proofs.Numbering.{keys-ready, keys-keyed, merges}
use Rattle.merge.proofs.merge_cell.Goals as goal

pub find_or_insert_all-requires : goal.find_or_insert_all-requires
find_or_insert_all-requires c = record { ready = search keys-ready; keyed = search keys-keyed; s_le_e = omega arith; e_le_n = omega arith; s_bound = omega arith }

pub returns : goal.returns
returns c = search merges
