-- `numberer::find_first` meets its contract. Assumes nothing.
use Rattle.numberer.proofs.Seeking.{seeking-none, seeking-found, seeking-more, seeking-end}
use Rattle.numberer.proofs.Mixing.{mixed-at}
use native.Mathlib.Omega.{arith}
use borrow.Author.Rules.{rules}
use Rattle.numberer.proofs.find_first.Goals as goal

pub loop-i-init : goal.loop-i-init
loop-i-init c = search seeking-none

pub same_at-requires : goal.same_at-requires
same_at-requires c = record { i_bound = omega arith; mixed_at = search mixed-at; x_value = search rules }

pub overflow_add-i : goal.overflow_add-i
overflow_add-i c = omega arith

pub from_cell_index-requires : goal.from_cell_index-requires
from_cell_index-requires c = omega arith

pub returns-then-same_at : goal.returns-then-same_at
returns-then-same_at c = search seeking-found

pub loop-i-preserved : goal.loop-i-preserved
loop-i-preserved c = search seeking-more

pub returns : goal.returns
returns c = search seeking-end
