-- `merge::find_or_insert` meets its contract. Assumes nothing.
use Rattle.merge.proofs.Numbering.{key-is-cell, numbers-found, numbers-new}
use native.Mathlib.Omega.{arith}
use borrow.Author.Rules.{rules}
use Rattle.merge.proofs.find_or_insert.Goals as goal

pub find-requires : goal.find-requires
find-requires c = record { in_bounds = search rules; k_bound = omega arith; entered = search rules; mixed = search rules; cell = search key-is-cell }

pub returns-in-Some : goal.returns-in-Some
returns-in-Some c = search numbers-found

pub returns-in-None : goal.returns-in-None
returns-in-None c = search numbers-new
