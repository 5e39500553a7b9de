-- The order of two operands matters neither to levels nor to sizes. Assumes nothing.
use native.Mathlib.Omega.{arith}
use Rattle.logic.proofs.Laws.{and_comm, or_comm, xor_comm}
use Rattle.levels_laws.specs.Algebra.{Commutative}
use Rattle.levels_laws.specs.Instances.{kleene, size}

pub kleene-commutes : Commutative kleene
kleene-commutes = record { and_comm = and_comm; or_comm = or_comm; xor_comm = xor_comm }

pub size-commutes : Commutative size
size-commutes = record { and_comm = λ x y. omega arith; or_comm = λ x y. omega arith; xor_comm = λ x y. omega arith }
