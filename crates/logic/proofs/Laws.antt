-- Laws of levels, each by one test over the whole table.
-- Assumes nothing.
use mathlib.Core.Path.{◌≡◌}
use Prim.Native.Nat.{◌≤◌}
use lib.Dec.{leb}
use borrow.Author.Tests.{leb-true}
use Rattle.logic.specs.declared.Trit.{Trit}
use Rattle.logic.specs.declared.Trit.TheVariants.{Undef}
use Rattle.logic.specs.Levels.{not_level, and_level, or_level, xor_level, mux_level, byte_of, eq_level, refines, Refines}
use Rattle.logic.proofs.Table.{Claims, passes, same, finer, given, at}

pub byte-bound : (x : Trit) → byte_of x ≤ 2
byte-bound x = leb-true (byte_of x) 2 (at 1 (λ x. passes (leb (byte_of x) 2)) tt x)

pub not_not : (x : Trit) → not_level (not_level x) ≡ x
unfolding eq_level
not_not = at 1 (λ x. same (not_level (not_level x)) x) tt

pub not-fixed : (x : Trit) → not_level x ≡ x → x ≡ Undef
unfolding eq_level
not-fixed = at 1 (λ x. given (same (not_level x) x) (same x Undef)) tt

abbrev pub Commutative : (Trit → Trit → Trit) → Type 0
Commutative f = (x y : Trit) → f x y ≡ f y x

abbrev commutative : (Trit → Trit → Trit) → Claims 2
commutative f x y = same (f x y) (f y x)

pub and_comm : Commutative and_level
unfolding eq_level
and_comm = at 2 (commutative and_level) tt

pub or_comm : Commutative or_level
unfolding eq_level
or_comm = at 2 (commutative or_level) tt

pub xor_comm : Commutative xor_level
unfolding eq_level
xor_comm = at 2 (commutative xor_level) tt

abbrev pub Idempotent : (Trit → Trit → Trit) → Type 0
Idempotent f = (x : Trit) → f x x ≡ x

pub and-idem : Idempotent and_level
unfolding eq_level
and-idem = at 1 (λ x. same (and_level x x) x) tt

pub or-idem : Idempotent or_level
unfolding eq_level
or-idem = at 1 (λ x. same (or_level x x) x) tt

-- refinement is an order, undefined below all
pub refines-refl : (x : Trit) → Refines x x
unfolding refines eq_level
refines-refl = at 1 (λ x. finer x x) tt

pub refines-trans : (x y z : Trit) → Refines y x → Refines z y → Refines z x
unfolding refines eq_level
refines-trans = at 3 (λ x y z. given (finer y x) (given (finer z y) (finer z x))) tt

pub refines-antisym : (x y : Trit) → Refines y x → Refines x y → x ≡ y
unfolding refines eq_level
refines-antisym = at 2 (λ x y. given (finer y x) (given (finer x y) (same x y))) tt

pub refines-undef : (y : Trit) → Refines y Undef
unfolding refines eq_level
refines-undef = at 1 (λ y. finer y Undef) tt

-- monotone in every argument
abbrev pub Monotone₁ : (Trit → Trit) → Type 0
Monotone₁ f = (x x' : Trit) → Refines x' x → Refines (f x') (f x)

abbrev pub Monotone₂ : (Trit → Trit → Trit) → Type 0
Monotone₂ f = (x x' y y' : Trit) → Refines x' x → Refines y' y → Refines (f x' y') (f x y)

abbrev pub Monotone₃ : (Trit → Trit → Trit → Trit) → Type 0
Monotone₃ f = (x x' y y' z z' : Trit) → Refines x' x → Refines y' y → Refines z' z → Refines (f x' y' z') (f x y z)

abbrev monotone₂ : (Trit → Trit → Trit) → Claims 4
monotone₂ f x x' y y' = given (finer x' x) (given (finer y' y) (finer (f x' y') (f x y)))

pub not-monotone : Monotone₁ not_level
unfolding refines eq_level
not-monotone = at 2 (λ x x'. given (finer x' x) (finer (not_level x') (not_level x))) tt

pub and-monotone : Monotone₂ and_level
unfolding refines eq_level
and-monotone = at 4 (monotone₂ and_level) tt

pub or-monotone : Monotone₂ or_level
unfolding refines eq_level
or-monotone = at 4 (monotone₂ or_level) tt

pub xor-monotone : Monotone₂ xor_level
unfolding refines eq_level
xor-monotone = at 4 (monotone₂ xor_level) tt

pub mux-monotone : Monotone₃ mux_level
unfolding refines eq_level
mux-monotone =
    at 6
    (λ x x' y y' z z'. given (finer x' x) (given (finer y' y) (given (finer z' z) (finer (mux_level x' y' z') (mux_level x y z)))))
    tt
