-- The arms of the rules as facts about levels, each by one test over the whole table: an equation where the arm is exact, a refinement where it
-- makes undefined levels definite. x and y are the levels of a cell's two operands; p, q and r, s those of the operands of the cells looked up for
-- them. Assumes nothing.
use mathlib.Core.Path.{◌≡◌}
use mathlib.Core.Bool.{Bool, true, false, cond, not}
use Rattle.logic.specs.declared.Trit.{Trit}
use Rattle.logic.specs.declared.Trit.TheVariants.{Zero, One, Undef}
use Rattle.logic.specs.Levels.{not_level, and_level, or_level, xor_level, eq_level, refines, Refines}
use Rattle.logic.proofs.Table.{Claim, Claims, Every, same, finer, given, at}
use Rattle.aig.specs.Aig.{differ}

abbrev pub nand : Trit → Trit → Trit
nand x y = not_level (and_level x y)

-- a level, inverted or not
abbrev pub signed : Bool → Trit → Trit
signed b x = cond b (not_level x) x

-- inverters, and the form of or
pub not-kept : (x v : Trit) → x ≡ not_level v → v ≡ not_level x
unfolding eq_level
not-kept = at 2 (λ x v. given (same x (not_level v)) (same v (not_level x))) tt

pub or-as-nand : (x y : Trit) → nand (not_level x) (not_level y) ≡ or_level x y
unfolding eq_level
or-as-nand = at 2 (λ x y. same (nand (not_level x) (not_level y)) (or_level x y)) tt

-- and-inverters
pub and_same : (x y : Trit) → x ≡ y → x ≡ and_level x y
unfolding eq_level
and_same = at 2 (λ x y. given (same x y) (same x (and_level x y))) tt

pub and_opposite : (x y : Trit) → x ≡ not_level y → Refines Zero (and_level x y)
unfolding refines eq_level
and_opposite = at 2 (λ x y. given (same x (not_level y)) (finer Zero (and_level x y))) tt

pub and_zero : (x y : Trit) → y ≡ Zero → Refines Zero (and_level x y)
unfolding refines eq_level
and_zero = at 2 (λ x y. given (same y Zero) (finer Zero (and_level x y))) tt

pub and_one : (x y : Trit) → y ≡ One → x ≡ and_level x y
unfolding eq_level
and_one = at 2 (λ x y. given (same y One) (same x (and_level x y))) tt

-- x is the level f p q, y is tested or the level g r s, and the new level stands to the old one as said
abbrev one_known : (Trit → Trit → Trit) → (Trit → Trit → Claim) → (Trit → Trit → Trit → Trit → Claim) → Claims 4
one_known f test says x y p q = given (same x (f p q)) (given (test p y) (says x y p q))

abbrev two-known : (Trit → Trit → Trit) → (Trit → Trit → Trit) → (Trit → Trit → Claim) → (Trit → Trit → Trit → Trit → Claim) → Claims 6
two-known f g test says x y p q r s = given (same x (f p q)) (given (same y (g r s)) (given (test p r) (says x y q s)))

abbrev equals : Trit → Trit → Claim
equals p y = same p y

abbrev inverse : Trit → Trit → Claim
inverse p y = same p (not_level y)

pub and-with-same : Every 4 (one_known and_level equals (λ x y p q. same x (and_level x y)))
unfolding eq_level
and-with-same = at 4 (one_known and_level equals (λ x y p q. same x (and_level x y))) tt

pub and-with-opposite : Every 4 (one_known and_level inverse (λ x y p q. finer Zero (and_level x y)))
unfolding refines eq_level
and-with-opposite = at 4 (one_known and_level inverse (λ x y p q. finer Zero (and_level x y))) tt

pub and_and_same : Every 6 (two-known and_level and_level equals (λ x y q s. same (and_level x s) (and_level x y)))
unfolding eq_level
and_and_same = at 6 (two-known and_level and_level equals (λ x y q s. same (and_level x s) (and_level x y))) tt

pub and_and_opposite : Every 6 (two-known and_level and_level inverse (λ x y q s. finer Zero (and_level x y)))
unfolding refines eq_level
and_and_opposite = at 6 (two-known and_level and_level inverse (λ x y q s. finer Zero (and_level x y))) tt

pub nand-with-same : Every 4 (one_known nand equals (λ x y p q. finer (and_level (not_level q) y) (and_level x y)))
unfolding refines eq_level
nand-with-same = at 4 (one_known nand equals (λ x y p q. finer (and_level (not_level q) y) (and_level x y))) tt

pub nand-with-opposite : Every 4 (one_known nand inverse (λ x y p q. same y (and_level x y)))
unfolding eq_level
nand-with-opposite = at 4 (one_known nand inverse (λ x y p q. same y (and_level x y))) tt

pub nand_and_same : Every 6 (two-known nand and_level equals (λ x y q s. finer (and_level (not_level q) y) (and_level x y)))
unfolding refines eq_level
nand_and_same = at 6 (two-known nand and_level equals (λ x y q s. finer (and_level (not_level q) y) (and_level x y))) tt

pub nand_and_opposite : Every 6 (two-known nand and_level inverse (λ x y q s. same y (and_level x y)))
unfolding eq_level
nand_and_opposite = at 6 (two-known nand and_level inverse (λ x y q s. same y (and_level x y))) tt

-- both are known, by two tests
abbrev nand-nand : (Trit → Trit → Claim) → (Trit → Trit → Trit → Trit → Claim) → Claims 6
nand-nand test says x y p q r s = given (same x (nand p q)) (given (same y (nand r s)) (given (inverse p r) (given (test q s) (says x y p q))))

pub nand_nand_same : Every 6 (nand-nand equals (λ x y p q. finer (not_level q) (and_level x y)))
unfolding refines eq_level
nand_nand_same = at 6 (nand-nand equals (λ x y p q. finer (not_level q) (and_level x y))) tt

pub nand_nand_opposite : Every 6 (nand-nand inverse (λ x y p q. same (xor_level p q) (and_level x y)))
unfolding eq_level
nand_nand_opposite = at 6 (nand-nand inverse (λ x y p q. same (xor_level p q) (and_level x y))) tt

-- a xor below an and, each inverted or not: on is the level, inverted or not, that the xor's operand p has under the and
abbrev xor-under : Bool → Bool → Claims 4
xor-under a b x on p q = given (same x (signed a (xor_level p q))) (given (same on (signed b p)) (finer (and_level (signed (not (differ a b)) q) on) (and_level x on)))

pub xor_on : (a b : Bool) → Every 4 (xor-under a b)
unfolding refines eq_level
xor_on false false = at 4 (xor-under false false) tt
xor_on false true = at 4 (xor-under false true) tt
xor_on true false = at 4 (xor-under true false) tt
xor_on true true = at 4 (xor-under true true) tt

-- what holds of an and holds of its operand anded further
pub and-under : (u x on s y : Trit) → y ≡ and_level on s → Refines (and_level u on) (and_level x on) → Refines (and_level u y) (and_level x y)
unfolding refines eq_level
and-under = at 5 (λ u x on s y. given (same y (and_level on s)) (given (finer (and_level u on) (and_level x on)) (finer (and_level u y) (and_level x y)))) tt

-- xors
pub xor_same : (x y : Trit) → x ≡ y → Refines Zero (xor_level x y)
unfolding refines eq_level
xor_same = at 2 (λ x y. given (same x y) (finer Zero (xor_level x y))) tt

pub xor_undef : (x y : Trit) → y ≡ Undef → Undef ≡ xor_level x y
unfolding eq_level
xor_undef = at 2 (λ x y. given (same y Undef) (same Undef (xor_level x y))) tt

pub xor_zero : (x y : Trit) → y ≡ Zero → x ≡ xor_level x y
unfolding eq_level
xor_zero = at 2 (λ x y. given (same y Zero) (same x (xor_level x y))) tt

pub xor_one : (x y : Trit) → y ≡ One → not_level x ≡ xor_level x y
unfolding eq_level
xor_one = at 2 (λ x y. given (same y One) (same (not_level x) (xor_level x y))) tt

pub xor_not : (x y v : Trit) → x ≡ not_level v → not_level (xor_level v y) ≡ xor_level x y
unfolding eq_level
xor_not = at 3 (λ x y v. given (same x (not_level v)) (same (not_level (xor_level v y)) (xor_level x y))) tt

pub xor_with_and : Every 4 (one_known and_level equals (λ x y p q. finer (and_level p (not_level q)) (xor_level x y)))
unfolding refines eq_level
xor_with_and = at 4 (one_known and_level equals (λ x y p q. finer (and_level p (not_level q)) (xor_level x y))) tt

pub xor_nand : Every 4 (one_known and_level inverse (λ x y p q. finer (nand p (not_level q)) (xor_level x y)))
unfolding refines eq_level
xor_nand = at 4 (one_known and_level inverse (λ x y p q. finer (nand p (not_level q)) (xor_level x y))) tt

pub xor_with_xor : Every 4 (one_known xor_level equals (λ x y p q. finer q (xor_level x y)))
unfolding refines eq_level
xor_with_xor = at 4 (one_known xor_level equals (λ x y p q. finer q (xor_level x y))) tt

pub xor_both : Every 6 (two-known xor_level xor_level equals (λ x y q s. finer (xor_level q s) (xor_level x y)))
unfolding refines eq_level
xor_both = at 6 (two-known xor_level xor_level equals (λ x y q s. finer (xor_level q s) (xor_level x y))) tt

-- inverters before a xor
pub xor-signed : (a b : Bool) (x y : Trit) → xor_level (signed a x) (signed b y) ≡ signed (differ a b) (xor_level x y)
unfolding eq_level
xor-signed false false = at 2 (λ x y. same (xor_level x y) (xor_level x y)) tt
xor-signed false true = at 2 (λ x y. same (xor_level x (not_level y)) (not_level (xor_level x y))) tt
xor-signed true false = at 2 (λ x y. same (xor_level (not_level x) y) (not_level (xor_level x y))) tt
xor-signed true true = at 2 (λ x y. same (xor_level (not_level x) (not_level y)) (xor_level x y)) tt
