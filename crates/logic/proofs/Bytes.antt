-- A level and its byte: both round trips, and the test for equal levels.
-- Assumes nothing.
use mathlib.Core.Path.{◌≡◌, refl, sym, ap, ◌∙◌}
use Prim.Native.Nat.{ℕ, zero, suc, ◌≤◌}
use denote.Enum.Bare.{sameb}
use native.Mathlib.Omega.{arith}
use borrow.Author.Tests.{eqb-true, eq-eqb}
use Rattle.logic.specs.contracts.Trit.{the_type}
use Rattle.logic.specs.declared.Trit.{Trit}
use Rattle.logic.specs.declared.Trit.TheVariants.{Zero, One, Undef}
use Rattle.logic.specs.Levels.{byte_of, level_of, eq_level}
use Rattle.logic.proofs.Tests.{Decides, decides}

pub level-byte : (x : Trit) → level_of (byte_of x) ≡ x
unfolding level_of
level-byte Zero = refl
level-byte One = refl
level-byte Undef = refl

pub byte-level : (b : ℕ) → b ≤ 2 → byte_of (level_of b) ≡ b
unfolding level_of
byte-level zero h = refl
byte-level (suc zero) h = refl
byte-level (suc (suc zero)) h = refl
byte-level (suc (suc (suc b))) h = absurd (omega arith)

pub level-test : Decides eq_level
unfolding eq_level
level-test =
    decides eq_level (λ x y e. sym (level-byte x) ∙ ap level_of (eqb-true (byte_of x) (byte_of y) e) ∙ level-byte y)
    (λ x. eq-eqb (byte_of x) (byte_of x) refl)

-- what the derived `==` answers
pub equal-is : (x y : Trit) → sameb the_type x y ≡ eq_level x y
unfolding eq_level
equal-is Zero Zero = refl
equal-is Zero One = refl
equal-is Zero Undef = refl
equal-is One Zero = refl
equal-is One One = refl
equal-is One Undef = refl
equal-is Undef Zero = refl
equal-is Undef One = refl
equal-is Undef Undef = refl
