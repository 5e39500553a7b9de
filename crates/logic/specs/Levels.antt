-- Levels, after netlist/src/logic.rs. Clauses stand in the order of the Rust's arms.
-- Assumes nothing: these are definitions.
use Rattle.std.specs.Prelude.{Bool, cond, ◌||◌, ℕ, T, eqb}
use Rattle.logic.specs.declared.Trit.{Trit}
use Rattle.logic.specs.declared.Trit.TheVariants.{Zero, One, Undef}

-- `Not for Trit`
abbrev pub not_level : Trit → Trit
not_level One = Zero
not_level Zero = One
not_level Undef = Undef

-- `BitAnd for Trit`
abbrev pub and_level : Trit → Trit → Trit
and_level Zero y = Zero
and_level Undef Zero = Zero
and_level One Zero = Zero
and_level Undef One = Undef
and_level Undef Undef = Undef
and_level One Undef = Undef
and_level One One = One

-- `BitOr for Trit`
abbrev pub or_level : Trit → Trit → Trit
or_level One y = One
or_level Undef One = One
or_level Zero One = One
or_level Undef Zero = Undef
or_level Undef Undef = Undef
or_level Zero Undef = Undef
or_level Zero Zero = Zero

-- `BitXor for Trit`
abbrev pub xor_level : Trit → Trit → Trit
xor_level Undef y = Undef
xor_level One Undef = Undef
xor_level Zero Undef = Undef
xor_level One One = Zero
xor_level One Zero = One
xor_level Zero One = One
xor_level Zero Zero = Zero

-- the byte of a level (paper, module 2), and the level of a byte; one above 2 is refused before (11) and is not asked for
abbrev pub byte_of : Trit → ℕ
byte_of Zero = 0
byte_of One = 1
byte_of Undef = 2

unfoldable pub level_of : ℕ → Trit
level_of b = cond (eqb b 0) Zero (cond (eqb b 1) One Undef)

-- `PartialEq for Trit`
unfoldable pub eq_level : Trit → Trit → Bool
eq_level x y = eqb (byte_of x) (byte_of y)

-- `Trit::mux` for one bit: the arm of the select; an undefined select gives the common level of equal arms, else undefined
abbrev pub mux_level : Trit → Trit → Trit → Trit
mux_level One x y = x
mux_level Zero x y = y
mux_level Undef x y = cond (eq_level x y) x Undef

-- the refinement order (paper, demand 2: a level that was 0 or 1 is kept): x is undefined, or y is x
unfoldable pub refines : Trit → Trit → Bool
refines y x = eq_level x Undef || eq_level y x

unfoldable pub Refines : Trit → Trit → Type 0
Refines y x = T (refines y x)
