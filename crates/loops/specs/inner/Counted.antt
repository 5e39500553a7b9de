-- How many numbers below a bound have a property. Assumes nothing: these are definitions.
use Rattle.std.specs.Prelude.{Bool, cond, ℕ, zero, suc, ◌+◌}

abbrev pub one : Bool → ℕ
one b = cond b 1 0

unfoldable pub counted : (ℕ → Bool) → ℕ → ℕ
counted p zero = 0
counted p (suc n) = one (p n) + counted p n
