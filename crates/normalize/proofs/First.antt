-- The first rule that applies gives the outcome, whatever the rules after it would give. Assumes nothing.
use mathlib.Core.Bool.{Bool, true, false}
use mathlib.Core.Path.{◌≡◌, refl, sym, ap, ◌∙◌}
use Rattle.std.specs.Prelude.{Option, None, Some, is_some}
use Rattle.value.proofs.Order.{control_eq-is, net_gt-is, control_gt-is}
use Rattle.normalize.specs.Outcomes.{Outcome, ◌or_else◌, first_change, given}

stops : (o p : Outcome) → is_some o ≡ true → o ≡ (o or_else p)
unfolding first_change
stops None p e = cc
stops (Some c) p e = refl

goes_on : (o p : Outcome) → is_some o ≡ false → p ≡ (o or_else p)
unfolding first_change
goes_on None p e = refl
goes_on (Some c) p e = cc

pub none-or_else : (o : Outcome) → (None or_else o) ≡ o
unfolding first_change
none-or_else o = refl

pub or_else-none : (o : Outcome) → (o or_else None) ≡ o
unfolding first_change
or_else-none None = refl
or_else-none (Some c) = refl

-- a change that was found, and what it is
pub some-of : {A : Type 0} (o : Option A) (k c : A) → o ≡ Some k → k ≡ c → o ≡ Some c
some-of o k c e f = e ∙ ap Some f

-- Below, t is a test of the code, x the definition's, and r what the code returns.

-- two rules: the first applied, or it did not and the second gave r
pub first : (r o p : Outcome) (t : Bool) → r ≡ o → t ≡ is_some r → t ≡ true → r ≡ (o or_else p)
first r o p t e test h = rw (← e) (stops r p (sym test ∙ h))

pub second : (q r o p : Outcome) (t : Bool) → q ≡ o → t ≡ is_some q → t ≡ false → r ≡ p → r ≡ (o or_else p)
second q r o p t e test h g = rw (← e, ← g) (goes_on q r (sym test ∙ h))

-- a rule with a test, and rules after it: the test held, or it failed and those gave r
pub held : (t x : Bool) (r o p : Outcome) → t ≡ x → t ≡ true → r ≡ o → is_some o ≡ true → r ≡ (given x o or_else p)
held t x r o p test h e a = rw (sym test ∙ h) (e ∙ stops o p a)

pub failed : (t x : Bool) (r o p : Outcome) → t ≡ x → t ≡ false → r ≡ p → r ≡ (given x o or_else p)
unfolding first_change
failed t x r o p test h e = rw (sym test ∙ h) e

-- what the code's comparisons answer, as the tests of the definitions
pub ruleset tests = (control_eq-is, net_gt-is, control_gt-is)

-- rules one after another, as the code has them
pub ruleset in_turn = (first, second, held, failed)
