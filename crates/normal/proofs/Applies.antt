-- Outcomes by whether a rule applies: x ⊴ y says that if x applies, y does. Assumes nothing.
use mathlib.Core.Path.{◌≡◌, refl}
use mathlib.Core.Bool.{Bool, true, false, cond, ◌&&◌, ◌||◌, false≢true}
use Rattle.value.specs.declared.ControlNet.{ControlNet}
use Rattle.value.specs.declared.ControlNet.TheVariants.{Pos, Neg}
use Rattle.value.specs.Value.{net, is_negative}
use Rattle.cell.specs.declared.Cell.TheVariants.{Xor}
use Rattle.std.specs.Prelude.{None, Some}
use Rattle.normalize.specs.declared.Change.TheVariants.{Value, Form, Add, NotOf, AddNotOf}
use Rattle.normalize.specs.Outcomes.{◌or_else◌, first_change, given, from_control, Outcome}
use Rattle.aig.specs.Aig.{differ, xor_of}
use Rattle.basics.proofs.Truth.{and_both, or-either, and-true, or_left, or_right}
use Rattle.aig_laws.proofs.Strings.{has-or_else, has-given}
use Rattle.normal.proofs.Normal.{fires}

infix 10 ◌⊴◌
-- if x applies, y does
pub record ◌⊴◌ (x y : Outcome) : Type 0 where
  pub applies : fires x ≡ true → fires y ≡ true

pub self : (x : Outcome) → x ⊴ x
self x = record { applies = λ e. e }

pub none : (y : Outcome) → None ⊴ y
none y = record { applies = λ e. absurd (false≢true e) }

pub by : (x y : Outcome) → fires y ≡ true → x ⊴ y
by x y e = record { applies = λ f. e }

fires-left : (x y : Outcome) → fires x ≡ true → fires (x or_else y) ≡ true
unfolding first_change
fires-left None y e = absurd (false≢true e)
fires-left (Some c) y e = refl

fires-right : (x y : Outcome) → fires y ≡ true → fires (x or_else y) ≡ true
unfolding first_change
fires-right None y e = e
fires-right (Some c) y e = refl

pub into-left : {x y : Outcome} (z : Outcome) → x ⊴ y → x ⊴ y or_else z
into-left {x} {y} z h = record { applies = λ e. fires-left y z (h.applies e) }

pub into-right : {x z : Outcome} (y : Outcome) → x ⊴ z → x ⊴ y or_else z
into-right {x} {z} y h = record { applies = λ e. fires-right y z (h.applies e) }

pub from-both : {x y z : Outcome} → x ⊴ z → y ⊴ z → x or_else y ⊴ z
from-both {x} {y} {z} = has-or_else (λ o. o ⊴ z) x y

infixr 20 ◌also◌
-- an alternative for each
pub ◌also◌ : {x y x' y' : Outcome} → x ⊴ x' → y ⊴ y' → x or_else y ⊴ x' or_else y'
◌also◌ {x} {y} {x'} {y'} f g = from-both (into-left y' f) (into-right x' g)

pub exchanged : {x y x' y' : Outcome} → x ⊴ y' → y ⊴ x' → x or_else y ⊴ x' or_else y'
exchanged {x} {y} {x'} {y'} f g = from-both (into-right x' f) (into-left y' g)

pub into-given : {x y : Outcome} (t : Bool) → t ≡ true → x ⊴ y → x ⊴ given t y
into-given {x} {y} t e h = rw e h

-- a test that goes over, and an outcome that applies
pub test : {t t' : Bool} (x y : Outcome) → (t ≡ true → t' ≡ true) → fires y ≡ true → given t x ⊴ given t' y
test {t} {t'} x y f e = has-given (λ o. o ⊴ given t' y) (none (given t' y)) t x (λ b. into-given t' (f b) (by x y e))

pub both : (a b a' b' : Bool) → (a ≡ true → a' ≡ true) → (b ≡ true → b' ≡ true) → (a && b) ≡ true → (a' && b') ≡ true
both a b a' b' f g e = let h : (a ≡ true) × (b ≡ true) = and_both a b e in and-true a' b' (f h.0) (g h.1)

pub one_of : (a b a' b' : Bool) → (a ≡ true → a' ≡ true) → (b ≡ true → b' ≡ true) → (a || b) ≡ true → (a' || b') ≡ true
one_of a b a' b' f g e = or-either a b e (λ h. or_left a' b' (f h)) (λ h. or_right a' b' (g h))

pub from-control-fires : (p : ControlNet) → fires (from_control p) ≡ true
unfolding from_control
from-control-fires (Pos n) = refl
from-control-fires (Neg n) = refl

pub xor-of-fires : (p q : ControlNet) → fires (xor_of p q) ≡ true
unfolding xor_of
xor-of-fires p q = go (differ (is_negative p) (is_negative q))
  where
    go : (b : Bool) → fires (cond b (Some (NotOf (Xor (net p) (net q)))) (Some (Form (Xor (net p) (net q))))) ≡ true
    go true = refl
    go false = refl
