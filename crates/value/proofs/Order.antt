-- What a test has to be to sort by, and that both orders are so: that of nets and that of control nets.
-- The derived comparisons answer as these tests.
-- Assumes nothing.
use mathlib.Core.Path.{◌≡◌, refl, ap}
use mathlib.Core.Bool.{Bool, true, false, not, true≢false, false≢true}
use native.Mathlib.Omega.{arith}
use borrow.Author.Tests.{leb-true, leb-false, le-leb}
use Rattle.std.specs.Ordering.{is_le, is_gt, nat_cmp, partial_le, partial_gt}
use Rattle.std.proofs.lemmas.Bool.Decides.{nat_tests}
use Rattle.value.specs.declared.Net.{Net}
use Rattle.value.specs.contracts.ControlNetPartialEq.TheImpl.{eq-value}
use Rattle.value.specs.contracts.NetPartialEq.TheImpl as of_net
use Rattle.value.specs.contracts.ControlNetPartialOrd.TheImpl.{partial_cmp-value}
use Rattle.value.specs.declared.ControlNet.{ControlNet}
use Rattle.value.specs.declared.ControlNet.TheVariants.{Pos, Neg}
use Rattle.value.specs.Value.{eq_net, le_net, eq_control, le_control, net_at}

pub record Order {A : Type 0} (le : A → A → Bool) : Type 0 where
  pub total : (a b : A) → le a b ≡ false → le b a ≡ true
  pub antisym : (a b : A) → le a b ≡ true → le b a ≡ true → a ≡ b
  pub trans : (a b c : A) → le a b ≡ true → le b c ≡ true → le a c ≡ true

pub order-refl : {A : Type 0} {le : A → A → Bool} → Order le → (a : A) → le a a ≡ true
order-refl {A} {le} o a = go (le a a) refl
  where
    go : (t : Bool) → le a a ≡ t → le a a ≡ true
    go true e = e
    go false e = o.total a a e

pub net-order : Order le_net
unfolding le_net
net-order =
    record {
      total = λ a b e. le-leb b.0 a.0 (omega (arith, leb-false a.0 b.0 e));
      antisym = λ a b p q. ap net_at (omega (arith, leb-true a.0 b.0 p, leb-true b.0 a.0 q));
      trans = λ a b c p q. le-leb a.0 c.0 (omega (arith, leb-true a.0 b.0 p, leb-true b.0 c.0 q));
    }

control-total : (a b : ControlNet) → le_control a b ≡ false → le_control b a ≡ true
unfolding le_control
control-total (Pos a) (Pos b) e = net-order.total a b e
control-total (Pos a) (Neg b) e = absurd (true≢false e)
control-total (Neg a) (Pos b) e = refl
control-total (Neg a) (Neg b) e = net-order.total a b e

control-antisym : (a b : ControlNet) → le_control a b ≡ true → le_control b a ≡ true → a ≡ b
unfolding le_control
control-antisym (Pos a) (Pos b) p q = ap Pos (net-order.antisym a b p q)
control-antisym (Pos a) (Neg b) p q = absurd (false≢true q)
control-antisym (Neg a) (Pos b) p q = absurd (false≢true p)
control-antisym (Neg a) (Neg b) p q = ap Neg (net-order.antisym a b p q)

control-trans : (a b c : ControlNet) → le_control a b ≡ true → le_control b c ≡ true → le_control a c ≡ true
unfolding le_control
control-trans (Pos a) (Pos b) (Pos c) p q = net-order.trans a b c p q
control-trans (Pos a) b (Neg c) p q = refl
control-trans (Pos a) (Neg b) (Pos c) p q = absurd (false≢true q)
control-trans (Neg a) (Pos b) c p q = absurd (false≢true p)
control-trans (Neg a) (Neg b) (Pos c) p q = q
control-trans (Neg a) (Neg b) (Neg c) p q = net-order.trans a b c p q

pub control-order : Order le_control
control-order = record { total = control-total; antisym = control-antisym; trans = control-trans }

-- what `==`, `<=` and `>` answer
pub net_eq-is : (a b : Net) → of_net.eq-value.it a b ≡ eq_net a b
unfolding eq_net
net_eq-is a b = refl

pub net_le-is : (a b : Net) → is_le (nat_cmp a.0 b.0) ≡ le_net a b
unfolding le_net
net_le-is a b = grind (arith, nat_tests)

pub control_eq-is : (a b : ControlNet) → eq-value.it a b ≡ eq_control a b
unfolding eq_control eq_net
control_eq-is (Pos a) (Pos b) = refl
control_eq-is (Pos a) (Neg b) = refl
control_eq-is (Neg a) (Pos b) = refl
control_eq-is (Neg a) (Neg b) = refl

pub control_le-is : (a b : ControlNet) → partial_le partial_cmp-value.it a b ≡ le_control a b
unfolding le_control
control_le-is (Pos a) (Pos b) = net_le-is a b
control_le-is (Pos a) (Neg b) = refl
control_le-is (Neg a) (Pos b) = refl
control_le-is (Neg a) (Neg b) = net_le-is a b

pub net_gt-is : (a b : Net) → is_gt (nat_cmp a.0 b.0) ≡ not (le_net a b)
unfolding le_net
net_gt-is a b = grind (arith, nat_tests)

pub control_gt-is : (a b : ControlNet) → partial_gt partial_cmp-value.it a b ≡ not (le_control a b)
unfolding le_control
control_gt-is (Pos a) (Pos b) = net_gt-is a b
control_gt-is (Pos a) (Neg b) = refl
control_gt-is (Neg a) (Pos b) = refl
control_gt-is (Neg a) (Neg b) = net_gt-is a b
