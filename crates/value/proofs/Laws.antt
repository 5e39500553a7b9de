-- Laws of nets, slots and control nets.
-- Assumes nothing.
use mathlib.Core.Path.{◌≡◌, refl, sym, ap, ◌∙◌}
use mathlib.Core.Bool.{Bool, true, false, false≢true, cond, not, ◌&&◌, and-eq-true_iff}
use Prim.Native.Nat.{ℕ, ◌+◌, ◌-◌, ◌≤◌, ◌<◌}
use native.Mathlib.Omega.{arith}
use lib.Dec.{leb}
use borrow.Author.Tests.{eqb-true, eqb-false, eq-eqb, ne_eqb, le-leb, leb-true, leb-false}
use Rattle.logic.specs.declared.Trit.{Trit}
use Rattle.logic.specs.declared.Trit.TheVariants.{Zero, One, Undef}
use Rattle.logic.specs.Levels.{not_level}
use Rattle.logic.proofs.Laws.{not_not, not-fixed as level-fixed}
use Rattle.logic.proofs.Tests.{cond_has, Decides, decides}
use Rattle.value.specs.declared.Net.{Net}
use Rattle.value.specs.declared.Slot.{Slot}
use Rattle.value.specs.declared.ControlNet.{ControlNet}
use Rattle.value.specs.declared.ControlNet.TheVariants.{Pos, Neg}
use Rattle.value.specs.declared.Driver.{Driver}
use Rattle.value.specs.declared.Driver.TheVariants.{Const, Cell}
use Rattle.value.specs.Value.{net_at, slot_at, UNDEF, ZERO, from_trit, eq_net, net_of, driver, constant, is_const, from_net_invert, net, is_positive, is_negative, canonicalize, opposite, not_control, eq_control}

-- equality
pub net-test : Decides eq_net
unfolding eq_net
net-test = decides eq_net (λ a b e. ap net_at (eqb-true a.0 b.0 e)) (λ a. eq-eqb a.0 a.0 refl)

control-same : (a b : ControlNet) → eq_control a b ≡ true → a ≡ b
unfolding eq_control
control-same (Pos a) (Pos b) e = ap Pos (net-test.same a b e)
control-same (Pos a) (Neg b) e = cc
control-same (Neg a) (Pos b) e = cc
control-same (Neg a) (Neg b) e = ap Neg (net-test.same a b e)

control-self : (a : ControlNet) → eq_control a a ≡ true
unfolding eq_control
control-self (Pos a) = net-test.is_true a a refl
control-self (Neg a) = net-test.is_true a a refl

pub control-test : Decides eq_control
control-test = decides eq_control control-same control-self

-- a net and what drives it
abbrev driven_by : Driver → Net
driven_by (Const t) = from_trit t
driven_by (Cell s) = net_of s

below : (b c : Bool) → (b && not c) ≡ false → c ≡ false → b ≡ false
below true c e f = rw f at e
below false c e f = refl

driven : (n : Net) → n ≡ driven_by (driver n)
unfolding driver eq_net
driven n =
    cond_has (λ d. n ≡ driven_by d) (leb 2 n.0 && not (eq_net n UNDEF)) (Cell (slot_at (n.0 - 2)))
    (Const (cond (eq_net n UNDEF) Undef (cond (eq_net n ZERO) Zero One)))
    (λ e. ap net_at (omega (arith, leb-true 2 n.0 ((and-eq-true_iff (leb 2 n.0) (not (eq_net n UNDEF))).0 e).0)))
    (λ e. cond_has (λ t. n ≡ from_trit t) (eq_net n UNDEF) Undef (cond (eq_net n ZERO) Zero One) (net-test.same n UNDEF)
    (λ f. cond_has (λ t. n ≡ from_trit t) (eq_net n ZERO) Zero One (net-test.same n ZERO)
    (λ g. ap net_at (omega (arith, leb-false 2 n.0 (below (leb 2 n.0) (eq_net n UNDEF) e f), eqb-false n.0 0 g)))))

pub driver-const : (t : Trit) → driver (from_trit t) ≡ Const t
unfolding driver eq_net
driver-const Undef = refl
driver-const Zero = refl
driver-const One = refl

pub const_inj : (a b : Trit) → from_trit a ≡ from_trit b → a ≡ b
const_inj a b e = let z : Const a ≡ Const b = sym (driver-const a) ∙ ap driver e ∙ driver-const b in cc

pub const-driver : (n : Net) (t : Trit) → driver n ≡ Const t → n ≡ from_trit t
const-driver n t e = driven n ∙ ap driven_by e

pub driver-cell : (s : Slot) → s.0 ≤ 4294967292 → driver (net_of s) ≡ Cell s
unfolding driver eq_net
driver-cell s h =
    rw (le-leb 2 (s.0 + 2) (omega arith), ne_eqb (s.0 + 2) 4294967295 (λ e. omega arith)) (ap (λ i. Cell (slot_at i)) (omega arith))

pub cell-driver : (n : Net) (s : Slot) → driver n ≡ Cell s → n ≡ net_of s
cell-driver n s e = driven n ∙ ap driven_by e

-- what `Net::from_cell_index` asks, of a slot that `Net::as_cell_index` gave
pub cell-bound : (n : Net) (d : Driver) (s : Slot) → d ≡ driver n → d ≡ Cell s → n.0 < 4294967296 → s.0 ≤ 4294967292
cell-bound n d s p q h =
    let i : n.0 ≡ s.0 + 2 = ap (λ (m : Net). m.0) (cell-driver n s (sym p ∙ q)) in
    omega (arith, defined)
  where
    defined : n.0 ≡ 4294967295 → ⊥
    defined k =
        let e : Cell s ≡ Const Undef = sym q ∙ p ∙ ap driver (ap net_at k) ∙ driver-const Undef in
        let z : ◌≡◌ {A = ℕ} 0 1 = cc in
        omega arith

-- a net and a sign
pub net-of : (n : Net) (b : Bool) → net (from_net_invert n b) ≡ n
net-of n true = refl
net-of n false = refl

pub negative_of : (n : Net) (b : Bool) → is_negative (from_net_invert n b) ≡ b
negative_of n true = refl
negative_of n false = refl

pub control-of : (c : ControlNet) → from_net_invert (net c) (is_negative c) ≡ c
control-of (Pos n) = refl
control-of (Neg n) = refl

pub positive-negative : (c : ControlNet) → is_positive c ≡ not (is_negative c)
positive-negative (Pos n) = refl
positive-negative (Neg n) = refl

-- by cases: a net is one of the constants, or is none
pub net-cases : (P : Net → Type 0) → ((t : Trit) → P (from_trit t)) → ((n : Net) → is_const n ≡ false → P n) → (n : Net) → P n
unfolding is_const
net-cases P p q n = go (driver n) refl
  where
    go : (d : Driver) → driver n ≡ d → P n
    go (Const t) e = rw (const-driver n t e) (p t)
    go (Cell s) e = q n (ap constant e)

pub const-const : (t : Trit) → is_const (from_trit t) ≡ true
unfolding is_const
const-const t = ap constant (driver-const t)

pub differs-const : (n : Net) (t : Trit) → is_const n ≡ false → eq_net n (from_trit t) ≡ false
differs-const n t h = net-test.is_false n (from_trit t) (λ e. false≢true (sym h ∙ ap is_const e ∙ const-const t))

-- canonical forms: a negated constant is the constant of the other level, any other control net stays
pub canonicalize-const : (t : Trit) → canonicalize (Neg (from_trit t)) ≡ Pos (from_trit (not_level t))
unfolding canonicalize eq_net
canonicalize-const Undef = refl
canonicalize-const Zero = refl
canonicalize-const One = refl

pub canonicalize-cell : (n : Net) → is_const n ≡ false → canonicalize (Neg n) ≡ Neg n
unfolding canonicalize
canonicalize-cell n h = rw (differs-const n Undef h, differs-const n Zero h, differs-const n One h)

pub canonicalize-pos : (n : Net) → canonicalize (Pos n) ≡ Pos n
unfolding canonicalize
canonicalize-pos n = refl

pub canonicalize-twice : (c : ControlNet) → canonicalize (canonicalize c) ≡ canonicalize c
canonicalize-twice (Pos n) = ap canonicalize (canonicalize-pos n)
canonicalize-twice (Neg n) =
    net-cases (λ n. canonicalize (canonicalize (Neg n)) ≡ canonicalize (Neg n))
    (λ t. rw canonicalize-const (canonicalize-pos (from_trit (not_level t)))) (λ n h. ap canonicalize (canonicalize-cell n h)) n

-- inverses
pub not-pos : (n : Net) → not_control (Pos n) ≡ canonicalize (Neg n)
unfolding not_control
not-pos n = refl

pub not_neg : (n : Net) → not_control (Neg n) ≡ Pos n
unfolding not_control
not_neg n = canonicalize-pos n

pub not-const : (t : Trit) → not_control (Pos (from_trit t)) ≡ Pos (from_trit (not_level t))
not-const t = not-pos (from_trit t) ∙ canonicalize-const t

pub not-cell : (n : Net) → is_const n ≡ false → not_control (Pos n) ≡ Neg n
not-cell n h = not-pos n ∙ canonicalize-cell n h

pub not-canonical : (c : ControlNet) → canonicalize (not_control c) ≡ not_control c
unfolding not_control
not-canonical c = canonicalize-twice (opposite c)

-- the inverse of the inverse is the canonical form, of undefined too
pub not-twice : (c : ControlNet) → not_control (not_control c) ≡ canonicalize c
not-twice (Pos n) =
    net-cases (λ n. not_control (not_control (Pos n)) ≡ canonicalize (Pos n))
    (λ t. rw (not-const t, not-const (not_level t), not_not t) (sym (canonicalize-pos (from_trit t))))
    (λ n h. rw (not-cell n h, not_neg n) (sym (canonicalize-pos n))) n
not-twice (Neg n) = rw not_neg (not-pos n)

-- undefined alone is its own inverse
pub not-fixed : (c : ControlNet) → not_control c ≡ c → c ≡ Pos UNDEF
not-fixed (Pos n) =
    net-cases (λ n. not_control (Pos n) ≡ Pos n → Pos n ≡ Pos UNDEF)
    (λ t e. ap (λ t. Pos (from_trit t)) (level-fixed t (const_inj (not_level t) t (ap net (sym (not-const t) ∙ e)))))
    (λ n h e. cc (not-cell n h)) n
not-fixed (Neg n) = λ e. cc (not_neg n)

-- negative is what is not positive
pub negative_is : (p : ControlNet) → not (is_positive p) ≡ is_negative p
negative_is (Pos n) = refl
negative_is (Neg n) = refl
