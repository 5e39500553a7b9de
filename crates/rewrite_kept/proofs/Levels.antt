-- The levels of constants, of control nets, of nets for which a cell was looked up, and of outcomes made of control nets. Assumes nothing.
use mathlib.Core.Path.{◌≡◌, refl, sym, ap, ◌∙◌, subst}
use mathlib.Core.Bool.{Bool, true, false, cond, not, false≢true}
use Rattle.logic.specs.declared.Trit.{Trit}
use Rattle.logic.specs.declared.Trit.TheVariants.{Zero, One}
use Rattle.logic.specs.Levels.{not_level, and_level, xor_level}
use Rattle.logic.proofs.Laws.{not_not, and_comm, xor_comm}
use Rattle.value.specs.declared.Net.{Net}
use Rattle.value.specs.declared.ControlNet.{ControlNet}
use Rattle.value.specs.declared.ControlNet.TheVariants.{Pos, Neg}
use Rattle.value.specs.Value.{ZERO, ONE, from_trit, net, from_net_invert, is_positive, is_negative, is_always, not_control}
use Rattle.value.proofs.Laws.{net-test, net-cases, driver-const, not_neg, not-const, not-cell}
use Rattle.cell.specs.declared.Cell.TheVariants.{Not}
use Rattle.std.specs.Prelude.{Some}
use Rattle.design.specs.Queue.{Source}
use Rattle.normalize.specs.Outcomes.{from_control}
use Rattle.aig.specs.Aig.{xor_of}
use Rattle.aig_laws.specs.Arms.{HasAig, HasXor, as_is, turned}
use Rattle.levels_laws.specs.Algebra.{control_value, cell_value}
use Rattle.levels_laws.specs.Instances.{kleene}
use Rattle.rewrite_kept.specs.Outcomes.{Constants, SourceFits, outcome_level}
use Rattle.rewrite_kept.proofs.Tables.{signed, nand, xor-signed}

module _ (v : Net → Trit) where
  abbrev level : ControlNet → Trit
  level p = control_value kleene v p

  pub level-signed : (p : ControlNet) → level p ≡ signed (is_negative p) (v (net p))
  level-signed (Pos n) = refl
  level-signed (Neg n) = refl

  pub level-invert : (n : Net) (b : Bool) → level (from_net_invert n b) ≡ signed b (v n)
  level-invert n true = refl
  level-invert n false = refl

  -- outcomes in place of a cell of level x
  pub from-control : (x : Trit) (p : ControlNet) → outcome_level v x (from_control p) ≡ level p
  unfolding from_control cell_value
  from-control x (Pos n) = refl
  from-control x (Neg n) = refl

  pub xor-of : (x : Trit) (p q : ControlNet) → outcome_level v x (xor_of p q) ≡ xor_level (level p) (level q)
  unfolding xor_of cell_value
  xor-of x (Pos m) (Pos n) = refl
  xor-of x (Pos m) (Neg n) = sym (xor-signed false true (v m) (v n))
  xor-of x (Neg m) (Pos n) = sym (xor-signed true false (v m) (v n))
  xor-of x (Neg m) (Neg n) = sym (xor-signed true true (v m) (v n))

  -- a net for which a cell was looked up
  module _ (n : Net) (src : Source) (fits : SourceFits v n src) where
    pub looked-not : (w : Net) → src ≡ Some (Not w) → v n ≡ not_level (v w)
    unfolding cell_value
    looked-not w e = subst (SourceFits v n) e fits

    pub looked-aig : (p q : ControlNet) → HasAig src p q → v n ≡ and_level (level p) (level q)
    unfolding cell_value
    looked-aig p q (as_is e) = subst (SourceFits v n) e fits
    looked-aig p q (turned e) = subst (SourceFits v n) e fits ∙ and_comm (level q) (level p)

    pub looked-xor : (x y : Net) → HasXor src x y → v n ≡ xor_level (v x) (v y)
    unfolding cell_value
    looked-xor x y (as_is e) = subst (SourceFits v n) e fits
    looked-xor x y (turned e) = subst (SourceFits v n) e fits ∙ xor_comm (v y) (v x)

  -- a control net for whose net one was looked up
  pub looked-and : (a : ControlNet) (src : Source) → SourceFits v (net a) src → (p q : ControlNet) → HasAig src p q → is_positive a ≡ true
      → level a ≡ and_level (level p) (level q)
  looked-and (Pos n) src f p q h s = looked-aig n src f p q h
  looked-and (Neg n) src f p q h s = absurd (false≢true s)

  pub looked-nand : (a : ControlNet) (src : Source) → SourceFits v (net a) src → (p q : ControlNet) → HasAig src p q → is_negative a ≡ true
      → level a ≡ nand (level p) (level q)
  looked-nand (Pos n) src f p q h s = absurd (false≢true s)
  looked-nand (Neg n) src f p q h s = ap not_level (looked-aig n src f p q h)

  pub without_not : (a : ControlNet) (src : Source) → SourceFits v (net a) src → (w : Net) → src ≡ Some (Not w)
      → level (from_net_invert w (not (is_negative a))) ≡ level a
  without_not (Pos n) src f w e = sym (looked-not n src f w e)
  without_not (Neg n) src f w e = sym (not_not (v w)) ∙ sym (ap not_level (looked-not n src f w e))

  module _ (consts : Constants v) where
    pub constant : (t : Trit) → v (from_trit t) ≡ t
    constant t = consts (from_trit t) t (driver-const t)

    pub level-not : (p : ControlNet) → level (not_control p) ≡ not_level (level p)
    level-not (Neg n) = ap level (not_neg n) ∙ sym (not_not (v n))
    level-not (Pos n) =
        net-cases (λ n. level (not_control (Pos n)) ≡ not_level (v n))
        (λ t. ap level (not-const t) ∙ constant (not_level t) ∙ sym (ap not_level (constant t))) (λ n h. ap level (not-cell n h)) n

    pub opposite : (p q : ControlNet) → p ≡ not_control q → level p ≡ not_level (level q)
    opposite p q t = ap level t ∙ level-not q

    pub always : (b : Bool) (p : ControlNet) → is_always p b ≡ true → level p ≡ cond b One Zero
    unfolding is_always
    always true (Pos n) e = ap v (net-test.same n ONE e) ∙ constant One
    always true (Neg n) e = ap not_level (ap v (net-test.same n ZERO e) ∙ constant Zero)
    always false (Pos n) e = ap v (net-test.same n ZERO e) ∙ constant Zero
    always false (Neg n) e = ap not_level (ap v (net-test.same n ONE e) ∙ constant One)
