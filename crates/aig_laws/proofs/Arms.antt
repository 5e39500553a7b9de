-- Every outcome of the rules is that of an arm. A fact about the rules is proved arm by arm. Assumes nothing.
use mathlib.Core.Path.{◌≡◌, refl}
use mathlib.Core.Bool.{true, false, ◌&&◌, ◌||◌}
use Rattle.value.specs.declared.Net.{Net}
use Rattle.value.specs.declared.ControlNet.{ControlNet}
use Rattle.value.specs.declared.ControlNet.TheVariants.{Pos, Neg}
use Rattle.value.specs.Value.{UNDEF, ZERO, ONE, eq_net, net, is_positive, is_negative, is_always, not_control, eq_control}
use Rattle.value.proofs.Laws.{net-test, control-test}
use Rattle.cell.specs.declared.Cell.TheVariants.{Not, Xor, Aig}
use Rattle.std.specs.Prelude.{None, Some}
use Rattle.design.specs.Queue.{Source}
use Rattle.normalize.specs.declared.Change.TheVariants.{Value, Form, NotOf}
use Rattle.normalize.specs.Outcomes.{given, from_control, Outcome}
use Rattle.aig.specs.Aig.{not_rule, aig_of_not, and_and, and_with, aig_of_and, nand_and, xor_of, nand_nand, nand_with, aig_of_nand, xor_and, xor_with, aig_of_xor, aig_order, and_xor, xor_xor, xor_order}
use Rattle.basics.proofs.Truth.{and_both, or-either}
use Rattle.aig_laws.specs.Arms.{NotArm, AigArm, XorArm, not_none, not_zero, not_one, not_undef, not_not, aig_none, aig_same, aig_opposite, aig_zero, aig_one, aig_not, and_same, and_opposite, and_and_same, and_and_opposite, nand_same, nand_opposite, nand_and_same, nand_and_opposite, nand_nand_same, nand_nand_opposite, xor_on, xor_and_on, xor_none, xor_same, xor_undef, xor_zero, xor_one, xor_not, xor_with_and, xor_nand, xor_with_xor, xor_both}
use Rattle.aig_laws.proofs.Strings.{has-or_else, has-given, has-if_not, has-aig, has-plain-aig, has-xor}

pub not_arm : (src : Source) (n : Net) → NotArm src n (not_rule src n)
unfolding not_rule
not_arm src n =
    let G : Outcome → Type 0 = NotArm src n in
    let z : G None = not_none refl in
    has-or_else G _ _ (has-given G z (eq_net n ZERO) (Some (Value ONE)) (λ e. not_zero (net-test.same n ZERO e) refl))
    (has-or_else G _ _ (has-given G z (eq_net n ONE) (Some (Value ZERO)) (λ e. not_one (net-test.same n ONE e) refl))
    (has-or_else G _ _ (has-given G z (eq_net n UNDEF) (Some (Value UNDEF)) (λ e. not_undef (net-test.same n UNDEF e) refl))
    (has-if_not G z src (λ v. Some (Value v)) (λ v e. not_not v e refl))))

module _ (src_a src_b : Source) (a b : ControlNet) where
  abbrev G : Outcome → Type 0
  G o = AigArm src_a src_b a b o

  z : G None
  z = aig_none refl

  and-arm : G (aig_of_and src_a src_b a b)
  unfolding aig_of_and and_with and_and
  and-arm = has-aig G z src_a (is_positive a) (λ aa ab. and_with src_b a b aa) (λ aa ab h p.
      has-or_else G _ _ (has-given G z (eq_control aa b) (from_control a) (λ e. and_same aa ab h p (control-test.same aa b e) refl))
      (has-or_else G _ _ (has-given G z (eq_control aa (not_control b)) (Some (Value ZERO)) (λ e. and_opposite aa ab h p (control-test.same aa (not_control b) e) refl))
      (has-aig G z src_b (is_positive b) (and_and a aa) (λ ba bb k q.
      has-or_else G _ _ (has-given G z (eq_control aa ba) (Some (Form (Aig a bb))) (λ e. and_and_same aa ab ba bb h p k q (control-test.same aa ba e) refl))
      (has-given G z (eq_control aa (not_control ba)) (Some (Value ZERO)) (λ e. and_and_opposite aa ab ba bb h p k q (control-test.same aa (not_control ba) e) refl))))))

  nand-arm : G (aig_of_nand src_a src_b a b)
  unfolding aig_of_nand nand_with nand_and nand_nand
  nand-arm = has-aig G z src_a (is_negative a) (nand_with src_b b) (λ aa ab h p.
      has-or_else G _ _ (has-given G z (eq_control aa b) (Some (Form (Aig (not_control ab) b))) (λ e. nand_same aa ab h p (control-test.same aa b e) refl))
      (has-or_else G _ _ (has-given G z (eq_control aa (not_control b)) (from_control b) (λ e. nand_opposite aa ab h p (control-test.same aa (not_control b) e) refl))
      (has-or_else G _ _
      (has-aig G z src_b (is_positive b) (λ ba bb. nand_and b aa ab ba) (λ ba bb k q.
      has-or_else G _ _ (has-given G z (eq_control aa ba) (Some (Form (Aig (not_control ab) b))) (λ e. nand_and_same aa ab ba bb h p k q (control-test.same aa ba e) refl))
      (has-given G z (eq_control aa (not_control ba)) (from_control b) (λ e. nand_and_opposite aa ab ba bb h p k q (control-test.same aa (not_control ba) e) refl))))
      (has-aig G z src_b (is_negative b) (nand_nand aa ab) (λ ba bb k q.
      has-or_else G _ _
      (has-given G z (eq_control aa (not_control ba) && eq_control ab bb) (from_control (not_control ab)) (λ e.
      let f : (eq_control aa (not_control ba) ≡ true) × (eq_control ab bb ≡ true) = and_both _ _ e in
      nand_nand_same aa ab ba bb h p k q (control-test.same aa (not_control ba) f.0) (control-test.same ab bb f.1) refl))
      (has-given G z (eq_control aa (not_control ba) && eq_control ab (not_control bb)) (xor_of aa ab) (λ e.
      let f : (eq_control aa (not_control ba) ≡ true) × (eq_control ab (not_control bb) ≡ true) = and_both _ _ e in
      nand_nand_opposite aa ab ba bb h p k q (control-test.same aa (not_control ba) f.0) (control-test.same ab (not_control bb) f.1) refl)))))))

  xor-arm : G (aig_of_xor src_a src_b a b)
  unfolding aig_of_xor xor_with xor_and
  xor-arm = has-xor G z src_a (xor_with src_b a b) (λ aa ab h.
      has-or_else G _ _ (has-given G z (eq_net aa (net b)) _ (λ e. xor_on aa ab h (net-test.same aa (net b) e) refl))
      (has-aig G z src_b (is_positive b) (λ ba bb. xor_and a b aa ab ba) (λ ba bb k q.
      has-given G z (eq_net aa (net ba)) _ (λ e. xor_and_on aa ab ba bb h k q (net-test.same aa (net ba) e) refl))))

  pub aig_arm : AigArm src_a src_b a b (aig_order src_a src_b a b)
  unfolding aig_order aig_of_not
  aig_arm =
      has-or_else G _ _ (has-given G z (eq_control a b) (from_control a) (λ e. aig_same (control-test.same a b e) refl))
      (has-or_else G _ _ (has-given G z (eq_control a (not_control b) || is_always b false) (Some (Value ZERO)) (λ e.
      or-either (eq_control a (not_control b)) (is_always b false) e (λ f. aig_opposite (control-test.same a (not_control b) f) refl) (λ f. aig_zero f refl)))
      (has-or_else G _ _ (has-given G z (is_always b true) (from_control a) (λ e. aig_one e refl))
      (has-or_else G _ _ (has-if_not G z src_a _ (λ v e. aig_not v e refl))
      (has-or_else G _ _ and-arm (has-or_else G _ _ nand-arm xor-arm)))))

pub xor_arm : (src_a src_b : Source) (a b : Net) → XorArm src_a src_b a b (xor_order src_a src_b a b)
unfolding xor_order and_xor xor_xor
xor_arm src_a src_b a b =
    let H : Outcome → Type 0 = XorArm src_a src_b a b in
    let x : H None = xor_none refl in
    has-or_else H _ _ (has-given H x (eq_net a b) (Some (Value ZERO)) (λ e. xor_same (net-test.same a b e) refl))
    (has-or_else H _ _ (has-given H x (eq_net b UNDEF) (Some (Value UNDEF)) (λ e. xor_undef (net-test.same b UNDEF e) refl))
    (has-or_else H _ _ (has-given H x (eq_net b ZERO) (Some (Value a)) (λ e. xor_zero (net-test.same b ZERO e) refl))
    (has-or_else H _ _ (has-given H x (eq_net b ONE) (Some (Form (Not a))) (λ e. xor_one (net-test.same b ONE e) refl))
    (has-or_else H _ _ (has-if_not H x src_a (λ v. Some (NotOf (Xor v b))) (λ v e. xor_not v e refl))
    (has-or_else H _ _
    (has-plain-aig H x src_a (and_xor b) (λ aa ab h.
    has-or_else H _ _ (has-given H x (eq_control aa (Pos b)) (Some (Form (Aig aa (not_control ab)))) (λ e. xor_with_and aa ab h (control-test.same aa (Pos b) e) refl))
    (has-given H x (eq_control aa (Neg b)) (Some (NotOf (Aig aa (not_control ab)))) (λ e. xor_nand aa ab h (control-test.same aa (Neg b) e) refl))))
    (has-xor H x src_a (xor_xor src_b b) (λ aa ab h.
    has-or_else H _ _ (has-given H x (eq_net aa b) (Some (Value ab)) (λ e. xor_with_xor aa ab h (net-test.same aa b e) refl))
    (has-xor H x src_b (λ ba bb. given (eq_net aa ba) (Some (Form (Xor ab bb)))) (λ ba bb k.
    has-given H x (eq_net aa ba) (Some (Form (Xor ab bb))) (λ e. xor_both aa ab ba bb h k (net-test.same aa ba e) refl))))))))))
