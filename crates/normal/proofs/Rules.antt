-- The tests of the rules are positive: they ask for equal nets, kinds and signs, never for different ones. So a rule that applies to a cell
-- still applies when nets are renamed, even two to one, and operands are exchanged. Assumes nothing.
use mathlib.Core.Path.{◌≡◌, refl, sym, ap, ◌∙◌, subst}
use mathlib.Core.Bool.{Bool, true, false, false≢true}
use mathlib.Core.Logic.{inl, inr, ⊎_elim}
use Rattle.logic.specs.declared.Trit.{Trit}
use Rattle.logic.specs.declared.Trit.TheVariants.{Zero, One, Undef}
use Rattle.logic.specs.Levels.{not_level}
use Rattle.value.specs.declared.Net.{Net}
use Rattle.value.specs.declared.ControlNet.{ControlNet}
use Rattle.value.specs.declared.ControlNet.TheVariants.{Pos, Neg}
use Rattle.value.specs.Value.{UNDEF, ZERO, ONE, from_trit, eq_net, is_const, net, is_positive, is_negative, is_always, not_control, eq_control}
use Rattle.value.proofs.Laws.{net-test, control-test, net-cases, not_neg, not-const, not-cell}
use Rattle.cell.specs.declared.Cell.{Cell}
use Rattle.cell.specs.declared.Cell.TheVariants.{Input, Output, Buf, Not, And, Or, Xor, Mux, Aig}
use Rattle.netlist.specs.Shape.{visit, visit_control, visit_mut}
use Rattle.std.specs.Prelude.{None, Some}
use Rattle.design.specs.Queue.{Source}
use Rattle.normalize.specs.Outcomes.{given, either_way, Outcome}
use Rattle.aig.specs.Aig.{if_not, if_aig, if_xor, not_rule, aig_of_not, and_and, and_with, aig_of_and, nand_and, nand_nand, nand_with, aig_of_nand, xor_and, xor_with, aig_of_xor, aig_order, aig_rule, and_xor, xor_xor, xor_order, xor_rule, simple_aig_opt}
use Rattle.basics.specs.Lists.{All}
use Rattle.basics.proofs.Members.{all-every}
use Rattle.aig_laws.specs.Arms.{HasAig, as_is, turned, HasXor, Has}
use Rattle.aig_laws.proofs.Strings.{has-if_not, has-aig, has-xor, has-turned}
use Rattle.normal.specs.Paired.{exchange, Alike}
use Rattle.normal.proofs.Normal.{fires}
use Rattle.normal.proofs.Applies.{◌⊴◌, self, none, by, into-left, into-right, exchanged, into-given, test, both, one_of, from-control-fires, xor-of-fires, ◌also◌}

-- Cells that a rule looks into
abbrev pub is_ruled : Cell → Bool
is_ruled (Not a) = true
is_ruled (Xor a b) = true
is_ruled (Aig p q) = true
is_ruled (Input l) = false
is_ruled (Output a l) = false
is_ruled (Buf a) = false
is_ruled (And a b) = false
is_ruled (Or a b) = false
is_ruled (Mux a b c) = false

-- constants stay, and no other net becomes one
pub record Fixes (g : Net → Net) : Type 0 where
  pub zero : g ZERO ≡ ZERO
  pub one : g ONE ≡ ONE
  pub undef : g UNDEF ≡ UNDEF
  pub varies : (n : Net) → is_const n ≡ false → is_const (g n) ≡ false

-- the cell c was looked up there, by its new nets and up to exchange
pub record Carried (g : Net → Net) (c : Cell) (src : Source) : Type 0 where
  pub cell : Cell
  pub found : src ≡ Some cell
  pub alike : Alike (visit_mut g c) cell

abbrev pub Leads : (Net → Net) → Source → Source → Type 0
Leads g src src' = (c : Cell) → src ≡ Some c → is_ruled c ≡ true → Carried g c src'

-- what look gives, look' gives for the renamed net
pub record Follows (g : Net → Net) (look look' : Net → Source) : Type 0 where
  pub fixes : Fixes g
  pub known : (n : Net) → Leads g (look n) (look' (g n))

module _ (g : Net → Net) (fixes : Fixes g) where
  abbrev G : ControlNet → ControlNet
  G = visit_control g

  -- Tests
  const-stays : (t : Trit) → g (from_trit t) ≡ from_trit t
  const-stays Zero = fixes.zero
  const-stays One = fixes.one
  const-stays Undef = fixes.undef

  net-goes : (p : ControlNet) → g (net p) ≡ net (G p)
  net-goes (Pos n) = refl
  net-goes (Neg n) = refl

  not-goes : (p : ControlNet) → G (not_control p) ≡ not_control (G p)
  not-goes (Neg n) = rw (not_neg n, not_neg (g n))
  not-goes (Pos n) =
      net-cases (λ n. G (not_control (Pos n)) ≡ not_control (Pos (g n)))
      (λ t. rw (not-const t, const-stays t, not-const t) (ap Pos (const-stays (not_level t))))
      (λ n h. rw (not-cell n h, not-cell (g n) (fixes.varies n h))) n

  same-net : (a b c : Net) → g b ≡ c → eq_net a b ≡ true → eq_net (g a) c ≡ true
  same-net a b c h e = net-test.is_true (g a) c (ap g (net-test.same a b e) ∙ h)

  same : (p q : ControlNet) → eq_control p q ≡ true → eq_control (G p) (G q) ≡ true
  same p q e = control-test.is_true (G p) (G q) (ap G (control-test.same p q e))

  opposed : (p q : ControlNet) → eq_control p (not_control q) ≡ true → eq_control (G p) (not_control (G q)) ≡ true
  opposed p q e = control-test.is_true (G p) (not_control (G q)) (ap G (control-test.same p (not_control q) e) ∙ not-goes q)

  positive : (p : ControlNet) → is_positive p ≡ true → is_positive (G p) ≡ true
  positive (Pos n) e = e
  positive (Neg n) e = e

  negative : (p : ControlNet) → is_negative p ≡ true → is_negative (G p) ≡ true
  negative (Pos n) e = e
  negative (Neg n) e = e

  always : (p : ControlNet) (b : Bool) → is_always p b ≡ true → is_always (G p) b ≡ true
  unfolding is_always
  always (Pos n) false = same-net n ZERO ZERO fixes.zero
  always (Neg n) false = same-net n ONE ONE fixes.one
  always (Pos n) true = same-net n ONE ONE fixes.one
  always (Neg n) true = same-net n ZERO ZERO fixes.zero

  -- Looked-up cells
  not-leads : (src src' : Source) → Leads g src src' → (v : Net) → src ≡ Some (Not v) → src' ≡ Some (Not (g v))
  unfolding visit_mut exchange
  not-leads src src' l v e =
      let c : Carried g (Not v) src' = l (Not v) e refl in
      c.found ∙ sym (ap Some (⊎_elim (λ h. h) (λ h. h) c.alike))

  -- of two operands, f being what the renaming does to each
  over : {A : Type 0} (make : A → A → Cell) (f : A → A) → ((p q : A) → is_ruled (make p q) ≡ true) → ((p q : A) → visit_mut g (make p q) ≡ make (f p) (f q))
      → ((p q : A) → exchange (make p q) ≡ make q p) → (src src' : Source) → Leads g src src' → (p q : A) → Has make src p q → Has make src' (f p) (f q)
  over {A} make f ruled renamed exchanged src src' l = both_ways
    where
      leads : (p q : A) → src ≡ Some (make p q) → Has make src' (f p) (f q)
      leads p q e =
          let c : Carried g (make p q) src' = l (make p q) e (ruled p q) in
          ⊎_elim (λ h. as_is (c.found ∙ ap Some (sym h ∙ renamed p q)))
          (λ h. turned (c.found ∙ ap Some (sym h ∙ ap exchange (renamed p q) ∙ exchanged (f p) (f q)))) c.alike

      both_ways : (p q : A) → Has make src p q → Has make src' (f p) (f q)
      both_ways p q (as_is e) = leads p q e
      both_ways p q (turned e) = has-turned make src' (f q) (f p) (leads q p e)

  aig-over : (src src' : Source) → Leads g src src' → (p q : ControlNet) → HasAig src p q → HasAig src' (G p) (G q)
  unfolding visit_mut exchange
  aig-over = over Aig G (λ p q. refl) (λ p q. refl) (λ p q. refl)

  xor-over : (src src' : Source) → Leads g src src' → (x y : Net) → HasXor src x y → HasXor src' (g x) (g y)
  unfolding visit_mut exchange
  xor-over = over Xor g (λ x y. refl) (λ x y. refl) (λ x y. refl)

  not-over : (src src' : Source) → Leads g src src' → (f f' : Net → Outcome) → ((v : Net) → fires (f' v) ≡ true) → if_not src f ⊴ if_not src' f'
  unfolding if_not
  not-over src src' l f f' h = has-if_not (λ o. o ⊴ if_not src' f') (none (if_not src' f')) src f (λ v e. rw (not-leads src src' l v e) (by _ _ (h (g v))))

  -- both orders of a looked-up cell's operands, under a test
  into-aig : {x : Outcome} (src : Source) (t : Bool) (body : ControlNet → ControlNet → Outcome) (p q : ControlNet)
      → HasAig src p q → t ≡ true → x ⊴ body p q → x ⊴ if_aig src (λ p q. given t (either_way body p q))
  unfolding if_aig
  into-aig src t body p q (as_is e) b h = rw e (into-given t b (into-left (body q p) h))
  into-aig src t body p q (turned e) b h = rw e (into-given t b (into-right (body q p) h))

  aig : (src src' : Source) → Leads g src src' → (t t' : Bool) → (t ≡ true → t' ≡ true) → (body body' : ControlNet → ControlNet → Outcome)
      → ((p q : ControlNet) → body p q ⊴ body' (G p) (G q))
      → if_aig src (λ p q. given t (either_way body p q)) ⊴ if_aig src' (λ p q. given t' (either_way body' p q))
  aig src src' l t t' k body body' h =
      has-aig (λ o. o ⊴ if_aig src' (λ p q. given t' (either_way body' p q))) (none _) src t body
      (λ p q e b. into-aig src' t' body' (G p) (G q) (aig-over src src' l p q e) (k b) (h p q))

  into-xor : {x : Outcome} (src : Source) (body : Net → Net → Outcome) (a b : Net) → HasXor src a b → x ⊴ body a b → x ⊴ if_xor src (either_way body)
  unfolding if_xor
  into-xor src body a b (as_is e) h = rw e (into-left (body b a) h)
  into-xor src body a b (turned e) h = rw e (into-right (body b a) h)

  xor : (src src' : Source) → Leads g src src' → (body body' : Net → Net → Outcome) → ((a b : Net) → body a b ⊴ body' (g a) (g b))
      → if_xor src (either_way body) ⊴ if_xor src' (either_way body')
  xor src src' l body body' h =
      has-xor (λ o. o ⊴ if_xor src' (either_way body')) (none _) src body
      (λ a b e. into-xor src' body' (g a) (g b) (xor-over src src' l a b e) (h a b))

  -- The rules
  not-rule : (src src' : Source) → Leads g src src' → (n : Net) → not_rule src n ⊴ not_rule src' (g n)
  unfolding not_rule
  not-rule src src' l n =
      test _ _ (same-net n ZERO ZERO fixes.zero) refl
      also test _ _ (same-net n ONE ONE fixes.one) refl
      also test _ _ (same-net n UNDEF UNDEF fixes.undef) refl
      also not-over src src' l _ _ (λ v. refl)

  module _ (src_b src_b' : Source) (leads_b : Leads g src_b src_b') where
    and-and : (a aa ba bb : ControlNet) → and_and a aa ba bb ⊴ and_and (G a) (G aa) (G ba) (G bb)
    unfolding and_and
    and-and a aa ba bb = test _ _ (same aa ba) refl also test _ _ (opposed aa ba) refl

    and-with : (a b aa : ControlNet) → and_with src_b a b aa ⊴ and_with src_b' (G a) (G b) (G aa)
    unfolding and_with
    and-with a b aa =
        test _ _ (same aa b) (from-control-fires (G a))
        also test _ _ (opposed aa b) refl
        also aig src_b src_b' leads_b _ _ (positive b) _ _ (and-and a aa)

    nand-and : (b aa ab ba : ControlNet) → nand_and b aa ab ba ⊴ nand_and (G b) (G aa) (G ab) (G ba)
    unfolding nand_and
    nand-and b aa ab ba = test _ _ (same aa ba) refl also test _ _ (opposed aa ba) (from-control-fires (G b))

    nand-nand : (aa ab ba bb : ControlNet) → nand_nand aa ab ba bb ⊴ nand_nand (G aa) (G ab) (G ba) (G bb)
    unfolding nand_nand
    nand-nand aa ab ba bb =
        test _ _ (both _ _ _ _ (opposed aa ba) (same ab bb)) (from-control-fires (not_control (G ab)))
        also test _ _ (both _ _ _ _ (opposed aa ba) (opposed ab bb)) (xor-of-fires (G aa) (G ab))

    nand-with : (b aa ab : ControlNet) → nand_with src_b b aa ab ⊴ nand_with src_b' (G b) (G aa) (G ab)
    unfolding nand_with
    nand-with b aa ab =
        test _ _ (same aa b) refl
        also test _ _ (opposed aa b) (from-control-fires (G b))
        also aig src_b src_b' leads_b _ _ (positive b) _ _ (λ ba bb. nand-and b aa ab ba)
        also aig src_b src_b' leads_b _ _ (negative b) _ _ (nand-nand aa ab)

    xor_with_and : (a b : ControlNet) (aa ab : Net) (on : ControlNet) → xor_and a b aa ab on ⊴ xor_and (G a) (G b) (g aa) (g ab) (G on)
    unfolding xor_and
    xor_with_and a b aa ab on = test _ _ (same-net aa (net on) (net (G on)) (net-goes on)) refl

    xor-with : (a b : ControlNet) (aa ab : Net) → xor_with src_b a b aa ab ⊴ xor_with src_b' (G a) (G b) (g aa) (g ab)
    unfolding xor_with
    xor-with a b aa ab =
        xor_with_and a b aa ab b
        also aig src_b src_b' leads_b _ _ (positive b) _ _ (λ ba bb. xor_with_and a b aa ab ba)

    and_xor_lem : (b : Net) (aa ab : ControlNet) → and_xor b aa ab ⊴ and_xor (g b) (G aa) (G ab)
    unfolding and_xor
    and_xor_lem b aa ab = test _ _ (same aa (Pos b)) refl also test _ _ (same aa (Neg b)) refl

    xor_with_xor : (b aa ab : Net) → xor_xor src_b b aa ab ⊴ xor_xor src_b' (g b) (g aa) (g ab)
    unfolding xor_xor
    xor_with_xor b aa ab =
        test _ _ (same-net aa b (g b) refl) refl
        also xor src_b src_b' leads_b _ _ (λ ba bb. test _ _ (same-net aa ba (g ba) refl) refl)

    module _ (src_a src_a' : Source) (leads_a : Leads g src_a src_a') where
      aig-order : (a b : ControlNet) → aig_order src_a src_b a b ⊴ aig_order src_a' src_b' (G a) (G b)
      unfolding aig_order aig_of_not aig_of_and aig_of_nand aig_of_xor
      aig-order a b =
          test _ _ (same a b) (from-control-fires (G a))
          also test _ _ (one_of _ _ _ _ (opposed a b) (always b false)) refl
          also test _ _ (always b true) (from-control-fires (G a))
          also not-over src_a src_a' leads_a _ _ (λ v. refl)
          also aig src_a src_a' leads_a _ _ (positive a) _ _ (λ aa ab. and-with a b aa)
          also aig src_a src_a' leads_a _ _ (negative a) _ _ (nand-with b)
          also xor src_a src_a' leads_a _ _ (xor-with a b)

      xor-order : (a b : Net) → xor_order src_a src_b a b ⊴ xor_order src_a' src_b' (g a) (g b)
      unfolding xor_order
      xor-order a b =
          test _ _ (same-net a b (g b) refl) refl
          also test _ _ (same-net b UNDEF UNDEF fixes.undef) refl
          also test _ _ (same-net b ZERO ZERO fixes.zero) refl
          also test _ _ (same-net b ONE ONE fixes.one) refl
          also not-over src_a src_a' leads_a _ _ (λ v. refl)
          also aig src_a src_a' leads_a true true (λ e. e) _ _ (and_xor_lem b)
          also xor src_a src_a' leads_a _ _ (xor_with_xor b)

  module _ (look look' : Net → Source) where
    abbrev Led : Net → Type 0
    Led n = Leads g (look n) (look' (g n))

    renamed : (c : Cell) → All Led (visit c) → simple_aig_opt look c ⊴ simple_aig_opt look' (visit_mut g c)
    unfolding simple_aig_opt visit_mut visit All aig_rule xor_rule
    renamed (Not a) l = not-rule (look a) (look' (g a)) l.0 a
    renamed (Aig p q) l =
        let lp : Leads g (look (net p)) (look' (net (G p))) = rw (← net-goes p) l.0 in
        let lq : Leads g (look (net q)) (look' (net (G q))) = rw (← net-goes q) l.1.0 in
        aig-order _ _ lq _ _ lp p q also aig-order _ _ lp _ _ lq q p
    renamed (Xor a b) l = xor-order _ _ l.1.0 _ _ l.0 a b also xor-order _ _ l.0 _ _ l.1.0 b a
    renamed (And a b) l = by _ _ refl
    renamed (Or a b) l = by _ _ refl
    renamed (Input x) l = none None
    renamed (Output a x) l = none None
    renamed (Buf a) l = none None
    renamed (Mux a b c) l = none None

fires-exchanged : (look : Net → Source) (c : Cell) → simple_aig_opt look c ⊴ simple_aig_opt look (exchange c)
unfolding simple_aig_opt exchange aig_rule xor_rule
fires-exchanged look (Aig p q) = exchanged (self _) (self _)
fires-exchanged look (Xor a b) = exchanged (self _) (self _)
fires-exchanged look (Not a) = self _
fires-exchanged look (And a b) = self _
fires-exchanged look (Or a b) = self _
fires-exchanged look (Input l) = self _
fires-exchanged look (Output a l) = self _
fires-exchanged look (Buf a) = self _
fires-exchanged look (Mux a b c) = self _

-- a rule that applies to a cell applies to one alike
pub fires-alike : (look : Net → Source) (c c' : Cell) → Alike c c' → fires (simple_aig_opt look c) ≡ true → fires (simple_aig_opt look c') ≡ true
fires-alike look c c' (inl e) f = subst (λ x. fires (simple_aig_opt look x) ≡ true) e f
fires-alike look c c' (inr e) f = subst (λ x. fires (simple_aig_opt look x) ≡ true) e ((fires-exchanged look c).applies f)

-- and to one by other nets. It is enough to follow the look-ups of the cell's operands
pub fires-over : (g : Net → Net) → Fixes g → (look look' : Net → Source) (c c' : Cell) → All (λ n. Leads g (look n) (look' (g n))) (visit c)
    → Alike (visit_mut g c) c' → fires (simple_aig_opt look c) ≡ true → fires (simple_aig_opt look' c') ≡ true
fires-over g fixes look look' c c' l a f = fires-alike look' (visit_mut g c) c' a ((renamed g fixes look look' c l).applies f)

pub fires-follows : (g : Net → Net) (look look' : Net → Source) → Follows g look look' → (c c' : Cell) → Alike (visit_mut g c) c'
    → fires (simple_aig_opt look c) ≡ true → fires (simple_aig_opt look' c') ≡ true
fires-follows g look look' f c c' = fires-over g f.fixes look look' c c' (all-every _ f.known (visit c))

-- so where no rule applies to the image, none applies
pub still-follows : (g : Net → Net) (look look' : Net → Source) → Follows g look look' → (c c' : Cell) → Alike (visit_mut g c) c'
    → fires (simple_aig_opt look' c') ≡ false → fires (simple_aig_opt look c) ≡ false
still-follows g look look' f c c' a e = go (fires (simple_aig_opt look c)) refl
  where
    go : (b : Bool) → fires (simple_aig_opt look c) ≡ b → b ≡ false
    go true h = absurd (false≢true (sym e ∙ fires-follows g look look' f c c' a h))
    go false h = refl
