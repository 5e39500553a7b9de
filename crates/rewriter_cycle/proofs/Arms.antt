-- Which rules add a cell: `Normalize` and those for inverters none; those for and-inverters and xors none but for its inverse. Assumes nothing.
use mathlib.Core.Path.{◌≡◌, refl, sym, ap, ◌∙◌}
use mathlib.Core.Bool.{Bool, true, false, cond, not, true≢false}
use Rattle.value.specs.declared.Net.{Net}
use Rattle.value.specs.declared.ControlNet.{ControlNet}
use Rattle.value.specs.declared.ControlNet.TheVariants.{Pos, Neg}
use Rattle.value.specs.Value.{le_net, le_control, net, is_negative, not_control}
use Rattle.cell.specs.declared.Cell.{Cell}
use Rattle.cell.specs.declared.Cell.TheVariants.{Input, Output, Buf, Not, And, Or, Xor, Mux, Aig}
use Rattle.std.specs.Prelude.{None, Some}
use Rattle.design.specs.Queue.{Source}
use Rattle.normalize.specs.declared.Change.{Change}
use Rattle.normalize.specs.declared.Change.TheVariants.{Value, Form, Add, NotOf, AddNotOf}
use Rattle.normalize.specs.Outcomes.{given, from_control, Outcome}
use Rattle.normalize.specs.Normalize.{normalize}
use Rattle.aig.specs.Aig.{differ, not_rule, xor_of, aig_order, aig_rule, xor_order, xor_rule, simple_aig_opt}
use Rattle.aig_laws.proofs.Strings.{has-or_else, has-given}
use Rattle.aig_laws.specs.Arms.{NotArm, not_none, not_zero, not_one, not_undef, not_not, AigArm, aig_none, aig_same, aig_opposite, aig_zero, aig_one, aig_not, and_same, and_opposite, and_and_same, and_and_opposite, nand_same, nand_opposite, nand_and_same, nand_and_opposite, nand_nand_same, nand_nand_opposite, xor_on, xor_and_on, XorArm, xor_none, xor_same, xor_undef, xor_zero, xor_one, xor_not, xor_with_and, xor_nand, xor_with_xor, xor_both}
use Rattle.aig_laws.proofs.Arms.{not_arm, aig_arm, xor_arm}

-- whether an outcome adds a cell
abbrev pub adds : Outcome → Bool
adds None = false
adds (Some (Value n)) = false
adds (Some (Form c)) = false
adds (Some (Add c)) = true
adds (Some (NotOf c)) = true
adds (Some (AddNotOf c)) = true

-- `Normalize` and the rules for inverters add no cell
abbrev Unadding : Outcome → Type 0
Unadding o = adds o ≡ false

given-none : (t : Bool) (c : Cell) → Unadding (given t (Some (Form c)))
given-none t c = has-given Unadding refl t (Some (Form c)) (λ e. refl)

pub normalize-adds : (c : Cell) → adds (normalize c) ≡ false
unfolding normalize
normalize-adds (Buf a) = refl
normalize-adds (And a b) = given-none (not (le_net a b)) (And b a)
normalize-adds (Or a b) = given-none (not (le_net a b)) (Or b a)
normalize-adds (Xor a b) = given-none (not (le_net a b)) (Xor b a)
normalize-adds (Aig p q) = given-none (not (le_control p q)) (Aig q p)
normalize-adds (Input l) = refl
normalize-adds (Output a l) = refl
normalize-adds (Not a) = refl
normalize-adds (Mux a b c) = refl

not-unadding : (src : Source) (n : Net) (o : Outcome) → NotArm src n o → Unadding o
not-unadding src n o (not_none e) = ap adds e
not-unadding src n o (not_zero t e) = ap adds e
not-unadding src n o (not_one t e) = ap adds e
not-unadding src n o (not_undef t e) = ap adds e
not-unadding src n o (not_not v t e) = ap adds e

pub not-adds : (src : Source) (n : Net) (o : Outcome) → o ≡ not_rule src n → adds o ≡ false
not-adds src n o e = ap adds e ∙ not-unadding src n (not_rule src n) (not_arm src n)

-- those for and-inverters and xors add one for its inverse alone, never for its net
abbrev adds_net : Outcome → Bool
adds_net None = false
adds_net (Some (Value n)) = false
adds_net (Some (Form c)) = false
adds_net (Some (Add c)) = true
adds_net (Some (NotOf c)) = false
adds_net (Some (AddNotOf c)) = true

abbrev Inverting : Outcome → Type 0
Inverting o = adds_net o ≡ false

control-inverting : (x : ControlNet) → Inverting (from_control x)
unfolding from_control
control-inverting (Pos n) = refl
control-inverting (Neg n) = refl

xor_of-inverting : (aa ab : ControlNet) → Inverting (xor_of aa ab)
unfolding xor_of
xor_of-inverting aa ab = go (differ (is_negative aa) (is_negative ab))
  where
    go : (t : Bool) → Inverting (cond t (Some (NotOf (Xor (net aa) (net ab)))) (Some (Form (Xor (net aa) (net ab)))))
    go true = refl
    go false = refl

module _ (src_a src_b : Source) (a b : ControlNet) (o : Outcome) where
  aig-inverting : AigArm src_a src_b a b o → Inverting o
  aig-inverting (aig_none e) = ap adds_net e
  aig-inverting (aig_same t e) = ap adds_net e ∙ control-inverting a
  aig-inverting (aig_opposite t e) = ap adds_net e
  aig-inverting (aig_zero t e) = ap adds_net e
  aig-inverting (aig_one t e) = ap adds_net e ∙ control-inverting a
  aig-inverting (aig_not v t e) = ap adds_net e
  aig-inverting (and_same aa ab h p t e) = ap adds_net e ∙ control-inverting a
  aig-inverting (and_opposite aa ab h p t e) = ap adds_net e
  aig-inverting (and_and_same aa ab ba bb h p k q t e) = ap adds_net e
  aig-inverting (and_and_opposite aa ab ba bb h p k q t e) = ap adds_net e
  aig-inverting (nand_same aa ab h p t e) = ap adds_net e
  aig-inverting (nand_opposite aa ab h p t e) = ap adds_net e ∙ control-inverting b
  aig-inverting (nand_and_same aa ab ba bb h p k q t e) = ap adds_net e
  aig-inverting (nand_and_opposite aa ab ba bb h p k q t e) = ap adds_net e ∙ control-inverting b
  aig-inverting (nand_nand_same aa ab ba bb h p k q t u e) = ap adds_net e ∙ control-inverting (not_control ab)
  aig-inverting (nand_nand_opposite aa ab ba bb h p k q t u e) = ap adds_net e ∙ xor_of-inverting aa ab
  aig-inverting (xor_on aa ab h t e) = ap adds_net e
  aig-inverting (xor_and_on aa ab ba bb h k q t e) = ap adds_net e

module _ (src_a src_b : Source) (a b : Net) (o : Outcome) where
  xor-inverting : XorArm src_a src_b a b o → Inverting o
  xor-inverting (xor_none e) = ap adds_net e
  xor-inverting (xor_same t e) = ap adds_net e
  xor-inverting (xor_undef t e) = ap adds_net e
  xor-inverting (xor_zero t e) = ap adds_net e
  xor-inverting (xor_one t e) = ap adds_net e
  xor-inverting (xor_not v t e) = ap adds_net e
  xor-inverting (xor_with_and aa ab h t e) = ap adds_net e
  xor-inverting (xor_nand aa ab h t e) = ap adds_net e
  xor-inverting (xor_with_xor aa ab h t e) = ap adds_net e
  xor-inverting (xor_both aa ab ba bb h k t e) = ap adds_net e

module _ (look : Net → Source) where
  aig-nets : (p q : ControlNet) → Inverting (simple_aig_opt look (Aig p q))
  unfolding simple_aig_opt aig_rule
  aig-nets p q =
      let s : Source = look (net p) in
      let t : Source = look (net q) in
      has-or_else Inverting (aig_order s t p q) (aig_order t s q p)
      (aig-inverting s t p q _ (aig_arm s t p q)) (aig-inverting t s q p _ (aig_arm t s q p))

  xor-nets : (a b : Net) → Inverting (simple_aig_opt look (Xor a b))
  unfolding simple_aig_opt xor_rule
  xor-nets a b =
      let s : Source = look a in
      let t : Source = look b in
      has-or_else Inverting (xor_order s t a b) (xor_order t s b a)
      (xor-inverting s t a b _ (xor_arm s t a b)) (xor-inverting t s b a _ (xor_arm t s b a))

-- so these changes are none of theirs
module _ (o : Outcome) (k : Change) (found : o ≡ Some k) (d : Cell) where
  no-net : k ≡ Add d → adds_net o ≡ false → ⊥
  no-net e f = true≢false (sym (ap adds_net (found ∙ ap Some e)) ∙ f)

  no-inverse : k ≡ AddNotOf d → adds_net o ≡ false → ⊥
  no-inverse e f = true≢false (sym (ap adds_net (found ∙ ap Some e)) ∙ f)

  module _ (look : Net → Source) where
    pub aig-no-add : (p q : ControlNet) → k ≡ Add d → o ≡ simple_aig_opt look (Aig p q) → ⊥
    aig-no-add p q e f = no-net e (ap adds_net f ∙ aig-nets look p q)

    pub aig-no-both : (p q : ControlNet) → k ≡ AddNotOf d → o ≡ simple_aig_opt look (Aig p q) → ⊥
    aig-no-both p q e f = no-inverse e (ap adds_net f ∙ aig-nets look p q)

    pub xor-no-add : (a b : Net) → k ≡ Add d → o ≡ simple_aig_opt look (Xor a b) → ⊥
    xor-no-add a b e f = no-net e (ap adds_net f ∙ xor-nets look a b)

    pub xor-no-both : (a b : Net) → k ≡ AddNotOf d → o ≡ simple_aig_opt look (Xor a b) → ⊥
    xor-no-both a b e f = no-inverse e (ap adds_net f ∙ xor-nets look a b)

  module _ (c : Cell) (f : o ≡ normalize c) where
    unadded : adds o ≡ true → ⊥
    unadded e = true≢false (sym e ∙ ap adds f ∙ normalize-adds c)

    pub normalize-no-add : k ≡ Add d → ⊥
    normalize-no-add e = unadded (ap adds (found ∙ ap Some e))

    pub normalize-no-not : k ≡ NotOf d → ⊥
    normalize-no-not e = unadded (ap adds (found ∙ ap Some e))

    pub normalize-no-both : k ≡ AddNotOf d → ⊥
    normalize-no-both e = unadded (ap adds (found ∙ ap Some e))
