-- EVERY ARM BUT THE THIRTEEN IS EXACT: wherever it is taken, the outcome has the level of the cell, undefined ones too. Assumes nothing.
use mathlib.Core.Path.{◌≡◌, refl, ap, ◌∙◌, subst}
use mathlib.Core.Bool.{true}
use mathlib.Core.Logic.{◌⊎◌, inl, inr}
use Rattle.logic.specs.declared.Trit.{Trit}
use Rattle.logic.specs.declared.Trit.TheVariants.{Zero, One, Undef}
use Rattle.logic.specs.Levels.{and_level, xor_level}
use Rattle.logic.proofs.Laws.{and_comm, xor_comm}
use Rattle.value.specs.declared.Net.{Net}
use Rattle.value.specs.declared.ControlNet.{ControlNet}
use Rattle.value.specs.Value.{net, is_positive, is_negative}
use Rattle.cell.specs.declared.Cell.{Cell}
use Rattle.design.specs.Queue.{Source}
use Rattle.normalize.specs.Outcomes.{Outcome}
use Rattle.aig_laws.specs.Arms.{HasAig}
use Rattle.aig_laws.specs.Arms as tested
use Rattle.aig_laws.specs.Arms.{AigArm, XorArm}
use Rattle.levels_laws.specs.Algebra.{control_value, cell_value}
use Rattle.levels_laws.specs.Instances.{kleene}
use Rattle.rewrite_kept.specs.Outcomes.{gate_level, Constants, outcome_level}
use Rattle.rewrite_kept.proofs.Tables as table
use Rattle.rewrite_kept.proofs.Rules.{not-exact, normalize-exact}
use Rattle.rewrite_kept.proofs.Levels.{from-control, xor-of, looked-not, looked-and, looked-nand, without_not, constant, opposite, always}
use Rattle.definite_arms.specs.Arms.{Name, makes_definite}
use Rattle.definite_arms.specs.Taken.{aig_name, xor_name, Taken, inverter, and_inverter, and_turned, xor_gate, xor_turned, and_gate, or_gate, input, output, buffer, mux, normalized, Listed, Levelled}

module _ (look : Net → Source) (v : Net → Trit) (lev : Levelled look v) where
  abbrev consts : Constants v
  consts = lev.constants

  abbrev level : ControlNet → Trit
  level p = control_value kleene v p

  -- operands for which an and-inverter is looked up
  known-and : (p aa ab : ControlNet) → HasAig (look (net p)) aa ab → is_positive p ≡ true → level p ≡ and_level (level aa) (level ab)
  known-and p = looked-and v p (look (net p)) (lev.fits (net p))

  known-nand : (p aa ab : ControlNet) → HasAig (look (net p)) aa ab → is_negative p ≡ true → level p ≡ table.nand (level aa) (level ab)
  known-nand p = looked-nand v p (look (net p)) (lev.fits (net p))

  -- the outcome of an arm has the level t of the cell, or the arm is one of the thirteen: `inl` tells its place in `makes_definite`
  abbrev Kept : Trit → Outcome → Name → Type 0
  Kept t o name = Listed name ⊎ (outcome_level v t o ≡ t)

  by : (t : Trit) (name : Name) {o o' : Outcome} → o ≡ o' → outcome_level v t o' ≡ t → Kept t o name
  by t name e h = inr (ap (outcome_level v t) e ∙ h)

  aig-exact : (a b : ControlNet) (o : Outcome) (k : AigArm (look (net a)) (look (net b)) a b o) → Kept (and_level (level a) (level b)) o (aig_name k)
  unfolding aig_name makes_definite cell_value
  aig-exact a b o (tested.aig_none e) = by _ _ e refl
  aig-exact a b o (tested.aig_same t e) = by _ _ e (from-control v _ a ∙ table.and_same (level a) (level b) (ap level t))
  aig-exact a b o (tested.aig_opposite t e) = inl (0, refl)
  aig-exact a b o (tested.aig_zero t e) = inl (0, refl)
  aig-exact a b o (tested.aig_one t e) = by _ _ e (from-control v _ a ∙ table.and_one (level a) (level b) (always v consts true b t))
  aig-exact a b o (tested.aig_not w t e) = by _ _ e (ap (λ x. and_level x (level b)) (without_not v a (look (net a)) (lev.fits (net a)) w t))
  aig-exact a b o (tested.and_same aa ab h s t e) =
      by _ _ e (from-control v _ a ∙ table.and-with-same (level a) (level b) (level aa) (level ab) (known-and a aa ab h s) (ap level t))
  aig-exact a b o (tested.and_opposite aa ab h s t e) = inl (1, refl)
  aig-exact a b o (tested.and_and_same aa ab ba bb h s k r t e) =
      by _ _ e (table.and_and_same (level a) (level b) (level aa) (level ab) (level ba) (level bb) (known-and a aa ab h s) (known-and b ba bb k r) (ap level t))
  aig-exact a b o (tested.and_and_opposite aa ab ba bb h s k r t e) = inl (2, refl)
  aig-exact a b o (tested.nand_same aa ab h s t e) = inl (3, refl)
  aig-exact a b o (tested.nand_opposite aa ab h s t e) =
      by _ _ e (from-control v _ b ∙ table.nand-with-opposite (level a) (level b) (level aa) (level ab) (known-nand a aa ab h s) (opposite v consts aa b t))
  aig-exact a b o (tested.nand_and_same aa ab ba bb h s k r t e) = inl (4, refl)
  aig-exact a b o (tested.nand_and_opposite aa ab ba bb h s k r t e) =
      by _ _ e (from-control v _ b
      ∙ table.nand_and_opposite (level a) (level b) (level aa) (level ab) (level ba) (level bb) (known-nand a aa ab h s) (known-and b ba bb k r) (opposite v consts aa ba t))
  aig-exact a b o (tested.nand_nand_same aa ab ba bb h s k r t u e) = inl (5, refl)
  aig-exact a b o (tested.nand_nand_opposite aa ab ba bb h s k r t u e) =
      by _ _ e (xor-of v _ aa ab
      ∙ table.nand_nand_opposite (level a) (level b) (level aa) (level ab) (level ba) (level bb) (known-nand a aa ab h s) (known-nand b ba bb k r) (opposite v consts aa ba t) (opposite v consts ab bb u))
  aig-exact a b o (tested.xor_on aa ab h t e) = inl (6, refl)
  aig-exact a b o (tested.xor_and_on aa ab ba bb h k s t e) = inl (7, refl)

  xor-exact : (a b : Net) (o : Outcome) (k : XorArm (look a) (look b) a b o) → Kept (xor_level (v a) (v b)) o (xor_name k)
  unfolding xor_name makes_definite cell_value
  xor-exact a b o (tested.xor_none e) = by _ _ e refl
  xor-exact a b o (tested.xor_same t e) = inl (8, refl)
  xor-exact a b o (tested.xor_undef t e) = by _ _ e (constant v consts Undef ∙ table.xor_undef (v a) (v b) (ap v t ∙ constant v consts Undef))
  xor-exact a b o (tested.xor_zero t e) = by _ _ e (table.xor_zero (v a) (v b) (ap v t ∙ constant v consts Zero))
  xor-exact a b o (tested.xor_one t e) = by _ _ e (table.xor_one (v a) (v b) (ap v t ∙ constant v consts One))
  xor-exact a b o (tested.xor_not w t e) = by _ _ e (table.xor_not (v a) (v b) (v w) (looked-not v a (look a) (lev.fits a) w t))
  xor-exact a b o (tested.xor_with_and aa ab h t e) = inl (9, refl)
  xor-exact a b o (tested.xor_nand aa ab h t e) = inl (10, refl)
  xor-exact a b o (tested.xor_with_xor aa ab h t e) = inl (11, refl)
  xor-exact a b o (tested.xor_both aa ab ba bb h k t e) = inl (12, refl)

  -- any arm; the operands of the cell may stand the other way round
  turned : (t u : Trit) (o : Outcome) (name : Name) → t ≡ u → Kept t o name → Kept u o name
  turned t u o name e h = subst (λ (x : Trit). Kept x o name) e h

  pub arm-exact : (c : Cell) (o : Outcome) (name : Name) → Taken look c o name → Kept (gate_level v c) o name
  unfolding cell_value
  arm-exact c o name (inverter {n} k) = inr (not-exact v consts (look n) n o (lev.fits n) k)
  arm-exact c o name (and_inverter k) = aig-exact _ _ o k
  arm-exact c o name (and_turned {p} {q} k) = turned _ _ o name (and_comm (level q) (level p)) (aig-exact q p o k)
  arm-exact c o name (xor_gate k) = xor-exact _ _ o k
  arm-exact c o name (xor_turned {m} {n} k) = turned _ _ o name (xor_comm (v n) (v m)) (xor-exact n m o k)
  arm-exact c o name (and_gate {m} {n}) = inr refl
  arm-exact c o name (or_gate {m} {n}) = inr (table.or-as-nand (v m) (v n))
  arm-exact c o name input = inr refl
  arm-exact c o name output = inr refl
  arm-exact c o name buffer = inr refl
  arm-exact c o name mux = inr refl
  arm-exact c o name (normalized d) = inr (normalize-exact v consts d)
