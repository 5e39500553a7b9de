-- THE RULES KEEP LEVELS: each outcome gives the level of the cell, or any where that is undefined, for any look-up whose cells have the levels
-- of their nets. Arm by arm; what an arm says of levels is computed in `Tables`. Assumes nothing.
use mathlib.Core.Path.{◌≡◌, refl, sym, ap, ◌∙◌, subst}
use mathlib.Core.Bool.{Bool, true, false, not}
use Rattle.logic.specs.declared.Trit.{Trit}
use Rattle.logic.specs.declared.Trit.TheVariants.{Zero, One, Undef}
use Rattle.logic.specs.Levels.{not_level, and_level, xor_level, Refines, or_level}
use Rattle.logic.proofs.Laws.{and_comm, or_comm, xor_comm, refines-refl}
use Rattle.value.specs.declared.Net.{Net}
use Rattle.value.specs.declared.ControlNet.{ControlNet}
use Rattle.value.specs.Value.{le_net, le_control, net, from_net_invert, is_negative, not_control}
use Rattle.cell.specs.declared.Cell.{Cell}
use Rattle.cell.specs.declared.Cell.TheVariants.{Input, Output, Buf, Not, And, Or, Xor, Mux, Aig}
use Rattle.std.specs.Prelude.{Some}
use Rattle.design.specs.Queue.{Source}
use Rattle.normalize.specs.declared.Change.TheVariants.{Form}
use Rattle.normalize.specs.Outcomes.{given, Outcome}
use Rattle.normalize.specs.Normalize.{normalize}
use Rattle.aig.specs.Aig.{differ, not_rule, aig_order, aig_rule, xor_order, xor_rule, simple_aig_opt}
use Rattle.rewrite.specs.Rewriter.{Rewriter, Lookup, find_cell}
use Rattle.rewrite.specs.Rewrite.{rules}
use Rattle.aig_laws.specs.Arms.{HasXor}
use Rattle.aig_laws.proofs.Strings.{has-or_else}
use Rattle.aig_laws.specs.Arms as arm
use Rattle.aig_laws.specs.Arms.{NotArm, AigArm, XorArm}
use Rattle.aig_laws.proofs.Arms.{not_arm, aig_arm, xor_arm}
use Rattle.levels_laws.specs.Algebra.{control_value, cell_value}
use Rattle.levels_laws.specs.Instances.{kleene}
use Rattle.rewrite_kept.specs.Outcomes.{gate_level, Constants, SourceFits, outcome_level, Refining}
use Rattle.rewrite_kept.proofs.Tables as table
use Rattle.rewrite_kept.proofs.Tables.{signed}
use Rattle.rewrite_kept.proofs.Levels.{level-signed, level-invert, from-control, xor-of, looked-not, looked-aig, looked-xor, looked-and, looked-nand, without_not, constant, level-not, opposite, always}

module _ (v : Net → Trit) (consts : Constants v) where
  abbrev level : ControlNet → Trit
  level p = control_value kleene v p

  abbrev Good : Trit → Outcome → Type 0
  Good x o = Refining v x o

  same-level : (x y : Trit) → y ≡ x → Refines y x
  same-level x y e = subst (λ (z : Trit). Refines z x) (sym e) (refines-refl x)

  -- an arm that gives level y in place of level x, and one that gives x
  gives : (x y : Trit) {o o' : Outcome} → o ≡ o' → outcome_level v x o' ≡ y → Refines y x → Good x o
  gives x y e f h = subst (λ (z : Trit). Refines z x) (sym (ap (outcome_level v x) e ∙ f)) h

  exact : (x : Trit) {o o' : Outcome} → o ≡ o' → outcome_level v x o' ≡ x → Good x o
  exact x e f = gives x x e f (refines-refl x)

  -- inverters, exactly
  pub not-exact : (src : Source) (n : Net) (o : Outcome) → SourceFits v n src → NotArm src n o → outcome_level v (not_level (v n)) o ≡ not_level (v n)
  not-exact src n o f (arm.not_none e) = ap (outcome_level v _) e
  not-exact src n o f (arm.not_zero t e) = ap (outcome_level v _) e ∙ constant v consts One ∙ sym (ap not_level (ap v t ∙ constant v consts Zero))
  not-exact src n o f (arm.not_one t e) = ap (outcome_level v _) e ∙ constant v consts Zero ∙ sym (ap not_level (ap v t ∙ constant v consts One))
  not-exact src n o f (arm.not_undef t e) = ap (outcome_level v _) e ∙ constant v consts Undef ∙ sym (ap not_level (ap v t ∙ constant v consts Undef))
  not-exact src n o f (arm.not_not w t e) = ap (outcome_level v _) e ∙ table.not-kept (v n) (v w) (looked-not v n src f w t)

  -- and-inverters, in one order of the operands
  module _ (src_a src_b : Source) (a b : ControlNet) (fa : SourceFits v (net a) src_a) (fb : SourceFits v (net b) src_b) where
    abbrev old : Trit
    old = and_level (level a) (level b)

    known-xor : (aa ab : Net) → HasXor src_a aa ab → level a ≡ signed (is_negative a) (xor_level (v aa) (v ab))
    known-xor aa ab h = level-signed v a ∙ ap (signed (is_negative a)) (looked-xor v (net a) src_a fa aa ab h)

    on-net : (n : Net) (p : ControlNet) → n ≡ net p → level p ≡ signed (is_negative p) (v n)
    on-net n p t = level-signed v p ∙ ap (λ m. signed (is_negative p) (v m)) (sym t)

    -- an and-inverter with a new first operand
    with_first : (p : ControlNet) (x : Trit) → level p ≡ x → outcome_level v old (Some (Form (Aig p b))) ≡ and_level x (level b)
    unfolding cell_value
    with_first p x e = ap (λ (y : Trit). and_level y (level b)) e

    aig-good : (o : Outcome) → AigArm src_a src_b a b o → Good old o
    unfolding cell_value
    aig-good o (arm.aig_none e) = exact _ e refl
    aig-good o (arm.aig_same t e) = exact _ e (from-control v _ a ∙ table.and_same (level a) (level b) (ap level t))
    aig-good o (arm.aig_opposite t e) = gives _ _ e (constant v consts Zero) (table.and_opposite (level a) (level b) (opposite v consts a b t))
    aig-good o (arm.aig_zero t e) = gives _ _ e (constant v consts Zero) (table.and_zero (level a) (level b) (always v consts false b t))
    aig-good o (arm.aig_one t e) = exact _ e (from-control v _ a ∙ table.and_one (level a) (level b) (always v consts true b t))
    aig-good o (arm.aig_not w t e) = exact _ e (with_first (from_net_invert w (not (is_negative a))) (level a) (without_not v a src_a fa w t))
    aig-good o (arm.and_same aa ab h p t e) =
        exact _ e (from-control v _ a ∙ table.and-with-same (level a) (level b) (level aa) (level ab) (looked-and v a src_a fa aa ab h p) (ap level t))
    aig-good o (arm.and_opposite aa ab h p t e) =
        gives _ _ e (constant v consts Zero) (table.and-with-opposite (level a) (level b) (level aa) (level ab) (looked-and v a src_a fa aa ab h p) (opposite v consts aa b t))
    aig-good o (arm.and_and_same aa ab ba bb h p k q t e) =
        exact _ e
        (table.and_and_same (level a) (level b) (level aa) (level ab) (level ba) (level bb) (looked-and v a src_a fa aa ab h p) (looked-and v b src_b fb ba bb k q) (ap level t))
    aig-good o (arm.and_and_opposite aa ab ba bb h p k q t e) =
        gives _ _ e (constant v consts Zero)
        (table.and_and_opposite (level a) (level b) (level aa) (level ab) (level ba) (level bb) (looked-and v a src_a fa aa ab h p) (looked-and v b src_b fb ba bb k q) (opposite v consts aa ba t))
    aig-good o (arm.nand_same aa ab h p t e) =
        gives _ _ e (with_first (not_control ab) (not_level (level ab)) (level-not v consts ab))
        (table.nand-with-same (level a) (level b) (level aa) (level ab) (looked-nand v a src_a fa aa ab h p) (ap level t))
    aig-good o (arm.nand_opposite aa ab h p t e) =
        exact _ e (from-control v _ b ∙ table.nand-with-opposite (level a) (level b) (level aa) (level ab) (looked-nand v a src_a fa aa ab h p) (opposite v consts aa b t))
    aig-good o (arm.nand_and_same aa ab ba bb h p k q t e) =
        gives _ _ e (with_first (not_control ab) (not_level (level ab)) (level-not v consts ab))
        (table.nand_and_same (level a) (level b) (level aa) (level ab) (level ba) (level bb) (looked-nand v a src_a fa aa ab h p) (looked-and v b src_b fb ba bb k q) (ap level t))
    aig-good o (arm.nand_and_opposite aa ab ba bb h p k q t e) =
        exact _ e (from-control v _ b
        ∙ table.nand_and_opposite (level a) (level b) (level aa) (level ab) (level ba) (level bb) (looked-nand v a src_a fa aa ab h p) (looked-and v b src_b fb ba bb k q) (opposite v consts aa ba t))
    aig-good o (arm.nand_nand_same aa ab ba bb h p k q t u e) =
        gives _ _ e (from-control v _ (not_control ab) ∙ level-not v consts ab)
        (table.nand_nand_same (level a) (level b) (level aa) (level ab) (level ba) (level bb) (looked-nand v a src_a fa aa ab h p) (looked-nand v b src_b fb ba bb k q) (opposite v consts aa ba t) (ap level u))
    aig-good o (arm.nand_nand_opposite aa ab ba bb h p k q t u e) =
        exact _ e (xor-of v _ aa ab
        ∙ table.nand_nand_opposite (level a) (level b) (level aa) (level ab) (level ba) (level bb) (looked-nand v a src_a fa aa ab h p) (looked-nand v b src_b fb ba bb k q) (opposite v consts aa ba t) (opposite v consts ab bb u))
    aig-good o (arm.xor_on aa ab h t e) =
        let on : Bool = not (differ (is_negative a) (is_negative b)) in
        gives _ _ e (with_first (from_net_invert ab on) (signed on (v ab)) (level-invert v ab on))
        (table.xor_on (is_negative a) (is_negative b) (level a) (level b) (v aa) (v ab) (known-xor aa ab h) (on-net aa b t))
    aig-good o (arm.xor_and_on aa ab ba bb h k q t e) =
        let on : Bool = not (differ (is_negative a) (is_negative ba)) in
        gives _ _ e (with_first (from_net_invert ab on) (signed on (v ab)) (level-invert v ab on))
        (table.and-under (signed on (v ab)) (level a) (level ba) (level bb) (level b) (looked-and v b src_b fb ba bb k q)
        (table.xor_on (is_negative a) (is_negative ba) (level a) (level ba) (v aa) (v ab) (known-xor aa ab h) (on-net aa ba t)))

  -- xors, in one order of the operands
  module _ (src_a src_b : Source) (a b : Net) (fa : SourceFits v a src_a) (fb : SourceFits v b src_b) where
    xor-good : (o : Outcome) → XorArm src_a src_b a b o → Good (xor_level (v a) (v b)) o
    unfolding cell_value
    xor-good o (arm.xor_none e) = exact _ e refl
    xor-good o (arm.xor_same t e) = gives _ _ e (constant v consts Zero) (table.xor_same (v a) (v b) (ap v t))
    xor-good o (arm.xor_undef t e) = exact _ e (constant v consts Undef ∙ table.xor_undef (v a) (v b) (ap v t ∙ constant v consts Undef))
    xor-good o (arm.xor_zero t e) = exact _ e (table.xor_zero (v a) (v b) (ap v t ∙ constant v consts Zero))
    xor-good o (arm.xor_one t e) = exact _ e (table.xor_one (v a) (v b) (ap v t ∙ constant v consts One))
    xor-good o (arm.xor_not w t e) = exact _ e (table.xor_not (v a) (v b) (v w) (looked-not v a src_a fa w t))
    xor-good o (arm.xor_with_and aa ab h t e) =
        rw (e, level-not v consts ab) (table.xor_with_and (v a) (v b) (level aa) (level ab) (looked-aig v a src_a fa aa ab h) (ap level t))
    xor-good o (arm.xor_nand aa ab h t e) =
        rw (e, level-not v consts ab) (table.xor_nand (v a) (v b) (level aa) (level ab) (looked-aig v a src_a fa aa ab h) (ap level t))
    xor-good o (arm.xor_with_xor aa ab h t e) = rw e (table.xor_with_xor (v a) (v b) (v aa) (v ab) (looked-xor v a src_a fa aa ab h) (ap v t))
    xor-good o (arm.xor_both aa ab ba bb h k t e) =
        rw e (table.xor_both (v a) (v b) (v aa) (v ab) (v ba) (v bb) (looked-xor v a src_a fa aa ab h) (looked-xor v b src_b fb ba bb k) (ap v t))

  -- `Normalize`, exactly
  exchanged : (x : Trit) (test : Bool) (c : Cell) → gate_level v c ≡ x → outcome_level v x (given test (Some (Form c))) ≡ x
  exchanged x true c e = e
  exchanged x false c e = refl

  pub normalize-exact : (c : Cell) → outcome_level v (gate_level v c) (normalize c) ≡ gate_level v c
  unfolding normalize cell_value
  normalize-exact (Buf a) = refl
  normalize-exact (And a b) = exchanged (and_level (v a) (v b)) (not (le_net a b)) (And b a) (and_comm (v b) (v a))
  normalize-exact (Or a b) = exchanged (or_level (v a) (v b)) (not (le_net a b)) (Or b a) (or_comm (v b) (v a))
  normalize-exact (Xor a b) = exchanged (xor_level (v a) (v b)) (not (le_net a b)) (Xor b a) (xor_comm (v b) (v a))
  normalize-exact (Aig p q) = exchanged (and_level (level p) (level q)) (not (le_control p q)) (Aig q p) (and_comm (level q) (level p))
  normalize-exact (Input l) = refl
  normalize-exact (Output a l) = refl
  normalize-exact (Not a) = refl
  normalize-exact (Mux a b c) = refl

  module _ (look : Net → Source) (fits : (n : Net) → SourceFits v n (look n)) where
    -- the other order of the operands
    good-turned : (x y : Trit) (o : Outcome) → x ≡ y → Good x o → Good y o
    good-turned x y o e h = subst (λ (z : Trit). Good z o) e h

    simple-good : (c : Cell) → Good (gate_level v c) (simple_aig_opt look c)
    unfolding simple_aig_opt aig_rule xor_rule cell_value
    simple-good (Not a) = same-level _ _ (not-exact (look a) a (not_rule (look a) a) (fits a) (not_arm (look a) a))
    simple-good (Aig p q) =
        let s = look (net p) in
        let t = look (net q) in
        has-or_else (Good (and_level (level p) (level q))) (aig_order s t p q) (aig_order t s q p)
        (aig-good s t p q (fits (net p)) (fits (net q)) (aig_order s t p q) (aig_arm s t p q))
        (good-turned _ _ (aig_order t s q p) (and_comm (level q) (level p)) (aig-good t s q p (fits (net q)) (fits (net p)) (aig_order t s q p) (aig_arm t s q p)))
    simple-good (Xor a b) =
        let s = look a in
        let t = look b in
        has-or_else (Good (xor_level (v a) (v b))) (xor_order s t a b) (xor_order t s b a)
        (xor-good s t a b (fits a) (fits b) (xor_order s t a b) (xor_arm s t a b))
        (good-turned _ _ (xor_order t s b a) (xor_comm (v b) (v a)) (xor-good t s b a (fits b) (fits a) (xor_order t s b a) (xor_arm t s b a)))
    simple-good (And a b) = refines-refl (and_level (v a) (v b))
    simple-good (Or a b) = same-level _ _ (table.or-as-nand (v a) (v b))
    simple-good (Input l) = refines-refl _
    simple-good (Output a l) = refines-refl _
    simple-good (Buf a) = refines-refl _
    simple-good (Mux a b c) = refines-refl _

  -- one pass over the rules, for any look-up
  pub rules-good : (look : Lookup) (r : Rewriter) → ((n : Net) → SourceFits v n (find_cell look r n)) → (c : Cell) → Good (gate_level v c) (rules look r c)
  unfolding rules
  rules-good look r fits c =
      has-or_else (Good (gate_level v c)) (normalize c) (simple_aig_opt (find_cell look r) c) (same-level _ _ (normalize-exact c)) (simple-good (find_cell look r) fits c)
