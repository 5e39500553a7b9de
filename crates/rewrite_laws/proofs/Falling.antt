-- The falling number falls at each pass over the rules and for each cell that a rule adds, for every look-up that gives operands stamped
-- below the net. Assumes nothing.
use mathlib.Core.Path.{◌≡◌, sym, ap, subst}
use mathlib.Core.Bool.{Bool, true, false, cond, not, true≢false, false≢true}
use mathlib.Core.List.{List}
use Prim.Native.Nat.{ℕ, ◌+◌, ◌*◌, ◌<◌}
use native.Mathlib.Omega.{arith}
use borrow.Author.Tests.{not-true}
use Rattle.value.specs.declared.Net.{Net}
use Rattle.value.specs.declared.ControlNet.{ControlNet}
use Rattle.value.specs.declared.ControlNet.TheVariants.{Pos, Neg}
use Rattle.value.specs.Value.{le_net, net, from_net_invert, is_negative, not_control, le_control}
use Rattle.value.proofs.Order.{net-order, control-order}
use Rattle.cell.specs.declared.Cell.{Cell}
use Rattle.cell.specs.declared.Cell.TheVariants.{Input, Output, Buf, Not, And, Or, Xor, Mux, Aig}
use Rattle.std.specs.Prelude.{Some}
use Rattle.design.specs.Queue.{Source}
use Rattle.normalize.specs.declared.Change.TheVariants.{Form, NotOf}
use Rattle.normalize.specs.Outcomes.{given, from_control, Outcome}
use Rattle.normalize.specs.Normalize.{normalize}
use Rattle.aig.specs.Aig.{differ, not_rule, xor_of, aig_order, aig_rule, xor_order, xor_rule, simple_aig_opt}
use Rattle.rewrite.specs.Rewriter.{Rewriter, Lookup, rank, stamp, weight, find_cell}
use Rattle.rewrite.specs.Rewrite.{rules}
use Rattle.aig_laws.specs.Arms.{HasAig, HasXor}
use Rattle.aig_laws.proofs.Strings.{has-or_else, has-given}
use Rattle.aig_laws.specs.Arms.{NotArm, not_none, not_zero, not_one, not_undef, not_not, AigArm, aig_none, aig_same, aig_opposite, aig_zero, aig_one, aig_not, and_same, and_opposite, and_and_same, and_and_opposite, nand_same, nand_opposite, nand_and_same, nand_and_opposite, nand_nand_same, nand_nand_opposite, xor_on, xor_and_on, XorArm, xor_none, xor_same, xor_undef, xor_zero, xor_one, xor_not, xor_with_and, xor_nand, xor_with_xor, xor_both}
use Rattle.aig_laws.proofs.Arms.{not_arm, aig_arm, xor_arm}
use Rattle.aig_laws.proofs.Reading.{not-source, aig-source, xor-source}
use Rattle.rewrite_laws.specs.Stamps.{SourceBefore, Stamped, Lighter}
use Rattle.rewrite_laws.proofs.Lightness.{not-stamp, invert-stamp, aig-lighter, xor-lighter, not-lighter, weight-aig, weight-xor, weight-and, weight-or, lighter-more}

-- an and-inverter, in one order of the operands
module _ (ts : List ℕ) (a b : ControlNet) (src_a src_b : Source) (ha : SourceBefore ts (stamp ts (net a)) src_a)
    (hb : SourceBefore ts (stamp ts (net b)) src_b) (o : Outcome) where
  abbrev m : ℕ
  m = stamp ts (net a) + stamp ts (net b)

  abbrev Less : Outcome → Type 0
  Less x = Lighter ts (2 * m + 1) x

  less-control : (x : ControlNet) → Less (from_control x)
  unfolding from_control
  less-control (Pos n) = tt
  less-control (Neg n) = not-lighter ts m n

  -- what stands under a and under b
  und_a : (p q : ControlNet) → HasAig src_a p q → (stamp ts (net p) < stamp ts (net a)) × (stamp ts (net q) < stamp ts (net a))
  und_a p q h = aig-source (λ n. stamp ts n < stamp ts (net a)) src_a p q ha h

  und_b : (p q : ControlNet) → HasAig src_b p q → (stamp ts (net p) < stamp ts (net b)) × (stamp ts (net q) < stamp ts (net b))
  und_b p q h = aig-source (λ n. stamp ts n < stamp ts (net b)) src_b p q hb h

  und_x : (x y : Net) → HasXor src_a x y → (stamp ts x < stamp ts (net a)) × (stamp ts y < stamp ts (net a))
  und_x x y h = xor-source (λ n. stamp ts n < stamp ts (net a)) src_a x y ha h

  substituted : (aa ab : ControlNet) → HasAig src_a aa ab → Less (Some (Form (Aig (not_control ab) b)))
  substituted aa ab h = aig-lighter ts m (not_control ab) b (omega (arith, und_a aa ab h, not-stamp ts ab))

  inverted : (v : Net) (t : Bool) → stamp ts v < stamp ts (net a) → Less (Some (Form (Aig (from_net_invert v t) b)))
  inverted v t l = aig-lighter ts m (from_net_invert v t) b (omega (arith, invert-stamp ts v t))

  xored : (aa ab : ControlNet) → stamp ts (net aa) < stamp ts (net a) → stamp ts (net ab) < stamp ts (net b) → Less (xor_of aa ab)
  unfolding xor_of
  xored aa ab la lb = go (differ (is_negative aa) (is_negative ab))
    where
      go : (t : Bool) → Less (cond t (Some (NotOf (Xor (net aa) (net ab)))) (Some (Form (Xor (net aa) (net ab)))))
      go true = xor-lighter ts m (net aa) (net ab) (omega arith)
      go false = xor-lighter ts m (net aa) (net ab) (omega arith)

  pub aig-less : AigArm src_a src_b a b o → Less o
  aig-less (aig_none e) = subst Less (sym e) tt
  aig-less (aig_same t e) = subst Less (sym e) (less-control a)
  aig-less (aig_opposite t e) = subst Less (sym e) tt
  aig-less (aig_zero t e) = subst Less (sym e) tt
  aig-less (aig_one t e) = subst Less (sym e) (less-control a)
  aig-less (aig_not v t e) = subst Less (sym e) (inverted v (not (is_negative a)) (not-source (λ n. stamp ts n < stamp ts (net a)) src_a v ha t))
  aig-less (and_same aa ab h p t e) = subst Less (sym e) (less-control a)
  aig-less (and_opposite aa ab h p t e) = subst Less (sym e) tt
  aig-less (and_and_same aa ab ba bb h p k q t e) = subst Less (sym e) (aig-lighter ts m a bb (omega (arith, und_b ba bb k)))
  aig-less (and_and_opposite aa ab ba bb h p k q t e) = subst Less (sym e) tt
  aig-less (nand_same aa ab h p t e) = subst Less (sym e) (substituted aa ab h)
  aig-less (nand_opposite aa ab h p t e) = subst Less (sym e) (less-control b)
  aig-less (nand_and_same aa ab ba bb h p k q t e) = subst Less (sym e) (substituted aa ab h)
  aig-less (nand_and_opposite aa ab ba bb h p k q t e) = subst Less (sym e) (less-control b)
  aig-less (nand_nand_same aa ab ba bb h p k q t u e) = subst Less (sym e) (less-control (not_control ab))
  aig-less (nand_nand_opposite aa ab ba bb h p k q t u e) =
      subst Less (sym e) (xored aa ab (und_a aa ab h).0 (omega (arith, und_b ba bb k, not-stamp ts bb, ap (λ x. stamp ts (net x)) u)))
  aig-less (xor_on aa ab h t e) = subst Less (sym e) (inverted ab (not (differ (is_negative a) (is_negative b))) (und_x aa ab h).1)
  aig-less (xor_and_on aa ab ba bb h k q t e) = subst Less (sym e) (inverted ab (not (differ (is_negative a) (is_negative ba))) (und_x aa ab h).1)

-- a xor, in one order of the operands
module _ (ts : List ℕ) (a b : Net) (src_a src_b : Source) (ha : SourceBefore ts (stamp ts a) src_a) (hb : SourceBefore ts (stamp ts b) src_b)
    (o : Outcome) where
  abbrev mx : ℕ
  mx = stamp ts a + stamp ts b

  abbrev LessX : Outcome → Type 0
  LessX x = Lighter ts (2 * mx + 1) x

  masked : (aa ab : ControlNet) → HasAig src_a aa ab → net aa ≡ b → weight ts (Aig aa (not_control ab)) < 2 * mx + 1
  masked aa ab h t =
      let l : (stamp ts (net aa) < stamp ts a) × (stamp ts (net ab) < stamp ts a) = aig-source (λ n. stamp ts n < stamp ts a) src_a aa ab ha h in
      aig-lighter ts mx aa (not_control ab) (omega (arith, l, not-stamp ts ab, ap (stamp ts) t))

  pub xor-less : XorArm src_a src_b a b o → LessX o
  xor-less (xor_none e) = subst LessX (sym e) tt
  xor-less (xor_same t e) = subst LessX (sym e) tt
  xor-less (xor_undef t e) = subst LessX (sym e) tt
  xor-less (xor_zero t e) = subst LessX (sym e) tt
  xor-less (xor_one t e) = subst LessX (sym e) (not-lighter ts mx a)
  xor-less (xor_not v t e) =
      subst LessX (sym e) (xor-lighter ts mx v b (omega (arith, not-source (λ n. stamp ts n < stamp ts a) src_a v ha t)))
  xor-less (xor_with_and aa ab h t e) = subst LessX (sym e) (masked aa ab h (ap net t))
  xor-less (xor_nand aa ab h t e) = subst LessX (sym e) (masked aa ab h (ap net t))
  xor-less (xor_with_xor aa ab h t e) = subst LessX (sym e) tt
  xor-less (xor_both aa ab ba bb h k t e) =
      subst LessX (sym e) (xor-lighter ts mx ab bb (omega (
        arith,
        xor-source (λ n. stamp ts n < stamp ts a) src_a aa ab ha h,
        xor-source (λ n. stamp ts n < stamp ts b) src_b ba bb hb k,
      )))

not-less : (ts : List ℕ) (src : Source) (n : Net) (o : Outcome) → NotArm src n o → Lighter ts 0 o
not-less ts src n o (not_none e) = subst (Lighter ts 0) (sym e) tt
not-less ts src n o (not_zero t e) = subst (Lighter ts 0) (sym e) tt
not-less ts src n o (not_one t e) = subst (Lighter ts 0) (sym e) tt
not-less ts src n o (not_undef t e) = subst (Lighter ts 0) (sym e) tt
not-less ts src n o (not_not v t e) = subst (Lighter ts 0) (sym e) tt

module _ (look : Lookup) (r : Rewriter) (h : Stamped look r) where
  abbrev ts : List ℕ
  ts = r.stamps

  -- `Normalize`: operands that stand the wrong way round weigh one more
  exchanged-falls : {A : Type 0} (le : A → A → Bool) (rebuild : A → A → Cell) (a b : A) → ((le a b ≡ false) → weight ts (rebuild b a) < weight ts (rebuild a b))
      → Lighter ts (weight ts (rebuild a b)) (given (not (le a b)) (Some (Form (rebuild b a))))
  exchanged-falls le rebuild a b f = has-given (Lighter ts (weight ts (rebuild a b))) tt (not (le a b)) (Some (Form (rebuild b a))) (λ e. f (not-true (le a b) e))

  swap-falls : (s u low : ℕ) (t v : Bool) → t ≡ false → v ≡ true → 2 * (u + s) + rank v low < 2 * (s + u) + rank t low
  swap-falls s u low true v e f = absurd (true≢false e)
  swap-falls s u low false true e f = omega arith
  swap-falls s u low false false e f = absurd (false≢true f)

  pub normalize-falls : (c : Cell) → Lighter ts (weight ts c) (normalize c)
  unfolding normalize weight
  normalize-falls (Buf a) = tt
  normalize-falls (And a b) = exchanged-falls le_net And a b (λ e. swap-falls (stamp ts a) (stamp ts b) 3 (le_net a b) (le_net b a) e (net-order.total a b e))
  normalize-falls (Or a b) = exchanged-falls le_net Or a b (λ e. swap-falls (stamp ts a) (stamp ts b) 3 (le_net a b) (le_net b a) e (net-order.total a b e))
  normalize-falls (Xor a b) = exchanged-falls le_net Xor a b (λ e. swap-falls (stamp ts a) (stamp ts b) 1 (le_net a b) (le_net b a) e (net-order.total a b e))
  normalize-falls (Aig p q) =
      exchanged-falls le_control Aig p q (λ e. swap-falls (stamp ts (net p)) (stamp ts (net q)) 1 (le_control p q) (le_control q p) e (control-order.total p q e))
  normalize-falls (Input l) = tt
  normalize-falls (Output a l) = tt
  normalize-falls (Not a) = tt
  normalize-falls (Mux a b c) = tt

  -- `SimpleAigOpt`
  aig-falls : (p q : ControlNet) → Lighter ts (weight ts (Aig p q)) (aig_rule (find_cell look r (net p)) (find_cell look r (net q)) p q)
  unfolding aig_rule
  aig-falls p q =
      let w : ℕ = weight ts (Aig p q) in
      let src_p : Source = find_cell look r (net p) in
      let src_q : Source = find_cell look r (net q) in
      let x : Outcome = aig_order src_p src_q p q in
      let y : Outcome = aig_order src_q src_p q p in
      has-or_else (Lighter ts w) x y
      (lighter-more ts _ w x (weight-aig ts p q) (aig-less ts p q src_p src_q (h (net p)) (h (net q)) x (aig_arm src_p src_q p q)))
      (lighter-more ts _ w y (omega (arith, weight-aig ts p q)) (aig-less ts q p src_q src_p (h (net q)) (h (net p)) y (aig_arm src_q src_p q p)))

  xor-falls : (a b : Net) → Lighter ts (weight ts (Xor a b)) (xor_rule (find_cell look r a) (find_cell look r b) a b)
  unfolding xor_rule
  xor-falls a b =
      let w : ℕ = weight ts (Xor a b) in
      let src_a : Source = find_cell look r a in
      let src_b : Source = find_cell look r b in
      let x : Outcome = xor_order src_a src_b a b in
      let y : Outcome = xor_order src_b src_a b a in
      has-or_else (Lighter ts w) x y
      (lighter-more ts _ w x (weight-xor ts a b) (xor-less ts a b src_a src_b (h a) (h b) x (xor_arm src_a src_b a b)))
      (lighter-more ts _ w y (omega (arith, weight-xor ts a b)) (xor-less ts b a src_b src_a (h b) (h a) y (xor_arm src_b src_a b a)))

  pub simple-falls : (c : Cell) → Lighter ts (weight ts c) (simple_aig_opt (find_cell look r) c)
  unfolding simple_aig_opt
  simple-falls (Not a) = lighter-more ts 0 (weight ts (Not a)) (not_rule (find_cell look r a) a) (omega arith) (not-less ts (find_cell look r a) a _ (not_arm (find_cell look r a) a))
  simple-falls (Aig p q) = aig-falls p q
  simple-falls (Xor a b) = xor-falls a b
  simple-falls (And a b) = weight-and ts a b
  simple-falls (Or a b) = weight-or ts a b
  simple-falls (Input l) = tt
  simple-falls (Output a l) = tt
  simple-falls (Buf a) = tt
  simple-falls (Mux a b c) = tt

  -- the law: what the rules go on with, and what they add, weighs less
  pub rules-fall : (c : Cell) → Lighter ts (weight ts c) (rules look r c)
  unfolding rules
  rules-fall c = has-or_else (Lighter ts (weight ts c)) (normalize c) (simple_aig_opt (find_cell look r) c) (normalize-falls c) (simple-falls c)
