-- What the rules make of a cell reads nothing but the cell's operands, the operands of the cells looked up for those, and constants.
-- Assumes nothing.
use mathlib.Core.Path.{◌≡◌, refl, sym, subst}
use mathlib.Core.Bool.{Bool, true, false, cond, not}
use Rattle.logic.proofs.Tests.{cond_has}
use Rattle.value.specs.declared.Net.{Net}
use Rattle.value.specs.declared.ControlNet.{ControlNet}
use Rattle.value.specs.declared.ControlNet.TheVariants.{Pos, Neg}
use Rattle.value.specs.Value.{UNDEF, ZERO, ONE, eq_net, le_net, le_control, net, from_net_invert, is_negative, canonicalize, not_control}
use Rattle.value.proofs.Laws.{net-of}
use Rattle.cell.specs.declared.Cell.{Cell}
use Rattle.cell.specs.declared.Cell.TheVariants.{Input, Output, Buf, Not, And, Or, Xor, Mux, Aig}
use Rattle.netlist.specs.Shape.{visit, has_effects}
use Rattle.std.specs.Prelude.{Some}
use Rattle.design.specs.Queue.{Source}
use Rattle.normalize.specs.declared.Change.TheVariants.{Form, NotOf}
use Rattle.normalize.specs.Outcomes.{from_control, Outcome}
use Rattle.normalize.specs.Normalize.{normalize}
use Rattle.aig.specs.Aig.{differ, not_rule, xor_of, aig_rule, xor_rule, simple_aig_opt}
use Rattle.basics.specs.Lists.{All}
use Rattle.aig_laws.specs.Reads.{GateOf, SourceNets, GoodOutcome}
use Rattle.aig_laws.specs.Arms.{HasAig, as_is, turned, HasXor, NotArm, not_none, not_zero, not_one, not_undef, not_not, AigArm, aig_none, aig_same, aig_opposite, aig_zero, aig_one, aig_not, and_same, and_opposite, and_and_same, and_and_opposite, nand_same, nand_opposite, nand_and_same, nand_and_opposite, nand_nand_same, nand_nand_opposite, xor_on, xor_and_on, XorArm, xor_none, xor_same, xor_undef, xor_zero, xor_one, xor_not, xor_with_and, xor_nand, xor_with_xor, xor_both}
use Rattle.aig_laws.proofs.Strings.{has-or_else, has-given}
use Rattle.aig_laws.proofs.Arms.{not_arm, aig_arm, xor_arm}

-- the operands of a source
module _ (N : Net → Type 0) where
  pub not-source : (src : Source) (v : Net) → SourceNets N src → src ≡ Some (Not v) → N v
  unfolding All visit
  not-source src v h e = (subst (SourceNets N) e h).0

  pub aig-source : (src : Source) (p q : ControlNet) → SourceNets N src → HasAig src p q → N (net p) × N (net q)
  unfolding All visit
  aig-source src p q h (as_is e) = let k : SourceNets N (Some (Aig p q)) = subst (SourceNets N) e h in (k.0, k.1.0)
  aig-source src p q h (turned e) = let k : SourceNets N (Some (Aig q p)) = subst (SourceNets N) e h in (k.1.0, k.0)

  pub xor-source : (src : Source) (x y : Net) → SourceNets N src → HasXor src x y → N x × N y
  unfolding All visit
  xor-source src x y h (as_is e) = let k : SourceNets N (Some (Xor x y)) = subst (SourceNets N) e h in (k.0, k.1.0)
  xor-source src x y h (turned e) = let k : SourceNets N (Some (Xor y x)) = subst (SourceNets N) e h in (k.1.0, k.0)

-- a negated control net is of the same net, or a constant
pub not-net : (N : Net → Type 0) → N ZERO → N ONE → (x : ControlNet) → N (net x) → N (net (not_control x))
unfolding not_control canonicalize
not-net N zero one (Neg n) h = h
not-net N zero one (Pos n) h =
    let P : ControlNet → Type 0 = λ x. N (net x) in
    cond_has P (eq_net n UNDEF) (Pos n) _ (λ e. h) (λ e. cond_has P (eq_net n ZERO) (Pos ONE) _ (λ e. one) (λ e. cond_has P (eq_net n ONE) (Pos ZERO) (Neg n) (λ e. zero) (λ e. h)))

module _ (N : Net → Type 0) (undef : N UNDEF) (zero : N ZERO) (one : N ONE) where
  abbrev Reads : Cell → Type 0
  Reads c = GateOf N c

  abbrev Good : Outcome → Type 0
  Good o = GoodOutcome Reads N o

  reads-aig : (p q : ControlNet) → N (net p) → N (net q) → Reads (Aig p q)
  unfolding All visit has_effects
  reads-aig p q x y = ((x, (y, tt)), refl)

  reads-xor : (a b : Net) → N a → N b → Reads (Xor a b)
  unfolding All visit has_effects
  reads-xor a b x y = ((x, (y, tt)), refl)

  reads-not : (a : Net) → N a → Reads (Not a)
  unfolding All visit has_effects
  reads-not a x = ((x, tt), refl)

  invert-net : (n : Net) (b : Bool) → N n → N (net (from_net_invert n b))
  invert-net n b h = subst N (sym (net-of n b)) h

  good-control : (x : ControlNet) → N (net x) → Good (from_control x)
  unfolding from_control
  good-control (Pos n) h = h
  good-control (Neg n) h = reads-not n h

  good-xor : (aa ab : ControlNet) → N (net aa) → N (net ab) → Good (xor_of aa ab)
  unfolding xor_of
  good-xor aa ab x y = go (differ (is_negative aa) (is_negative ab))
    where
      go : (t : Bool) → Good (cond t (Some (NotOf (Xor (net aa) (net ab)))) (Some (Form (Xor (net aa) (net ab)))))
      go true = reads-xor (net aa) (net ab) x y
      go false = reads-xor (net aa) (net ab) x y

  not-reads : (src : Source) (n : Net) (o : Outcome) → SourceNets N src → NotArm src n o → Good o
  not-reads src n o h (not_none e) = subst Good (sym e) tt
  not-reads src n o h (not_zero t e) = subst Good (sym e) one
  not-reads src n o h (not_one t e) = subst Good (sym e) zero
  not-reads src n o h (not_undef t e) = subst Good (sym e) undef
  not-reads src n o h (not_not v t e) = subst Good (sym e) (not-source N src v h t)

  aig-reads : (src_a src_b : Source) (a b : ControlNet) (o : Outcome) → SourceNets N src_a → SourceNets N src_b → N (net a) → N (net b)
      → AigArm src_a src_b a b o → Good o
  aig-reads src_a src_b a b o ha hb na nb (aig_none e) = subst Good (sym e) tt
  aig-reads src_a src_b a b o ha hb na nb (aig_same t e) = subst Good (sym e) (good-control a na)
  aig-reads src_a src_b a b o ha hb na nb (aig_opposite t e) = subst Good (sym e) zero
  aig-reads src_a src_b a b o ha hb na nb (aig_zero t e) = subst Good (sym e) zero
  aig-reads src_a src_b a b o ha hb na nb (aig_one t e) = subst Good (sym e) (good-control a na)
  aig-reads src_a src_b a b o ha hb na nb (aig_not v t e) = subst Good (sym e) (reads-aig _ b (invert-net v (not (is_negative a)) (not-source N src_a v ha t)) nb)
  aig-reads src_a src_b a b o ha hb na nb (and_same aa ab h p t e) = subst Good (sym e) (good-control a na)
  aig-reads src_a src_b a b o ha hb na nb (and_opposite aa ab h p t e) = subst Good (sym e) zero
  aig-reads src_a src_b a b o ha hb na nb (and_and_same aa ab ba bb h p k q t e) = subst Good (sym e) (reads-aig a bb na (aig-source N src_b ba bb hb k).1)
  aig-reads src_a src_b a b o ha hb na nb (and_and_opposite aa ab ba bb h p k q t e) = subst Good (sym e) zero
  aig-reads src_a src_b a b o ha hb na nb (nand_same aa ab h p t e) = subst Good (sym e) (reads-aig _ b (not-net N zero one ab (aig-source N src_a aa ab ha h).1) nb)
  aig-reads src_a src_b a b o ha hb na nb (nand_opposite aa ab h p t e) = subst Good (sym e) (good-control b nb)
  aig-reads src_a src_b a b o ha hb na nb (nand_and_same aa ab ba bb h p k q t e) =
      subst Good (sym e) (reads-aig _ b (not-net N zero one ab (aig-source N src_a aa ab ha h).1) nb)
  aig-reads src_a src_b a b o ha hb na nb (nand_and_opposite aa ab ba bb h p k q t e) = subst Good (sym e) (good-control b nb)
  aig-reads src_a src_b a b o ha hb na nb (nand_nand_same aa ab ba bb h p k q t u e) =
      subst Good (sym e) (good-control (not_control ab) (not-net N zero one ab (aig-source N src_a aa ab ha h).1))
  aig-reads src_a src_b a b o ha hb na nb (nand_nand_opposite aa ab ba bb h p k q t u e) =
      subst Good (sym e) (good-xor aa ab (aig-source N src_a aa ab ha h).0 (aig-source N src_a aa ab ha h).1)
  aig-reads src_a src_b a b o ha hb na nb (xor_on aa ab h t e) = subst Good (sym e) (reads-aig _ b (invert-net ab (not (differ (is_negative a) (is_negative b))) (xor-source N src_a aa ab ha h).1) nb)
  aig-reads src_a src_b a b o ha hb na nb (xor_and_on aa ab ba bb h k q t e) =
      subst Good (sym e) (reads-aig _ b (invert-net ab (not (differ (is_negative a) (is_negative ba))) (xor-source N src_a aa ab ha h).1) nb)

  xor-reads : (src_a src_b : Source) (a b : Net) (o : Outcome) → SourceNets N src_a → SourceNets N src_b → N a → N b → XorArm src_a src_b a b o → Good o
  xor-reads src_a src_b a b o ha hb na nb (xor_none e) = subst Good (sym e) tt
  xor-reads src_a src_b a b o ha hb na nb (xor_same t e) = subst Good (sym e) zero
  xor-reads src_a src_b a b o ha hb na nb (xor_undef t e) = subst Good (sym e) undef
  xor-reads src_a src_b a b o ha hb na nb (xor_zero t e) = subst Good (sym e) na
  xor-reads src_a src_b a b o ha hb na nb (xor_one t e) = subst Good (sym e) (reads-not a na)
  xor-reads src_a src_b a b o ha hb na nb (xor_not v t e) = subst Good (sym e) (reads-xor v b (not-source N src_a v ha t) nb)
  xor-reads src_a src_b a b o ha hb na nb (xor_with_and aa ab h t e) =
      subst Good (sym e) (reads-aig aa _ (aig-source N src_a aa ab ha h).0 (not-net N zero one ab (aig-source N src_a aa ab ha h).1))
  xor-reads src_a src_b a b o ha hb na nb (xor_nand aa ab h t e) =
      subst Good (sym e) (reads-aig aa _ (aig-source N src_a aa ab ha h).0 (not-net N zero one ab (aig-source N src_a aa ab ha h).1))
  xor-reads src_a src_b a b o ha hb na nb (xor_with_xor aa ab h t e) = subst Good (sym e) (xor-source N src_a aa ab ha h).1
  xor-reads src_a src_b a b o ha hb na nb (xor_both aa ab ba bb h k t e) =
      subst Good (sym e) (reads-xor ab bb (xor-source N src_a aa ab ha h).1 (xor-source N src_b ba bb hb k).1)

  pub normalize-reads : (c : Cell) → Reads c → Good (normalize c)
  unfolding normalize All visit has_effects
  normalize-reads (Buf a) h = h.0.0
  normalize-reads (And a b) h = has-given Good tt (not (le_net a b)) (Some (Form (And b a))) (λ e. ((h.0.1.0, (h.0.0, tt)), refl))
  normalize-reads (Or a b) h = has-given Good tt (not (le_net a b)) (Some (Form (Or b a))) (λ e. ((h.0.1.0, (h.0.0, tt)), refl))
  normalize-reads (Xor a b) h = has-given Good tt (not (le_net a b)) (Some (Form (Xor b a))) (λ e. ((h.0.1.0, (h.0.0, tt)), refl))
  normalize-reads (Aig p q) h = has-given Good tt (not (le_control p q)) (Some (Form (Aig q p))) (λ e. ((h.0.1.0, (h.0.0, tt)), refl))
  normalize-reads (Input l) h = tt
  normalize-reads (Output a l) h = tt
  normalize-reads (Not a) h = tt
  normalize-reads (Mux a b c) h = tt

  pub simple-reads : (look : Net → Source) → ((n : Net) → N n → SourceNets N (look n)) → (c : Cell) → Reads c → Good (simple_aig_opt look c)
  unfolding simple_aig_opt aig_rule xor_rule All visit has_effects
  simple-reads look f (Not a) h = not-reads (look a) a (not_rule (look a) a) (f a h.0.0) (not_arm (look a) a)
  simple-reads look f (Aig p q) h =
      let x : N (net p) = h.0.0 in
      let y : N (net q) = h.0.1.0 in
      has-or_else Good _ _ (aig-reads (look (net p)) (look (net q)) p q _ (f (net p) x) (f (net q) y) x y (aig_arm (look (net p)) (look (net q)) p q))
      (aig-reads (look (net q)) (look (net p)) q p _ (f (net q) y) (f (net p) x) y x (aig_arm (look (net q)) (look (net p)) q p))
  simple-reads look f (Xor a b) h =
      let x : N a = h.0.0 in
      let y : N b = h.0.1.0 in
      has-or_else Good _ _ (xor-reads (look a) (look b) a b _ (f a x) (f b y) x y (xor_arm (look a) (look b) a b))
      (xor-reads (look b) (look a) b a _ (f b y) (f a x) y x (xor_arm (look b) (look a) b a))
  simple-reads look f (And a b) h = (h.0, refl)
  simple-reads look f (Or a b) h = (h.0, refl)
  simple-reads look f (Input l) h = tt
  simple-reads look f (Output a l) h = tt
  simple-reads look f (Buf a) h = tt
  simple-reads look f (Mux a b c) h = tt
