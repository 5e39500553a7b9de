-- `SimpleAigOpt` (generic/src/rewrite/aig.rs), as plans over what the look-up of the operands gave. Tests stand in the Rust's order, and every
-- test that the Rust makes twice, for both orders of two operands, is written once. The arms for other widths than 1 are left out.
-- Assumes nothing: these are definitions.
use Rattle.std.specs.Prelude.{Bool, true, false, cond, not, ◌&&◌, ◌||◌, None, Some}
use Rattle.value.specs.declared.Net.{Net}
use Rattle.value.specs.declared.ControlNet.{ControlNet}
use Rattle.value.specs.declared.ControlNet.TheVariants.{Pos, Neg}
use Rattle.value.specs.Value.{UNDEF, ZERO, ONE, eq_net, from_net_invert, net, is_positive, is_negative, is_always, not_control, eq_control}
use Rattle.cell.specs.declared.Cell.{Cell}
use Rattle.cell.specs.declared.Cell.TheVariants.{Input, Output, Buf, Not, And, Or, Xor, Mux, Aig}
use Rattle.design.specs.Queue.{Source}
use Rattle.normalize.specs.declared.Change.TheVariants.{Value, Form, Add, NotOf, AddNotOf}
use Rattle.normalize.specs.Outcomes.{◌or_else◌, given, either_way, from_control, Outcome}

-- `if let RewriteNetSource::Cell(ref cell, ..) = src && let Cell::Not(ref val) = **cell`, and so for `Aig` and `Xor`
unfoldable pub if_not : Source → (Net → Outcome) → Outcome
if_not None f = None
if_not (Some (Not v)) f = f v
if_not (Some (Input l)) f = None
if_not (Some (Output a l)) f = None
if_not (Some (Buf a)) f = None
if_not (Some (And a b)) f = None
if_not (Some (Or a b)) f = None
if_not (Some (Xor a b)) f = None
if_not (Some (Mux a b c)) f = None
if_not (Some (Aig p q)) f = None

unfoldable pub if_aig : Source → (ControlNet → ControlNet → Outcome) → Outcome
if_aig None f = None
if_aig (Some (Aig p q)) f = f p q
if_aig (Some (Input l)) f = None
if_aig (Some (Output a l)) f = None
if_aig (Some (Buf a)) f = None
if_aig (Some (Not a)) f = None
if_aig (Some (And a b)) f = None
if_aig (Some (Or a b)) f = None
if_aig (Some (Xor a b)) f = None
if_aig (Some (Mux a b c)) f = None

unfoldable pub if_xor : Source → (Net → Net → Outcome) → Outcome
if_xor None f = None
if_xor (Some (Xor a b)) f = f a b
if_xor (Some (Input l)) f = None
if_xor (Some (Output a l)) f = None
if_xor (Some (Buf a)) f = None
if_xor (Some (Not a)) f = None
if_xor (Some (And a b)) f = None
if_xor (Some (Or a b)) f = None
if_xor (Some (Mux a b c)) f = None
if_xor (Some (Aig p q)) f = None

-- `p ^ q` of two truth values
abbrev pub differ : Bool → Bool → Bool
differ p q = cond p (not q) q

-- `Cell::Not(ref val) if val.len() == 1`
unfoldable pub not_rule : Source → Net → Outcome
not_rule src n =
    given (eq_net n ZERO) (Some (Value ONE))
    or_else given (eq_net n ONE) (Some (Value ZERO))
    or_else given (eq_net n UNDEF) (Some (Value UNDEF))
    or_else if_not src (λ v. Some (Value v))

-- merge inverters into AIG cell
unfoldable pub aig_of_not : Source → ControlNet → ControlNet → Outcome
aig_of_not src_a a b = if_not src_a (λ v. Some (Form (Aig (from_net_invert v (not (is_negative a))) b)))

-- (aa & ab) & (ba & bb)
unfoldable pub and_and : ControlNet → ControlNet → ControlNet → ControlNet → Outcome
and_and a aa ba bb =
    -- idempotence: (aa & ab) & (aa & bb) -> (aa & ab) & bb
    given (eq_control aa ba) (Some (Form (Aig a bb)))
    -- contradiction: (aa & ab) & (~aa & bb) -> 0
    or_else given (eq_control aa (not_control ba)) (Some (Value ZERO))

-- (aa & ab) & b
unfoldable pub and_with : Source → ControlNet → ControlNet → ControlNet → Outcome
and_with src_b a b aa =
    -- idempotence: (aa & ab) & aa -> aa & ab
    given (eq_control aa b) (from_control a)
    -- contradiction: (aa & ab) & ~aa -> 0
    or_else given (eq_control aa (not_control b)) (Some (Value ZERO))
    or_else if_aig src_b (λ b1 b2. given (is_positive b) (either_way (and_and a aa) b1 b2))

unfoldable pub aig_of_and : Source → Source → ControlNet → ControlNet → Outcome
aig_of_and src_a src_b a b = if_aig src_a (λ a1 a2. given (is_positive a) (either_way (λ aa ab. and_with src_b a b aa) a1 a2))

-- ~(aa & ab) & (ba & bb)
unfoldable pub nand_and : ControlNet → ControlNet → ControlNet → ControlNet → Outcome
nand_and b aa ab ba =
    -- substitution: ~(aa & ab) & (aa & bb) -> ~ab & (aa & bb)
    given (eq_control aa ba) (Some (Form (Aig (not_control ab) b)))
    -- subsumption: ~(aa & ab) & (~aa & bb) -> (~aa & bb)
    or_else given (eq_control aa (not_control ba)) (from_control b)

-- aa ^ ab of the nets, inverted if exactly one of them is negative
unfoldable pub xor_of : ControlNet → ControlNet → Outcome
xor_of aa ab =
    cond (differ (is_negative aa) (is_negative ab)) (Some (NotOf (Xor (net aa) (net ab)))) (Some (Form (Xor (net aa) (net ab))))

-- ~(aa & ab) & ~(ba & bb)
unfoldable pub nand_nand : ControlNet → ControlNet → ControlNet → ControlNet → Outcome
nand_nand aa ab ba bb =
    -- resolution: ~(aa & ab) & ~(~aa & ab) -> ~ab
    given (eq_control aa (not_control ba) && eq_control ab bb) (from_control (not_control ab))
    -- XOR recognition: ~(aa & ab) & ~(~aa & ~ab) -> aa ^ ab
    or_else given (eq_control aa (not_control ba) && eq_control ab (not_control bb)) (xor_of aa ab)

-- ~(aa & ab) & b
unfoldable pub nand_with : Source → ControlNet → ControlNet → ControlNet → Outcome
nand_with src_b b aa ab =
    -- substitution: ~(aa & ab) & aa -> ~ab & aa
    given (eq_control aa b) (Some (Form (Aig (not_control ab) b)))
    -- subsumption: ~(aa & ab) & ~aa -> ~aa
    or_else given (eq_control aa (not_control b)) (from_control b)
    or_else if_aig src_b (λ b1 b2. given (is_positive b) (either_way (λ ba bb. nand_and b aa ab ba) b1 b2))
    or_else if_aig src_b (λ b1 b2. given (is_negative b) (either_way (nand_nand aa ab) b1 b2))

unfoldable pub aig_of_nand : Source → Source → ControlNet → ControlNet → Outcome
aig_of_nand src_a src_b a b = if_aig src_a (λ a1 a2. given (is_negative a) (either_way (nand_with src_b b) a1 a2))

-- (aa ^ ab) & b with b or an operand of b on aa, negative or not; for an operand of b the other side stays b:
-- substitution: (aa ^ ab) & aa -> ~ab & aa, ~(aa ^ ab) & aa -> ab & aa, (aa ^ ab) & ~aa -> ab & ~aa, ~(aa ^ ab) & ~aa -> ~ab & ~aa
unfoldable pub xor_and : ControlNet → ControlNet → Net → Net → ControlNet → Outcome
xor_and a b aa ab on =
    given (eq_net aa (net on)) (Some (Form (Aig (from_net_invert ab (not (differ (is_negative a) (is_negative on)))) b)))

unfoldable pub xor_with : Source → ControlNet → ControlNet → Net → Net → Outcome
xor_with src_b a b aa ab =
    xor_and a b aa ab b
    -- (aa ^ ab) & (ba & bb)
    or_else if_aig src_b (λ b1 b2. given (is_positive b) (either_way (λ ba bb. xor_and a b aa ab ba) b1 b2))

unfoldable pub aig_of_xor : Source → Source → ControlNet → ControlNet → Outcome
aig_of_xor src_a src_b a b = if_xor src_a (either_way (xor_with src_b a b))

-- `Cell::Aig(net1, net2)`, for one order of the operands
unfoldable pub aig_order : Source → Source → ControlNet → ControlNet → Outcome
aig_order src_a src_b a b =
    -- idempotence: a & a -> a
    given (eq_control a b) (from_control a)
    -- contradiction: a & ~a, a & 0 -> 0
    or_else given (eq_control a (not_control b) || is_always b false) (Some (Value ZERO))
    -- identity: a & 1 -> a
    or_else given (is_always b true) (from_control a)
    or_else aig_of_not src_a a b
    or_else aig_of_and src_a src_b a b
    or_else aig_of_nand src_a src_b a b
    or_else aig_of_xor src_a src_b a b

unfoldable pub aig_rule : Source → Source → ControlNet → ControlNet → Outcome
aig_rule src1 src2 net1 net2 = aig_order src1 src2 net1 net2 or_else aig_order src2 src1 net2 net1

-- (aa & ab) ^ b
unfoldable pub and_xor : Net → ControlNet → ControlNet → Outcome
and_xor b aa ab =
    -- (aa & ab) ^ aa -> aa & ~ab
    given (eq_control aa (Pos b)) (Some (Form (Aig aa (not_control ab))))
    -- (aa & ab) ^ ~aa -> ~(aa & ~ab)
    or_else given (eq_control aa (Neg b)) (Some (NotOf (Aig aa (not_control ab))))

-- (aa ^ ab) ^ b
unfoldable pub xor_xor : Source → Net → Net → Net → Outcome
xor_xor src_b b aa ab =
    -- (aa ^ ab) ^ aa -> ab
    given (eq_net aa b) (Some (Value ab))
    -- (aa ^ ab) ^ (aa ^ bb) -> ab ^ bb
    or_else if_xor src_b (either_way (λ ba bb. given (eq_net aa ba) (Some (Form (Xor ab bb)))))

-- `Cell::Xor(ref val1, ref val2) if val1.len() == 1`, for one order of the operands
unfoldable pub xor_order : Source → Source → Net → Net → Outcome
xor_order src_a src_b a b =
    -- a ^ a -> 0
    given (eq_net a b) (Some (Value ZERO))
    -- a ^ X -> X
    or_else given (eq_net b UNDEF) (Some (Value UNDEF))
    -- a ^ 0 -> a
    or_else given (eq_net b ZERO) (Some (Value a))
    -- a ^ 1 -> ~a
    or_else given (eq_net b ONE) (Some (Form (Not a)))
    -- !a ^ b -> !(a ^ b)
    or_else if_not src_a (λ v. Some (NotOf (Xor v b)))
    or_else if_aig src_a (either_way (and_xor b))
    or_else if_xor src_a (either_way (xor_xor src_b b))

unfoldable pub xor_rule : Source → Source → Net → Net → Outcome
xor_rule src1 src2 net1 net2 = xor_order src1 src2 net1 net2 or_else xor_order src2 src1 net2 net1

-- `SimpleAigOpt::rewrite`
unfoldable pub simple_aig_opt : (Net → Source) → Cell → Outcome
simple_aig_opt look (Not a) = not_rule (look a) a
simple_aig_opt look (Aig p q) = aig_rule (look (net p)) (look (net q)) p q
simple_aig_opt look (Xor a b) = xor_rule (look a) (look b) a b
-- convert And and Or into AIG
simple_aig_opt look (And a b) = Some (Add (Aig (Pos a) (Pos b)))
simple_aig_opt look (Or a b) = Some (AddNotOf (Aig (Neg a) (Neg b)))
simple_aig_opt look (Input l) = None
simple_aig_opt look (Output a l) = None
simple_aig_opt look (Buf a) = None
simple_aig_opt look (Mux a b c) = None
