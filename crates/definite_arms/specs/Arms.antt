-- The arms of `SimpleAigOpt` and `Normalize` (generic/src/rewrite/aig.rs, normalize.rs): the places where a rule ends, in the Rust's order and under
-- the names of docs/ARMS.md, spelled with underscores, with a case for each variant told there. The arms for cells of several bits, and those for
-- cells that no ticket has, are left out. Assumes nothing: these are definitions.
use Rattle.std.specs.Prelude.{List, [], ◌∷◌, ◌++◌, None, Some}
use Rattle.value.specs.declared.Net.{Net}
use Rattle.value.specs.declared.ControlNet.TheVariants.{Pos, Neg}
use Rattle.value.specs.Value.{net_at, UNDEF, ZERO, ONE}
use Rattle.cell.specs.declared.Cell.{Cell}
use Rattle.cell.specs.declared.Cell.TheVariants.{Input, Output, Buf, Not, And, Or, Xor, Mux, Aig}
use Rattle.design.specs.Queue.{Source}
use Rattle.normalize.specs.Outcomes.{Outcome}
use Rattle.normalize.specs.declared.Change.TheVariants.{Value, Form, Add, NotOf, AddNotOf}

pub data Name : Type 0 where
  -- aig.rs
  not_zero not_one not_undef not_not not_none : Name
  and_same and_contradiction and_one and_not : Name
  and_and_same and_and_complement and_and_shared and_and_opposed : Name
  nand_substitute nand_subsume nand_and_substitute nand_and_subsume nand_resolve xor_found_inverted xor_found : Name
  xor_substitute xor_and_substitute and_none : Name
  xor_same xor_undef xor_zero xor_one xor_not xor_with_and xor_and_inverted xor_with_xor xor_xor_shared xor_none : Name
  and_split or_split other : Name
  -- normalize.rs
  buf and_exchange or_exchange xor_exchange aig_exchange kept : Name

-- the arms that make an undefined level definite (docs/DIFFERENCES.md)
unfoldable pub makes_definite : List Name
makes_definite =
    and_contradiction ∷ and_and_complement ∷ and_and_opposed
    ∷ nand_substitute ∷ nand_and_substitute ∷ nand_resolve
    ∷ xor_substitute ∷ xor_and_substitute
    ∷ xor_same ∷ xor_with_and ∷ xor_and_inverted ∷ xor_with_xor ∷ xor_xor_shared ∷ []

-- two nets for which a cell may be looked up, and three of which nothing is known
abbrev pub a : Net
a = net_at 2

abbrev pub b : Net
b = net_at 3

abbrev pub x : Net
x = net_at 4

abbrev pub y : Net
y = net_at 5

abbrev pub z : Net
z = net_at 6

-- a case of an arm: what is looked up for a and for b, the cell, and what the Rust returns for it. The operands of the cell stand as `Normalize`
-- leaves them, but for its own arms
pub record Case : Type 0 where
  pub src_a : Source
  pub src_b : Source
  pub cell : Cell
  pub result : Outcome

pub record Arm : Type 0 where
  pub name : Name
  pub cases : List Case

-- a case in which no cell is looked up; one is, for a; two are
abbrev pub plain : Cell → Outcome → List Case
plain c o = record { src_a = None; src_b = None; cell = c; result = o } ∷ []

abbrev pub over : Cell → Cell → Outcome → List Case
over ca c o = record { src_a = Some ca; src_b = None; cell = c; result = o } ∷ []

abbrev pub over_two : Cell → Cell → Cell → Outcome → List Case
over_two ca cb c o = record { src_a = Some ca; src_b = Some cb; cell = c; result = o } ∷ []

infixr 90 ◌or◌
abbrev pub ◌or◌ : List Case → List Case → List Case
◌or◌ ks ls = ks ++ ls

infix 80 ◌is◌
abbrev pub ◌is◌ : Name → List Case → Arm
◌is◌ n ks = record { name = n; cases = ks }

-- x, y, z stand for aa, ab, bb of the Rust's lines, and for a, b where nothing is looked up
unfoldable pub arms : List Arm
arms =
    -- `Cell::Not(ref val) if val.len() == 1`
    not_zero is plain (Not ZERO) (Some (Value ONE))
    ∷ not_one is plain (Not ONE) (Some (Value ZERO))
    ∷ not_undef is plain (Not UNDEF) (Some (Value UNDEF))
    ∷ not_not is over (Not x) (Not a) (Some (Value x))
    ∷ not_none is plain (Not x) None
    -- `Cell::Aig(net1, net2)`
    -- idempotence: a & a -> a
    ∷ and_same is plain (Aig (Pos x) (Pos x)) (Some (Value x))
    or plain (Aig (Neg x) (Neg x)) (Some (Form (Not x)))
    -- contradiction: a & ~a, a & 0 -> 0
    ∷ and_contradiction is plain (Aig (Pos x) (Neg x)) (Some (Value ZERO))
    or plain (Aig (Pos ZERO) (Pos x)) (Some (Value ZERO))
    or plain (Aig (Pos x) (Neg ONE)) (Some (Value ZERO))
    -- identity: a & 1 -> a
    ∷ and_one is plain (Aig (Pos ONE) (Pos x)) (Some (Value x))
    or plain (Aig (Pos ONE) (Neg x)) (Some (Form (Not x)))
    or plain (Aig (Pos x) (Neg ZERO)) (Some (Value x))
    or plain (Aig (Neg ZERO) (Neg x)) (Some (Form (Not x)))
    -- merge inverters into AIG cell
    ∷ and_not is over (Not x) (Aig (Pos a) (Pos y)) (Some (Form (Aig (Neg x) (Pos y))))
    or over (Not x) (Aig (Pos y) (Neg a)) (Some (Form (Aig (Pos x) (Pos y))))
    -- (aa & ab) & b
    -- idempotence: (aa & ab) & aa -> aa & ab
    ∷ and_and_same is over (Aig (Pos x) (Pos y)) (Aig (Pos a) (Pos x)) (Some (Value a))
    -- contradiction: (aa & ab) & ~aa -> 0
    ∷ and_and_complement is over (Aig (Pos x) (Pos y)) (Aig (Pos a) (Neg x)) (Some (Value ZERO))
    -- idempotence: (aa & ab) & (aa & bb) -> (aa & ab) & bb
    ∷ and_and_shared is over_two (Aig (Pos x) (Pos y)) (Aig (Pos x) (Pos z)) (Aig (Pos a) (Pos b)) (Some (Form (Aig (Pos a) (Pos z))))
    -- contradiction: (aa & ab) & (~aa & bb) -> 0
    ∷ and_and_opposed is over_two (Aig (Pos x) (Pos y)) (Aig (Neg x) (Pos z)) (Aig (Pos a) (Pos b)) (Some (Value ZERO))
    -- ~(aa & ab) & b
    -- substitution: ~(aa & ab) & aa -> ~ab & aa
    ∷ nand_substitute is over (Aig (Pos x) (Pos y)) (Aig (Pos x) (Neg a)) (Some (Form (Aig (Neg y) (Pos x))))
    -- subsumption: ~(aa & ab) & ~aa -> ~aa
    ∷ nand_subsume is over (Aig (Neg x) (Pos y)) (Aig (Pos x) (Neg a)) (Some (Value x))
    or over (Aig (Pos x) (Pos y)) (Aig (Neg a) (Neg x)) (Some (Form (Not x)))
    -- substitution: ~(aa & ab) & (aa & bb) -> ~ab & (aa & bb)
    ∷ nand_and_substitute is over_two (Aig (Pos x) (Pos y)) (Aig (Pos x) (Pos z)) (Aig (Pos b) (Neg a)) (Some (Form (Aig (Neg y) (Pos b))))
    -- subsumption: ~(aa & ab) & (~aa & bb) -> (~aa & bb)
    ∷ nand_and_subsume is over_two (Aig (Pos x) (Pos y)) (Aig (Neg x) (Pos z)) (Aig (Pos b) (Neg a)) (Some (Value b))
    -- resolution: ~(aa & ab) & ~(~aa & ab) -> ~ab
    ∷ nand_resolve is over_two (Aig (Pos x) (Neg y)) (Aig (Neg x) (Neg y)) (Aig (Neg a) (Neg b)) (Some (Value y))
    or over_two (Aig (Pos x) (Pos y)) (Aig (Neg x) (Pos y)) (Aig (Neg a) (Neg b)) (Some (Form (Not y)))
    -- XOR recognition: ~(aa & ab) & ~(~aa & ~ab) -> aa ^ ab
    ∷ xor_found_inverted is over_two (Aig (Pos x) (Neg y)) (Aig (Neg x) (Pos y)) (Aig (Neg a) (Neg b)) (Some (NotOf (Xor x y)))
    ∷ xor_found is over_two (Aig (Pos x) (Pos y)) (Aig (Neg x) (Neg y)) (Aig (Neg a) (Neg b)) (Some (Form (Xor x y)))
    -- (aa ^ ab) & b
    -- substitution: (aa ^ ab) & aa -> ~ab & aa, ~(aa ^ ab) & aa -> ab & aa, (aa ^ ab) & ~aa -> ab & ~aa, ~(aa ^ ab) & ~aa -> ~ab & ~aa
    ∷ xor_substitute is over (Xor x y) (Aig (Pos a) (Pos x)) (Some (Form (Aig (Neg y) (Pos x))))
    or over (Xor x y) (Aig (Pos x) (Neg a)) (Some (Form (Aig (Pos y) (Pos x))))
    or over (Xor x y) (Aig (Pos a) (Neg x)) (Some (Form (Aig (Pos y) (Neg x))))
    or over (Xor x y) (Aig (Neg a) (Neg x)) (Some (Form (Aig (Neg y) (Neg x))))
    -- substitution: the same with (aa & bb) for aa, and (~aa & bb) for ~aa
    ∷ xor_and_substitute is over_two (Xor x y) (Aig (Pos x) (Pos z)) (Aig (Pos a) (Pos b)) (Some (Form (Aig (Neg y) (Pos b))))
    or over_two (Xor x y) (Aig (Pos x) (Pos z)) (Aig (Pos b) (Neg a)) (Some (Form (Aig (Pos y) (Pos b))))
    or over_two (Xor x y) (Aig (Neg x) (Pos z)) (Aig (Pos a) (Pos b)) (Some (Form (Aig (Pos y) (Pos b))))
    or over_two (Xor x y) (Aig (Neg x) (Pos z)) (Aig (Pos b) (Neg a)) (Some (Form (Aig (Neg y) (Pos b))))
    ∷ and_none is plain (Aig (Pos x) (Pos y)) None
    -- `Cell::Xor(ref val1, ref val2) if val1.len() == 1`
    -- a ^ a -> 0
    ∷ xor_same is plain (Xor x x) (Some (Value ZERO))
    -- a ^ X -> X
    ∷ xor_undef is plain (Xor x UNDEF) (Some (Value UNDEF))
    -- a ^ 0 -> a
    ∷ xor_zero is plain (Xor ZERO x) (Some (Value x))
    -- a ^ 1 -> ~a
    ∷ xor_one is plain (Xor ONE x) (Some (Form (Not x)))
    -- !a ^ b -> !(a ^ b)
    ∷ xor_not is over (Not x) (Xor a y) (Some (NotOf (Xor x y)))
    -- (aa & ab) ^ aa -> aa & ~ab
    ∷ xor_with_and is over (Aig (Pos x) (Pos y)) (Xor a x) (Some (Form (Aig (Pos x) (Neg y))))
    -- (aa & ab) ^ ~aa -> ~(aa & ~ab)
    ∷ xor_and_inverted is over (Aig (Neg x) (Pos y)) (Xor a x) (Some (NotOf (Aig (Neg x) (Neg y))))
    -- (aa ^ ab) ^ aa -> ab
    ∷ xor_with_xor is over (Xor x y) (Xor a x) (Some (Value y))
    -- (aa ^ ab) ^ (aa ^ bb) -> ab ^ bb
    ∷ xor_xor_shared is over_two (Xor x y) (Xor x z) (Xor a b) (Some (Form (Xor y z)))
    ∷ xor_none is plain (Xor x y) None
    -- Convert And and Or into AIG.
    ∷ and_split is plain (And x y) (Some (Add (Aig (Pos x) (Pos y))))
    ∷ or_split is plain (Or x y) (Some (AddNotOf (Aig (Neg x) (Neg y))))
    -- `_ => RewriteResult::None`
    ∷ other is plain (Input 1) None
    or plain (Output x 1) None
    or plain (Mux x y z) None
    -- `Normalize`
    ∷ buf is plain (Buf x) (Some (Value x))
    ∷ and_exchange is plain (And y x) (Some (Form (And x y)))
    ∷ or_exchange is plain (Or y x) (Some (Form (Or x y)))
    ∷ xor_exchange is plain (Xor y x) (Some (Form (Xor x y)))
    ∷ aig_exchange is plain (Aig (Pos y) (Pos x)) (Some (Form (Aig (Pos x) (Pos y))))
    ∷ kept is plain (Aig (Pos x) (Pos y)) None
    ∷ []
