-- The arms of the rules: what each outcome is, and the tests that lead there. The names are by the definition's tests, not those of docs/ARMS.md;
-- `definite_arms/specs/Taken.antt` (`aig_name`, `xor_name`) pairs the two. Assumes nothing: these are definitions.
use Rattle.std.specs.Prelude.{◌≡◌, true, false, not, None, Some}
use Rattle.value.specs.declared.Net.{Net}
use Rattle.value.specs.declared.ControlNet.{ControlNet}
use Rattle.value.specs.declared.ControlNet.TheVariants.{Pos, Neg}
use Rattle.value.specs.Value.{UNDEF, ZERO, ONE, from_net_invert, net, is_positive, is_negative, is_always, not_control}
use Rattle.cell.specs.declared.Cell.{Cell}
use Rattle.cell.specs.declared.Cell.TheVariants.{Not, Xor, Aig}
use Rattle.design.specs.Queue.{Source}
use Rattle.normalize.specs.declared.Change.TheVariants.{Value, Form, NotOf}
use Rattle.normalize.specs.Outcomes.{from_control, Outcome}
use Rattle.aig.specs.Aig.{differ, xor_of}

-- a source is a cell with these two operands, in either order
pub data Has {A : Type 0} (make : A → A → Cell) (src : Source) (p q : A) : Type 0 where
  as_is : src ≡ Some (make p q) → Has make src p q
  turned : src ≡ Some (make q p) → Has make src p q

abbrev pub HasAig : Source → ControlNet → ControlNet → Type 0
HasAig = Has Aig

abbrev pub HasXor : Source → Net → Net → Type 0
HasXor = Has Xor

-- `Cell::Not`
pub data NotArm (src : Source) (n : Net) (o : Outcome) : Type 0 where
  not_none : o ≡ None → NotArm src n o
  not_zero : n ≡ ZERO → o ≡ Some (Value ONE) → NotArm src n o
  not_one : n ≡ ONE → o ≡ Some (Value ZERO) → NotArm src n o
  not_undef : n ≡ UNDEF → o ≡ Some (Value UNDEF) → NotArm src n o
  not_not : (v : Net) → src ≡ Some (Not v) → o ≡ Some (Value v) → NotArm src n o

-- `Cell::Aig`, in one order of the operands
pub data AigArm (src_a src_b : Source) (a b : ControlNet) (o : Outcome) : Type 0 where
  aig_none : o ≡ None → AigArm src_a src_b a b o
  aig_same : a ≡ b → o ≡ from_control a → AigArm src_a src_b a b o
  aig_opposite : a ≡ not_control b → o ≡ Some (Value ZERO) → AigArm src_a src_b a b o
  aig_zero : is_always b false ≡ true → o ≡ Some (Value ZERO) → AigArm src_a src_b a b o
  aig_one : is_always b true ≡ true → o ≡ from_control a → AigArm src_a src_b a b o
  aig_not : (v : Net) → src_a ≡ Some (Not v) → o ≡ Some (Form (Aig (from_net_invert v (not (is_negative a))) b)) → AigArm src_a src_b a b o
  and_same : (aa ab : ControlNet) → HasAig src_a aa ab → is_positive a ≡ true → aa ≡ b → o ≡ from_control a → AigArm src_a src_b a b o
  and_opposite : (aa ab : ControlNet) → HasAig src_a aa ab → is_positive a ≡ true → aa ≡ not_control b → o ≡ Some (Value ZERO) → AigArm src_a src_b a b o
  and_and_same : (aa ab ba bb : ControlNet) → HasAig src_a aa ab → is_positive a ≡ true → HasAig src_b ba bb → is_positive b ≡ true → aa ≡ ba
      → o ≡ Some (Form (Aig a bb)) → AigArm src_a src_b a b o
  and_and_opposite : (aa ab ba bb : ControlNet) → HasAig src_a aa ab → is_positive a ≡ true → HasAig src_b ba bb → is_positive b ≡ true → aa ≡ not_control ba
      → o ≡ Some (Value ZERO) → AigArm src_a src_b a b o
  nand_same : (aa ab : ControlNet) → HasAig src_a aa ab → is_negative a ≡ true → aa ≡ b → o ≡ Some (Form (Aig (not_control ab) b)) → AigArm src_a src_b a b o
  nand_opposite : (aa ab : ControlNet) → HasAig src_a aa ab → is_negative a ≡ true → aa ≡ not_control b → o ≡ from_control b → AigArm src_a src_b a b o
  nand_and_same : (aa ab ba bb : ControlNet) → HasAig src_a aa ab → is_negative a ≡ true → HasAig src_b ba bb → is_positive b ≡ true → aa ≡ ba
      → o ≡ Some (Form (Aig (not_control ab) b)) → AigArm src_a src_b a b o
  nand_and_opposite : (aa ab ba bb : ControlNet) → HasAig src_a aa ab → is_negative a ≡ true → HasAig src_b ba bb → is_positive b ≡ true → aa ≡ not_control ba
      → o ≡ from_control b → AigArm src_a src_b a b o
  nand_nand_same : (aa ab ba bb : ControlNet) → HasAig src_a aa ab → is_negative a ≡ true → HasAig src_b ba bb → is_negative b ≡ true → aa ≡ not_control ba
      → ab ≡ bb → o ≡ from_control (not_control ab) → AigArm src_a src_b a b o
  nand_nand_opposite : (aa ab ba bb : ControlNet) → HasAig src_a aa ab → is_negative a ≡ true → HasAig src_b ba bb → is_negative b ≡ true → aa ≡ not_control ba
      → ab ≡ not_control bb → o ≡ xor_of aa ab → AigArm src_a src_b a b o
  xor_on : (aa ab : Net) → HasXor src_a aa ab → aa ≡ net b
      → o ≡ Some (Form (Aig (from_net_invert ab (not (differ (is_negative a) (is_negative b)))) b)) → AigArm src_a src_b a b o
  xor_and_on : (aa ab : Net) (ba bb : ControlNet) → HasXor src_a aa ab → HasAig src_b ba bb → is_positive b ≡ true → aa ≡ net ba
      → o ≡ Some (Form (Aig (from_net_invert ab (not (differ (is_negative a) (is_negative ba)))) b)) → AigArm src_a src_b a b o

-- `Cell::Xor`, in one order of the operands
pub data XorArm (src_a src_b : Source) (a b : Net) (o : Outcome) : Type 0 where
  xor_none : o ≡ None → XorArm src_a src_b a b o
  xor_same : a ≡ b → o ≡ Some (Value ZERO) → XorArm src_a src_b a b o
  xor_undef : b ≡ UNDEF → o ≡ Some (Value UNDEF) → XorArm src_a src_b a b o
  xor_zero : b ≡ ZERO → o ≡ Some (Value a) → XorArm src_a src_b a b o
  xor_one : b ≡ ONE → o ≡ Some (Form (Not a)) → XorArm src_a src_b a b o
  xor_not : (v : Net) → src_a ≡ Some (Not v) → o ≡ Some (NotOf (Xor v b)) → XorArm src_a src_b a b o
  xor_with_and : (aa ab : ControlNet) → HasAig src_a aa ab → aa ≡ Pos b → o ≡ Some (Form (Aig aa (not_control ab))) → XorArm src_a src_b a b o
  xor_nand : (aa ab : ControlNet) → HasAig src_a aa ab → aa ≡ Neg b → o ≡ Some (NotOf (Aig aa (not_control ab))) → XorArm src_a src_b a b o
  xor_with_xor : (aa ab : Net) → HasXor src_a aa ab → aa ≡ b → o ≡ Some (Value ab) → XorArm src_a src_b a b o
  xor_both : (aa ab ba bb : Net) → HasXor src_a aa ab → HasXor src_b ba bb → aa ≡ ba → o ≡ Some (Form (Xor ab bb)) → XorArm src_a src_b a b o
