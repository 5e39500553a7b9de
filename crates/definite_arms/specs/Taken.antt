-- The arms in general: by which of them the rules come to an outcome for any cell and any look-up, and what that does to levels. Assumes nothing:
-- these are definitions.
use Rattle.std.specs.Prelude.{◌≡◌, cond, ℕ, None, Some}
use Rattle.std.proofs.Math.Option.{some}
use Rattle.std.proofs.Math.ListN.{get_elem?}
use Rattle.logic.specs.declared.Trit.{Trit}
use Rattle.logic.specs.declared.Trit.TheVariants.{Undef}
use Rattle.value.specs.declared.Net.{Net}
use Rattle.value.specs.declared.ControlNet.{ControlNet}
use Rattle.value.specs.declared.ControlNet.TheVariants.{Pos, Neg}
use Rattle.value.specs.Value.{le_net, le_control, net, is_negative}
use Rattle.cell.specs.declared.Cell.{Cell}
use Rattle.cell.specs.declared.Cell.TheVariants.{Input, Output, Buf, Not, And, Or, Xor, Mux, Aig}
use Rattle.design.specs.Queue.{Source}
use Rattle.normalize.specs.declared.Change.TheVariants.{Add, AddNotOf}
use Rattle.normalize.specs.Outcomes.{◌or_else◌, Outcome}
use Rattle.normalize.specs.Normalize.{normalize}
use Rattle.aig.specs.Aig.{differ, simple_aig_opt}
use Rattle.basics.specs.Lists.{All}
use Rattle.aig_laws.specs.Arms as tested
use Rattle.aig_laws.specs.Arms.{NotArm, AigArm, XorArm}
use Rattle.rewrite_kept.specs.Outcomes.{gate_level, outcome_level, Constants, SourceFits}
use Rattle.definite_arms.specs.Arms as arm
use Rattle.definite_arms.specs.Arms.{Name, makes_definite, Case, arms}
use Rattle.definite_arms.specs.Definite.{look}

-- names of the ways through the rules; aig_laws/specs/Arms.antt has their tests, as equations
unfoldable pub not_name : {src : Source} {n : Net} {o : Outcome} → NotArm src n o → Name
not_name (tested.not_none e) = arm.not_none
not_name (tested.not_zero t e) = arm.not_zero
not_name (tested.not_one t e) = arm.not_one
not_name (tested.not_undef t e) = arm.not_undef
not_name (tested.not_not w t e) = arm.not_not

unfoldable pub aig_name : {src_a src_b : Source} {p q : ControlNet} {o : Outcome} → AigArm src_a src_b p q o → Name
aig_name (tested.aig_none e) = arm.and_none
aig_name (tested.aig_same t e) = arm.and_same
aig_name (tested.aig_opposite t e) = arm.and_contradiction
aig_name (tested.aig_zero t e) = arm.and_contradiction
aig_name (tested.aig_one t e) = arm.and_one
aig_name (tested.aig_not w t e) = arm.and_not
aig_name (tested.and_same aa ab h s t e) = arm.and_and_same
aig_name (tested.and_opposite aa ab h s t e) = arm.and_and_complement
aig_name (tested.and_and_same aa ab ba bb h s k r t e) = arm.and_and_shared
aig_name (tested.and_and_opposite aa ab ba bb h s k r t e) = arm.and_and_opposed
aig_name (tested.nand_same aa ab h s t e) = arm.nand_substitute
aig_name (tested.nand_opposite aa ab h s t e) = arm.nand_subsume
aig_name (tested.nand_and_same aa ab ba bb h s k r t e) = arm.nand_and_substitute
aig_name (tested.nand_and_opposite aa ab ba bb h s k r t e) = arm.nand_and_subsume
aig_name (tested.nand_nand_same aa ab ba bb h s k r t u e) = arm.nand_resolve
aig_name (tested.nand_nand_opposite aa ab ba bb h s k r t u e) = cond (differ (is_negative aa) (is_negative ab)) arm.xor_found_inverted arm.xor_found
aig_name (tested.xor_on aa ab h t e) = arm.xor_substitute
aig_name (tested.xor_and_on aa ab ba bb h k s t e) = arm.xor_and_substitute

unfoldable pub xor_name : {src_a src_b : Source} {m n : Net} {o : Outcome} → XorArm src_a src_b m n o → Name
xor_name (tested.xor_none e) = arm.xor_none
xor_name (tested.xor_same t e) = arm.xor_same
xor_name (tested.xor_undef t e) = arm.xor_undef
xor_name (tested.xor_zero t e) = arm.xor_zero
xor_name (tested.xor_one t e) = arm.xor_one
xor_name (tested.xor_not w t e) = arm.xor_not
xor_name (tested.xor_with_and aa ab h t e) = arm.xor_with_and
xor_name (tested.xor_nand aa ab h t e) = arm.xor_and_inverted
xor_name (tested.xor_with_xor aa ab h t e) = arm.xor_with_xor
xor_name (tested.xor_both aa ab ba bb h k t e) = arm.xor_xor_shared

unfoldable pub normalize_name : Cell → Name
normalize_name (Buf m) = arm.buf
normalize_name (And m n) = cond (le_net m n) arm.kept arm.and_exchange
normalize_name (Or m n) = cond (le_net m n) arm.kept arm.or_exchange
normalize_name (Xor m n) = cond (le_net m n) arm.kept arm.xor_exchange
normalize_name (Aig p q) = cond (le_control p q) arm.kept arm.aig_exchange
normalize_name (Input l) = arm.kept
normalize_name (Output m l) = arm.kept
normalize_name (Not m) = arm.kept
normalize_name (Mux l m n) = arm.kept

-- the tests of the arm hold for the cell, in one order of its operands, and the outcome is what the arm returns; an arm that ends a rule with
-- nothing has no test. That earlier arms fail is not said: the Rust takes the first. docs/ORACLE.md has a ticket for each of the thirteen
pub data Taken (look : Net → Source) : Cell → Outcome → Name → Type 0 where
  inverter : {n : Net} {o : Outcome} (k : NotArm (look n) n o) → Taken look (Not n) o (not_name k)
  and_inverter : {p q : ControlNet} {o : Outcome} (k : AigArm (look (net p)) (look (net q)) p q o) → Taken look (Aig p q) o (aig_name k)
  and_turned : {p q : ControlNet} {o : Outcome} (k : AigArm (look (net q)) (look (net p)) q p o) → Taken look (Aig p q) o (aig_name k)
  xor_gate : {m n : Net} {o : Outcome} (k : XorArm (look m) (look n) m n o) → Taken look (Xor m n) o (xor_name k)
  xor_turned : {m n : Net} {o : Outcome} (k : XorArm (look n) (look m) n m o) → Taken look (Xor m n) o (xor_name k)
  and_gate : {m n : Net} → Taken look (And m n) (Some (Add (Aig (Pos m) (Pos n)))) arm.and_split
  or_gate : {m n : Net} → Taken look (Or m n) (Some (AddNotOf (Aig (Neg m) (Neg n)))) arm.or_split
  input : {l : ℕ} → Taken look (Input l) None arm.other
  output : {m : Net} {l : ℕ} → Taken look (Output m l) None arm.other
  buffer : {m : Net} → Taken look (Buf m) None arm.other
  mux : {l m n : Net} → Taken look (Mux l m n) None arm.other
  normalized : (c : Cell) → Taken look c (normalize c) (normalize_name c)

-- one pass over the rules, `Normalize` first
abbrev pub pass : (Net → Source) → Cell → Outcome
pass look c = normalize c or_else simple_aig_opt look c

-- a case of the table: one pass gives its result, by the arm under whose name it stands
pub record Ruled (name : Name) (k : Case) : Type 0 where
  pub gives : pass (look k) k.cell ≡ k.result
  pub taken : Taken (look k) k.cell k.result name

abbrev pub TableRuled : Type 0
TableRuled = All (λ r. All (Ruled r.name) r.cases) arms

-- levels of all nets: a constant has its own, a cell that is looked up that of its net
pub record Levelled (look : Net → Source) (v : Net → Trit) : Type 0 where
  pub constants : Constants v
  pub fits : (n : Net) → SourceFits v n (look n)

-- an arm by which a pass over the rules can give 0 or 1 for a cell that is undefined
pub record Defines (name : Name) : Type 0 where
  pub look : Net → Source
  pub level : Net → Trit
  pub levelled : Levelled look level
  pub cell : Cell
  pub taken : Taken look cell (pass look cell) name
  pub before : gate_level level cell ≡ Undef
  pub after : outcome_level level (gate_level level cell) (pass look cell) ≡ Undef → ⊥

-- an arm whose outcome always has the level of the cell, undefined or not
abbrev pub Exact : Name → Type 0
Exact name = (look : Net → Source) (v : Net → Trit) → Levelled look v
    → (c : Cell) (o : Outcome) → Taken look c o name → outcome_level v (gate_level v c) o ≡ gate_level v c

abbrev pub Listed : Name → Type 0
Listed name = (i : ℕ) × (get_elem? makes_definite i ≡ some name)

-- every pass is by an arm; the listed ones can make an undefined level definite, and all others are exact
pub record DefiniteExactly : Type 0 where
  pub taken : (look : Net → Source) (c : Cell) → (name : Name) × Taken look c (pass look c) name
  pub listed : All Defines makes_definite
  pub others : (name : Name) → (Listed name → ⊥) → Exact name
