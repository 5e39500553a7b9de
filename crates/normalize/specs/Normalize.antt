-- `Normalize` (generic/src/rewrite/normalize.rs), in the order of its arms. Assumes nothing: these are definitions.
use Rattle.std.specs.Prelude.{Bool, not, None, Some}
use Rattle.value.specs.Value.{le_net, le_control}
use Rattle.cell.specs.declared.Cell.{Cell}
use Rattle.cell.specs.declared.Cell.TheVariants.{Input, Output, Buf, Not, And, Or, Xor, Mux, Aig}
use Rattle.normalize.specs.declared.Change.TheVariants.{Value, Form}
use Rattle.normalize.specs.Outcomes.{given, Outcome}

-- `if val1 > val2`
abbrev pub exchanged : {A : Type 0} → (A → A → Bool) → (A → A → Cell) → A → A → Outcome
exchanged le rebuild a b = given (not (le a b)) (Some (Form (rebuild b a)))

unfoldable pub normalize : Cell → Outcome
normalize (Buf a) = Some (Value a)
normalize (And a b) = exchanged le_net And a b
normalize (Or a b) = exchanged le_net Or a b
normalize (Xor a b) = exchanged le_net Xor a b
normalize (Aig p q) = exchanged le_control Aig p q
normalize (Input l) = None
normalize (Output a l) = None
normalize (Not a) = None
normalize (Mux a b c) = None
