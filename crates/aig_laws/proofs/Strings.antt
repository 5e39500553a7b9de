-- How a statement about outcomes goes through the strings of tests that a rule is. Assumes nothing.
use mathlib.Core.Path.{◌≡◌, refl}
use mathlib.Core.Bool.{Bool, true, false}
use Rattle.value.specs.declared.Net.{Net}
use Rattle.value.specs.declared.ControlNet.{ControlNet}
use Rattle.cell.specs.declared.Cell.TheVariants.{Input, Output, Buf, Not, And, Or, Xor, Mux, Aig}
use Rattle.cell.specs.declared.Cell.{Cell}
use Rattle.std.specs.Prelude.{None, Some}
use Rattle.design.specs.Queue.{Source}
use Rattle.normalize.specs.declared.Change.TheVariants.{Value, Form, Add, NotOf, AddNotOf}
use Rattle.normalize.specs.Outcomes.{◌or_else◌, first_change, given, either_way, Outcome}
use Rattle.aig.specs.Aig.{if_not, if_aig, if_xor}
use Rattle.aig_laws.specs.Arms.{Has, as_is, turned, HasAig, HasXor}

pub has-turned : {A : Type 0} (make : A → A → Cell) (src : Source) (p q : A) → Has make src p q → Has make src q p
has-turned make src p q (as_is e) = turned e
has-turned make src p q (turned e) = as_is e

module _ (G : Outcome → Type 0) where
  pub has-or_else : (x y : Outcome) → G x → G y → G (x or_else y)
  unfolding first_change
  has-or_else None y p q = q
  has-or_else (Some c) y p q = p

  pub has-given : G None → (b : Bool) (o : Outcome) → (b ≡ true → G o) → G (given b o)
  has-given z true o f = f refl
  has-given z false o f = z

  pub has-if_not : G None → (src : Source) (f : Net → Outcome) → ((v : Net) → src ≡ Some (Not v) → G (f v)) → G (if_not src f)
  unfolding if_not
  has-if_not z None f h = z
  has-if_not z (Some (Not v)) f h = h v refl
  has-if_not z (Some (Input l)) f h = z
  has-if_not z (Some (Output a l)) f h = z
  has-if_not z (Some (Buf a)) f h = z
  has-if_not z (Some (And a c)) f h = z
  has-if_not z (Some (Or a c)) f h = z
  has-if_not z (Some (Xor a c)) f h = z
  has-if_not z (Some (Mux a c d)) f h = z
  has-if_not z (Some (Aig p q)) f h = z

  has-if_aig : G None → (src : Source) (f : ControlNet → ControlNet → Outcome) → ((p q : ControlNet) → src ≡ Some (Aig p q) → G (f p q)) → G (if_aig src f)
  unfolding if_aig
  has-if_aig z None f h = z
  has-if_aig z (Some (Aig p q)) f h = h p q refl
  has-if_aig z (Some (Input l)) f h = z
  has-if_aig z (Some (Output a l)) f h = z
  has-if_aig z (Some (Buf a)) f h = z
  has-if_aig z (Some (Not a)) f h = z
  has-if_aig z (Some (And a c)) f h = z
  has-if_aig z (Some (Or a c)) f h = z
  has-if_aig z (Some (Xor a c)) f h = z
  has-if_aig z (Some (Mux a c d)) f h = z

  has-if_xor : G None → (src : Source) (f : Net → Net → Outcome) → ((x y : Net) → src ≡ Some (Xor x y) → G (f x y)) → G (if_xor src f)
  unfolding if_xor
  has-if_xor z None f h = z
  has-if_xor z (Some (Xor a c)) f h = h a c refl
  has-if_xor z (Some (Input l)) f h = z
  has-if_xor z (Some (Output a l)) f h = z
  has-if_xor z (Some (Buf a)) f h = z
  has-if_xor z (Some (Not a)) f h = z
  has-if_xor z (Some (And a c)) f h = z
  has-if_xor z (Some (Or a c)) f h = z
  has-if_xor z (Some (Mux a c d)) f h = z
  has-if_xor z (Some (Aig p q)) f h = z

  -- both orders of a source's operands, under a test
  pub has-aig : G None → (src : Source) (t : Bool) (body : ControlNet → ControlNet → Outcome) → ((p q : ControlNet) → HasAig src p q → t ≡ true → G (body p q))
      → G (if_aig src (λ p q. given t (either_way body p q)))
  has-aig z src t body h =
      has-if_aig z src _ (λ p q e. has-given z t (either_way body p q)
      (λ b. has-or_else (body p q) (body q p) (h p q (as_is e) b) (h q p (turned e) b)))

  pub has-plain-aig : G None → (src : Source) (body : ControlNet → ControlNet → Outcome) → ((p q : ControlNet) → HasAig src p q → G (body p q))
      → G (if_aig src (either_way body))
  has-plain-aig z src body h = has-if_aig z src _ (λ p q e. has-or_else (body p q) (body q p) (h p q (as_is e)) (h q p (turned e)))

  pub has-xor : G None → (src : Source) (body : Net → Net → Outcome) → ((x y : Net) → HasXor src x y → G (body x y)) → G (if_xor src (either_way body))
  has-xor z src body h = has-if_xor z src _ (λ p q e. has-or_else (body p q) (body q p) (h p q (as_is e)) (h q p (turned e)))
