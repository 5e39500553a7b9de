-- Single cells: what the rules look at, and cells that are alike. Assumes nothing.
use mathlib.Core.Path.{◌≡◌, refl, sym, ap, ap₂, ◌∙◌}
use mathlib.Core.Bool.{Bool, true, false, not}
use mathlib.Core.Logic.{inl, inr}
use Prim.Native.Nat.{ℕ}
use native.Mathlib.Omega.{arith}
use lib.Dec.{eqb}
use Rattle.value.specs.declared.Net.{Net}
use Rattle.value.specs.Value.{le_net, le_control}
use Rattle.value.proofs.Order.{control-order, net-order}
use Rattle.cell.specs.declared.Cell.{Cell}
use Rattle.cell.specs.declared.Cell.TheVariants.{Input, Output, Buf, Not, And, Or, Xor, Mux, Aig}
use Rattle.cell.specs.Records.{cell_record}
use Rattle.netlist.specs.Shape.{visit}
use Rattle.std.specs.Prelude.{None, Some}
use Rattle.design.specs.Queue.{Source}
use Rattle.normalize.specs.declared.Change.TheVariants.{Value, Form, Add, NotOf, AddNotOf}
use Rattle.normalize.specs.Outcomes.{◌or_else◌, first_change, given, Outcome}
use Rattle.normalize.specs.Normalize.{normalize}
use Rattle.aig.specs.Aig.{aig_rule, xor_rule, not_rule, simple_aig_opt}
use Rattle.basics.specs.Lists.{All}
use Rattle.order_laws.proofs.Sorts.{ByKind}
use Rattle.normal.specs.Paired.{exchange, Alike}
use Rattle.rewrite_normal.specs.Plain.{is_aig}

-- the rules look at nothing but the cell's operands
pub simple-same : (f g : Net → Source) (c : Cell) → All (λ n. f n ≡ g n) (visit c) → simple_aig_opt f c ≡ simple_aig_opt g c
unfolding simple_aig_opt All visit
simple-same f g (Not a) h = ap (λ x. not_rule x a) h.0
simple-same f g (Aig p q) h = ap₂ (λ x y. aig_rule x y p q) h.0 h.1.0
simple-same f g (Xor a b) h = ap₂ (λ x y. xor_rule x y a b) h.0 h.1.0
simple-same f g (And a b) h = refl
simple-same f g (Or a b) h = refl
simple-same f g (Input l) h = refl
simple-same f g (Output a l) h = refl
simple-same f g (Buf a) h = refl
simple-same f g (Mux a b c) h = refl

pub both-none : (x y : Outcome) → x or_else y ≡ None → (x ≡ None) × (y ≡ None)
unfolding first_change
both-none None y e = (refl, e)
both-none (Some c) y e = let z : ◌≡◌ {A = ℕ} 0 1 = cc in absurd (omega arith)

-- cells in order are equal where they are alike
in_order : (t : Bool) (c : Cell) → given (not t) (Some (Form c)) ≡ None → t ≡ true
in_order true c e = refl
in_order false c e = let z : ◌≡◌ {A = ℕ} 0 1 = cc in absurd (omega arith)

sorted-exchange : (c : Cell) → normalize c ≡ None → normalize (exchange c) ≡ None → exchange c ≡ c
unfolding exchange normalize
sorted-exchange (Xor a b) h k = let e : a ≡ b = net-order.antisym a b (in_order (le_net a b) _ h) (in_order (le_net b a) _ k) in ap₂ Xor (sym e) e
sorted-exchange (Aig p q) h k =
    let e : p ≡ q = control-order.antisym p q (in_order (le_control p q) _ h) (in_order (le_control q p) _ k) in ap₂ Aig (sym e) e
sorted-exchange (Input l) h k = refl
sorted-exchange (Output a l) h k = refl
sorted-exchange (Buf a) h k = refl
sorted-exchange (Not a) h k = refl
sorted-exchange (And a b) h k = refl
sorted-exchange (Or a b) h k = refl
sorted-exchange (Mux a b c) h k = refl

pub sorted-alike : (c d : Cell) → normalize c ≡ None → normalize d ≡ None → Alike c d → c ≡ d
sorted-alike c d h k (inl e) = e
sorted-alike c d h k (inr e) = sym (sorted-exchange c h (ap normalize e ∙ k)) ∙ e

-- and-inverters by their kind
pub aig-kind : (bit : ℕ) (c : Cell) → is_aig c ≡ eqb (cell_record bit c).kind 9
unfolding cell_record
aig-kind bit (Input l) = refl
aig-kind bit (Output a l) = refl
aig-kind bit (Buf a) = refl
aig-kind bit (Not a) = refl
aig-kind bit (And a b) = refl
aig-kind bit (Or a b) = refl
aig-kind bit (Xor a b) = refl
aig-kind bit (Mux a b c) = refl
aig-kind bit (Aig p q) = refl

pub aigs-by : ByKind is_aig
aigs-by = record { test = λ k. eqb k 9; is = aig-kind }
