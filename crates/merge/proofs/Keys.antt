-- Keys by the fields of records. Assumes nothing.
use mathlib.Core.Path.{◌≡◌, refl, sym, ap, ◌∙◌}
use mathlib.Core.Bool.{Bool, true, false, cond, not}
use Prim.Native.Nat.{ℕ}
use lib.Dec.{ltb, leb}
use borrow.Author.Tests.{leb-true, leb-false, lt-ltb, le-ltb}
use Rattle.value.specs.declared.Net.{Net}
use Rattle.value.specs.declared.ControlNet.TheVariants.{Pos, Neg}
use Rattle.value.specs.Value.{le_net, le_control}
use Rattle.kinds.specs.declared.Sort.TheVariants as sort
use Rattle.kinds.specs.Kinds.{sort_of, number_of}
use Rattle.cell.specs.declared.Cell.{Cell}
use Rattle.cell.specs.declared.Cell.TheVariants.{Input, Output, Buf, Not, And, Or, Xor, Mux, Aig}
use Rattle.cell.specs.Records.{record_of, cell_record}
use Rattle.merge.specs.Merge.{key_of}
use Rattle.merge.specs.inner.Words.{turned, key_fields}

-- an order that fails, as the code tests it
pub less-is : (a b : ℕ) → ltb b a ≡ not (leb a b)
less-is a b = go (leb a b) refl
  where
    go : (p : Bool) → leb a b ≡ p → ltb b a ≡ not (leb a b)
    go true e = le-ltb b a (leb-true a b e) ∙ sym (ap not e)
    go false e = lt-ltb b a (leb-false a b e) ∙ sym (ap not e)

module _ (bit : ℕ) where
  -- two operands of one sort, exchanged or not
  either_way : (f : Net → Net → Cell) (kind flags : ℕ) → ((x y : Net) → cell_record bit (f x y) ≡ record_of kind flags bit x.0 y.0 0) → (x y : Net) (le : Bool)
      → record_of kind flags bit (cond (not le) y.0 x.0) (cond (not le) x.0 y.0) 0 ≡ cell_record bit (cond le (f x y) (f y x))
  either_way f kind flags h x y true = sym (h x y)
  either_way f kind flags h x y false = sym (h y x)

  pub key-fields : (b : ℕ) (c : Cell) → key_fields bit (cell_record b c) ≡ cell_record bit (key_of c)
  unfolding key_fields turned key_of cell_record le_net le_control sort_of
  key-fields b (Input l) = refl
  key-fields b (Output x l) = refl
  key-fields b (Buf x) = refl
  key-fields b (Not x) = refl
  key-fields b (And x y) = either_way And (number_of sort.And) 0 (λ v w. refl) x y (leb x.0 y.0)
  key-fields b (Or x y) = either_way Or (number_of sort.Or) 0 (λ v w. refl) x y (leb x.0 y.0)
  key-fields b (Xor x y) = either_way Xor (number_of sort.Xor) 0 (λ v w. refl) x y (leb x.0 y.0)
  key-fields b (Mux x y z) = refl
  key-fields b (Aig (Pos x) (Pos y)) = either_way (λ v w. Aig (Pos v) (Pos w)) (number_of sort.Aig) 0 (λ v w. refl) x y (leb x.0 y.0)
  key-fields b (Aig (Pos x) (Neg y)) = refl
  key-fields b (Aig (Neg x) (Pos y)) = refl
  key-fields b (Aig (Neg x) (Neg y)) = either_way (λ v w. Aig (Neg v) (Neg w)) (number_of sort.Aig) 3 (λ v w. refl) x y (leb x.0 y.0)
