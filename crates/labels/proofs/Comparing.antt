-- Two labels compared in the field where one of the records has its own. Assumes nothing.
use mathlib.Core.Path.{◌≡◌, refl, sym, ap, ◌∙◌}
use mathlib.Core.Bool.{Bool, true, false, cond, ◌&&◌}
use Prim.Native.Nat.{ℕ}
use lib.Dec.{eqb}
use borrow.Author.Tests.{eqb-true, eqb-false, eq-eqb, ne_eqb}
use Rattle.basics.proofs.Truth.{either}
use Rattle.kinds.specs.declared.Sort.TheVariants as sort
use Rattle.kinds.specs.Kinds.{number_of}
use Rattle.cell.specs.declared.Record.{Record}
use Rattle.labels.specs.Labels.{is_labelled, label_of, same_label}

abbrev field-of : ℕ → Record → ℕ
field-of kind r = cond (eqb kind (number_of sort.Input)) r.a r.b

and-false : (b : Bool) → b && false ≡ false
and-false true = refl
and-false false = refl

module _ (p r : Record) where
  another-kind : (p.kind ≡ r.kind → ⊥) → same_label p r ≡ false
  unfolding same_label
  another-kind d = rw (ne_eqb p.kind r.kind d, and-false (is_labelled p && is_labelled r))

  -- where they are of one kind it is the field of both
  module _ (kinds : p.kind ≡ r.kind) (x : ℕ) (x-is : x ≡ field-of r.kind p) where
    here : x ≡ label_of p
    unfolding label_of
    here = x-is ∙ ap (λ (k : ℕ). field-of k p) (sym kinds)

    same-kind : is_labelled r ≡ true → (y : ℕ) → y ≡ label_of r → same_label p r ≡ is_labelled p && eqb x y
    unfolding same_label
    same-kind l y y-is = rw (l, eq-eqb p.kind r.kind kinds, sym here, sym y-is) (go (is_labelled p) (eqb x y))
      where
        go : (b c : Bool) → (b && true && true && c) ≡ b && c
        go true c = refl
        go false c = refl

  module _ (l : is_labelled r ≡ true) (x : ℕ) (x-is : x ≡ field-of r.kind p) (y : ℕ) (y-is : y ≡ label_of r) where
    pub labels-same : x ≡ y → p.kind ≡ r.kind → (b : Bool) → b ≡ is_labelled p → b ≡ same_label p r
    labels-same e kinds b b-is = b-is ∙ sym (same-kind kinds x x-is l y y-is ∙ rw (eq-eqb x y e) (and-with (is_labelled p)))
      where
        and-with : (c : Bool) → c && true ≡ c
        and-with true = refl
        and-with false = refl

    pub labels-differ : (x ≡ y → ⊥) → false ≡ same_label p r
    labels-differ d =
        sym (either (eqb p.kind r.kind)
        (λ e. same-kind (eqb-true p.kind r.kind e) x x-is l y y-is ∙ rw (ne_eqb x y d) (and-false (is_labelled p)))
        (λ e. another-kind (eqb-false p.kind r.kind e)))

  pub kinds-differ : (p.kind ≡ r.kind → ⊥) → false ≡ same_label p r
  kinds-differ d = sym (another-kind d)

-- what the function cites
pub ruleset same_steps = (labels-same, labels-differ, kinds-differ)
