-- What holds of each cell that comes up holds at each pass over the rules, as long as the slots at the end are no more than some number.
-- Assumes nothing.
use mathlib.Core.Path.{◌≡◌, refl}
use mathlib.Core.List.{[], ◌∷◌}
use Prim.Native.Nat.{ℕ, zero, suc, ◌≤◌}
use native.Mathlib.Omega.{arith}
use lib.ListN.{length, length-append}
use Rattle.value.specs.declared.Net.{Net}
use Rattle.cell.specs.declared.Cell.{Cell}
use Rattle.cell.specs.declared.Cell.TheVariants.{Not}
use Rattle.std.proofs.Common.{Option, Some}
use Rattle.numberer.specs.Numberer.{seek}
use Rattle.std.specs.Prelude.{None, Some}
use Rattle.normalize.specs.Outcomes.{Outcome}
use Rattle.normalize.specs.declared.Change.TheVariants.{Value, Form, Add, NotOf, AddNotOf}
use Rattle.rewrite.specs.Rewriter.{Rewriter, Lookup, entered}
use Rattle.rewrite.specs.Rewrite.{rules, Result, none, cell, value, spent, Added, at, unadded, as_value, as_not, add_not, perform, enter, asked, replacing, go_on, process}
use Rattle.aig_laws.specs.Reads.{GoodOutcome}
use Rattle.rewrite_laws.proofs.Kept.{Keeps, KeptAdded, KeptPass, enter-kept, pass_kept, process-kept}
use Rattle.rewrite_laws.proofs.Grows.{ExtendsResult, extends-grows, process-extends}
use Rattle.unreached.specs.Steps.{InInverse, InAdded, InForm, EachPass}

-- The slots after a step
abbrev size : Rewriter → ℕ
size r = length r.design.cells

abbrev pub left : Result → ℕ
left (none r) = length r.design.cells
left (cell d r) = length r.design.cells
left (value n r) = length r.design.cells
left (spent r) = length r.design.cells

abbrev pub after : Added → ℕ
after (at n r) = length r.design.cells
after (unadded r) = length r.design.cells

pub enter-left : (c : Cell) (x : Result) → left x ≤ after (enter c x)
unfolding entered
enter-left c (none r) = omega (arith, length-append r.design.cells (c ∷ []))
enter-left c (cell d r) = omega (arith, length-append r.design.cells (d ∷ []))
enter-left c (value n r) = omega arith
enter-left c (spent r) = omega arith

value-left : (y : Added) → left (as_value y) ≡ after y
value-left (at n r) = refl
value-left (unadded r) = refl

inverse_left : (y : Added) → left (as_not y) ≡ after y
inverse_left (at n r) = refl
inverse_left (unadded r) = refl

asked-left : (r : Rewriter) (f : Option Net) → left (asked r f) ≡ size r
asked-left r (Some n) = refl
asked-left r None = refl

replacing-left : (d : Cell) (x : Result) → left (replacing d x) ≡ left x
replacing-left d (none r) = refl
replacing-left d (cell e r) = refl
replacing-left d (value n r) = refl
replacing-left d (spent r) = refl

module _ (look : Lookup) where
  abbrev adder : ℕ → Rewriter → Cell → Added
  adder k r c = enter c (process k look r c)

  pub process-left : (k : ℕ) (r : Rewriter) (c : Cell) → length r.design.cells ≤ left (process k look r c)
  process-left k r c = go (process k look r c) (process-extends look r k c)
    where
      go : (x : Result) → ExtendsResult look r x → size r ≤ left x
      go (none r') e = (extends-grows 0 r r' e).slots
      go (cell d r') e = (extends-grows 0 r r' e).slots
      go (value n r') e = (extends-grows 0 r r' e).slots
      go (spent r') e = (extends-grows 0 r r' e).slots

  go_on-left : (k : ℕ) (c : Cell) (x : Result) → left x ≤ left (go_on (process k look) c x)
  go_on-left k c (none r) = omega (arith, asked-left r (seek r.cache c))
  go_on-left k c (cell d r) = omega (arith, process-left k r d, replacing-left d (process k look r d))
  go_on-left k c (value n r) = omega arith
  go_on-left k c (spent r) = omega arith

module _ (look : Lookup) (P : Rewriter → Type 0) (Q : Rewriter → Cell → Type 0) (N : Rewriter → Net → Type 0) (keeps : Keeps look P Q N)
    (T : Rewriter → Cell → Type 0) (most : ℕ) (here : (r : Rewriter) (c : Cell) → P r → Q r c → length r.design.cells ≤ most → T r c) where
  abbrev Each : ℕ → Type 0
  Each k = (r : Rewriter) (c : Cell) → P r → Q r c → left (process k look r c) ≤ most → EachPass look T k r c

  added-kept : (k : ℕ) (r : Rewriter) (c : Cell) → P r → Q r c → KeptAdded look P Q N keeps (adder look k r c)
  added-kept k r c p q = enter-kept look P Q N keeps c (process k look r c) (process-kept look P Q N keeps k r c p q)

  -- a cell, and then its inverse
  each_both : (k : ℕ) → Each k → (r : Rewriter) (c : Cell) → P r → Q r c → left (add_not (adder look k) (adder look k r c)) ≤ most
      → EachPass look T k r c × InInverse (EachPass look T k) (adder look k r c)
  each_both k ih r c p q few = go (adder look k r c) (added-kept k r c p q) (enter-left c (process k look r c)) few
    where
      go : (y : Added) → KeptAdded look P Q N keeps y → left (process k look r c) ≤ after y → left (add_not (adder look k) y) ≤ most
          → EachPass look T k r c × InInverse (EachPass look T k) y
      go (at n r') h l few =
          let a : length r'.design.cells ≤ left (process k look r' (Not n)) = process-left look k r' (Not n) in
          let b : left (process k look r' (Not n)) ≤ after (adder look k r' (Not n)) = enter-left (Not n) (process k look r' (Not n)) in
          let e : left (as_value (adder look k r' (Not n))) ≡ after (adder look k r' (Not n)) = value-left (adder look k r' (Not n)) in
          (ih r c p q (omega arith), ih r' (Not n) h.0 (keeps.inverse r' n h.0 h.1) (omega arith))
      go (unadded r') h l few = (ih r c p q (omega arith), tt)

  each-added : (k : ℕ) → Each k → (r : Rewriter) (o : Outcome) → P r → GoodOutcome (Q r) (N r) o → left (perform (adder look k) r o) ≤ most
      → InAdded (EachPass look T k) (adder look k) r o
  each-added k ih r None p g few = tt
  each-added k ih r (Some (Value n)) p g few = tt
  each-added k ih r (Some (Form c)) p g few = tt
  each-added k ih r (Some (Add c)) p g few = ih r c p g (omega (arith, few, value-left (adder look k r c), enter-left c (process k look r c)))
  each-added k ih r (Some (NotOf c)) p g few = ih r c p g (omega (arith, few, inverse_left (adder look k r c), enter-left c (process k look r c)))
  each-added k ih r (Some (AddNotOf c)) p g few = each_both k ih r c p g few

  each-form : (k : ℕ) → Each k → (c : Cell) (x : Result) → KeptPass look P Q N keeps c x → left (go_on (process k look) c x) ≤ most → InForm (EachPass look T k) x
  each-form k ih c (none r) h few = tt
  each-form k ih c (cell d r) h few = ih r d h.0 h.1 (omega (arith, few, replacing-left d (process k look r d)))
  each-form k ih c (value n r) h few = tt
  each-form k ih c (spent r) h few = tt

  -- the law
  pub each-pass : (k : ℕ) (r : Rewriter) (c : Cell) → P r → Q r c → left (process k look r c) ≤ most → EachPass look T k r c
  unfolding process EachPass
  each-pass zero r c p q few = tt
  each-pass (suc k) r c p q few =
      let x : Result = perform (adder look k) r (rules look r c) in
      let l : left x ≤ left (go_on (process k look) c x) = go_on-left look k c x in (
        here r c p q (omega (arith, process-left look (suc k) r c)),
        each-added k (each-pass k) r (rules look r c) p (keeps.plan r c p q) (omega arith),
        each-form k (each-pass k) c x (pass_kept look P Q N keeps (process k look) (process-kept look P Q N keeps k) r c p q) few,
      )
