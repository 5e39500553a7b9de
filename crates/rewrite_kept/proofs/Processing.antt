-- Processing a cell keeps its level. F says of a rewriter that the levels v of all nets fit it; that goes backwards, from the rewriter at the end to
-- the one at the start, since an entered cell is never changed. So v is fixed, and all is said under F of the rewriter at the end.
-- Assumes nothing.
use mathlib.Core.Path.{◌≡◌, refl, sym, subst}
use Prim.Native.Nat.{ℕ, zero, suc}
use lib.ListN.{length}
use Rattle.logic.specs.declared.Trit.{Trit}
use Rattle.logic.specs.Levels.{not_level, Refines}
use Rattle.logic.proofs.Laws.{refines-refl, refines-trans, not-monotone}
use Rattle.value.specs.declared.Net.{Net}
use Rattle.cell.specs.declared.Cell.{Cell}
use Rattle.cell.specs.declared.Cell.TheVariants.{Not}
use Rattle.std.proofs.Common.{Option, Some}
use Rattle.design.specs.Queue.{net_in}
use Rattle.numberer.specs.Numberer.{seek}
use Rattle.std.specs.Prelude.{None, Some}
use Rattle.normalize.specs.Outcomes.{Outcome}
use Rattle.normalize.specs.declared.Change.TheVariants.{Value, Form, Add, NotOf, AddNotOf}
use Rattle.rewrite.specs.Rewriter.{Rewriter, Lookup, entered}
use Rattle.rewrite.specs.Rewrite.{rules, Result, none, cell, value, spent, Added, at, unadded, as_value, as_not, add_not, perform, enter, asked, replacing, go_on, process, process_cell, add_cell}
use Rattle.aig_laws.specs.Reads.{GoodOutcome}
use Rattle.rewrite_laws.proofs.Kept.{Keeps, KeptResult, KeptAdded, enter-kept, process-kept}
use Rattle.levels_laws.specs.Algebra.{cell_value}
use Rattle.rewrite_kept.specs.Outcomes.{gate_level, Refining}

-- P, Q, N are what processing keeps (`Keeps`). The rules refine, the cache answers with nets of the right level, and F goes back over an entry
pub record Fitting (look : Lookup) (P : Rewriter → Type 0) (Q : Rewriter → Cell → Type 0) (v : Net → Trit) (F : Rewriter → Type 0) : Type 0 where
  pub plan : (r : Rewriter) (c : Cell) → P r → F r → Refining v (gate_level v c) (rules look r c)
  pub cached : (r : Rewriter) (c : Cell) (n : Net) → P r → F r → seek r.cache c ≡ Some n → v n ≡ gate_level v c
  pub back : (r : Rewriter) (c : Cell) → P r → Q r c → F (entered r c (net_in (length r.design.cells))) → F r × (v (net_in (length r.design.cells)) ≡ gate_level v c)

module _ (look : Lookup) (P : Rewriter → Type 0) (Q : Rewriter → Cell → Type 0) (N : Rewriter → Net → Type 0) (keeps : Keeps look P Q N)
    (v : Net → Trit) (F : Rewriter → Type 0) (fitting : Fitting look P Q v F) where
  -- from r, where the level is x, on to r', where it is y
  abbrev pub Leads : Rewriter → Trit → Rewriter → Trit → Type 0
  Leads r x r' y = F r' → F r × Refines y x

  here : (r : Rewriter) (x : Trit) → Leads r x r x
  here r x f = (f, refines-refl x)

  on : (r r₁ r₂ : Rewriter) (x y z : Trit) → Leads r x r₁ y → Leads r₁ y r₂ z → Leads r x r₂ z
  on r r₁ r₂ x y z g h f =
      let b : F r₁ × Refines z y = h f in
      let a : F r × Refines y x = g b.0 in
      (a.0, refines-trans x y z a.1 b.1)

  inverted : (r r' : Rewriter) (x y : Trit) → Leads r x r' y → Leads r (not_level x) r' (not_level y)
  inverted r r' x y g f = ((g f).0, not-monotone x y (g f).1)

  abbrev pub LeadsResult : Rewriter → Trit → Cell → Result → Type 0
  LeadsResult r x c (none r') = Leads r x r' (gate_level v c)
  LeadsResult r x c (cell d r') = Leads r x r' (gate_level v d)
  LeadsResult r x c (value n r') = Leads r x r' (v n)
  LeadsResult r x c (spent r') = Unit {0}

  abbrev pub LeadsAdded : Rewriter → Trit → Added → Type 0
  LeadsAdded r x (at n r') = Leads r x r' (v n)
  LeadsAdded r x (unadded r') = Unit {0}

  -- after one pass over the rules
  abbrev LeadsPass : Rewriter → Trit → Cell → Result → Type 0
  LeadsPass r x c (none r') = P r' × Leads r x r' (gate_level v c)
  LeadsPass r x c (cell d r') = P r' × Q r' d × Leads r x r' (gate_level v d)
  LeadsPass r x c (value n r') = Leads r x r' (v n)
  LeadsPass r x c (spent r') = Unit {0}

  -- a cell is entered in the next slot
  entry-leads : (r₀ r : Rewriter) (x : Trit) (c : Cell) → P r → Q r c → Leads r₀ x r (gate_level v c)
      → Leads r₀ x (entered r c (net_in (length r.design.cells))) (v (net_in (length r.design.cells)))
  entry-leads r₀ r x c p q g f =
      let b = fitting.back r c p q f in
      ((g b.0).0, subst (λ (y : Trit). Refines y x) (sym b.1) (g b.0).1)

  enter-leads : (r₀ : Rewriter) (x : Trit) (c : Cell) (y : Result) → KeptResult look P Q N keeps c y → LeadsResult r₀ x c y → LeadsAdded r₀ x (enter c y)
  enter-leads r₀ x c (none r) k g = entry-leads r₀ r x c k.kept k.good g
  enter-leads r₀ x c (cell d r) k g = entry-leads r₀ r x d k.kept k.good g
  enter-leads r₀ x c (value n r) k g = g
  enter-leads r₀ x c (spent r) k g = tt

  -- one pass, by an adder that keeps levels
  module _ (adder : Rewriter → Cell → Added) (kept : (r : Rewriter) (c : Cell) → P r → Q r c → KeptAdded look P Q N keeps (adder r c))
      (leads : (r : Rewriter) (c : Cell) → P r → Q r c → LeadsAdded r (gate_level v c) (adder r c)) where
    value-leads : (r₀ r : Rewriter) (x z : Trit) (c : Cell) (y : Added) → Leads r₀ x r z → LeadsAdded r z y → LeadsPass r₀ x c (as_value y)
    value-leads r₀ r x z c (at n r') g h = on r₀ r r' x z (v n) g h
    value-leads r₀ r x z c (unadded r') g h = tt

    inverse-leads : (r₀ r : Rewriter) (x z : Trit) (c : Cell) (y : Added) → KeptAdded look P Q N keeps y → Leads r₀ x r (not_level z) → LeadsAdded r z y
        → LeadsPass r₀ x c (as_not y)
    unfolding cell_value
    inverse-leads r₀ r x z c (at n r') k g h =
        (k.0, keeps.inverse r' n k.0 k.1, on r₀ r r' x (not_level z) (not_level (v n)) g (inverted r r' z (v n) h))
    inverse-leads r₀ r x z c (unadded r') k g h = tt

    both-leads : (r₀ r : Rewriter) (x z : Trit) (c : Cell) (y : Added) → KeptAdded look P Q N keeps y → Leads r₀ x r (not_level z) → LeadsAdded r z y
        → LeadsPass r₀ x c (add_not adder y)
    unfolding cell_value
    both-leads r₀ r x z c (at n r') k g h =
        value-leads r₀ r' x (not_level (v n)) c (adder r' (Not n)) (on r₀ r r' x (not_level z) (not_level (v n)) g (inverted r r' z (v n) h))
        (leads r' (Not n) k.0 (keeps.inverse r' n k.0 k.1))
    both-leads r₀ r x z c (unadded r') k g h = tt

    perform-leads : (r : Rewriter) (c : Cell) (o : Outcome) → P r → Q r c → GoodOutcome (Q r) (N r) o → (F r → Refining v (gate_level v c) o)
        → LeadsPass r (gate_level v c) c (perform adder r o)
    perform-leads r c None p q g h = (p, here r (gate_level v c))
    perform-leads r c (Some (Value n)) p q g h = λ f. (f, h f)
    perform-leads r c (Some (Form d)) p q g h = (p, g, λ f. (f, h f))
    perform-leads r c (Some (Add d)) p q g h = value-leads r r (gate_level v c) (gate_level v d) c (adder r d) (λ f. (f, h f)) (leads r d p g)
    perform-leads r c (Some (NotOf d)) p q g h = inverse-leads r r (gate_level v c) (gate_level v d) c (adder r d) (kept r d p g) (λ f. (f, h f)) (leads r d p g)
    perform-leads r c (Some (AddNotOf d)) p q g h = both-leads r r (gate_level v c) (gate_level v d) c (adder r d) (kept r d p g) (λ f. (f, h f)) (leads r d p g)

  asked-leads : (r₀ r : Rewriter) (x : Trit) (c : Cell) (y : Option Net) → P r → seek r.cache c ≡ y → Leads r₀ x r (gate_level v c) → LeadsResult r₀ x c (asked r y)
  asked-leads r₀ r x c (Some n) p s g = λ f. ((g f).0, subst (λ (z : Trit). Refines z x) (sym (fitting.cached r c n p f s)) (g f).1)
  asked-leads r₀ r x c None p s g = g

  replacing-leads : (r₀ r : Rewriter) (x : Trit) (c d : Cell) (y : Result) → Leads r₀ x r (gate_level v d) → LeadsResult r (gate_level v d) d y
      → LeadsResult r₀ x c (replacing d y)
  replacing-leads r₀ r x c d (none r') g h = on r₀ r r' x (gate_level v d) (gate_level v d) g h
  replacing-leads r₀ r x c d (cell e r') g h = on r₀ r r' x (gate_level v d) (gate_level v e) g h
  replacing-leads r₀ r x c d (value n r') g h = on r₀ r r' x (gate_level v d) (v n) g h
  replacing-leads r₀ r x c d (spent r') g h = tt

  go_on-leads : (again : Rewriter → Cell → Result) → ((r : Rewriter) (c : Cell) → P r → Q r c → LeadsResult r (gate_level v c) c (again r c))
      → (r₀ : Rewriter) (x : Trit) (c : Cell) (y : Result) → LeadsPass r₀ x c y → LeadsResult r₀ x c (go_on again c y)
  go_on-leads again ih r₀ x c (none r) h = asked-leads r₀ r x c (seek r.cache c) h.0 refl h.1
  go_on-leads again ih r₀ x c (cell d r) h = replacing-leads r₀ r x c d (again r d) h.2 (ih r d h.0 h.1)
  go_on-leads again ih r₀ x c (value n r) h = h
  go_on-leads again ih r₀ x c (spent r) h = tt

  pub process-leads : (k : ℕ) (r : Rewriter) (c : Cell) → P r → Q r c → LeadsResult r (gate_level v c) c (process k look r c)
  unfolding process
  process-leads zero r c p q = tt
  process-leads (suc k) r c p q =
      let adder : Rewriter → Cell → Added = λ r c. enter c (process k look r c) in
      go_on-leads (process k look) (process-leads k) r (gate_level v c) c (perform adder r (rules look r c))
      (perform-leads adder (λ r c p q. enter-kept look P Q N keeps c (process k look r c) (process-kept look P Q N keeps k r c p q))
      (λ r c p q. enter-leads r (gate_level v c) c (process k look r c) (process-kept look P Q N keeps k r c p q) (process-leads k r c p q))
      r c (rules look r c) p q (keeps.plan r c p q) (fitting.plan r c p))

  pub process_cell-leads : (r : Rewriter) (c : Cell) → P r → Q r c → LeadsResult r (gate_level v c) c (process_cell look r c)
  unfolding process_cell
  process_cell-leads r c p q = process-leads _ r c p q

  pub add_cell-leads : (r : Rewriter) (c : Cell) → P r → Q r c → LeadsAdded r (gate_level v c) (add_cell look r c)
  unfolding add_cell process_cell
  add_cell-leads r c p q = enter-leads r (gate_level v c) c (process_cell look r c) (process-kept look P Q N keeps _ r c p q) (process-leads _ r c p q)
