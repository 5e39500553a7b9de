-- Slots never become fewer, and an added cell is never changed. Assumes nothing.
use mathlib.Core.Path.{◌≡◌, refl, sym, ap, ◌∙◌}
use mathlib.Core.Bool.{Bool, true, false, cond}
use mathlib.Core.List.{List, [], ◌∷◌, ◌++◌, append_assoc, append-nil}
use Prim.Native.Nat.{ℕ, suc, ◌≤◌, ◌<◌}
use native.Mathlib.Omega.{arith}
use lib.ListN.{length, length-append, length-set, get_or-append}
use lib.Seq.{get_or-set_other}
use Rattle.value.specs.declared.Net.{Net}
use Rattle.cell.specs.declared.Cell.{Cell}
use Rattle.netlist.specs.Shape.{visit_mut, has_effects, is_splittable}
use Rattle.netlist.specs.Netlist.{cell_in}
use Rattle.design.specs.Queue.{net_in, map_net_new}
use Rattle.std.specs.Prelude.{None, Some}
use Rattle.normalize.specs.Outcomes.{Outcome}
use Rattle.normalize.specs.declared.Change.TheVariants.{Value, Form, Add, NotOf, AddNotOf}
use Rattle.rewrite.specs.Rewriter.{Rewriter, Lookup, entered, finished}
use Rattle.rewrite.specs.Rewrite.{rules, Result, none, cell, value, spent, Added, at, unadded, process, process_cell, add_cell, Run, ran, stuck, bit_done, cell_done, run_item, and_then, run_items, slots_of}
use Rattle.basics.specs.Lists.{has}
use Rattle.basics.proofs.Members.{has_first, has-later}
use Rattle.aig_laws.specs.Reads.{GoodOutcome}
use Rattle.rewrite_laws.proofs.Kept.{Keeps, KeptResult, KeptAdded, process-kept, add_cell-kept}

-- while a cell is processed, cells and stamps are added behind the last, and nothing is replaced
pub record Extends (r r' : Rewriter) : Type 0 where
  pub more : List Cell
  pub cells : r'.design.cells ≡ r.design.cells ++ more
  pub later : List ℕ
  pub stamps : r'.stamps ≡ r.stamps ++ later
  pub replaced : r'.design.replaced ≡ r.design.replaced
  pub clock : r.clock ≤ r'.clock

pub extends-none : (r : Rewriter) → Extends r r
extends-none r = record {
  more = [];
  cells = sym (append-nil r.design.cells);
  later = [];
  stamps = sym (append-nil r.stamps);
  replaced = refl;
  clock = omega arith;
}

pub extends-one : (r r' : Rewriter) (c : Cell) (n : Net) → Extends r r' → Extends r (entered r' c n)
unfolding entered
extends-one r r' c n x = record {
  more = x.more ++ (c ∷ []);
  cells = ap (λ l. l ++ (c ∷ [])) x.cells ∙ append_assoc r.design.cells x.more (c ∷ []);
  later = x.later ++ (suc r'.clock ∷ []);
  stamps = ap (λ l. l ++ (suc r'.clock ∷ [])) x.stamps ∙ append_assoc r.stamps x.later (suc r'.clock ∷ []);
  replaced = x.replaced;
  clock = omega (arith, x.clock);
}

module _ (look : Lookup) (r : Rewriter) where
  any-outcome : (o : Outcome) → GoodOutcome (λ c. Unit {0}) (λ n. Unit {0}) o
  any-outcome None = tt
  any-outcome (Some (Value c)) = tt
  any-outcome (Some (Form c)) = tt
  any-outcome (Some (Add c)) = tt
  any-outcome (Some (NotOf c)) = tt
  any-outcome (Some (AddNotOf c)) = tt

  pub extending : Keeps look (Extends r) (λ r c. Unit {0}) (λ r n. Unit {0})
  extending = record {
    plan = λ r' c p q. any-outcome (rules look r' c);
    inverse = λ r' n p v. tt;
    cached = λ r' c n p q e. tt;
    step = λ r' c p q e s. (extends-one r r' c (net_in (length r'.design.cells)) p, tt);
  }

  abbrev pub ExtendsResult : Result → Type 0
  ExtendsResult (none r') = Extends r r'
  ExtendsResult (cell d r') = Extends r r'
  ExtendsResult (value n r') = Extends r r'
  ExtendsResult (spent r') = Extends r r'

  abbrev pub ExtendsAdded : Added → Type 0
  ExtendsAdded (at n r') = Extends r r'
  ExtendsAdded (unadded r') = Extends r r'

  pub process-extends : (k : ℕ) (c : Cell) → ExtendsResult (process k look r c)
  process-extends k c = go (process k look r c) (process-kept look (Extends r) _ _ extending k r c (extends-none r) tt)
    where
      go : (x : Result) → KeptResult look (Extends r) (λ r c. Unit {0}) (λ r n. Unit {0}) extending c x → ExtendsResult x
      go (none r') h = h.kept
      go (cell d r') h = h.kept
      go (value n r') h = h.0
      go (spent r') h = h

  pub process_cell-extends : (c : Cell) → ExtendsResult (process_cell look r c)
  unfolding process_cell
  process_cell-extends c = process-extends _ c

  pub add_cell-extends : (c : Cell) → ExtendsAdded (add_cell look r c)
  add_cell-extends c = go (add_cell look r c) (add_cell-kept look (Extends r) _ _ extending r c (extends-none r) tt)
    where
      go : (x : Added) → KeptAdded look (Extends r) (λ r c. Unit {0}) (λ r n. Unit {0}) extending x → ExtendsAdded x
      go (at n r') h = h.0
      go (unadded r') h = h

-- of the run, n being the number of the ticket's slots: there are as many slots or more, and the cells from n on are as they were
pub record Grows (n : ℕ) (r r' : Rewriter) : Type 0 where
  pub slots : length r.design.cells ≤ length r'.design.cells
  pub added : (i : ℕ) → n ≤ i → i < length r.design.cells → cell_in r'.design.cells i ≡ cell_in r.design.cells i

abbrev pub GrowsRun : ℕ → Rewriter → Run → Type 0
GrowsRun n r (ran r') = Grows n r r'
GrowsRun n r (stuck r') = Grows n r r'

pub extends-grows : (n : ℕ) (r r' : Rewriter) → Extends r r' → Grows n r r'
extends-grows n r r' x = record {
  slots = rw (x.cells, length-append r.design.cells x.more) (omega arith);
  added = λ i l h. ap (λ cs. cell_in cs i) x.cells ∙ get_or-append r.design.cells x.more _ i h;
}

grows_none : (n : ℕ) (r : Rewriter) → Grows n r r
grows_none n r = record { slots = omega arith; added = λ i l h. refl }

grows-on : (n : ℕ) (r r₁ r₂ : Rewriter) → Grows n r r₁ → Grows n r₁ r₂ → Grows n r r₂
grows-on n r r₁ r₂ a b = record {
  slots = omega (arith, a.slots, b.slots);
  added = λ i l h. b.added i l (omega (arith, a.slots)) ∙ a.added i l h;
}

module _ (look : Lookup) (n : ℕ) where
  bit-grows : (s : ℕ) (r : Rewriter) (y : Added) → ExtendsAdded look r y → GrowsRun n r (bit_done s y)
  unfolding finished
  bit-grows s r (at m r') x = let g : Grows n r r' = extends-grows n r r' x in record { slots = g.slots; added = g.added }
  bit-grows s r (unadded r') x = extends-grows n r r' x

  cell-grows : (s : ℕ) → s < n → (c : Cell) (r : Rewriter) (y : Result) → ExtendsResult look r y → GrowsRun n r (cell_done s c y)
  unfolding finished
  cell-grows s l c r (none r') x = go (has_effects c) (extends-grows n r r' x)
    where
      go : (b : Bool) → Grows n r r' → Grows n r (cond b r' (finished r' s r'.design (r'.cache ++ ((c, net_in s) ∷ []))))
      go true g = g
      go false g = record { slots = g.slots; added = g.added }
  cell-grows s l c r (cell d r') x =
      let g : Grows n r r' = extends-grows n r r' x in
      record {
        slots = rw (length-set r'.design.cells s d) g.slots;
        added = λ i h m. get_or-set_other r'.design.cells s i d _ (λ e. omega (arith, e)) ∙ g.added i h m;
      }
  cell-grows s l c r (value m r') x = let g : Grows n r r' = extends-grows n r r' x in record { slots = g.slots; added = g.added }
  cell-grows s l c r (spent r') x = extends-grows n r r' x

  pub run_item-grows : (s : ℕ) → s < n → (r : Rewriter) → GrowsRun n r (run_item look s r)
  unfolding run_item
  run_item-grows s l r =
      let c : Cell = visit_mut (map_net_new r.design.replaced) (cell_in r.design.cells s) in
      go c (is_splittable c)
    where
      go : (c : Cell) (b : Bool) → GrowsRun n r (cond b (bit_done s (add_cell look r c)) (cell_done s c (process_cell look r c)))
      go c true = bit-grows s r (add_cell look r c) (add_cell-extends look r c)
      go c false = cell-grows s l c r (process_cell look r c) (process_cell-extends look r c)

  pub run_items-grows : (ss : List ℕ) → ((s : ℕ) → has s ss ≡ true → s < n) → (r : Rewriter) → GrowsRun n r (run_items look ss r)
  unfolding run_items has
  run_items-grows [] h r = grows_none n r
  run_items-grows (s ∷ ss) h r =
      go (run_item look s r) (run_item-grows s (h s (has_first s ss)) r)
      (run_items-grows ss (λ x e. h x (has-later x s ss e)))
    where
      on : (r' : Rewriter) (y : Run) → Grows n r r' → GrowsRun n r' y → GrowsRun n r y
      on r' (ran r₂) g k = grows-on n r r' r₂ g k
      on r' (stuck r₂) g k = grows-on n r r' r₂ g k

      go : (x : Run) → GrowsRun n r x → ((r : Rewriter) → GrowsRun n r (run_items look ss r)) → GrowsRun n r (and_then (run_items look ss) x)
      go (ran r') g ih = on r' (run_items look ss r') g (ih r')
      go (stuck r') g ih = g

pub grown-slots : (n : ℕ) (r : Rewriter) (z : Run) → GrowsRun n r z → length r.design.cells ≤ slots_of z
grown-slots n r (ran r') g = g.slots
grown-slots n r (stuck r') g = g.slots
