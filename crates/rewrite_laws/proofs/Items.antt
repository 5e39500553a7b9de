-- The run, item by item: what each item keeps, the run keeps. Assumes nothing.
use Rattle.normalize.specs.Outcomes.{first_change}
use mathlib.Core.Path.{◌≡◌, refl, sym, ap, ◌∙◌, subst}
use mathlib.Core.Bool.{Bool, true, false, cond, false≢true}
use mathlib.Core.List.{List, [], ◌∷◌, ◌++◌, append_assoc, append-nil}
use Prim.Native.Nat.{ℕ, ◌≤◌, ◌<◌}
use native.Mathlib.Omega.{arith}
use native.Mathlib.Decide.{dec_le}
use lib.ListN.{length}
use Rattle.value.specs.declared.Net.{Net}
use Rattle.cell.specs.declared.Cell.{Cell}
use Rattle.cell.specs.declared.Cell.TheVariants.{Input, Output, Buf, Not, And, Or, Xor, Mux, Aig}
use Rattle.netlist.specs.Shape.{visit_mut, has_effects, is_splittable}
use Rattle.netlist.specs.Netlist.{cell_in}
use Rattle.order.specs.Orders.{bit_deps, topo_sort}
use Rattle.std.proofs.Common.{Option, Some}
use Rattle.design.specs.Queue.{net_in, map_net_new}
use Rattle.numberer.specs.Numberer.{seek}
use Rattle.std.specs.Prelude.{None}
use Rattle.normalize.specs.Normalize.{normalize}
use Rattle.aig.specs.Aig.{simple_aig_opt}
use Rattle.rewrite.specs.Rewriter.{Rewriter, Lookup, finished, weight, begun}
use Rattle.rewrite.specs.Rewrite.{rules, none, asked, enter, perform, go_on, process, process_cell, add_cell, Run, ran, stuck, bit_done, cell_done, and_then, run_item, run_items, run}
use Rattle.basics.specs.Lists.{has}
use Rattle.order_laws.specs.Ordered.{OnceAfter, FedAfter}
use Rattle.basics.proofs.Truth.{either}
use Rattle.basics.proofs.Members.{has_first, has-later}
use Rattle.order_laws.proofs.Sorts.{splittable-gate}
use Rattle.order_laws.proofs.Bits.{topo_sort-each}
use Rattle.rewrite_laws.proofs.Settled.{limit}
use Rattle.rewrite_laws.proofs.Grows.{GrowsRun, run_item-grows}

-- An item
pub rules-effect : (look : Lookup) (r : Rewriter) (c : Cell) → has_effects c ≡ true → rules look r c ≡ None
unfolding has_effects rules normalize simple_aig_opt first_change
rules-effect look r (Input l) e = refl
rules-effect look r (Output a l) e = refl
rules-effect look r (Buf a) e = absurd (false≢true e)
rules-effect look r (Not a) e = absurd (false≢true e)
rules-effect look r (And a b) e = absurd (false≢true e)
rules-effect look r (Or a b) e = absurd (false≢true e)
rules-effect look r (Xor a b) e = absurd (false≢true e)
rules-effect look r (Mux a b c) e = absurd (false≢true e)
rules-effect look r (Aig p q) e = absurd (false≢true e)

-- nothing is done with a cell that has effects
pub effect-none : (look : Lookup) (r : Rewriter) (c : Cell) → has_effects c ≡ true → ((m : Net) → seek r.cache c ≡ Some m → ⊥) → process_cell look r c ≡ none r
unfolding process_cell process
effect-none look r c e h =
    let k : ℕ = weight r.stamps c in
    ap (λ o. go_on (process k look) c (perform (λ r c. enter c (process k look r c)) r o)) (rules-effect look r c e) ∙ go (seek r.cache c) refl
  where
    go : (f : Option Net) → seek r.cache c ≡ f → asked r (seek r.cache c) ≡ none r
    go (Some m) q = absurd (h m q)
    go None q = ap (asked r) q

module _ (look : Lookup) (s : ℕ) (r : Rewriter) (G : Run → Type 0) where
  -- its cell with the operands mapped
  abbrev c : Cell
  c = visit_mut (map_net_new r.design.replaced) (cell_in r.design.cells s)

  -- by what becomes of it: it is cut into bits and added, it is an input or output, or it is rewritten in its slot
  pub item_by : (is_splittable c ≡ true → has_effects c ≡ false → G (bit_done s (add_cell look r c)))
      → (has_effects c ≡ true → G (cell_done s c (process_cell look r c)))
      → (is_splittable c ≡ false → has_effects c ≡ false → G (cell_done s c (process_cell look r c))) → G (run_item look s r)
  unfolding run_item
  item_by bit port gate = go (is_splittable c) refl
    where
      go : (b : Bool) → is_splittable c ≡ b → G (cond b (bit_done s (add_cell look r c)) (cell_done s c (process_cell look r c)))
      go true e = bit e (splittable-gate c e)
      go false e = either (has_effects c) port (gate e)

-- where a cell is left as it is: an input or output, and a gate
module _ (s : ℕ) (r : Rewriter) (c : Cell) (G : Run → Type 0) where
  pub port-done : (look : Lookup) → has_effects c ≡ true → ((m : Net) → seek r.cache c ≡ Some m → ⊥) → G (ran r) → G (cell_done s c (process_cell look r c))
  port-done look e new h =
      rw (effect-none look r c e new)
      (subst (λ b. G (ran (cond b r (finished r s r.design (r.cache ++ ((c, net_in s) ∷ [])))))) (sym e) h)

  pub gate-done : has_effects c ≡ false → G (ran (finished r s r.design (r.cache ++ ((c, net_in s) ∷ [])))) → G (cell_done s c (none r))
  gate-done e h = subst (λ b. G (ran (cond b r (finished r s r.design (r.cache ++ ((c, net_in s) ∷ [])))))) (sym e) h

-- The items in their order. P holds after some items where the run goes on, Q where it is stuck
module _ (P : List ℕ → Rewriter → Type 0) (Q : Rewriter → Type 0) where
  abbrev pub Along : List ℕ → Run → Type 0
  Along before (ran r) = P before r
  Along before (stuck r) = Q r

  -- C is known of the items done and those to come
  pub items-along : (look : Lookup) (C : List ℕ → List ℕ → Type 0) → ((before ss : List ℕ) (s : ℕ) → C before (s ∷ ss) → C (before ++ (s ∷ [])) ss)
      → ((before ss : List ℕ) (s : ℕ) → C before (s ∷ ss) → (r : Rewriter) → P before r → Along (before ++ (s ∷ [])) (run_item look s r))
      → (ss before : List ℕ) → C before ss → (r : Rewriter) → P before r → Along (before ++ ss) (run_items look ss r)
  unfolding run_items
  items-along look C next item [] before c r p = subst (λ b. P b r) (sym (append-nil before)) p
  items-along look C next item (s ∷ ss) before c r p =
      go (run_item look s r) (item before ss s c r p) (items-along look C next item ss (before ++ (s ∷ [])) (next before ss s c))
    where
      go : (x : Run) → Along (before ++ (s ∷ [])) x
          → ((r : Rewriter) → P (before ++ (s ∷ [])) r → Along ((before ++ (s ∷ [])) ++ ss) (run_items look ss r))
          → Along (before ++ (s ∷ ss)) (and_then (run_items look ss) x)
      go (ran r') k ih = subst (λ b. Along b (run_items look ss r')) (append_assoc before (s ∷ []) ss) (ih r' k)
      go (stuck r') k ih = k

-- items below n
abbrev pub Below : ℕ → List ℕ → List ℕ → Type 0
Below n before ss = (s : ℕ) → has s ss ≡ true → s < n

pub below_next : (n : ℕ) (before ss : List ℕ) (s : ℕ) → Below n before (s ∷ ss) → Below n (before ++ (s ∷ [])) ss
below_next n before ss s h x e = h x (has-later x s ss e)

-- items in the bit order
module _ (cs : List Cell) where
  pub record Coming (before ss : List ℕ) : Type 0 where
    pub is : topo_sort cs ≡ before ++ ss
    pub once : OnceAfter before ss
    pub fed : FedAfter (length cs) (bit_deps cs) before ss
    pub small : Below (length cs) before ss

  coming-next : (before ss : List ℕ) (s : ℕ) → Coming before (s ∷ ss) → Coming (before ++ (s ∷ [])) ss
  unfolding OnceAfter FedAfter
  coming-next before ss s c = record {
    is = c.is ∙ sym (append_assoc before (s ∷ []) ss);
    once = c.once.1;
    fed = c.fed.1;
    small = below_next (length cs) before ss s c.small;
  }

  -- what is known of the next
  pub record Next (before : List ℕ) (s : ℕ) : Type 0 where
    pub small : s < length cs
    pub new : has s before ≡ false
    pub fed : (d : ℕ) → has d (bit_deps cs s) ≡ true → d < length cs → has d before ≡ true
    pub later : List ℕ
    pub is : topo_sort cs ≡ before ++ (s ∷ later)

  next_of : (before ss : List ℕ) (s : ℕ) → Coming before (s ∷ ss) → Next before s
  unfolding OnceAfter FedAfter
  next_of before ss s c = record { small = c.small s (has_first s ss); new = c.once.0; fed = c.fed.0; later = ss; is = c.is }

  -- the beginning of the run, and the run, where each bit stands after those that it depends on
  module _ (P : List ℕ → Rewriter → Type 0) (Q : Rewriter → Type 0) (look : Lookup) (fed : FedAfter (length cs) (bit_deps cs) [] (topo_sort cs))
      (item : (before : List ℕ) (s : ℕ) → Next before s → (r : Rewriter) → P before r → Along P Q (before ++ (s ∷ [])) (run_item look s r)) (p : P [] (begun cs)) where
    pub part-along : (before rest : List ℕ) → topo_sort cs ≡ before ++ rest → Along P Q before (run_items look before (begun cs))
    part-along before rest e =
        items-along P Q look (λ b ss. Coming b (ss ++ rest)) (λ b ss s c. coming-next b (ss ++ rest) s c) (λ b ss s c. item b s (next_of b (ss ++ rest) s c)) before []
        (record {
          is = e;
          once = subst (OnceAfter []) e (topo_sort-each cs).once;
          fed = subst (FedAfter (length cs) (bit_deps cs) []) e fed;
          small = subst (Below (length cs) []) e (topo_sort-each cs).small;
        }) (begun cs) p

    pub run_along : Along P Q (topo_sort cs) (run look cs)
    unfolding run
    run_along = part-along (topo_sort cs) [] (sym (append-nil (topo_sort cs)))

-- items one after another
pub items-cut : (look : Lookup) (xs ys : List ℕ) (r r' : Rewriter) → run_items look xs r ≡ ran r' → run_items look (xs ++ ys) r ≡ run_items look ys r'
unfolding run_items
items-cut look [] ys r r' e = let q : r ≡ r' = cc in ap (run_items look ys) q
items-cut look (x ∷ xs) ys r r' e = go (run_item look x r) e (λ z. items-cut look xs ys z r')
  where
    go : (y : Run) → and_then (run_items look xs) y ≡ ran r' → ((z : Rewriter) → run_items look xs z ≡ ran r' → run_items look (xs ++ ys) z ≡ run_items look ys r')
        → and_then (run_items look (xs ++ ys)) y ≡ run_items look ys r'
    go (ran z) q ih = ih z q
    go (stuck z) q ih = let c : ◌≡◌ {A = ℕ} 0 1 = cc in absurd (omega arith)

pub items-one : (look : Lookup) (s : ℕ) (r r' : Rewriter) → run_item look s r ≡ ran r' → run_items look (s ∷ []) r ≡ ran r'
unfolding run_items
items-one look s r r' e = ap (and_then (run_items look [])) e

-- What is said only as long as the slots are few, so that each has a net of its own
abbrev pub FewSlots : Rewriter → Type 0
FewSlots r = length r.design.cells ≤ limit

-- slots never become fewer, so few slots after an item were few before it
pub few-item : (P : List ℕ → Rewriter → Type 0) (Q : Rewriter → Type 0) (look : Lookup) (n s : ℕ) → s < n → (before : List ℕ) (r : Rewriter)
    → (FewSlots r → Along (λ b r. FewSlots r → P b r) (λ r. FewSlots r → Q r) before (run_item look s r))
    → Along (λ b r. FewSlots r → P b r) (λ r. FewSlots r → Q r) before (run_item look s r)
few-item P Q look n s small before r f = go (run_item look s r) (dec_le (length r.design.cells) limit) f (run_item-grows look n s small r)
  where
    go : (x : Run) → Dec (FewSlots r) → (FewSlots r → Along (λ b r. FewSlots r → P b r) (λ r. FewSlots r → Q r) before x) → GrowsRun n r x
        → Along (λ b r. FewSlots r → P b r) (λ r. FewSlots r → Q r) before x
    go x (yes l) f g = f l
    go (ran r') (no l) f g = λ few. absurd (l (omega (arith, g.slots, few)))
    go (stuck r') (no l) f g = λ few. absurd (l (omega (arith, g.slots, few)))
