-- THE LOOK-UPS OF REWRITING END: before each item every net is followed to a final one, and so is every net that is looked up while an item is
-- rewritten. Assumes nothing.
use mathlib.Core.Path.{◌≡◌, refl, sym, ap, ◌∙◌, subst, fun_ext}
use mathlib.Core.Bool.{true, cond}
use mathlib.Core.List.{List, [], ◌∷◌, ◌++◌, map, append_assoc}
use Prim.Native.Nat.{ℕ, zero, suc, ◌≤◌, ◌<◌}
use native.Mathlib.Omega.{arith}
use lib.Dec.{eqb}
use lib.ListN.{length}
use Rattle.std.specs.Prelude.{Ok}
use Rattle.value.specs.declared.Net.{Net}
use Rattle.cell.specs.declared.Record.{Record}
use Rattle.cell.specs.declared.Cell.{Cell}
use Rattle.cell.specs.declared.Cell.TheVariants.{Not}
use Rattle.cell.specs.Records.{cell_of}
use Rattle.refusals.specs.Refusals.{first_of}
use Rattle.checking.specs.Checking.{netlist_stages}
use Rattle.netlist.specs.Shape.{visit_mut, is_splittable}
use Rattle.netlist.specs.Netlist.{cell_in}
use Rattle.order.specs.Orders.{topo_sort}
use Rattle.std.specs.Prelude.{None, Some}
use Rattle.design.specs.Queue.{Design, map_net_new, find_new_cell, Source}
use Rattle.normalize.specs.declared.Change.TheVariants.{Value, Form, Add, NotOf, AddNotOf}
use Rattle.normalize.specs.Outcomes.{◌or_else◌, Outcome}
use Rattle.normalize.specs.Normalize.{normalize}
use Rattle.aig.specs.Aig.{simple_aig_opt}
use Rattle.rewrite.specs.Rewriter.{Rewriter, begun, Lookup, stamp, find_cell}
use Rattle.rewrite.specs.Rewrite.{rules, Result, none, cell, value, spent, Added, at, unadded, as_value, as_not, add_not, perform, enter, replacing, go_on, turn, process, process_cell, add_cell, Run, ran, stuck, bit_done, cell_done, run_item, and_then, run_items, run, slots_of}
use Rattle.basics.specs.Lists.{has}
use Rattle.order_laws.specs.Ends.{Ends}
use Rattle.basics.proofs.Members.{has-append}
use Rattle.basics.proofs.Truth.{or_right}
use Rattle.rewrite_laws.proofs.Settled.{limit}
use Rattle.rewrite_laws.proofs.Kept.{KeptResult, KeptAdded, KeptPass, enter-kept, pass_kept, process-kept}
use Rattle.rewrite_laws.proofs.Grows.{Extends, extends-none, extending, run_items-grows, grown-slots}
use Rattle.rewrite_laws.proofs.Items.{FewSlots, items-cut, items-one}
use Rattle.rewrite_laws.proofs.Running.{RunOk}
use Rattle.accepted_laws.proofs.Accepted.{accepted-each, accepted-part}
use Rattle.accepted_laws.proofs.Final.{map_net_new-final}

-- A look-up that is `find_new_cell` for nets whose replacements end, and anything for others
module _ (look : Lookup) (agrees : (d : Design) (n : Net) → Ends d.replaced n → look d n ≡ find_new_cell d n) where
  -- while an item is rewritten from a rewriter r nothing is replaced (`Extends`), so if every net ends there, the two look-ups are one
  module _ (r : Rewriter) (ends : (n : Net) → Ends r.design.replaced n) where
    abbrev Gone : Cell → Result → Type 0
    Gone = KeptResult find_new_cell (Extends r) (λ r c. Unit {0}) (λ r n. Unit {0}) (extending find_new_cell r)

    abbrev Added-on : Added → Type 0
    Added-on = KeptAdded find_new_cell (Extends r) (λ r c. Unit {0}) (λ r n. Unit {0}) (extending find_new_cell r)

    abbrev Passed : Cell → Result → Type 0
    Passed = KeptPass find_new_cell (Extends r) (λ r c. Unit {0}) (λ r n. Unit {0}) (extending find_new_cell r)

    rules-same : (r' : Rewriter) → Extends r r' → (c : Cell) → rules look r' c ≡ rules find_new_cell r' c
    unfolding rules find_cell
    rules-same r' x c =
        ap (λ (f : Net → Source). normalize c or_else simple_aig_opt f c)
        (fun_ext (λ n. ap (cond (eqb (stamp r'.stamps n) 0) None)
        (agrees r'.design n (subst (λ (rs : List Net). Ends rs n) (sym x.replaced) (ends n)))))

    -- a pass over the rules, what is processed inside it being the same
    module _ (again again' : Rewriter → Cell → Result) (kept : (r' : Rewriter) (c : Cell) → Extends r r' → Unit {0} → Gone c (again' r' c))
        (same : (r' : Rewriter) (c : Cell) → Extends r r' → again r' c ≡ again' r' c) where
      abbrev adder : Rewriter → Cell → Added
      adder r' c = enter c (again r' c)

      abbrev adder' : Rewriter → Cell → Added
      adder' r' c = enter c (again' r' c)

      adder-same : (r' : Rewriter) (c : Cell) → Extends r r' → adder r' c ≡ adder' r' c
      adder-same r' c x = ap (enter c) (same r' c x)

      not_same : (y : Added) → Added-on y → add_not adder y ≡ add_not adder' y
      not_same (at n r') h = ap as_value (adder-same r' (Not n) h.0)
      not_same (unadded r') h = refl

      perform-same : (r' : Rewriter) (o : Outcome) → Extends r r' → perform adder r' o ≡ perform adder' r' o
      perform-same r' None x = refl
      perform-same r' (Some (Value n)) x = refl
      perform-same r' (Some (Form c)) x = refl
      perform-same r' (Some (Add c)) x = ap as_value (adder-same r' c x)
      perform-same r' (Some (NotOf c)) x = ap as_not (adder-same r' c x)
      perform-same r' (Some (AddNotOf c)) x =
          ap (add_not adder) (adder-same r' c x)
          ∙ not_same (adder' r' c) (enter-kept find_new_cell (Extends r) _ _ (extending find_new_cell r) c (again' r' c) (kept r' c x tt))

      go_on-same : (c : Cell) (y : Result) → Passed c y → go_on again c y ≡ go_on again' c y
      go_on-same c (none r') h = refl
      go_on-same c (cell e r') h = ap (replacing e) (same r' e h.0)
      go_on-same c (value n r') h = refl
      go_on-same c (spent r') h = refl

      turn-same : (r' : Rewriter) (c : Cell) → Extends r r' → turn again look r' c ≡ turn again' find_new_cell r' c
      turn-same r' c x =
          ap (λ (o : Outcome). go_on again c (perform adder r' o)) (rules-same r' x c)
          ∙ ap (go_on again c) (perform-same r' (rules find_new_cell r' c) x)
          ∙ go_on-same c (perform adder' r' (rules find_new_cell r' c)) (pass_kept find_new_cell (Extends r) _ _ (extending find_new_cell r) again' kept r' c x tt)

    process-same : (k : ℕ) (r' : Rewriter) (c : Cell) → Extends r r' → process k look r' c ≡ process k find_new_cell r' c
    unfolding process
    process-same zero r' c x = refl
    process-same (suc k) r' c x =
        turn-same (process k look) (process k find_new_cell) (process-kept find_new_cell (Extends r) _ _ (extending find_new_cell r) k) (process-same k) r' c x

    pub item-same : (s : ℕ) → run_item look s r ≡ run_item find_new_cell s r
    unfolding run_item add_cell process_cell
    item-same s =
        let c : Cell = visit_mut (map_net_new r.design.replaced) (cell_in r.design.cells s) in
        ap (λ (y : Result). cond (is_splittable c) (bit_done s (enter c y)) (cell_done s c y)) (process-same _ r c (extends-none r))

module _ (rs : List Record) (accepted : first_of (netlist_stages rs) ≡ Ok tt) where
  abbrev cs : List Cell
  cs = map cell_of rs

  -- before each item and after the last, for every net: where operands are mapped, and where the replacements are applied
  pub rewriting-ends : (before rest : List ℕ) → topo_sort cs ≡ before ++ rest → (r : Rewriter) → run_items find_new_cell before (begun cs) ≡ ran r → FewSlots r
      → (n : Net) → Ends r.design.replaced n
  rewriting-ends before rest e r q few = map_net_new-final cs r (subst (RunOk cs before) q (accepted-part rs accepted before rest e) few).inv

  -- where a rule looks up: a look-up that answers anything for a net that does not end gives the same run, so none such decides
  module _ (look : Lookup) (agrees : (d : Design) (n : Net) → Ends d.replaced n → look d n ≡ find_new_cell d n) where
    items-same : (ss before : List ℕ) → topo_sort cs ≡ before ++ ss → (r : Rewriter) → run_items find_new_cell before (begun cs) ≡ ran r
        → slots_of (run_items find_new_cell ss r) ≤ limit → run_items look ss r ≡ run_items find_new_cell ss r
    unfolding run_items
    items-same [] before e r q few = refl
    items-same (s ∷ ss) before e r q few =
        ap (and_then (run_items look ss)) (item-same look agrees r (rewriting-ends before (s ∷ ss) e r q few-now) s)
        ∙ go (run_item find_new_cell s r) refl few (items-same ss (before ++ (s ∷ [])) (e ∙ sym (append_assoc before (s ∷ []) ss)))
      where
        small : (x : ℕ) → has x (s ∷ ss) ≡ true → x < length cs
        small x h =
            (accepted-each rs accepted).small x
            (ap (has x) e ∙ has-append x before (s ∷ ss) ∙ or_right (has x before) (has x (s ∷ ss)) h)

        few-now : FewSlots r
        few-now =
            omega (arith, few, grown-slots (length cs) r (run_items find_new_cell (s ∷ ss) r) (run_items-grows find_new_cell (length cs) (s ∷ ss) small r))

        go : (x : Run) → run_item find_new_cell s r ≡ x → slots_of (and_then (run_items find_new_cell ss) x) ≤ limit
            → ((r' : Rewriter) → run_items find_new_cell (before ++ (s ∷ [])) (begun cs) ≡ ran r' → slots_of (run_items find_new_cell ss r') ≤ limit
            → run_items look ss r' ≡ run_items find_new_cell ss r')
            → and_then (run_items look ss) x ≡ and_then (run_items find_new_cell ss) x
        go (ran r') f l ih = ih r' (items-cut find_new_cell before (s ∷ []) (begun cs) r q ∙ items-one find_new_cell s r r' f) l
        go (stuck r') f l ih = refl

    pub look-ups-end : slots_of (run find_new_cell cs) ≤ limit → run look cs ≡ run find_new_cell cs
    unfolding run run_items
    look-ups-end few = items-same (topo_sort cs) [] refl (begun cs) refl few
