-- Rewriting that asks the design's cell cache is rewriting as defined, for every netlist and every look-up: where the cache is asked, the
-- rewriter's own was asked before and had nothing. Assumes nothing.
use mathlib.Core.Path.{◌≡◌, refl, sym, ap, ◌∙◌}
use mathlib.Core.Bool.{Bool, true, false, cond}
use mathlib.Core.List.{List, [], ◌∷◌, ◌++◌}
use Prim.Native.Nat.{ℕ, zero, suc, ◌<◌}
use lib.ListN.{length}
use Rattle.value.specs.declared.Net.{Net}
use Rattle.cell.specs.declared.Cell.{Cell}
use Rattle.cell.specs.declared.Cell.TheVariants.{Not}
use Rattle.netlist.specs.Shape.{visit_mut, has_effects, is_splittable}
use Rattle.netlist.specs.Netlist.{Netlist, cell_in}
use Rattle.order.specs.Orders.{topo_sort}
use Rattle.design.specs.Queue.{net_in, map_net_new}
use Rattle.design.specs.Queue as queue
use Rattle.std.specs.Prelude.{None, Some}
use Rattle.normalize.specs.Outcomes.{Outcome}
use Rattle.normalize.specs.declared.Change.TheVariants.{Value, Form, Add, NotOf, AddNotOf}
use Rattle.rewrite.specs.Rewriter.{Rewriter, begun, Lookup, entered}
use Rattle.rewrite.specs.Rewrite.{rules, Result, none, cell, value, spent, Added, at, unadded, as_value, as_not, add_not, perform, entry, enter, replacing, go_on, turn, process, process_cell, add_cell, Run, ran, stuck, bit_done, cell_done, run_item, and_then, run_items, run, compacted, rewrite}
use Rattle.basics.specs.Lists.{has}
use Rattle.basics.proofs.Truth.{either}
use Rattle.basics.proofs.Members.{has_first, has-later}
use Rattle.order_laws.proofs.Bits.{topo_sort-each}
use Rattle.order_laws.proofs.Sorts.{splittable-gate}
use Rattle.aig_laws.specs.Reads.{GoodOutcome}
use Rattle.rewrite_laws.proofs.Kept.{enter-kept, pass_kept, process-kept, process_cell-kept}
use Rattle.cell_cache.specs.CellCache.{added_by, add_cell_with_metadata_index}
use Rattle.cell_cache.specs.Exchanged.{enter_by, turn_by, process_by, process_cell_by, add_cell_by, run_item_by, run_items_by, run_by, rewrite_by}
use Rattle.cell_cache.proofs.Plain.{process_cell-plain}
use Rattle.rewrite_laws.proofs.Anything.{Any, Gate}
use Rattle.cell_cache.proofs.Covered.{Covered, gate, begun-covered, port-asked, keeping, LeftOver, Processed, Passed, Entered, CoveredRun, run_item-covered}

module _ (look : Lookup) (n : ℕ) where
  abbrev adds : Rewriter → Cell → Added
  adds = add_cell_with_metadata_index n

  -- where a cell is added, the cell cache has nothing
  added-same : (r : Rewriter) (c : Cell) → LeftOver look n c r → adds r c ≡ entry r c
  unfolding add_cell_with_metadata_index entered
  added-same r c h =
      let m : Net = net_in (length r.design.cells) in
      ap (added_by r c) (h.kept.covers c h.new)
      ∙ ap (λ (b : Bool). at m (record {
        design = queue.add_cell r.design c;
        cache = cond b r.cache (r.cache ++ ((c, m) ∷ []));
        stamps = r.stamps ++ (suc r.clock ∷ []);
        clock = suc r.clock;
      })) h.good.1

  enter-same : (c : Cell) (x : Result) → Processed look n c x → enter_by adds c x ≡ enter c x
  enter-same c (none r) h = added-same r c h
  enter-same c (cell d r) h = added-same r d h
  enter-same c (value m r) h = refl
  enter-same c (spent r) h = refl

  -- a pass over the rules, what is processed inside it being the same
  module _ (again again_by : Rewriter → Cell → Result) (kept : (r : Rewriter) (c : Cell) → Covered n r → Gate c → Processed look n c (again r c))
      (same : (r : Rewriter) (c : Cell) → Covered n r → Gate c → again_by r c ≡ again r c) where
    abbrev adder : Rewriter → Cell → Added
    adder r c = enter c (again r c)

    abbrev adder_by : Rewriter → Cell → Added
    adder_by r c = enter_by adds c (again_by r c)

    adder-same : (r : Rewriter) (c : Cell) → Covered n r → Gate c → adder_by r c ≡ adder r c
    adder-same r c p q = ap (enter_by adds c) (same r c p q) ∙ enter-same c (again r c) (kept r c p q)

    adder-kept : (r : Rewriter) (c : Cell) → Covered n r → Gate c → Entered look n (adder r c)
    adder-kept r c p q = enter-kept look (Covered n) _ _ (keeping look n) c (again r c) (kept r c p q)

    not_same : (y : Added) → Entered look n y → add_not adder_by y ≡ add_not adder y
    not_same (at m r) h = ap as_value (adder-same r (Not m) h.0 ((keeping look n).inverse r m h.0 h.1))
    not_same (unadded r) h = refl

    perform-same : (r : Rewriter) (o : Outcome) → Covered n r → GoodOutcome Gate Any o → perform adder_by r o ≡ perform adder r o
    perform-same r None p g = refl
    perform-same r (Some (Value m)) p g = refl
    perform-same r (Some (Form c)) p g = refl
    perform-same r (Some (Add c)) p g = ap as_value (adder-same r c p g)
    perform-same r (Some (NotOf c)) p g = ap as_not (adder-same r c p g)
    perform-same r (Some (AddNotOf c)) p g = ap (add_not adder_by) (adder-same r c p g) ∙ not_same (adder r c) (adder-kept r c p g)

    go_on-same : (c : Cell) (x : Result) → Passed look n c x → go_on again_by c x ≡ go_on again c x
    go_on-same c (none r) h = refl
    go_on-same c (cell d r) h = ap (replacing d) (same r d h.0 h.1)
    go_on-same c (value m r) h = refl
    go_on-same c (spent r) h = refl

    turn-same : (r : Rewriter) (c : Cell) → Covered n r → Gate c → turn_by adds look again_by r c ≡ turn again look r c
    turn-same r c p q =
        ap (go_on again_by c) (perform-same r (rules look r c) p ((keeping look n).plan r c p q))
        ∙ go_on-same c (perform adder r (rules look r c)) (pass_kept look (Covered n) _ _ (keeping look n) again kept r c p q)

  process-same : (k : ℕ) (r : Rewriter) (c : Cell) → Covered n r → Gate c → process_by adds look k r c ≡ process k look r c
  unfolding process_by process
  process-same zero r c p q = refl
  process-same (suc k) r c p q =
      turn-same (process k look) (process_by adds look k) (process-kept look (Covered n) _ _ (keeping look n) k) (process-same k) r c p q

  process_cell-same : (r : Rewriter) (c : Cell) → Covered n r → process_cell_by adds look r c ≡ process_cell look r c
  unfolding process_cell_by process_cell
  process_cell-same r c p = either (has_effects c)
      (λ e. port-asked adds look r c e ∙ sym (port-asked entry look r c e) ∙ process_cell-plain look r c)
      (λ e. process-same _ r c p (gate c e))

  add_cell-same : (r : Rewriter) (c : Cell) → Covered n r → Gate c → add_cell_by adds look r c ≡ add_cell look r c
  unfolding add_cell_by add_cell
  add_cell-same r c p q =
      ap (enter_by adds c) (process_cell-same r c p)
      ∙ enter-same c (process_cell look r c) (process_cell-kept look (Covered n) _ _ (keeping look n) r c p q)

  run_item-same : (s : ℕ) (r : Rewriter) → Covered n r → run_item_by adds look s r ≡ run_item look s r
  unfolding run_item_by run_item
  run_item-same s r p =
      let c : Cell = visit_mut (map_net_new r.design.replaced) (cell_in r.design.cells s) in
      go c (is_splittable c) refl
    where
      go : (c : Cell) (b : Bool) → is_splittable c ≡ b
          → cond b (bit_done s (add_cell_by adds look r c)) (cell_done s c (process_cell_by adds look r c))
          ≡ cond b (bit_done s (add_cell look r c)) (cell_done s c (process_cell look r c))
      go c true e = ap (bit_done s) (add_cell-same r c p (gate c (splittable-gate c e)))
      go c false e = ap (cell_done s c) (process_cell-same r c p)

  run_items-same : (ss : List ℕ) → ((s : ℕ) → has s ss ≡ true → s < n) → (r : Rewriter) → Covered n r → run_items_by adds look ss r ≡ run_items look ss r
  unfolding run_items_by run_items
  run_items-same [] h r p = refl
  run_items-same (s ∷ ss) h r p =
      ap (and_then (run_items_by adds look ss)) (run_item-same s r p)
      ∙ go (run_item look s r) (run_item-covered look n s (h s (has_first s ss)) r p)
      (run_items-same ss (λ x e. h x (has-later x s ss e)))
    where
      go : (x : Run) → CoveredRun look n x → ((r : Rewriter) → Covered n r → run_items_by adds look ss r ≡ run_items look ss r)
          → and_then (run_items_by adds look ss) x ≡ and_then (run_items look ss) x
      go (ran r') k ih = ih r' k
      go (stuck r') k ih = refl

-- the theorem: of the slots taken, and of the netlist left
module _ (look : Lookup) where
  pub run-cached : (cs : List Cell) → run_by add_cell_with_metadata_index look cs ≡ run look cs
  unfolding run_by run
  run-cached cs = run_items-same look (length cs) (topo_sort cs) (topo_sort-each cs).small (begun cs) (begun-covered cs)

  pub rewrite-cached : (d : Netlist) → rewrite_by add_cell_with_metadata_index look d ≡ rewrite look d
  unfolding rewrite_by rewrite
  rewrite-cached d = ap (compacted d.bits) (run-cached d.cells)
