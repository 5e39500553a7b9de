-- The run with the Rust's look-up: in an accepted ticket, as long as every slot has a net of its own, all that is looked up is settled, so the
-- steps never run out. Assumes nothing.
use mathlib.Core.Path.{◌≡◌, refl, sym, ap, ◌∙◌, subst}
use mathlib.Core.Bool.{true, false, false≢true}
use mathlib.Core.List.{List, [], ◌∷◌, ◌++◌, append-nil}
use mathlib.Core.Logic.{◌⊎◌, inl, inr}
use Prim.Native.Nat.{ℕ, suc, ◌<◌}
use native.Mathlib.Omega.{arith}
use lib.Dec.{eqb}
use lib.ListN.{length, get_or, set, length-set, length-replicate}
use lib.Seq.{get_or-set_same, get_or-set_other}
use borrow.Author.Tests.{eqb-true, eqb-false}
use Rattle.value.specs.declared.Net.{Net}
use Rattle.cell.specs.declared.Cell.{Cell}
use Rattle.cell.specs.declared.Cell.TheVariants.{Input}
use Rattle.basics.proofs.Tables.{tabulate-at, tabulate-length}
use Rattle.netlist.specs.Shape.{visit, visit_mut, is_source, has_effects}
use Rattle.netlist.specs.Netlist.{cell_in}
use Rattle.order.specs.Orders.{bit_deps, topo_sort}
use Rattle.std.proofs.Common.{Some}
use Rattle.design.specs.Queue.{Design, net_in, unchanged, map_net_new, find_new_cell, replace_net, replace_cell}
use Rattle.numberer.specs.Numberer.{Entry, seek}
use Rattle.rewrite.specs.Rewriter.{Rewriter, begun, stamp, finished}
use Rattle.rewrite.specs.Rewrite.{Result, none, cell, value, spent, Added, at, unadded, process_cell, add_cell, Run, bit_done, cell_done, run_item, run_items, run}
use Rattle.basics.specs.Lists.{has, All}
use Rattle.order_laws.specs.Members.{Drives, Wired}
use Rattle.order_laws.proofs.Bits.{reads-deps, topo_sort-fed}
use Rattle.basics.proofs.Truth.{either, never}
use Rattle.basics.proofs.Members.{has-snoc, has-snoc-same, has-snoc-other, all-imp, all_both, has-snoc-old}
use Rattle.order_laws.proofs.Operands.{drives-in, visited-all}
use Rattle.order_laws.proofs.Sorts.{effects-mapped, other-gate, gate-other}
use Rattle.order_laws.proofs.Queue.{seek-snoc}
use Rattle.basics.proofs.Indices.{get_d-same}
use Rattle.aig_laws.specs.Reads.{GateOf}
use Rattle.rewrite_laws.proofs.Fuel.{Ended, Entered, process_cell-ended, add_cell-entered}
use Rattle.rewrite_laws.proofs.Kept.{KeptResult, KeptAdded, process_cell-kept, add_cell-kept}
use Rattle.rewrite_laws.specs.State.{tickets, SettledSlot, Settled, Inv, State}
use Rattle.rewrite_laws.proofs.Settled.{map-settled, stamped}
use Rattle.rewrite_laws.proofs.Steps.{later-settled, finished-later, finished-inv}
use Rattle.rewrite_laws.proofs.Items.{Along, FewSlots, few-item, gate-done, item_by, port-done, part-along}
use Rattle.rewrite_laws.proofs.Keeping.{P, Q, N, keeping}

module _ (cs₀ : List Cell) where
  -- the operands of a ticket's cell, after those that it depends on
  settle : (before : List ℕ) (r : Rewriter) → State cs₀ before r → (s : ℕ) → All (Wired cs₀) (visit (cell_in cs₀ s))
      → ((d : ℕ) → has d (bit_deps cs₀ s) ≡ true → d < tickets cs₀ → has d before ≡ true) → All (Settled cs₀ r.stamps) (visit (cell_in cs₀ s))
  unfolding Settled
  settle before r st s wired after =
      let Read : ℕ → Type 0 = λ x. is_source (cell_in cs₀ x) ≡ false → has x (bit_deps cs₀ s) ≡ true in
      all-imp (λ m. Wired cs₀ m × Drives Read m) (Settled cs₀ r.stamps)
      (λ m k x e. let w = k.0 x e in
      either (is_source (cell_in cs₀ x.0)) (λ i. inl (w.0, i))
      (λ i. inr (st.done x.0 w.0 (after x.0 (k.1 x e i) w.0) (other-gate (cell_in cs₀ x.0) i w.1))))
      (visit (cell_in cs₀ s)) (all_both (Wired cs₀) (Drives Read) (visit (cell_in cs₀ s)) wired (reads-deps cs₀ s))

  -- a slot is finished after its item
  module _ (before : List ℕ) (s : ℕ) (small : s < tickets cs₀) (new : has s before ≡ false) (r : Rewriter) (st : State cs₀ before r) (gate : has_effects (cell_in cs₀ s) ≡ false) where
    abbrev zs : List ℕ
    zs = set r.stamps s (suc r.clock)

    open-slot : get_or r.stamps s 0 ≡ 0
    open-slot = st.waiting s small new

    no_source : is_source (cell_in cs₀ s) ≡ false
    no_source = gate-other (cell_in cs₀ s) gate

    stamp-here : get_or zs s 0 ≡ suc r.clock
    stamp-here = get_or-set_same r.stamps s (suc r.clock) 0 (omega (arith, small, st.inv.many, st.inv.sizes))

    stamp-else : (i : ℕ) → (i ≡ s → ⊥) → get_or zs i 0 ≡ get_or r.stamps i 0
    stamp-else i h = get_or-set_other r.stamps s i (suc r.clock) 0 h

    old-settled : (d : Design) (es : List Entry) (m : Net) → Settled cs₀ r.stamps m → Settled cs₀ zs m
    old-settled d es m k = (later-settled cs₀ r.stamps zs (finished-later cs₀ r st.inv s d es small open-slot no_source) m k).0

    here-settled : FewSlots r → Settled cs₀ zs (net_in s)
    unfolding Settled
    here-settled few = drives-in (SettledSlot cs₀ zs) s (omega (arith, small, st.inv.many, few)) (inr (omega (arith, stamp-here)))

    finish : (d : Design) (es : List Entry) → Inv cs₀ (finished r s d es)
        → ((c : Cell) (m : Net) → seek es c ≡ Some m → Settled cs₀ zs m × (has_effects c ≡ false)) → State cs₀ (before ++ (s ∷ [])) (finished r s d es)
    unfolding finished
    finish d es inv known = record {
      inv = inv;
      known = known;
      done = λ i l h e. has-snoc i before s h
          (λ q. rw q (omega (arith, stamp-here)))
          (λ k. either (eqb i s)
          (λ q. absurd (never k (ap (λ x. has x before) (eqb-true i s q) ∙ new)))
          (λ q. omega (arith, stamp-else i (eqb-false i s q), st.done i l k e)));
      waiting = λ i l h. either (eqb i s)
          (λ q. never (ap (λ x. has x (before ++ (s ∷ []))) (eqb-true i s q) ∙ has-snoc-same before s) h)
          (λ q. let k : i ≡ s → ⊥ = eqb-false i s q in stamp-else i k ∙ st.waiting i l (sym (has-snoc-other i before s k) ∙ h));
    }

    -- the cache as it was, and with one more entry for the slot
    known_same : (c : Cell) (m : Net) → seek r.cache c ≡ Some m → Settled cs₀ zs m × (has_effects c ≡ false)
    known_same c m e = (old-settled r.design r.cache m (st.known c m e).0, (st.known c m e).1)

    known_more : FewSlots r → (x : Cell) → has_effects x ≡ false → (c : Cell) (m : Net) → seek (r.cache ++ ((x, net_in s) ∷ [])) c ≡ Some m
        → Settled cs₀ zs m × (has_effects c ≡ false)
    known_more few x g c m e = go (seek-snoc r.cache (x, net_in s) c m e)
      where
        go : (seek r.cache c ≡ Some m) ⊎ ((x ≡ c) × (net_in s ≡ m)) → Settled cs₀ zs m × (has_effects c ≡ false)
        go (inl f) = known_same c m f
        go (inr f) = (subst (Settled cs₀ zs) f.1 (here-settled few), ap has_effects (sym f.0) ∙ g)

    -- the ticket's operands of the slot are settled
    module _ (here : All (Settled cs₀ r.stamps) (visit (cell_in cs₀ s))) where
      here-now : All (Settled cs₀ r.stamps) (visit (cell_in r.design.cells s))
      here-now = rw (st.inv.untouched s small open-slot) here

      -- its net is replaced
      pub replaced-state : (m : Net) → Settled cs₀ r.stamps m → State cs₀ (before ++ (s ∷ [])) (finished r s (replace_net r.design s m) r.cache)
      replaced-state m k =
          finish (replace_net r.design s m) r.cache
          (finished-inv cs₀ r st.inv s (replace_net r.design s m) r.cache small open-slot no_source refl (λ i h. refl) here-now
          (length-set r.design.replaced s m ∙ st.inv.wide)
          (λ i x h. get_or-set_other r.design.replaced s i m x h)
          (λ x. inr (rw (get_or-set_same r.design.replaced s m x (omega (arith, small, st.inv.wide))) k)))
          known_same

      stands_here : (x : Net) → (get_or r.design.replaced s x ≡ net_in s) ⊎ Settled cs₀ r.stamps (get_or r.design.replaced s x)
      stands_here x = go (st.inv.stands s x small)
        where
          go : (get_or r.design.replaced s x ≡ net_in s) ⊎ ((0 < get_or r.stamps s 0) × Settled cs₀ r.stamps (get_or r.design.replaced s x)
              × (stamp r.stamps (get_or r.design.replaced s x) < get_or r.stamps s 0))
              → (get_or r.design.replaced s x ≡ net_in s) ⊎ Settled cs₀ r.stamps (get_or r.design.replaced s x)
          go (inl e) = inl e
          go (inr k) = inr k.1

      -- it stays as it is
      pub same-state : FewSlots r → (c : Cell) → has_effects c ≡ false → State cs₀ (before ++ (s ∷ [])) (finished r s r.design (r.cache ++ ((c, net_in s) ∷ [])))
      same-state few c g =
          let es : List Entry = r.cache ++ ((c, net_in s) ∷ []) in
          finish r.design es
          (finished-inv cs₀ r st.inv s r.design es small open-slot no_source refl (λ i h. refl) here-now st.inv.wide (λ i x h. refl) stands_here)
          (known_more few c g)

      -- it is rewritten in its slot
      pub rewritten-state : FewSlots r → (c : Cell) → GateOf (Settled cs₀ r.stamps) c
          → State cs₀ (before ++ (s ∷ [])) (finished r s (replace_cell r.design s c) (r.cache ++ ((c, net_in s) ∷ [])))
      rewritten-state few c g =
          let es : List Entry = r.cache ++ ((c, net_in s) ∷ []) in
          finish (replace_cell r.design s c) es
          (finished-inv cs₀ r st.inv s (replace_cell r.design s c) es small open-slot no_source
          (length-set r.design.cells s c)
          (λ i h. get_or-set_other r.design.cells s i c (Input 0) h)
          (rw (get_or-set_same r.design.cells s c (Input 0) (omega (arith, small, st.inv.many))) g.0)
          st.inv.wide (λ i x h. refl) stands_here)
          (known_more few c g.1)

  -- an item
  abbrev pub RunOk : List ℕ → Run → Type 0
  RunOk = Along (λ before r. FewSlots r → State cs₀ before r) (λ r. FewSlots r → ⊥)

  effect-state : (before : List ℕ) (s : ℕ) (r : Rewriter) → State cs₀ before r → has_effects (cell_in cs₀ s) ≡ true → State cs₀ (before ++ (s ∷ [])) r
  effect-state before s r st e = record {
    inv = st.inv;
    known = st.known;
    done = λ i l h g. has-snoc i before s h (λ q. never (ap (λ x. has_effects (cell_in cs₀ x)) q ∙ e) g) (λ k. st.done i l k g);
    waiting = λ i l h. st.waiting i l (either (has i before) (λ k. never (has-snoc-old i before s k) h) (λ k. k));
  }

  pub begun-state : State cs₀ [] (begun cs₀)
  unfolding unchanged has seek
  begun-state = record {
    inv = record {
      sizes = length-replicate (length cs₀) 0;
      many = omega arith;
      wide = tabulate-length net_in (length cs₀);
      clocked = λ i. omega (arith, get_d-same {A = ℕ} (length cs₀) i 0);
      sources = λ i l e. get_d-same {A = ℕ} (length cs₀) i 0;
      untouched = λ i l e. refl;
      fed = λ i h. absurd (omega (arith, h, get_d-same {A = ℕ} (length cs₀) i 0));
      stands = λ i d l. inl (tabulate-at net_in (length cs₀) d i l);
    };
    known = λ c m e. let z : ◌≡◌ {A = ℕ} 0 1 = cc in absurd (omega arith);
    done = λ i l h e. absurd (false≢true h);
    waiting = λ i l h. get_d-same {A = ℕ} (length cs₀) i 0;
  }

  module _ (wired : (s : ℕ) → s < tickets cs₀ → All (Wired cs₀) (visit (cell_in cs₀ s))) where
    module _ (before : List ℕ) (s : ℕ) (small : s < tickets cs₀) (new : has s before ≡ false)
        (after : (d : ℕ) → has d (bit_deps cs₀ s) ≡ true → d < tickets cs₀ → has d before ≡ true) (r : Rewriter) (p : P cs₀ before r) where
      here : (r' : Rewriter) → State cs₀ before r' → All (Settled cs₀ r'.stamps) (visit (cell_in cs₀ s))
      here r' st = settle before r' st s (wired s small) after

      abbrev pub c : Cell
      c = visit_mut (map_net_new r.design.replaced) (cell_in r.design.cells s)

      untouched-cell : FewSlots r → cell_in r.design.cells s ≡ cell_in cs₀ s
      untouched-cell few = (p few).inv.untouched s small ((p few).waiting s small new)

      pub c-effects : FewSlots r → has_effects c ≡ has_effects (cell_in cs₀ s)
      c-effects few = effects-mapped (map_net_new r.design.replaced) (cell_in r.design.cells s) ∙ ap has_effects (untouched-cell few)

      pub c-settled : has_effects c ≡ false → Q cs₀ before r c
      c-settled e few = (
        visited-all (Settled cs₀ r.stamps) (map_net_new r.design.replaced) (cell_in r.design.cells s)
            (all-imp (Settled cs₀ r.stamps) _ (map-settled cs₀ r (p few).inv) (visit (cell_in r.design.cells s)) (rw (untouched-cell few) (here r (p few)))),
        e,
      )

      abbrev Ok : Run → Type 0
      Ok = RunOk (before ++ (s ∷ []))

      bit_ok : FewSlots r → has_effects c ≡ false → (y : Added) → KeptAdded find_new_cell (P cs₀ before) (Q cs₀ before) (N cs₀ before) (keeping cs₀ before) y → Entered y → Ok (bit_done s y)
      unfolding finished
      bit_ok few e (at m r') k h = λ few'.
          let st : State cs₀ before r' = k.0 few' in replaced-state before s small new r' st (sym (c-effects few) ∙ e) (here r' st) m (k.1 few')
      bit_ok few e (unadded r') k h = absurd h

      cell-ok : FewSlots r → has_effects c ≡ false → (y : Result) → KeptResult find_new_cell (P cs₀ before) (Q cs₀ before) (N cs₀ before) (keeping cs₀ before) c y → Ended y → Ok (cell_done s c y)
      unfolding finished
      cell-ok few e (none r') k h = gate-done s r' c Ok e (λ few'.
          let st : State cs₀ before r' = k.kept few' in same-state before s small new r' st (sym (c-effects few) ∙ e) (here r' st) few' c e)
      cell-ok few e (cell d r') k h = λ few''.
          let few' : FewSlots r' = omega (arith, few'', length-set r'.design.cells s d) in
          let st : State cs₀ before r' = k.kept few' in
          rewritten-state before s small new r' st (sym (c-effects few) ∙ e) (here r' st) few' d (k.good few')
      cell-ok few e (value m r') k h = λ few'.
          let st : State cs₀ before r' = k.0 few' in replaced-state before s small new r' st (sym (c-effects few) ∙ e) (here r' st) m (k.1 few')
      cell-ok few e (spent r') k h = absurd h

      pub item_ok : RunOk (before ++ (s ∷ [])) (run_item find_new_cell s r)
      item_ok =
          few-item (State cs₀) (λ r. ⊥) find_new_cell (tickets cs₀) s small (before ++ (s ∷ [])) r (λ few.
          item_by find_new_cell s r Ok
          (λ b e. bit_ok few e (add_cell find_new_cell r c) (add_cell-kept find_new_cell (P cs₀ before) (Q cs₀ before) (N cs₀ before) (keeping cs₀ before) r c p (c-settled e))
          (add_cell-entered find_new_cell r (stamped cs₀ r (p few).inv) c))
          (λ e. port-done s r c Ok find_new_cell e (λ m f. never e ((p few).known c m f).1) (λ few. effect-state before s r (p few) (sym (c-effects few) ∙ e)))
          (λ b e. cell-ok few e (process_cell find_new_cell r c) (process_cell-kept find_new_cell (P cs₀ before) (Q cs₀ before) (N cs₀ before) (keeping cs₀ before) r c p (c-settled e))
          (process_cell-ended find_new_cell r (stamped cs₀ r (p few).inv) c)))

    -- the law: where a rank falls along the bits' operands, and the slots taken have nets of their own, the run ends
    module _ (rank : ℕ → ℕ) (falls : (s d : ℕ) → has d (bit_deps cs₀ s) ≡ true → rank d < rank s) where
      pub part-ok : (before rest : List ℕ) → topo_sort cs₀ ≡ before ++ rest → RunOk before (run_items find_new_cell before (begun cs₀))
      part-ok =
          part-along cs₀ (λ before r. FewSlots r → State cs₀ before r) (λ r. FewSlots r → ⊥) find_new_cell (topo_sort-fed cs₀ rank falls)
          (λ before s n r p. item_ok before s n.small n.new n.fed r p) (λ few. begun-state)

      pub run_ok : RunOk (topo_sort cs₀) (run find_new_cell cs₀)
      unfolding run
      run_ok = part-ok (topo_sort cs₀) [] (sym (append-nil (topo_sort cs₀)))
