-- The run over a netlist without and-inverters: added cells are gates that read fresh nets, to which no rule applies, each in the cache under its
-- own net; and every gate of the ticket is replaced by a fresh net. Assumes nothing.
use mathlib.Core.Path.{◌≡◌, refl, sym, ap, ◌∙◌, subst}
use mathlib.Core.Bool.{true, false, true≢false, false≢true, ◌&&◌}
use mathlib.Core.List.{List, [], ◌∷◌, ◌++◌}
use Prim.Native.Nat.{ℕ, suc, ◌≤◌, ◌<◌}
use native.Mathlib.Omega.{arith}
use lib.Dec.{eqb, leb}
use lib.ListN.{length, get_or, set, length-set, length-replicate, get_or-replicate}
use lib.Seq.{get_or-set_same, get_or-set_other}
use borrow.Author.Tests.{eqb-true, eqb-false, le-leb, leb-false, leb-true}
use Rattle.value.specs.declared.Net.{Net}
use Rattle.cell.specs.declared.Cell.{Cell}
use Rattle.basics.proofs.Tables.{tabulate-length, tabulate-at}
use Rattle.netlist.specs.Shape.{visit, visit_mut, has_effects, is_splittable}
use Rattle.netlist.specs.Netlist.{cell_in}
use Rattle.order.specs.Orders.{bit_deps, topo_sort}
use Rattle.design.specs.Queue.{net_in, unchanged, map_net_new, find_new_cell, replace_net}
use Rattle.numberer.specs.Numberer.{seek}
use Rattle.rewrite.specs.Rewriter.{Rewriter, begun, finished}
use Rattle.rewrite.specs.Rewrite.{Added, at, unadded, process_cell, add_cell, Run, bit_done, cell_done, run_item, run}
use Rattle.basics.specs.Lists.{has, All}
use Rattle.order_laws.specs.Members.{Wired}
use Rattle.order_laws.proofs.Bits.{topo_sort-each, topo_sort-fed, reads-deps, sources_last}
use Rattle.basics.proofs.Truth.{either, never}
use Rattle.basics.proofs.Members.{has-snoc, has-snoc-other, all-imp, all_both}
use Rattle.order_laws.proofs.Sorts.{effects-mapped, effects-kind, kind-last, kind_in, sort-kept, splittable-kind}
use Rattle.order_laws.proofs.Operands.{visited-all}
use Rattle.rewrite_laws.proofs.Kept.{KeptAdded, add_cell-kept}
use Rattle.rewrite_laws.proofs.Items.{Along, FewSlots, few-item, item_by, port-done, run_along}
use Rattle.levels_laws.specs.Algebra.{Ranked}
use Rattle.levels_laws.proofs.Ranks.{ranked-falls}
use Rattle.rewrite_normal.specs.Plain.{is_aig, Plain}
use Rattle.rewrite_normal.proofs.Cells.{aig-kind, aigs-by}
use Rattle.rewrite_normal.proofs.Fresh.{Fresh, State, Through, map-through}
use Rattle.rewrite_normal.proofs.Adding.{P, Q, N, keeping}

-- what is not cut into bits but an and-inverter has effects
plain-effects : (c : Cell) → is_aig c ≡ false → is_splittable c ≡ false → has_effects c ≡ true
plain-effects c p e =
    let k : ℕ = kind_in c in
    let last : k ≤ 9 = leb-true k 9 (kind-last 0 c) in
    let other : k ≡ 9 → ⊥ = eqb-false k 9 (sym (aig-kind 0 c) ∙ p) in
    let out : (leb 3 k && leb k 8) ≡ false = sym (splittable-kind 0 c) ∙ e in
    effects-kind 0 c ∙ le-leb k 2 (either (leb 3 k)
    (λ q. absurd (never (le-leb k 8 (omega arith)) (sym (ap (λ b. b && leb k 8) q) ∙ out)))
    (λ q. omega (arith, leb-false 3 k q)))

module _ (cs₀ : List Cell) where
  abbrev tickets : ℕ
  tickets = length cs₀

  -- a gate's slot is finished: its net is replaced by a fresh one
  module _ (before : List ℕ) (s : ℕ) (small : s < tickets) (r : Rewriter) (st : State cs₀ before r) (gate : has_effects (cell_in cs₀ s) ≡ false)
      (m : Net) (fresh : Fresh cs₀ (length r.design.cells) m) where
    not-port : (i : ℕ) → has_effects (cell_in cs₀ i) ≡ true → i ≡ s → ⊥
    not-port i e q = true≢false (sym e ∙ ap (λ (j : ℕ). has_effects (cell_in cs₀ j)) q ∙ gate)

    finished-state : State cs₀ (before ++ (s ∷ [])) (finished r s (replace_net r.design s m) r.cache)
    unfolding finished
    finished-state = record {
      sizes = length-set r.stamps s (suc r.clock) ∙ st.sizes;
      many = st.many;
      wide = length-set r.design.replaced s m ∙ st.wide;
      olds = st.olds;
      ports = λ i l e. get_or-set_other r.stamps s i (suc r.clock) 0 (not-port i e) ∙ st.ports i l e;
      stamped = λ i l k. omega (arith, get_or-set_other r.stamps s i (suc r.clock) 0 (λ e. omega (arith, e, l, small)), st.stamped i l k);
      adds = st.adds;
      found = st.found;
      known = st.known;
      stays = λ i x l e. get_or-set_other r.design.replaced s i m x (not-port i e) ∙ st.stays i x l e;
      done = λ i x l h e. either (eqb i s)
          (λ q. subst (Fresh cs₀ (length r.design.cells))
          (sym (ap (λ (j : ℕ). get_or (set r.design.replaced s m) j x) (eqb-true i s q) ∙ get_or-set_same r.design.replaced s m x (omega (arith, small, st.wide)))) fresh)
          (λ q. let k : i ≡ s → ⊥ = eqb-false i s q in
          subst (Fresh cs₀ (length r.design.cells)) (sym (get_or-set_other r.design.replaced s i m x k))
          (st.done i x l (sym (has-snoc-other i before s k) ∙ h) e));
    }

  -- nothing is done with a cell that has effects
  effect-state : (before : List ℕ) (s : ℕ) (r : Rewriter) → State cs₀ before r → has_effects (cell_in cs₀ s) ≡ true → State cs₀ (before ++ (s ∷ [])) r
  effect-state before s r st e = record {
    sizes = st.sizes;
    many = st.many;
    wide = st.wide;
    olds = st.olds;
    ports = st.ports;
    stamped = st.stamped;
    adds = st.adds;
    found = st.found;
    known = st.known;
    stays = st.stays;
    done = λ i x l h g. has-snoc i before s h (λ q. never (ap (λ (j : ℕ). has_effects (cell_in cs₀ j)) q ∙ e) g) (λ k. st.done i x l k g);
  }

  abbrev pub RunState : List ℕ → Run → Type 0
  RunState = Along (λ before r. FewSlots r → State cs₀ before r) (λ r. FewSlots r → Unit {0})

  -- the netlist is wired: each operand names a slot that is no output, and a rank falls along what is read within a tick
  module _ (rank : ℕ → ℕ) (ranked : Ranked cs₀ rank) (wired : (s : ℕ) → s < tickets → All (Wired cs₀) (visit (cell_in cs₀ s))) (plain : Plain cs₀) where
    -- the operands of a slot whose dependencies are done
    through : (before : List ℕ) (s : ℕ) → s < tickets → ((d : ℕ) → has d (bit_deps cs₀ s) ≡ true → d < tickets → has d before ≡ true)
        → (r : Rewriter) (st : State cs₀ before r) → All (Through cs₀ before r st) (visit (cell_in cs₀ s))
    through before s l after r st =
        let ns : List Net = visit (cell_in cs₀ s) in
        all-imp _ (Through cs₀ before r st) (λ m a x e. let w = a.0 x e in (w.0, w.1, λ i. after x.0 (a.1 x e i) w.0)) ns
        (all_both _ _ ns (wired s l) (reads-deps cs₀ s))

    -- at the end all are done
    pub ticket-fresh : (r : Rewriter) → State cs₀ (topo_sort cs₀) r → (s : ℕ) → s < tickets
        → All (λ m. Fresh cs₀ (length r.design.cells) (map_net_new r.design.replaced m)) (visit (cell_in cs₀ s))
    ticket-fresh r st s l =
        all-imp _ _ (map-through cs₀ (topo_sort cs₀) r st) (visit (cell_in cs₀ s)) (through (topo_sort cs₀) s l (λ d h k. (topo_sort-each cs₀).all d k) r st)

    -- an item
    module _ (before : List ℕ) (s : ℕ) (small : s < tickets)
        (after : (d : ℕ) → has d (bit_deps cs₀ s) ≡ true → d < tickets → has d before ≡ true) (r : Rewriter) (st : State cs₀ before r) where
      abbrev f : Net → Net
      f = map_net_new r.design.replaced

      abbrev c : Cell
      c = visit_mut f (cell_in r.design.cells s)

      c-effects : has_effects c ≡ has_effects (cell_in cs₀ s)
      c-effects = effects-mapped f (cell_in r.design.cells s) ∙ ap has_effects (st.olds s small)

      c-plain : is_aig c ≡ false
      c-plain = sort-kept aigs-by f (cell_in r.design.cells s) ∙ ap is_aig (st.olds s small) ∙ plain s small

      c-fresh : has_effects c ≡ false → Q cs₀ before r c
      c-fresh e few =
          let F : Net → Type 0 = Fresh cs₀ (length r.design.cells) in
          let ns : List Net = visit (cell_in cs₀ s) in (
            rw (st.olds s small)
                (visited-all F f (cell_in cs₀ s) (all-imp _ (λ m. F (f m)) (map-through cs₀ before r st) ns (through before s small after r st))),
            e,
          )

      abbrev Done : Run → Type 0
      Done = RunState (before ++ (s ∷ []))

      bit-state : (y : Added) → KeptAdded find_new_cell (P cs₀ before) (Q cs₀ before) (N cs₀ before) (keeping cs₀ before) y → has_effects c ≡ false → Done (bit_done s y)
      unfolding finished
      bit-state (at m r') k e = λ few. finished-state before s small r' (k.0 few) (sym c-effects ∙ e) m (k.1 few)
      bit-state (unadded r') k e = λ few. tt

      port-state : has_effects c ≡ true → Done (cell_done s c (process_cell find_new_cell r c))
      port-state e = port-done s r c Done find_new_cell e (λ m q. never e (st.known c m q).1) (λ few. effect-state before s r st (sym c-effects ∙ e))

      item-state : Done (run_item find_new_cell s r)
      item-state =
          item_by find_new_cell s r Done
          (λ b e. bit-state (add_cell find_new_cell r c) (add_cell-kept find_new_cell (P cs₀ before) (Q cs₀ before) (N cs₀ before) (keeping cs₀ before) r c (λ few. st) (c-fresh e)) e)
          port-state (λ b e. port-state (plain-effects c c-plain b))

    begun-state : State cs₀ [] (begun cs₀)
    unfolding unchanged has seek
    begun-state = record {
      sizes = length-replicate tickets 0;
      many = omega arith;
      wide = tabulate-length net_in tickets;
      olds = λ i l. refl;
      ports = λ i l e. get_or-replicate tickets i 0 0 l;
      stamped = λ i l k. absurd (omega arith);
      adds = λ i l k. absurd (omega arith);
      found = λ i l k. absurd (omega arith);
      known = λ c m e. let z : ◌≡◌ {A = ℕ} 0 1 = cc in absurd (omega arith);
      stays = λ i x l e. tabulate-at net_in tickets x i l;
      done = λ i x l h e. absurd (false≢true h);
    }

    -- the law
    pub run-state : RunState (topo_sort cs₀) (run find_new_cell cs₀)
    run-state =
        run_along cs₀ (λ before r. FewSlots r → State cs₀ before r) (λ r. FewSlots r → Unit {0}) find_new_cell (topo_sort-fed cs₀ (sources_last cs₀ rank) (ranked-falls cs₀ rank ranked))
        (λ before s n r p. few-item (State cs₀) (λ r. Unit {0}) find_new_cell tickets s n.small (before ++ (s ∷ [])) r
        (λ few. item-state before s n.small n.fed r (p few)))
        (λ few. begun-state)
