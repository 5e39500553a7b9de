-- The run keeps levels: where levels fit the rewriter at the end, each gate of the ticket has a level that its net still has, if it was 0 or 1.
-- Assumes nothing.
use mathlib.Core.Path.{◌≡◌, refl, sym, ap, ◌∙◌, subst}
use mathlib.Core.Bool.{true, false, false≢true}
use mathlib.Core.List.{List, [], ◌∷◌, ◌++◌}
use mathlib.Core.Logic.{◌⊎◌, inl, inr}
use Prim.Native.Nat.{ℕ, ◌≤◌, ◌<◌}
use native.Mathlib.Omega.{arith}
use lib.ListN.{length, get_or, length-append, length-set}
use lib.Seq.{get_or-set_same, get_or-set_other}
use Rattle.logic.specs.declared.Trit.{Trit}
use Rattle.logic.specs.declared.Trit.TheVariants.{Undef}
use Rattle.logic.specs.Levels.{Refines}
use Rattle.value.specs.declared.Net.{Net}
use Rattle.cell.specs.declared.Cell.{Cell}
use Rattle.cell.specs.declared.Cell.TheVariants.{Input}
use Rattle.netlist.specs.Shape.{visit, visit_mut, has_effects}
use Rattle.netlist.specs.Netlist.{cell_in}
use Rattle.order.specs.Orders.{bit_deps, topo_sort}
use Rattle.std.proofs.Common.{Some}
use Rattle.design.specs.Queue.{Design, net_in, map_net_new, find_new_cell, replace_net, replace_cell}
use Rattle.numberer.specs.Numberer.{Entry, seek}
use Rattle.rewrite.specs.Rewriter.{Rewriter, Lookup, begun, find_cell, entered, finished}
use Rattle.rewrite.specs.Rewrite.{Result, none, cell, value, spent, Added, at, unadded, process_cell, add_cell, Run, ran, stuck, bit_done, cell_done, run_item, run}
use Rattle.basics.specs.Lists.{has, All}
use Rattle.order_laws.specs.Ordered.{FedAfter}
use Rattle.order_laws.specs.Members.{Wired}
use Rattle.order_laws.proofs.Bits.{topo_sort-each}
use Rattle.basics.proofs.Truth.{never}
use Rattle.order_laws.proofs.Queue.{seek-snoc}
use Rattle.order_laws.proofs.Sorts.{gate-other}
use Rattle.basics.proofs.Members.{has-snoc}
use Rattle.rewrite_laws.proofs.Kept.{Keeps, KeptResult, KeptAdded, process_cell-kept, add_cell-kept}
use Rattle.rewrite_laws.proofs.Settled.{limit}
use Rattle.rewrite_laws.specs.State.{tickets, StandsFor, Inv, State}
use Rattle.rewrite_laws.proofs.Keeping.{P, Q, N, keeping}
use Rattle.rewrite_laws.proofs.Running.{RunOk, c-effects, c-settled, item_ok, begun-state}
use Rattle.rewrite_laws.proofs.Items.{Along, FewSlots, Next, few-item, gate-done, item_by, port-done, run_along}
use Rattle.levels_laws.specs.Algebra.{cell_value}
use Rattle.levels_laws.specs.Instances.{kleene}
use Rattle.levels_laws.proofs.Operands.{cell-own}
use Rattle.rewrite_kept.specs.Outcomes.{gate_level, Constants, SourceFits}
use Rattle.rewrite_kept.proofs.Rules.{rules-good}
use Rattle.rewrite_kept.proofs.Processing.{Fitting, LeadsResult, LeadsAdded, process_cell-leads, add_cell-leads}
use Rattle.rewrite_kept.proofs.Fitted.{mapped-level, SlotFits, Fitted, entered-back, entered-level, finished-back, finished-slot, map_same, found-fits}

-- a look-up with which the run keeps what is known of settled nets, and which gives cells of the right level
pub record Looks (look : Lookup) (cs₀ : List Cell) : Type 0 where
  pub keeps : (before : List ℕ) → Keeps look (P cs₀ before) (Q cs₀ before) (N cs₀ before)
  pub item : (before : List ℕ) (s : ℕ) → s < tickets cs₀ → has s before ≡ false → ((d : ℕ) → has d (bit_deps cs₀ s) ≡ true → d < tickets cs₀ → has d before ≡ true)
      → (r : Rewriter) → P cs₀ before r → RunOk cs₀ (before ++ (s ∷ [])) (run_item look s r)
  pub fits : (v : Net → Trit) (r : Rewriter) → Inv cs₀ r → Fitted v r → (n : Net) → SourceFits v n (find_cell look r n)

-- the Rust's is one, where operands name slots other than outputs
pub rust-looks : (cs₀ : List Cell) → ((s : ℕ) → s < tickets cs₀ → All (Wired cs₀) (visit (cell_in cs₀ s))) → Looks find_new_cell cs₀
rust-looks cs₀ wired = record {
  keeps = keeping cs₀;
  item = item_ok cs₀ wired;
  fits = λ v r inv f. found-fits v cs₀ r inv f;
}

module _ (cs₀ : List Cell) (v : Net → Trit) (consts : Constants v) where
  -- what the cache answers has the level of the cell
  abbrev pub Cached : Rewriter → Type 0
  Cached r = (c : Cell) (n : Net) → seek r.cache c ≡ Some n → Fitted v r → v n ≡ gate_level v c

  -- one more entry
  cached-snoc : (es : List Entry) (c : Cell) (n : Net) → v n ≡ gate_level v c → ((x : Cell) (m : Net) → seek es x ≡ Some m → v m ≡ gate_level v x)
      → (x : Cell) (m : Net) → seek (es ++ ((c, n) ∷ [])) x ≡ Some m → v m ≡ gate_level v x
  cached-snoc es c n h old x m e = go (seek-snoc es (c, n) x m e)
    where
      go : (seek es x ≡ Some m) ⊎ ((c ≡ x) × (n ≡ m)) → v m ≡ gate_level v x
      go (inl f) = old x m f
      go (inr f) = ap v (sym f.1) ∙ h ∙ ap (gate_level v) f.0

  -- processing, with such a look-up, after the items `before`
  module _ (look : Lookup) (looks : Looks look cs₀) (before : List ℕ) where
    abbrev pub Known : Rewriter → Type 0
    Known r = P cs₀ before r × Cached r

    module _ (r : Rewriter) (c : Cell) (p : P cs₀ before r) (q : Q cs₀ before r c) (fits : Fitted v (entered r c (net_in (length r.design.cells)))) where
      few : length r.design.cells ≤ limit
      unfolding entered
      few = omega (arith, fits.few, length-append r.design.cells (c ∷ []))

      back : Fitted v r × (v (net_in (length r.design.cells)) ≡ gate_level v c)
      back = (
        entered-back v cs₀ r (p few).inv c (net_in (length r.design.cells)) fits,
        entered-level v cs₀ r (p few).inv c (net_in (length r.design.cells)) fits (gate-other c (q few).1),
      )

    entered-cached : (r : Rewriter) (c : Cell) → Known r → Q cs₀ before r c → Cached (entered r c (net_in (length r.design.cells)))
    unfolding entered
    entered-cached r c k q x m e fits =
        let b = back r c k.0 q fits in
        cached-snoc r.cache c (net_in (length r.design.cells)) b.1 (λ x m e. k.1 x m e b.0) x m e

    pub keeping-levels : Keeps look Known (Q cs₀ before) (N cs₀ before)
    keeping-levels =
        let keeps = looks.keeps before in
        record {
          plan = λ r c k q. keeps.plan r c k.0 q;
          inverse = λ r n k h. keeps.inverse r n k.0 h;
          cached = λ r c n k q e. keeps.cached r c n k.0 q e;
          step = λ r c k q e s. let h = keeps.step r c k.0 q e s in ((h.0, entered-cached r c k q), h.1);
        }

    pub fitting-levels : Fitting look Known (Q cs₀ before) v (Fitted v)
    fitting-levels = record {
      plan = λ r c k f. rules-good v consts look r (looks.fits v r (k.0 f.few).inv f) c;
      cached = λ r c n k f e. k.1 c n e f;
      back = λ r c k q f. back r c k.0 q f;
    }

  -- the level of a gate of the ticket, if it is 0 or 1, is that of its net
  abbrev pub Refined : ℕ → Type 0
  Refined s = has_effects (cell_in cs₀ s) ≡ false → Refines (v (net_in s)) (gate_level v (cell_in cs₀ s))

  module _ (look : Lookup) (looks : Looks look cs₀) (wired : (s : ℕ) → s < tickets cs₀ → All (Wired cs₀) (visit (cell_in cs₀ s))) where
    -- from levels that fit after the item s back to those before it
    abbrev LeadsRun : Rewriter → ℕ → Run → Type 0
    LeadsRun r s (ran r') = Cached r' × (Fitted v r' → Fitted v r × Refined s)
    LeadsRun r s (stuck r') = Unit {0}

    -- an item
    module _ (before : List ℕ) (s : ℕ) (small : s < tickets cs₀) (new : has s before ≡ false)
        (after : (d : ℕ) → has d (bit_deps cs₀ s) ≡ true → d < tickets cs₀ → has d before ≡ true) (r : Rewriter) (st : State cs₀ before r) (few : FewSlots r) (known : Cached r) where
      abbrev c : Cell
      c = visit_mut (map_net_new r.design.replaced) (cell_in r.design.cells s)

      abbrev Leads : Run → Type 0
      Leads = LeadsRun r s

      effects : has_effects c ≡ has_effects (cell_in cs₀ s)
      effects = c-effects cs₀ wired before s small new after r (λ few. st) few

      settled : has_effects c ≡ false → Q cs₀ before r c
      settled = c-settled cs₀ wired before s small new after r (λ few. st)

      -- the operands were mapped, which keeps levels
      c-level : Fitted v r → gate_level v c ≡ gate_level v (cell_in cs₀ s)
      c-level f =
          mapped-level v (map_net_new r.design.replaced) (map_same v cs₀ r st.inv f) Undef (cell_in r.design.cells s)
          ∙ ap (gate_level v) (st.inv.untouched s small (st.waiting s small new))

      unreplaced : (r' : Rewriter) → State cs₀ before r' → get_or r'.design.replaced s (net_in s) ≡ net_in s
      unreplaced r' st' = go (st'.inv.stands s (net_in s) small)
        where
          go : StandsFor cs₀ r'.stamps s (get_or r'.design.replaced s (net_in s)) → get_or r'.design.replaced s (net_in s) ≡ net_in s
          go (inl e) = e
          go (inr p) = absurd (omega (arith, p.0, st'.waiting s small new))

      -- the slot is finished, with level y
      module _ (r' : Rewriter) (k : Known look looks before r') (d : Design)
          (cells : (i : ℕ) → (i ≡ s → ⊥) → cell_in d.cells i ≡ cell_in r'.design.cells i)
          (nets : (i : ℕ) (x : Net) → (i ≡ s → ⊥) → get_or d.replaced i x ≡ get_or r'.design.replaced i x)
          (long : length d.cells ≡ length r'.design.cells) (y : Trit)
          (leads : Fitted v r' → Fitted v r × Refines y (gate_level v c))
          (here : FewSlots r' → State cs₀ before r' → Fitted v r → SlotFits v d s → v (net_in s) ≡ y) where
        module _ (es : List Entry) (fits : Fitted v (finished r' s d es)) where
          few' : FewSlots r'
          unfolding finished
          few' = omega (arith, fits.few, long)

          state : State cs₀ before r'
          state = k.0 few'

          back' : Fitted v r'
          back' = finished-back v cs₀ r' state.inv s d es small (state.waiting s small new) cells nets long fits

          level-here : v (net_in s) ≡ y
          level-here =
              here few' state (leads back').0 (finished-slot v cs₀ r' state.inv s d es small (state.waiting s small new) cells nets long fits)

          refined : Fitted v r × Refined s
          refined =
              let h : Fitted v r × Refines y (gate_level v c) = leads back' in
              (h.0, λ e. rw (level-here, sym (c-level h.0)) h.1)

        done-same : Leads (ran (finished r' s d r'.cache))
        unfolding finished
        done-same = ((λ x m e f. k.1 x m e (back' r'.cache f)), refined r'.cache)

        done_more : (e : Cell) → gate_level v e ≡ y → Leads (ran (finished r' s d (r'.cache ++ ((e, net_in s) ∷ []))))
        unfolding finished
        done_more e q =
            let es : List Entry = r'.cache ++ ((e, net_in s) ∷ []) in
            ((λ x m i f. cached-snoc r'.cache e (net_in s) (level-here es f ∙ sym q) (λ x m i. k.1 x m i (back' es f)) x m i), refined es)

      -- its net is replaced
      replaced-leads : (n : Net) (r' : Rewriter) → Known look looks before r' → (Fitted v r' → Fitted v r × Refines (v n) (gate_level v c))
          → Leads (ran (finished r' s (replace_net r'.design s n) r'.cache))
      replaced-leads n r' k leads =
          done-same r' k (replace_net r'.design s n) (λ i h. refl) (λ i x h. get_or-set_other r'.design.replaced s i n x h) refl (v n) leads
          (λ few' st' f h. h.stands ∙ ap v (get_or-set_same r'.design.replaced s n (net_in s) (omega (arith, small, st'.inv.wide))))

      abbrev Kept : Result → Type 0
      Kept y = KeptResult look (Known look looks before) (Q cs₀ before) (N cs₀ before) (keeping-levels look looks before) c y

      abbrev Led : Result → Type 0
      Led y = LeadsResult look (Known look looks before) (Q cs₀ before) (N cs₀ before) (keeping-levels look looks before) v (Fitted v) (fitting-levels look looks before) r (gate_level v c) c y

      bit-leads : (y : Added) → KeptAdded look (Known look looks before) (Q cs₀ before) (N cs₀ before) (keeping-levels look looks before) y
          → LeadsAdded look (Known look looks before) (Q cs₀ before) (N cs₀ before) (keeping-levels look looks before) v (Fitted v) (fitting-levels look looks before) r (gate_level v c) y
          → Leads (bit_done s y)
      bit-leads (at n r') k h = replaced-leads n r' k.0 h
      bit-leads (unadded r') k h = tt

      cell-leads : has_effects c ≡ false → (y : Result) → Kept y → Led y → Leads (cell_done s c y)
      cell-leads e (none r') k h =
          gate-done s r' c Leads e
          (done_more r' k.kept r'.design (λ i h. refl) (λ i x h. refl) refl (gate_level v c) h
          (λ few' st' f g. g.level (unreplaced r' st')
          ∙ ap (cell_value kleene v (v (net_in s))) (st'.inv.untouched s small (st'.waiting s small new))
          ∙ cell-own kleene v (v (net_in s)) Undef (cell_in cs₀ s) (gate-other (cell_in cs₀ s) (sym effects ∙ e)) ∙ sym (c-level f))
          c refl)
      cell-leads e (cell d r') k h =
          done_more r' k.kept (replace_cell r'.design s d) (λ i h. get_or-set_other r'.design.cells s i d (Input 0) h) (λ i x h. refl)
          (length-set r'.design.cells s d) (gate_level v d) h
          (λ few' st' f g. g.level (unreplaced r' st')
          ∙ ap (cell_value kleene v (v (net_in s))) (get_or-set_same r'.design.cells s d (Input 0) (omega (arith, small, st'.inv.many)))
          ∙ cell-own kleene v (v (net_in s)) Undef d (gate-other d (k.good few').1))
          d refl
      cell-leads e (value n r') k h = replaced-leads n r' k.0 h
      cell-leads e (spent r') k h = tt

      pub item-leads : Leads (run_item look s r)
      item-leads =
          let p : Known look looks before r = ((λ few. st), known) in
          item_by look s r Leads
          (λ b e. bit-leads (add_cell look r c) (add_cell-kept look (Known look looks before) (Q cs₀ before) (N cs₀ before) (keeping-levels look looks before) r c p (settled e))
          (add_cell-leads look (Known look looks before) (Q cs₀ before) (N cs₀ before) (keeping-levels look looks before) v (Fitted v) (fitting-levels look looks before) r c p (settled e)))
          (λ e. port-done s r c Leads look e (λ m f. never e (st.known c m f).1) (known, λ f. (f, λ g. never e (effects ∙ g))))
          (λ b e. cell-leads e (process_cell look r c)
          (process_cell-kept look (Known look looks before) (Q cs₀ before) (N cs₀ before) (keeping-levels look looks before) r c p (settled e))
          (process_cell-leads look (Known look looks before) (Q cs₀ before) (N cs₀ before) (keeping-levels look looks before) v (Fitted v) (fitting-levels look looks before) r c p (settled e)))

    -- after the items `before`: their gates have levels that their nets still have, where levels fit
    record After (before : List ℕ) (r : Rewriter) : Type 0 where
      state : State cs₀ before r
      cached : Cached r
      refined : Fitted v r → (s : ℕ) → has s before ≡ true → Refined s

    item-after : (before : List ℕ) (s : ℕ) → Next cs₀ before s → (r : Rewriter) → (FewSlots r → After before r)
        → Along (λ b r. FewSlots r → After b r) (λ r. FewSlots r → Unit {0}) (before ++ (s ∷ [])) (run_item look s r)
    item-after before s n r p =
        few-item After (λ r. Unit {0}) look (tickets cs₀) s n.small (before ++ (s ∷ [])) r (λ few.
        let h : After before r = p few in
        go (run_item look s r) h (looks.item before s n.small n.new n.fed r (λ few. h.state))
        (item-leads before s n.small n.new n.fed r h.state few h.cached))
      where
        go : (x : Run) (h : After before r) → RunOk cs₀ (before ++ (s ∷ [])) x
            → LeadsRun r s x
            → Along (λ b r. FewSlots r → After b r) (λ r. FewSlots r → Unit {0}) (before ++ (s ∷ [])) x
        go (ran r') h ok k = λ few. record {
          state = ok few;
          cached = k.0;
          refined = λ f y e. has-snoc y before s e (λ q. subst Refined (sym q) (k.1 f).1) (h.refined (k.1 f).0 y);
        }
        go (stuck r') h ok k = λ few. tt

    -- all of them
    pub run-leads : FedAfter (tickets cs₀) (bit_deps cs₀) [] (topo_sort cs₀) → (r : Rewriter) → run look cs₀ ≡ ran r → FewSlots r → Fitted v r
        → (s : ℕ) → s < tickets cs₀ → Refined s
    unfolding has seek
    run-leads fed r e few fits s l =
        (subst (Along (λ b r. FewSlots r → After b r) (λ r. FewSlots r → Unit {0}) (topo_sort cs₀)) e
        (run_along cs₀ (λ b r. FewSlots r → After b r) (λ r. FewSlots r → Unit {0}) look fed item-after (λ few. begun-after)) few).refined fits s ((topo_sort-each cs₀).all s l)
      where
        begun-after : After [] (begun cs₀)
        begun-after = record {
          state = begun-state cs₀;
          cached = λ c n q. let z : ◌≡◌ {A = ℕ} 0 1 = cc in absurd (omega arith);
          refined = λ f y e. absurd (false≢true e);
        }
