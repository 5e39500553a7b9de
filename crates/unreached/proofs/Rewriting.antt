-- Nothing stops the Rust in rewriting: at each item and each pass over the rules of a run that takes at most 1,024 slots, what is looked up is
-- there and is alive, and what is replaced is replaced for the first time. Assumes nothing.
use mathlib.Core.Path.{◌≡◌, refl, sym, ap, ◌∙◌, subst}
use mathlib.Core.Bool.{Bool, true, false, cond, true≢false}
use mathlib.Core.List.{List, [], ◌∷◌, ◌++◌}
use mathlib.Core.Logic.{inl, inr}
use Prim.Native.Nat.{ℕ, suc, ◌≤◌, ◌<◌}
use native.Mathlib.Omega.{arith}
use lib.ListN.{length, get_or, length-set}
use Rattle.value.specs.declared.Net.{Net}
use Rattle.value.specs.declared.Slot.{Slot}
use Rattle.value.specs.Value.{slot_at, driver}
use Rattle.value.proofs.Laws.{driver-cell}
use Rattle.cell.specs.declared.Cell.{Cell}
use Rattle.netlist.specs.Shape.{visit, has_effects, is_splittable}
use Rattle.netlist.specs.Netlist.{cell_in}
use Rattle.order.specs.Orders.{bit_deps, topo_sort}
use Rattle.design.specs.Queue.{net_in, map_net_new, find_new_cell}
use Rattle.rewrite.specs.Rewriter.{Rewriter, begun, entered, finished, weight}
use Rattle.rewrite.specs.Rewrite.{Result, none, cell, value, spent, Added, at, unadded, enter, process_cell, add_cell, Run, ran, stuck, bit_done, cell_done, and_then, run_item, run_items, run, slots_of}
use Rattle.basics.specs.Lists.{has, All}
use Rattle.order_laws.specs.Ordered.{OnceAfter, FedAfter}
use Rattle.order_laws.specs.Members.{Wired}
use Rattle.basics.proofs.Truth.{either, never}
use Rattle.basics.proofs.Members.{all-imp, has_first, has-later}
use Rattle.order_laws.proofs.Sorts.{gate-other}
use Rattle.order_laws.proofs.Bits.{topo_sort-each}
use Rattle.rewrite_laws.proofs.Settled.{stamped-inside, map-settled}
use Rattle.rewrite_laws.specs.State.{SettledSlot, Settled, StandsFor, Inv, State}
use Rattle.rewrite_laws.proofs.Kept.{Keeps, KeptResult, process_cell-kept}
use Rattle.rewrite_laws.proofs.Keeping.{P, Q, N, keeping}
use Rattle.rewrite_laws.proofs.Items.{rules-effect, effect-none}
use Rattle.rewrite_laws.proofs.Grows.{run_item-grows, run_items-grows, grown-slots}
use Rattle.rewrite_laws.proofs.Running.{RunOk, item_ok, c-effects, c-settled, begun-state}
use Rattle.accepted_laws.proofs.Final.{map_net_new-final}
use Rattle.unreached.specs.Steps.{After, item_cell, unalived, EachPass, EachItem}
use Rattle.unreached.specs.Stops.{Unreplaced, Located, PassGoes, ItemGoes}
use Rattle.unreached.proofs.Passes.{left, after, enter-left, each-pass}
use Rattle.unreached.proofs.Void.{Gone, final-alive, item-gone}

-- the slots after an item
bit-slots : (s : ℕ) (y : Added) → slots_of (bit_done s y) ≡ after y
unfolding finished
bit-slots s (at m r) = refl
bit-slots s (unadded r) = refl

cell-slots : (s : ℕ) (c : Cell) (x : Result) → slots_of (cell_done s c x) ≡ left x
unfolding finished
cell-slots s c (none r) = go (has_effects c)
  where
    go : (b : Bool) → length (cond b r (finished r s r.design (r.cache ++ ((c, net_in s) ∷ [])))).design.cells ≡ length r.design.cells
    go true = refl
    go false = refl
cell-slots s c (cell d r) = length-set r.design.cells s d
cell-slots s c (value m r) = refl
cell-slots s c (spent r) = refl

item-left : (s : ℕ) (r : Rewriter) → left (process_cell find_new_cell r (item_cell s r)) ≤ slots_of (run_item find_new_cell s r)
unfolding run_item add_cell
item-left s r = go (is_splittable (item_cell s r))
  where
    c : Cell
    c = item_cell s r

    go : (b : Bool) → left (process_cell find_new_cell r c) ≤ slots_of (cond b (bit_done s (enter c (process_cell find_new_cell r c))) (cell_done s c (process_cell find_new_cell r c)))
    go true = omega (arith, bit-slots s (enter c (process_cell find_new_cell r c)), enter-left c (process_cell find_new_cell r c))
    go false = omega (arith, cell-slots s c (process_cell find_new_cell r c))

module _ (cs : List Cell) where
  -- a settled net is located
  located : (void : List ℕ) (r : Rewriter) → Inv cs r → Gone void r.design → (m : Net) → Settled cs r.stamps m → Located void r.design m
  unfolding Settled
  located void r inv gone m h = record {
    ended = map_net_new-final cs r inv m;
    inside = λ x e. slot x (map-settled cs r inv m h x e);
    alive = final-alive void r.design (map_net_new r.design.replaced m) gone (map_net_new-final cs r inv m);
  }
    where
      slot : (x : Slot) → SettledSlot cs r.stamps x.0 → x.0 < length r.design.cells
      slot x (inl i) = omega (arith, i.0, inv.many)
      slot x (inr p) = omega (arith, stamped-inside r.stamps x.0 p, inv.sizes)

  -- a slot that waits stands for itself
  waiting-once : (r : Rewriter) → Inv cs r → (s : ℕ) → s < length cs → get_or r.stamps s 0 ≡ 0 → Unreplaced r.design s
  waiting-once r inv s l e = go (inv.stands s (net_in s) l)
    where
      go : StandsFor cs r.stamps s (get_or r.design.replaced s (net_in s)) → Unreplaced r.design s
      go (inl q) = q
      go (inr q) = absurd (omega (arith, q.0, e))

  module _ (before void : List ℕ) where
    -- while a cell is processed nothing is replaced
    abbrev Within : Rewriter → Type 0
    Within r = P cs before r × Gone void r.design

    within : Keeps find_new_cell Within (Q cs before) (N cs before)
    unfolding entered
    within =
        let k : Keeps find_new_cell (P cs before) (Q cs before) (N cs before) = keeping cs before in
        record {
          plan = λ r c p q. k.plan r c p.0 q;
          inverse = λ r m p v. k.inverse r m p.0 v;
          cached = λ r c m p q e. k.cached r c m p.0 q e;
          step = λ r c p q e s. (((k.step r c p.0 q e s).0, p.1), (k.step r c p.0 q e s).1);
        }

    pass-goes : (r : Rewriter) (c : Cell) → Within r → Q cs before r c → length r.design.cells ≤ 1024 → PassGoes void r c
    pass-goes r c p q few =
        let st : State cs before r = p.0 (omega arith) in
        record {
          room = few;
          sources = λ g. all-imp (Settled cs r.stamps) (Located void r.design) (located void r st.inv p.1) (visit c) (q (omega arith)).0;
          cached = λ m e. located void r st.inv p.1 m (st.known c m e).0;
        }

  module _ (wired : (s : ℕ) → s < length cs → All (Wired cs) (visit (cell_in cs s))) where
    -- an item
    module _ (before : List ℕ) (s : ℕ) (small : s < length cs) (new : has s before ≡ false)
        (after-deps : (d : ℕ) → has d (bit_deps cs s) ≡ true → d < length cs → has d before ≡ true) (r : Rewriter) (p : P cs before r)
        (few : slots_of (run_item find_new_cell s r) ≤ 1024) where
      abbrev c : Cell
      c = item_cell s r

      few-before : length r.design.cells ≤ 1024
      few-before = omega (arith, few, grown-slots (length cs) r (run_item find_new_cell s r) (run_item-grows find_new_cell (length cs) s small r))

      few-left : left (process_cell find_new_cell r c) ≤ 1024
      few-left = omega (arith, few, item-left s r)

      st : State cs before r
      st = p (omega (arith, few-before))

      same-effects : has_effects c ≡ has_effects (cell_in cs s)
      same-effects = c-effects cs wired before s small new after-deps r p (omega (arith, few-before))

      port-none : has_effects c ≡ true → process_cell find_new_cell r c ≡ none r
      port-none e = effect-none find_new_cell r c e (λ m q. never e (st.known c m q).1)

      gate-kept : has_effects c ≡ false → KeptResult find_new_cell (P cs before) (Q cs before) (N cs before) (keeping cs before) c (process_cell find_new_cell r c)
      gate-kept e =
          process_cell-kept find_new_cell (P cs before) (Q cs before) (N cs before) (keeping cs before) r c p (c-settled cs wired before s small new after-deps r p e)

      -- what is processed is a gate
      gate-form : (d : Cell) (r' : Rewriter) → process_cell find_new_cell r c ≡ cell d r' → has_effects d ≡ false
      gate-form d r' e = either (has_effects c)
          (λ h. let z : ◌≡◌ {A = Result} (none r) (cell d r') = sym (port-none h) ∙ e in let w : ◌≡◌ {A = ℕ} 0 1 = cc in absurd (omega arith))
          (λ h. go (process_cell find_new_cell r c) e (gate-kept h) few-left)
        where
          go : (x : Result) → x ≡ cell d r' → KeptResult find_new_cell (P cs before) (Q cs before) (N cs before) (keeping cs before) c x → left x ≤ 1024 → has_effects d ≡ false
          go x q k l =
              let k' = subst (KeptResult find_new_cell (P cs before) (Q cs before) (N cs before) (keeping cs before) c) q k in
              let l' : length r'.design.cells ≤ 1024 = subst (λ (y : Result). left y ≤ 1024) q l in
              (k'.good (omega arith)).1

      -- a value is settled, and the slot is not
      not_itself : (m : Net) (r' : Rewriter) → process_cell find_new_cell r c ≡ value m r' → m ≡ net_in s → ⊥
      unfolding Settled
      not_itself m r' e q = either (has_effects c)
          (λ h. let z : ◌≡◌ {A = Result} (none r) (value m r') = sym (port-none h) ∙ e in let w : ◌≡◌ {A = ℕ} 0 1 = cc in absurd (omega arith))
          (λ h. go h
          (subst (KeptResult find_new_cell (P cs before) (Q cs before) (N cs before) (keeping cs before) c) e (gate-kept h))
          (subst (λ (y : Result). left y ≤ 1024) e few-left))
        where
          go : has_effects c ≡ false → P cs before r' × N cs before r' m → length r'.design.cells ≤ 1024 → ⊥
          go h k l = slot (k.1 (omega arith) (slot_at s) (ap driver q ∙ driver-cell (slot_at s) (omega (arith, small, (k.0 (omega arith)).inv.many))))
            where
              slot : SettledSlot cs r'.stamps s → ⊥
              slot (inl i) = true≢false (sym i.1 ∙ gate-other (cell_in cs s) (sym same-effects ∙ h))
              slot (inr i) = omega (arith, i, (k.0 (omega arith)).waiting s small new)

      item-goes : ItemGoes cs s r
      item-goes = record {
        inside = small;
        unchanged = st.inv.untouched s small (st.waiting s small new);
        once = waiting-once r st.inv s small (st.waiting s small new);
        port = λ e. port-none (same-effects ∙ e);
        form = gate-form;
      }

      abbrev weighed : ℕ
      weighed = weight r.stamps c

      module _ (void : List ℕ) (gone : Gone void r.design) where
        gate-passes : has_effects c ≡ false → EachPass find_new_cell (PassGoes void) (suc weighed) r c
        unfolding process_cell
        gate-passes e =
            each-pass find_new_cell (Within before void) (Q cs before) (N cs before) (within before void) (PassGoes void) 1024 (pass-goes before void) (suc weighed) r c (p, gone)
            (c-settled cs wired before s small new after-deps r p e) few-left

        port-passes : has_effects c ≡ true → EachPass find_new_cell (PassGoes void) (suc weighed) r c
        unfolding EachPass
        port-passes e =
            rw (rules-effect find_new_cell r c e)
            (record { room = few-before; sources = λ g. never e g; cached = λ m q. never e (st.known c m q).1 }, tt, tt)

        passes_go : EachPass find_new_cell (PassGoes void) (suc weighed) r c
        passes_go = either (has_effects c) port-passes gate-passes

        gone-after : After (λ r'. Gone (void ++ unalived find_new_cell s r) r'.design) (run_item find_new_cell s r)
        gone-after = item-gone s r item-goes.once (omega (arith, small, st.inv.wide)) void gone not_itself

    -- the items, one after another; E holds at the end of the run
    module _ (E : List ℕ → Rewriter → Type 0) (finish : (void : List ℕ) (r : Rewriter) → ran r ≡ run find_new_cell cs → Gone void r.design → E void r)
        (few : slots_of (run find_new_cell cs) ≤ 1024) where
      abbrev Goes : List ℕ → List ℕ → Rewriter → Type 0
      Goes = EachItem find_new_cell PassGoes (ItemGoes cs) E

      each_item : (ss before void : List ℕ) → OnceAfter before ss → FedAfter (length cs) (bit_deps cs) before ss → ((s : ℕ) → has s ss ≡ true → s < length cs)
          → (r : Rewriter) → P cs before r → Gone void r.design → run_items find_new_cell ss r ≡ run find_new_cell cs → Goes void ss r
      unfolding OnceAfter FedAfter run_items EachItem
      each_item [] before void o f l r p gone e = finish void r e gone
      each_item (s ∷ ss) before void o f l r p gone e =
          let small : s < length cs = l s (has_first s ss) in
          let inside : (x : ℕ) → has x ss ≡ true → x < length cs = λ x e. l x (has-later x s ss e) in
          let here : slots_of (run_item find_new_cell s r) ≤ 1024 = first (run_item find_new_cell s r) inside (omega (arith, few, ap slots_of e)) in (
            item-goes before s small o.0 f.0 r p here,
            passes_go before s small o.0 f.0 r p here void gone,
            go (run_item find_new_cell s r) (item_ok cs wired before s small o.0 f.0 r p) (gone-after before s small o.0 f.0 r p here void gone) e
                (each_item ss (before ++ (s ∷ [])) (void ++ unalived find_new_cell s r) o.1 f.1 inside),
          )
        where
          first : (x : Run) → ((y : ℕ) → has y ss ≡ true → y < length cs) → slots_of (and_then (run_items find_new_cell ss) x) ≤ 1024 → slots_of x ≤ 1024
          first (ran r') i h = omega (arith, h, grown-slots (length cs) r' (run_items find_new_cell ss r') (run_items-grows find_new_cell (length cs) ss i r'))
          first (stuck r') i h = h

          go : (x : Run) → RunOk cs (before ++ (s ∷ [])) x → After (λ r'. Gone (void ++ unalived find_new_cell s r) r'.design) x
              → and_then (run_items find_new_cell ss) x ≡ run find_new_cell cs
              → ((r' : Rewriter) → P cs (before ++ (s ∷ [])) r' → Gone (void ++ unalived find_new_cell s r) r'.design → run_items find_new_cell ss r' ≡ run find_new_cell cs
              → Goes (void ++ unalived find_new_cell s r) ss r')
              → After (Goes (void ++ unalived find_new_cell s r) ss) x
          go (ran r') k g q rec = rec r' k g q
          go (stuck r') k g q rec = tt

      -- the law, where each bit stands after those that it depends on
      pub run-goes : FedAfter (length cs) (bit_deps cs) [] (topo_sort cs) → Goes [] (topo_sort cs) (begun cs)
      unfolding run All
      run-goes fed = each_item (topo_sort cs) [] [] (topo_sort-each cs).once fed (topo_sort-each cs).small (begun cs) (λ _. begun-state cs) tt refl
