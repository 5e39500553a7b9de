-- What processing keeps in the run over a netlist without and-inverters: each cell that it adds is a gate that reads fresh nets and to which no
-- rule applies. Assumes nothing.
use mathlib.Core.Path.{◌≡◌, sym, ap, ◌∙◌, subst}
use mathlib.Core.Bool.{false}
use mathlib.Core.List.{List, [], ◌∷◌, ◌++◌}
use mathlib.Core.Logic.{◌⊎◌, inl, inr}
use Prim.Native.Nat.{ℕ, suc, ◌+◌, ◌≤◌, ◌<◌}
use native.Mathlib.Omega.{arith}
use lib.Dec.{ltb}
use lib.ListN.{length, get_or, length-append, get_or-append}
use lib.Seq.{get_or-append_seam}
use borrow.Author.Tests.{ltb-true, ltb-false}
use Rattle.value.specs.declared.Net.{Net}
use Rattle.cell.specs.declared.Cell.{Cell}
use Rattle.cell.specs.declared.Cell.TheVariants.{Input}
use Rattle.netlist.specs.Shape.{visit, has_effects}
use Rattle.netlist.specs.Netlist.{cell_in}
use Rattle.std.proofs.Common.{Some}
use Rattle.design.specs.Queue.{net_in, find_new_cell}
use Rattle.numberer.specs.Numberer.{seek}
use Rattle.std.specs.Prelude.{None}
use Rattle.normalize.specs.Normalize.{normalize}
use Rattle.aig.specs.Aig.{simple_aig_opt}
use Rattle.rewrite.specs.Rewriter.{Rewriter, find_cell, entered}
use Rattle.rewrite.specs.Rewrite.{rules}
use Rattle.basics.proofs.Truth.{either}
use Rattle.basics.proofs.Members.{all-imp}
use Rattle.order_laws.proofs.Queue.{seek-snoc, seek-old, seek-new}
use Rattle.aig_laws.specs.Reads.{GateOf}
use Rattle.rewrite_laws.proofs.Kept.{Keeps, delayed, inverse-reads, rules-read}
use Rattle.rewrite_laws.proofs.Settled.{limit}
use Rattle.rewrite_laws.proofs.Items.{FewSlots}
use Rattle.rewrite_normal.proofs.Cells.{simple-same, both-none}
use Rattle.rewrite_normal.proofs.Fresh.{Fresh, fresh-constants, fresh-more, seen, seen_same, Lasting, State, look-fresh, look-reads, fresh_in}

module _ (cs₀ : List Cell) where
  abbrev tickets : ℕ
  tickets = length cs₀

  module _ (before : List ℕ) where
    abbrev pub P : Rewriter → Type 0
    P r = FewSlots r → State cs₀ before r

    abbrev pub Q : Rewriter → Cell → Type 0
    Q r c = FewSlots r → GateOf (Fresh cs₀ (length r.design.cells)) c

    abbrev pub N : Rewriter → Net → Type 0
    N r m = FewSlots r → Fresh cs₀ (length r.design.cells) m

    -- an entered cell
    module _ (r : Rewriter) (c : Cell) (p : P r) (q : Q r c) (applies : rules find_new_cell r c ≡ None) (new : seek r.cache c ≡ None)
        (few : FewSlots (entered r c (net_in (length r.design.cells)))) where
      abbrev total : ℕ
      total = length r.design.cells

      abbrev m : Net
      m = net_in total

      abbrev cs : List Cell
      cs = r.design.cells

      abbrev cs' : List Cell
      cs' = r.design.cells ++ (c ∷ [])

      abbrev ts' : List ℕ
      ts' = r.stamps ++ (suc r.clock ∷ [])

      more : length cs' ≡ total + 1
      more = length-append r.design.cells (c ∷ [])

      room : total < limit
      unfolding entered
      room = omega (arith, few, more)

      st : State cs₀ before r
      st = p (omega (arith, room))

      gate : GateOf (Fresh cs₀ total) c
      gate = q (omega (arith, room))

      old-cell : (i : ℕ) → i < total → cell_in cs' i ≡ cell_in cs i
      old-cell i l = get_or-append cs (c ∷ []) (Input 0) i l

      old-stamp : (i : ℕ) → i < total → get_or ts' i 0 ≡ get_or r.stamps i 0
      old-stamp i l = get_or-append r.stamps (suc r.clock ∷ []) 0 i (omega (arith, l, st.sizes))

      wider : (x : Net) → Fresh cs₀ total x → Fresh cs₀ (length cs') x
      wider = fresh-more cs₀ total (length cs') (omega (arith, more))

      new-fresh : Fresh cs₀ (length cs') m
      new-fresh = fresh_in cs₀ (length cs') total (omega (arith, room)) (inr (st.many, omega (arith, more)))

      seen-still : (x : Net) → Fresh cs₀ total x → seen cs₀ cs x ≡ seen cs₀ cs' x
      seen-still = seen_same cs₀ total cs cs' (λ i l k. old-cell i k)

      by-slot : (B : ℕ → Type 0) → ((i : ℕ) → tickets ≤ i → i < total → B i) → B total → (i : ℕ) → tickets ≤ i → i < length cs' → B i
      by-slot B f g i l k = either (ltb i total) (λ e. f i l (ltb-true i total e))
          (λ e. let z : i ≡ total = omega (arith, k, more, ltb-false i total e) in subst B (sym z) g)

      no-rule : (normalize c ≡ None) × (simple_aig_opt (find_cell find_new_cell r) c ≡ None)
      unfolding rules
      no-rule = both-none (normalize c) (simple_aig_opt (find_cell find_new_cell r) c) applies

      old-lasting : (i : ℕ) → tickets ≤ i → i < total → Lasting cs₀ cs' i (cell_in cs' i)
      old-lasting i l k =
          let h : Lasting cs₀ cs i (cell_in cs i) = st.adds i l k in
          subst (Lasting cs₀ cs' i) (sym (old-cell i k)) (record {
            reads = h.reads;
            sorted = h.sorted;
            still = sym (simple-same (seen cs₀ cs) (seen cs₀ cs') (cell_in cs i)
                (all-imp (Fresh cs₀ i) (λ x. seen cs₀ cs x ≡ seen cs₀ cs' x) (λ x f. seen-still x (fresh-more cs₀ i total (omega (arith, k)) x f))
                (visit (cell_in cs i)) h.reads.0))
                ∙ h.still;
          })

      new-lasting : Lasting cs₀ cs' total (cell_in cs' total)
      new-lasting =
          subst (Lasting cs₀ cs' total) (sym (get_or-append_seam cs c [] (Input 0))) (record {
            reads = gate;
            sorted = no-rule.0;
            still = sym (simple-same (find_cell find_new_cell r) (seen cs₀ cs') c
                (all-imp (Fresh cs₀ total) (λ x. find_cell find_new_cell r x ≡ seen cs₀ cs' x) (λ x f. look-fresh cs₀ before r st x f ∙ seen-still x f)
                (visit c) gate.0))
                ∙ no-rule.1;
          })

      known-after : (x : Cell) (y : Net) → seek (r.cache ++ ((c, m) ∷ [])) x ≡ Some y → Fresh cs₀ (length cs') y × (has_effects x ≡ false)
      known-after x y e = go (seek-snoc r.cache (c, m) x y e)
        where
          go : (seek r.cache x ≡ Some y) ⊎ ((c ≡ x) × (m ≡ y)) → Fresh cs₀ (length cs') y × (has_effects x ≡ false)
          go (inl f) = (wider y (st.known x y f).0, (st.known x y f).1)
          go (inr f) = (subst (Fresh cs₀ (length cs')) f.1 new-fresh, ap has_effects (sym f.0) ∙ gate.1)

      entered-state : State cs₀ before (entered r c m)
      unfolding entered
      entered-state = record {
        sizes = length-append r.stamps _ ∙ ap (λ k. k + 1) st.sizes ∙ sym more;
        many = omega (arith, st.many, more);
        wide = st.wide;
        olds = λ i l. old-cell i (omega (arith, l, st.many)) ∙ st.olds i l;
        ports = λ i l e. old-stamp i (omega (arith, l, st.many)) ∙ st.ports i l e;
        stamped = by-slot (λ i. 0 < get_or ts' i 0) (λ i l k. omega (arith, old-stamp i k, st.stamped i l k))
            (subst (λ (i : ℕ). 0 < get_or ts' i 0) st.sizes (omega (arith, get_or-append_seam r.stamps (suc r.clock) [] 0)));
        adds = by-slot (λ i. Lasting cs₀ cs' i (cell_in cs' i)) old-lasting new-lasting;
        found = by-slot (λ i. seek (r.cache ++ ((c, m) ∷ [])) (cell_in cs' i) ≡ Some (net_in i))
            (λ i l k. ap (seek (r.cache ++ ((c, m) ∷ []))) (old-cell i k) ∙ seek-old r.cache (c, m) (cell_in cs i) (net_in i) (st.found i l k))
            (ap (seek (r.cache ++ ((c, m) ∷ []))) (get_or-append_seam cs c [] (Input 0)) ∙ seek-new r.cache c m new);
        known = known-after;
        stays = st.stays;
        done = λ i x l h e. wider _ (st.done i x l h e);
      }

    pub keeping : Keeps find_new_cell P Q N
    unfolding entered
    keeping = record {
      plan = λ r c p q. delayed (FewSlots r) _ _ (rules find_new_cell r c)
          (λ few. rules-read find_new_cell r (Fresh cs₀ (length r.design.cells)) (fresh-constants cs₀ (length r.design.cells)) (look-reads cs₀ before r (p few)) c (q few));
      inverse = λ r m p v few. inverse-reads (Fresh cs₀ (length r.design.cells)) m (v few);
      cached = λ r c n p q e few. ((p few).known c n e).0;
      step = λ r c p q e s. ((λ few. entered-state r c p q e s few), (λ few. new-fresh r c p q e s few));
    }
