-- One item of the run over a normal netlist: its cell is added, or stays in its slot, as it was or with its operands exchanged.
-- Assumes nothing.
use mathlib.Core.Path.{◌≡◌, refl, sym, ap, ◌∙◌, subst}
use mathlib.Core.Bool.{Bool, true, false, cond, true≢false}
use mathlib.Core.List.{List, [], ◌∷◌, ◌++◌}
use Prim.Native.Nat.{ℕ, ◌+◌, ◌≤◌, ◌<◌}
use native.Mathlib.Omega.{arith}
use lib.Dec.{eqb}
use lib.ListN.{length, get_or, set, length-append, length-set, get_or-append}
use lib.Seq.{get_or-set_same, get_or-set_other, get_or-append_seam}
use borrow.Author.Tests.{eqb-true, eqb-false}
use Rattle.value.specs.declared.Net.{Net}
use Rattle.cell.specs.declared.Cell.{Cell}
use Rattle.cell.specs.declared.Cell.TheVariants.{Input}
use Rattle.netlist.specs.Shape.{visit_mut, is_splittable, has_effects}
use Rattle.netlist.specs.Netlist.{Netlist, cell_in}
use Rattle.basics.specs.Lists.{those, has, All}
use Rattle.order.specs.Orders.{topo_sort}
use Rattle.numberer.specs.Numberer.{Entry}
use Rattle.design.specs.Queue.{net_in, map_net_new, find_new_cell}
use Rattle.rewrite.specs.Rewriter.{Rewriter, entered, finished}
use Rattle.rewrite.specs.Rewrite.{Result, enter, process_cell, add_cell, Run, bit_done, cell_done, run_item}
use Rattle.basics.proofs.Truth.{either, never}
use Rattle.basics.proofs.Members.{has-snoc-same, has-snoc-other, all-imp, all_append, has-snoc-old}
use Rattle.order_laws.proofs.Sorts.{splittable-gate, effects-by, splits-by}
use Rattle.rewrite_laws.proofs.Items.{Along, item_by}
use Rattle.normal.specs.Paired.{exchange, Alike}
use Rattle.normal.proofs.Normal.{Normal}
use Rattle.normal.proofs.Alike.{bufs-by, image-sort}
use Rattle.rewrite_again.proofs.Cells.{image-exchange}
use Rattle.rewrite_again.proofs.Counts.{those-yes, those-no}
use Rattle.rewrite_again.proofs.Origin.{splits, origin, origin-old, origin-next}
use Rattle.rewrite_again.proofs.State.{Stands, Added, Cached, State, g, mapped-cell, still, unknown}
use Rattle.rewrite_again.proofs.Passes.{Processed, untouched, turned, processed}

module _ (d : Netlist) (rank : ℕ → ℕ) (normal : Normal d rank) where
  abbrev C : List Cell
  C = d.cells

  abbrev G : Net → Net
  G = g d rank normal

  abbrev pub St : List ℕ → Rewriter → Type 0
  St = State d rank normal

  abbrev pub Ran : List ℕ → Run → Type 0
  Ran = Along St (λ r. ⊥)

  -- an item more
  module _ (before : List ℕ) (s : ℕ) where
    abbrev before' : List ℕ
    before' = before ++ (s ∷ [])

    has_more : (i : ℕ) → has i before ≡ true → has i before' ≡ true
    has_more i h = has-snoc-old i before s h

    has-less : (i : ℕ) → (i ≡ s → ⊥) → has i before' ≡ true → has i before ≡ true
    has-less i k h = sym (has-snoc-other i before s k) ∙ h

    cached-more : (c : Cell) → Cached d rank normal before c → Cached d rank normal before' c
    cached-more c k = record { slot = k.slot; inside = k.inside; done = has_more k.slot k.done; gate = k.gate; alike = k.alike }

    cache-more : (es : List Entry) → All (λ (e : Entry). Cached d rank normal before e.0) es → All (λ (e : Entry). Cached d rank normal before' e.0) es
    cache-more es = all-imp (λ (e : Entry). Cached d rank normal before e.0) (λ (e : Entry). Cached d rank normal before' e.0) (λ e. cached-more e.0) es

    stands-more : (i : ℕ) (n : Net) → (i ≡ s → splits C s ≡ false) → Stands d rank normal before i n → Stands d rank normal before' i n
    stands-more i n out k = record {
      slot = k.slot;
      is = k.is;
      from = k.from;
      moved = λ e h. either (eqb i s)
          (λ q. never e (let z : i ≡ s = eqb-true i s q in ap (splits C) z ∙ out z))
          (λ q. k.moved e (has-less i (eqb-false i s q) h));
      stays = k.stays;
    }

    module _ (small : s < length C) (new : has s before ≡ false) (r : Rewriter) (st : St before r) where
      abbrev len : ℕ
      len = length r.design.cells

      abbrev rs : List Net
      rs = r.design.replaced

      -- the item's cell with its operands mapped
      abbrev here : Cell
      here = visit_mut (map_net_new rs) (cell_in r.design.cells s)

      here-alike : Alike (visit_mut G here) (cell_in C s)
      here-alike =
          subst (λ (y : Cell). Alike y (cell_in C s)) (sym (mapped-cell d rank normal before r st (cell_in r.design.cells s)))
          (subst (λ (i : ℕ). Alike (visit_mut G (cell_in r.design.cells s)) (cell_in C i)) (origin-old C s small) (st.likes s (omega (arith, small, st.size))))

      turned-alike : Alike (visit_mut G (exchange here)) (cell_in C s)
      turned-alike = image-exchange G here (cell_in C s) here-alike

      here-processed : Processed find_new_cell r here (process_cell find_new_cell r here)
      here-processed =
          processed find_new_cell r here (still d rank normal before r st s small new here here-alike) (still d rank normal before r st s small new (exchange here) turned-alike)
          (unknown d rank normal before r st s small new here here-alike) (unknown d rank normal before r st s small new (exchange here) turned-alike)
          (image-sort bufs-by G here (cell_in C s) here-alike ∙ (normal.still s small).unbuffered)

      -- what is cached of it
      item-cached : (c : Cell) → Alike (visit_mut G c) (cell_in C s) → has_effects (cell_in C s) ≡ false → Cached d rank normal before' c
      item-cached c a e = record { slot = s; inside = small; done = has-snoc-same before s; gate = e; alike = a }

      cache-item : (c : Cell) (n : Net) → Alike (visit_mut G c) (cell_in C s) → has_effects (cell_in C s) ≡ false
          → All (λ (e : Entry). Cached d rank normal before' e.0) (r.cache ++ ((c, n) ∷ []))
      unfolding All
      cache-item c n a e =
          all_append (λ (e : Entry). Cached d rank normal before' e.0) r.cache ((c, n) ∷ []) (cache-more r.cache st.known) (item-cached c a e, tt)

      -- it is not added: its slot has it, or its exchange
      module _ (whole : splits C s ≡ false) where
        stay-state : (r' : Rewriter) → r'.design.replaced ≡ rs → length r'.design.cells ≡ len
            → ((m : ℕ) → m < len → Alike (visit_mut G (cell_in r'.design.cells m)) (cell_in C (origin C m)))
            → All (λ (e : Entry). Cached d rank normal before' e.0) r'.cache → St before' r'
        stay-state r' same long likes known = record {
          size = long ∙ st.size ∙ ap (λ (l : List ℕ). length C + length l) (sym (those-no (splits C) before s whole));
          wide = ap length same ∙ st.wide;
          stands = λ i x l. rw same (stands-more i (get_or rs i x) (λ e. whole) (st.stands i x l));
          added = λ m h l. let k : Added d rank normal before rs m = st.added m h (omega (arith, long, l)) in
              record { done = has_more (origin C m) k.done; leads = λ x. rw same (k.leads x) };
          likes = λ m l. likes m (omega (arith, long, l));
          known = known;
        }

        turned-likes : (e : Cell) → Alike (visit_mut G e) (cell_in C s) → (m : ℕ) → m < len → Alike (visit_mut G (cell_in (set r.design.cells s e) m)) (cell_in C (origin C m))
        turned-likes e a m l = either (eqb m s)
            (λ q. let z : m ≡ s = eqb-true m s q in
            rw (z, get_or-set_same r.design.cells s e (Input 0) (omega (arith, l, z)), origin-old C s small) a)
            (λ q. rw (get_or-set_other r.design.cells s m e (Input 0) (eqb-false m s q)) (st.likes m l))

        -- an input or an output, or a gate as it was; or a gate with its operands exchanged
        cell-ok : (z : Result) → Processed find_new_cell r here z → Ran before' (cell_done s here z)
        unfolding finished
        cell-ok z (untouched e) = rw e (none-ok (has_effects here) refl)
          where
            none-ok : (b : Bool) → has_effects here ≡ b → St before' (cond b r (finished r s r.design (r.cache ++ ((here, net_in s) ∷ []))))
            none-ok true e = stay-state r refl refl st.likes (cache-more r.cache st.known)
            none-ok false e =
                stay-state _ refl refl st.likes (cache-item here (net_in s) here-alike (sym (image-sort effects-by G here (cell_in C s) here-alike) ∙ e))
        cell-ok z (turned e h) =
            rw e (stay-state _ refl (length-set r.design.cells s (exchange here)) (turned-likes (exchange here) turned-alike)
            (cache-item (exchange here) (net_in s) turned-alike (sym (image-sort effects-by G here (cell_in C s) here-alike) ∙ h)))

      -- it is added in the next slot
      module _ (after : List ℕ) (order : topo_sort C ≡ before ++ (s ∷ after)) (cut : splits C s ≡ true) (c : Cell) (a : Alike (visit_mut G c) (cell_in C s)) where
        abbrev n : Net
        n = net_in len

        next : origin C len ≡ s
        next = ap (origin C) st.size ∙ origin-next C before after s order cut

        elsewhere : (m : ℕ) → length C ≤ m → m < len → origin C m ≡ s → ⊥
        elsewhere m h l e = true≢false (sym (st.added m h l).done ∙ ap (λ (x : ℕ). has x before) e ∙ new)

        added-stands : (i : ℕ) (x : Net) → i < length C → Stands d rank normal before' i (get_or (set rs s n) i x)
        added-stands i x l = either (eqb i s)
            (λ q. let z : i ≡ s = eqb-true i s q in
            subst (λ (j : ℕ). Stands d rank normal before' j (get_or (set rs s n) j x)) (sym z)
            (record {
              slot = len;
              is = get_or-set_same rs s n x (omega (arith, small, st.wide));
              from = next;
              moved = λ e h. omega (arith, st.size);
              stays = λ e. absurd (true≢false (sym cut ∙ e));
            }))
            (λ q. let z : i ≡ s → ⊥ = eqb-false i s q in
            rw (get_or-set_other rs s i n x z) (stands-more i (get_or rs i x) (λ e. absurd (z e)) (st.stands i x l)))

        added-added : (m : ℕ) → length C ≤ m → m < len + 1 → Added d rank normal before' (set rs s n) m
        added-added m h l = either (eqb m len)
            (λ q. let z : m ≡ len = eqb-true m len q in
            let o : origin C m ≡ s = ap (origin C) z ∙ next in
            record {
              done = ap (λ (i : ℕ). has i before') o ∙ has-snoc-same before s;
              leads = λ x. ap (λ (i : ℕ). get_or (set rs s n) i x) o ∙ get_or-set_same rs s n x (omega (arith, small, st.wide)) ∙ ap net_in (sym z);
            })
            (λ q. let k : m < len = omega (arith, l, eqb-false m len q) in
            let o : Added d rank normal before rs m = st.added m h k in
            record {
              done = has_more (origin C m) o.done;
              leads = λ x. get_or-set_other rs s (origin C m) n x (elsewhere m h k) ∙ o.leads x;
            })

        added-likes : (m : ℕ) → m < len + 1 → Alike (visit_mut G (cell_in (r.design.cells ++ (c ∷ [])) m)) (cell_in C (origin C m))
        added-likes m l = either (eqb m len)
            (λ q. let z : m ≡ len = eqb-true m len q in
            rw (z, next, get_or-append_seam r.design.cells c [] (Input 0)) a)
            (λ q. let k : m < len = omega (arith, l, eqb-false m len q) in
            rw (get_or-append r.design.cells (c ∷ []) (Input 0) m k) (st.likes m k))

        added-state : (r' : Rewriter) → r'.design.cells ≡ r.design.cells ++ (c ∷ []) → r'.design.replaced ≡ set rs s n → r'.cache ≡ r.cache ++ ((c, n) ∷ []) → St before' r'
        added-state r' ec er ek =
            let long : length r'.design.cells ≡ len + 1 = ap length ec ∙ length-append r.design.cells (c ∷ []) in
            record {
              size = long ∙ ap (λ (k : ℕ). k + 1) st.size
                  ∙ (let q : length (those (splits C) before') ≡ length (those (splits C) before) + 1 = ap length (those-yes (splits C) before s cut) ∙ length-append (those (splits C) before) (s ∷ []) in omega (arith, q));
              wide = ap length er ∙ length-set rs s n ∙ st.wide;
              stands = λ i x l. rw er (added-stands i x l);
              added = λ m h l. rw er (added-added m h (omega (arith, long, l)));
              likes = λ m l. rw ec (added-likes m (omega (arith, long, l)));
              known = rw ek (cache-item c n a (splittable-gate (cell_in C s) cut));
            }

      -- the law
      pub item_ok : (after : List ℕ) → topo_sort C ≡ before ++ (s ∷ after) → Ran before' (run_item find_new_cell s r)
      unfolding add_cell entered finished
      item_ok after order =
          item_by find_new_cell s r (Ran before') (λ b e. bit_ok (sym same ∙ b) (process_cell find_new_cell r here) here-processed)
          (λ e. cell-ok (sym same ∙ whole e) (process_cell find_new_cell r here) here-processed)
          (λ b e. cell-ok (sym same ∙ b) (process_cell find_new_cell r here) here-processed)
        where
          same : is_splittable here ≡ splits C s
          same = image-sort splits-by G here (cell_in C s) here-alike

          whole : has_effects here ≡ true → is_splittable here ≡ false
          whole e = either (is_splittable here) (λ q. never e (splittable-gate here q)) (λ q. q)

          bit_ok : splits C s ≡ true → (z : Result) → Processed find_new_cell r here z → Ran before' (bit_done s (enter here z))
          bit_ok cut z (untouched e) = rw e (added-state after order cut here here-alike _ refl refl refl)
          bit_ok cut z (turned e h) = rw e (added-state after order cut (exchange here) turned-alike _ refl refl refl)
