-- THE LOOK-UPS OF MERGING END: a net that replaces another is never replaced, so that one step is enough wherever merging maps a net.
-- Assumes nothing.
use mathlib.Core.Path.{◌≡◌, refl, sym, ap, ◌∙◌, subst}
use mathlib.Core.Bool.{true, false, not}
use mathlib.Core.List.{List, [], ◌∷◌, ◌++◌, map, append_assoc, append-nil}
use mathlib.Core.Logic.{◌⊎◌, inl, inr}
use Prim.Native.Nat.{ℕ, zero, suc, ◌+◌, ◌<◌}
use native.Mathlib.Omega.{arith}
use native.Mathlib.Decide.{dec_lt}
use lib.Dec.{eqb}
use lib.ListN.{length, get_or, set, drop, length-set, get_or-eq_default}
use lib.Seq.{get_or-set_same, get_or-set_other}
use borrow.Author.Tests.{eqb-true, eqb-false, not-true}
use Rattle.std.specs.Prelude.{Ok}
use Rattle.value.specs.declared.Net.{Net}
use Rattle.value.specs.declared.Slot.{Slot}
use Rattle.value.specs.declared.Driver.{Driver}
use Rattle.value.specs.declared.Driver.TheVariants as driven
use Rattle.value.specs.Value.{slot_at, driver}
use Rattle.value.proofs.Laws.{driver-cell, cell-driver}
use Rattle.cell.specs.declared.Cell.{Cell}
use Rattle.cell.specs.Records.{records_of}
use Rattle.basics.specs.Lists.{tabulate, those, has, All}
use Rattle.basics.proofs.Tables.{tabulate-length, tabulate-at}
use Rattle.loops.proofs.Rank.{rank as rank_of}
use Rattle.netlist.specs.Shape.{visit_mut, has_effects}
use Rattle.netlist.specs.Netlist.{Netlist, cell_in, run, start_of, output_of}
use Rattle.order.specs.Orders.{iter_cells_topo}
use Rattle.std.proofs.Common.{Option, Some, None}
use Rattle.numberer.specs.Numberer.{Entry, seek}
use Rattle.design.specs.Queue.{unchanged, net_in, driven_to, map_net_new}
use Rattle.merge.specs.Merge.{key_of, Merging, find_or_insert, find_or_insert_all, merge_cell, merge_cells, merging}
use Rattle.calls.specs.Calls.{decoded, check_verdict}
use Rattle.order_laws.specs.Ordered.{OnceAfter}
use Rattle.order_laws.specs.Ends.{Final, Ends}
use Rattle.basics.proofs.Truth.{either, never, or-none, or-either}
use Rattle.basics.proofs.Members.{all-imp, all_both, all_append, all-tabulate, has_all, all-has, has-append, has-snoc-same, has-snoc-old, those-has, those-pass}
use Rattle.order_laws.proofs.Sorts.{gate-inside}
use Rattle.order_laws.proofs.Walks.{once-snoc}
use Rattle.order_laws.proofs.Cells.{once-those}
use Rattle.order_laws.proofs.Queue.{replacement, seek_finds, one-step-ends}
use Rattle.kept.proofs.Sound.{Sound, Bit, output-bits, bits-start}
use Rattle.kept.proofs.Order.{cells-once, cells-start}
use Rattle.kept.proofs.Tickets.{ticket-sound}

-- the cells that merging goes through, in their order, and the nets replaced when it has gone through some
abbrev pub gates : Netlist → List ℕ
gates d = those (λ s. not (has_effects (cell_in d.cells s))) (iter_cells_topo d)

abbrev pub begun : Netlist → Merging
begun d = record { design = unchanged d.cells; numberer = [] }

abbrev pub replaced_after : Netlist → List ℕ → List Net
replaced_after d before = (merge_cells d (begun d) before).design.replaced

-- the beginning of a list
once-part : (before xs ys : List ℕ) → OnceAfter before (xs ++ ys) → OnceAfter before xs
unfolding OnceAfter
once-part before [] ys o = tt
once-part before (x ∷ xs) ys o = (o.0, once-part (before ++ (x ∷ [])) xs ys o.1)

all-part : {A : Type 0} (P : A → Type 0) (xs ys : List A) → All P (xs ++ ys) → All P xs
unfolding All
all-part P [] ys h = tt
all-part P (x ∷ xs) ys h = (h.0, all-part P xs ys h.1)

-- numbers in a row
row-once : (done : List ℕ) (s k : ℕ) → All (λ i. has i done ≡ false) (tabulate (λ i. s + i) k) → OnceAfter done (tabulate (λ i. s + i) k)
unfolding tabulate OnceAfter
row-once done s zero h = tt
row-once done s (suc k) h =
    let row : List ℕ = tabulate (λ i. s + i) k in
    let small : has (s + k) row ≡ true → s + k < s + k = has_all (λ x. x < s + k) row (all-tabulate (λ x. x < s + k) (λ i. s + i) k (λ i l. omega arith)) (s + k) in
    once-snoc done row (s + k) (row-once done s k (all-part (λ i. has i done ≡ false) row ((s + k) ∷ []) h))
    (has-append (s + k) done row
    ∙ or-none (has (s + k) done) (has (s + k) row) (has_all (λ i. has i done ≡ false) (row ++ ((s + k) ∷ [])) h (s + k) (has-snoc-same row (s + k)))
    ∙ either (has (s + k) row) (λ e. absurd (omega (arith, small e))) (λ e. e))

module _ (d : Netlist) (rank : ℕ → ℕ) (sound : Sound d rank) where
  abbrev total : ℕ
  total = length d.cells

  -- a net that the numberer has, or that replaces another: it is the net of a slot that is done, and stands for itself
  pub record Root (done : List ℕ) (rs : List Net) (m : Net) : Type 0 where
    pub slot : ℕ
    pub is : m ≡ net_in slot
    pub small : slot < total
    pub before : has slot done ≡ true
    pub own : (x : Net) → get_or rs slot x ≡ net_in slot

  root-final : (done : List ℕ) (rs : List Net) (m : Net) → Root done rs m → Final rs m
  root-final done rs m r =
      subst (Final rs) (sym r.is)
      (ap (driven_to rs (net_in r.slot)) (driver-cell (slot_at r.slot) (omega (arith, r.small, sound.few))) ∙ r.own (net_in r.slot))

  -- the slots that are done, and those that wait
  pub record Chains (done : List ℕ) (m : Merging) : Type 0 where
    pub long : length m.design.replaced ≡ total
    pub waits : (i : ℕ) (x : Net) → i < total → has i done ≡ false → get_or m.design.replaced i x ≡ net_in i
    pub stands : (i : ℕ) (x : Net) → i < total → (get_or m.design.replaced i x ≡ net_in i) ⊎ Root done m.design.replaced (get_or m.design.replaced i x)
    pub known : All (λ (e : Entry). Root done m.design.replaced e.1) m.numberer

  one-step : (done : List ℕ) (m : Merging) → Chains done m → (n : Net) → Final m.design.replaced (replacement m.design.replaced n)
  one-step done m c n = go (driver n) refl
    where
      rs : List Net
      rs = m.design.replaced

      itself : replacement rs n ≡ n → Final rs (replacement rs n)
      itself q = subst (Final rs) (sym q) q

      slot : (x : Slot) → driver n ≡ driven.Cell x → Dec (x.0 < total) → Final rs (replacement rs n)
      slot x e (no l) = itself (ap (driven_to rs n) e ∙ get_or-eq_default rs n {n = x.0} (omega (arith, c.long)))
      slot x e (yes l) = by (c.stands x.0 n l)
        where
          by : (get_or rs x.0 n ≡ net_in x.0) ⊎ Root done rs (get_or rs x.0 n) → Final rs (replacement rs n)
          by (inl f) = itself (ap (driven_to rs n) e ∙ f ∙ sym (cell-driver n x e))
          by (inr r) = subst (Final rs) (sym (ap (driven_to rs n) e)) (root-final done rs (get_or rs x.0 n) r)

      go : (y : Driver) → driver n ≡ y → Final rs (replacement rs n)
      go (driven.Const t) e = itself (ap (driven_to rs n) e)
      go (driven.Cell x) e = slot x e (dec_lt x.0 total)

  -- a slot that waits gets its number: it is replaced by a net that the numberer has, or enters its own
  module _ (done : List ℕ) (s : ℕ) (small : s < total) (new : has s done ≡ false) where
    abbrev now-done : List ℕ
    now-done = done ++ (s ∷ [])

    not-s : (i : ℕ) → has i done ≡ true → i ≡ s → ⊥
    not-s i h e = never (ap (λ (x : ℕ). has x done) (sym e) ∙ h) new

    still-waits : (i : ℕ) → has i now-done ≡ false → (i ≡ s → ⊥) × (has i done ≡ false)
    still-waits i h = (
      (λ e. never (ap (λ (x : ℕ). has x now-done) e ∙ has-snoc-same done s) h),
      either (has i done) (λ k. never (has-snoc-old i done s k) h) (λ k. k),
    )

    root-later : (rs : List Net) (m : Net) → Root done rs m → Root now-done rs m
    root-later rs m r = record { slot = r.slot; is = r.is; small = r.small; before = has-snoc-old r.slot done s r.before; own = r.own }

    root-set : (rs : List Net) (n m : Net) → Root done rs m → Root now-done (set rs s n) m
    root-set rs n m r = record {
      slot = r.slot;
      is = r.is;
      small = r.small;
      before = has-snoc-old r.slot done s r.before;
      own = λ x. get_or-set_other rs s r.slot n x (not-s r.slot r.before) ∙ r.own x;
    }

    replaced-chains : (m : Merging) (key : Cell) (n : Net) → Chains done m → Root done m.design.replaced n → Chains now-done (find_or_insert m key s (Some n))
    replaced-chains m key n c r =
        let rs : List Net = m.design.replaced in
        record {
          long = length-set rs s n ∙ c.long;
          waits = λ i x l h. get_or-set_other rs s i n x (still-waits i h).0 ∙ c.waits i x l (still-waits i h).1;
          stands = λ i x l. either (eqb i s)
              (λ e. let q : get_or (set rs s n) i x ≡ n =
              ap (λ (j : ℕ). get_or (set rs s n) j x) (eqb-true i s e) ∙ get_or-set_same rs s n x (omega (arith, small, c.long)) in
              inr (subst (Root now-done (set rs s n)) (sym q) (root-set rs n n r)))
              (λ e. let q : get_or (set rs s n) i x ≡ get_or rs i x = get_or-set_other rs s i n x (eqb-false i s e) in
              subst (λ (y : Net). (y ≡ net_in i) ⊎ Root now-done (set rs s n) y) (sym q) (by i x (c.stands i x l)));
          known = all-imp (λ (e : Entry). Root done rs e.1) (λ e. Root now-done (set rs s n) e.1) (λ e. root-set rs n e.1) m.numberer c.known;
        }
      where
        by : (i : ℕ) (x : Net) → (get_or m.design.replaced i x ≡ net_in i) ⊎ Root done m.design.replaced (get_or m.design.replaced i x)
            → (get_or m.design.replaced i x ≡ net_in i) ⊎ Root now-done (set m.design.replaced s n) (get_or m.design.replaced i x)
        by i x (inl f) = inl f
        by i x (inr r) = inr (root-set m.design.replaced n (get_or m.design.replaced i x) r)

    entered-chains : (m : Merging) (key : Cell) → Chains done m → Chains now-done (find_or_insert m key s None)
    unfolding All
    entered-chains m key c =
        let rs : List Net = m.design.replaced in
        record {
          long = c.long;
          waits = λ i x l h. c.waits i x l (still-waits i h).1;
          stands = λ i x l. by i x (c.stands i x l);
          known = all_append (λ (e : Entry). Root now-done rs e.1) m.numberer ((key, net_in s) ∷ [])
              (all-imp (λ (e : Entry). Root done rs e.1) (λ e. Root now-done rs e.1) (λ e. root-later rs e.1) m.numberer c.known)
              (record { slot = s; is = refl; small = small; before = has-snoc-same done s; own = λ x. c.waits s x small new }, tt);
        }
      where
        by : (i : ℕ) (x : Net) → (get_or m.design.replaced i x ≡ net_in i) ⊎ Root done m.design.replaced (get_or m.design.replaced i x)
            → (get_or m.design.replaced i x ≡ net_in i) ⊎ Root now-done m.design.replaced (get_or m.design.replaced i x)
        by i x (inl f) = inl f
        by i x (inr r) = inr (root-later m.design.replaced (get_or m.design.replaced i x) r)

    pub numbered-chains : (m : Merging) (key : Cell) (f : Option Net) → seek m.numberer key ≡ f → Chains done m → Chains now-done (find_or_insert m key s f)
    numbered-chains m key (Some n) e c =
        replaced-chains m key n c (seek_finds (λ k y. Root done m.design.replaced y) m.numberer key n c.known e)
    numbered-chains m key None e c = entered-chains m key c

  find_or_insert-chains : (key : ℕ → Cell) (is done : List ℕ) (m : Merging) → All (λ i. i < total) is → OnceAfter done is → Chains done m
      → Chains (done ++ is) (find_or_insert_all m (map (λ i. (key i, i)) is))
  unfolding find_or_insert_all OnceAfter All
  find_or_insert-chains key [] done m l o c = subst (λ (l : List ℕ). Chains l m) (sym (append-nil done)) c
  find_or_insert-chains key (i ∷ is) done m l o c =
      let m' : Merging = find_or_insert m (key i) i (seek m.numberer (key i)) in
      subst (λ (l : List ℕ). Chains l (find_or_insert_all m' (map (λ i. (key i, i)) is))) (append_assoc done (i ∷ []) is)
      (find_or_insert-chains key is (done ++ (i ∷ [])) m' l.1 o.1 (numbered-chains done i l.0 o.0 m (key i) (seek m.numberer (key i)) refl c))

  -- the cells that are merged: the slots done are theirs
  pub record Merged (cells : List ℕ) (m : Merging) : Type 0 where
    pub done : List ℕ
    pub only : (i : ℕ) → has i done ≡ true → has (start_of d.bits i) cells ≡ true
    pub chains : Chains done m

  abbrev pub Start : ℕ → Type 0
  Start s = (s < total) × (get_or d.bits s 0 ≡ 0)

  -- the bits of a cell are slots, and none of them is done
  pub cell-inside : (s : ℕ) → Start s → All (λ i. i < total) (output_of d.bits s)
  cell-inside s start = all-imp (Bit d rank sound s) (λ i. i < total) (λ i b. b.inside) (output_of d.bits s) (output-bits d rank sound s start.0)

  pub cell-fresh : (cells : List ℕ) (s : ℕ) (m : Merging) → Start s → has s cells ≡ false → (g : Merged cells m) → OnceAfter g.done (output_of d.bits s)
  unfolding output_of
  cell-fresh cells s m start new g =
      row-once g.done s (suc (run (drop (s + 1) d.bits)))
      (all-imp (λ i. start_of d.bits i ≡ s) (λ i. has i g.done ≡ false) waits (tabulate (λ i. s + i) (suc (run (drop (s + 1) d.bits))))
      (bits-start d rank sound s start.1))
    where
      waits : (i : ℕ) → start_of d.bits i ≡ s → has i g.done ≡ false
      waits i e = either (has i g.done) (λ h. never (ap (λ (x : ℕ). has x cells) (sym e) ∙ g.only i h) new) (λ h. h)

  pub cell-merged : (cells : List ℕ) (s : ℕ) (m : Merging) → Start s → has s cells ≡ false → Merged cells m → Merged (cells ++ (s ∷ [])) (merge_cell d m s)
  unfolding merge_cell
  cell-merged cells s m start new g =
      let bits : List ℕ = output_of d.bits s in
      let own : All (λ i. start_of d.bits i ≡ s) bits = bits-start d rank sound s start.1 in
      record {
        done = g.done ++ bits;
        only = λ i h. or-either (has i g.done) (has i bits) (sym (has-append i g.done bits) ∙ h)
            (λ e. has-snoc-old (start_of d.bits i) cells s (g.only i e))
            (λ e. ap (λ (x : ℕ). has x (cells ++ (s ∷ []))) (has_all (λ i. start_of d.bits i ≡ s) bits own i e) ∙ has-snoc-same cells s);
        chains = find_or_insert-chains (λ i. key_of (visit_mut (map_net_new m.design.replaced) (cell_in d.cells i))) bits g.done m
            (cell-inside s start) (cell-fresh cells s m start new g) g.chains;
      }

  cells-merged : (ss cells : List ℕ) (m : Merging) → OnceAfter cells ss → All Start ss → Merged cells m → Merged (cells ++ ss) (merge_cells d m ss)
  unfolding merge_cells OnceAfter All
  cells-merged [] cells m o h g = subst (λ (l : List ℕ). Merged l m) (sym (append-nil cells)) g
  cells-merged (s ∷ ss) cells m o h g =
      subst (λ (l : List ℕ). Merged l (merge_cells d (merge_cell d m s) ss)) (append_assoc cells (s ∷ []) ss)
      (cells-merged ss (cells ++ (s ∷ [])) (merge_cell d m s) o.1 h.1 (cell-merged cells s m h.0 o.0 g))

  pub begun-merged : Merged [] (begun d)
  unfolding unchanged has All
  begun-merged = record {
    done = [];
    only = λ i h. h;
    chains = record {
      long = tabulate-length net_in total;
      waits = λ i x l h. tabulate-at net_in total x i l;
      stands = λ i x l. inl (tabulate-at net_in total x i l);
      known = tt;
    };
  }

  pub gates-once : OnceAfter [] (gates d)
  gates-once = once-those (λ s. not (has_effects (cell_in d.cells s))) [] [] (iter_cells_topo d) (λ x h. h) (cells-once d rank sound)

  pub gates-start : All Start (gates d)
  gates-start =
      let gate : ℕ → Type 0 = λ s. not (has_effects (cell_in d.cells s)) ≡ true in
      all-imp (λ s. gate s × (get_or d.bits s 0 ≡ 0)) Start (λ s h. (gate-inside d.cells s (not-true (has_effects (cell_in d.cells s)) h.0), h.1)) (gates d)
      (all_both gate (λ s. get_or d.bits s 0 ≡ 0) (gates d) (those-pass (λ s. not (has_effects (cell_in d.cells s))) (iter_cells_topo d))
      (all-has (λ s. get_or d.bits s 0 ≡ 0) (gates d)
      (λ s h. cells-start d rank sound s (those-has (λ s. not (has_effects (cell_in d.cells s))) (iter_cells_topo d) s h))))

  -- before each cell and after the last, for every net
  module _ (before rest : List ℕ) (e : gates d ≡ before ++ rest) where
    pub merging-one-step : (n : Net) → Final (replaced_after d before) (replacement (replaced_after d before) n)
    merging-one-step n = one-step m.done (merge_cells d (begun d) before) m.chains n
      where
        m : Merged before (merge_cells d (begun d) before)
        m = cells-merged before [] (begun d) (once-part [] before rest (subst (OnceAfter []) e gates-once)) (all-part Start before rest (subst (All Start) e gates-start)) begun-merged

    pub merging-ends : (n : Net) → Ends (replaced_after d before) n
    merging-ends n = one-step-ends (replaced_after d before) n (merging-one-step n)

  -- where the flag is made and the replacements are applied
  pub merged-ends : (n : Net) → Ends (merging d).replaced n
  unfolding merging
  merged-ends n = merging-ends (gates d) [] (sym (append-nil (gates d))) n

-- the same of an accepted ticket
module _ (words : ℕ) (t : List ℕ) (pass : check_verdict words t ≡ Ok tt) where
  pub ticket-merging-ends : (before rest : List ℕ) → gates (decoded t) ≡ before ++ rest → (n : Net) → Ends (replaced_after (decoded t) before) n
  ticket-merging-ends = merging-ends (decoded t) (rank_of (records_of t)) (ticket-sound words t pass)

  pub ticket-merged-ends : (n : Net) → Ends (merging (decoded t)).replaced n
  ticket-merged-ends = merged-ends (decoded t) (rank_of (records_of t)) (ticket-sound words t pass)
