-- The loop over the cells in their order. Assumes nothing.
use mathlib.Core.Path.{◌≡◌, refl, sym, ap, ◌∙◌, subst}
use mathlib.Core.Bool.{Bool, true, false}
use mathlib.Core.List.{List, [], ◌∷◌, ◌++◌}
use mathlib.Core.Logic.{inl}
use Prim.Native.Nat.{ℕ, zero, suc, ◌+◌, ◌≤◌, ◌<◌}
use native.Mathlib.Omega.{arith}
use native.Mathlib.Numerals.{add-one}
use native.Mathlib.Decide.{dec_lt}
use lib.ListN.{length, get_or}
use Rattle.cell.specs.declared.Cell.{Cell}
use Rattle.cell.specs.Records.{cell_of}
use Rattle.basics.specs.Lists.{tabulate, those}
use Rattle.basics.proofs.Tables.{tabulate-length, tabulate-at}
use Rattle.netlist.specs.inner.Areas.{word_record, records_in, words_in, order_at, Within, figures_at, free_at, replaced_at, visited_at}
use Rattle.netlist.specs.Shape.{has_effects}
use Rattle.netlist.specs.Netlist.{Netlist, netlist_of, cell_in}
use Rattle.netlist.proofs.Frames.{within_none, within-then, within_wider, words-kept, records-kept}
use Rattle.order.specs.Orders.{iter_cells_topo}
use Rattle.design.specs.Queue.{net_in, unchanged, did_change}
use Rattle.design.specs.inner.Words.{netlist_in, replaced_in, design_in, applied_in}
use Rattle.design.proofs.Words.{cells-length, bits-length, cell_at}
use Rattle.basics.proofs.Those.{those-append}
use Rattle.numberer.specs.inner.Words.{numberer_in}
use Rattle.numberer.proofs.Inserting.{entered-none, mixed-none}
use Rattle.merge.specs.Merge.{Merging, merge_cell, merge_cells, merging, merge}
use Rattle.merge.specs.inner.Words.{Sequenced, merging_in, Ready, width_of, Merges, looks_for, load_of, sum, MergesNext, Ordered, MergesCells, MergesAll, MergesNetlist}
use Rattle.merge.proofs.Room.{Every, sum_more, order-starts, order-fits, order-short}

-- one cell more
cells-append : (d : Netlist) (m : Merging) (xs ys : List ℕ) → merge_cells d m (xs ++ ys) ≡ merge_cells d (merge_cells d m xs) ys
unfolding merge_cells
cells-append d m [] ys = refl
cells-append d m (x ∷ xs) ys = cells-append d (merge_cell d m x) xs ys

cells-more : (d : Netlist) (m : Merging) (xs : List ℕ) (s : ℕ)
    → merge_cells d m (those (looks_for d) (xs ++ (s ∷ []))) ≡ merge_cells d (merge_cells d m (those (looks_for d) xs)) (those (looks_for d) (s ∷ []))
cells-more d m xs s =
    ap (merge_cells d m) (those-append (looks_for d) xs (s ∷ [])) ∙ cells-append d m (those (looks_for d) xs) (those (looks_for d) (s ∷ []))

-- a cell with effects is passed by, any other is merged
module _ (n k s : ℕ) (ws : List ℕ) (c : Cell) (c-is : c ≡ cell_of (word_record ws s)) (b : Bool) (b-is : b ≡ has_effects c) (l : s < n) where
  effects : has_effects (cell_in (netlist_in n ws).cells s) ≡ b
  effects = ap has_effects (cell_at n ws s l ∙ sym c-is) ∙ sym b-is

  pub next-passed : b ≡ true → Ready n k ws → MergesNext n k s ws ws k
  unfolding merge_cells those looks_for load_of
  next-passed e g = record { said = rw (effects ∙ e); ready = g; most = omega arith; frame = within_none replaced_at free_at ws }

  pub next-room : b ≡ false → k + load_of (netlist_in n ws) s ≤ 1024 → k + width_of (netlist_in n ws).bits s ≤ 1024
  unfolding load_of
  next-room e h = rw (effects ∙ e) at h

  pub next-merged : b ≡ false → (ws' : List ℕ) (r : ℕ) → Merges n k s ws ws' r → MergesNext n k s ws ws' r
  unfolding merge_cells those looks_for load_of
  next-merged e ws' r m = record { said = rw (effects ∙ e) m.said; ready = m.ready; most = rw (effects ∙ e) m.most; frame = m.frame }

-- the order area, place after place
words_more : (j : ℕ) (ws : List ℕ) → words_in order_at (j + 1) ws ≡ words_in order_at j ws ++ (get_or ws (order_at + j) 0 ∷ [])
unfolding words_in tabulate
words_more j ws = rw add-one

sum-prefix : (f : ℕ → ℕ) (ws : List ℕ) (j count : ℕ) → j ≤ count → sum f (words_in order_at j ws) ≤ sum f (words_in order_at count ws)
sum-prefix f ws j zero h = let q : j ≡ 0 = omega arith in subst (λ (i : ℕ). sum f (words_in order_at i ws) ≤ sum f (words_in order_at 0 ws)) (sym q) (omega arith)
sum-prefix f ws j (suc count) h = go (sum-prefix f ws j count) (dec_lt j (suc count))
  where
    go : (j ≤ count → sum f (words_in order_at j ws) ≤ sum f (words_in order_at count ws)) → Dec (j < suc count)
        → sum f (words_in order_at j ws) ≤ sum f (words_in order_at (suc count) ws)
    go r (yes l) =
        let m : sum f (words_in order_at j ws) ≤ sum f (words_in order_at count ws) = r (omega arith) in
        let q : sum f (words_in order_at (suc count) ws) ≡ sum f (words_in order_at count ws) + f (get_or ws (order_at + count) 0) =
        ap (λ (i : ℕ). sum f (words_in order_at i ws)) (sym (add-one count)) ∙ ap (sum f) (words_more count ws) ∙ sum_more f (words_in order_at count ws) (get_or ws (order_at + count) 0) in
        omega arith
    go r (no l) = let q : j ≡ suc count = omega arith in subst (λ (i : ℕ). sum f (words_in order_at j ws) ≤ sum f (words_in order_at i ws)) q (omega arith)

-- the loop of `merge_cells`
pub record Turning (n count : ℕ) (ws₀ ws : List ℕ) (k j : ℕ) : Type 0 where
  pub ordered : Ordered n count ws₀
  pub said : merging_in n k ws ≡ merge_cells (netlist_in n ws₀) (merging_in n 0 ws₀) (those (looks_for (netlist_in n ws₀)) (words_in order_at j ws₀))
  pub ready : Ready n k ws
  pub most : k ≤ sum (load_of (netlist_in n ws₀)) (words_in order_at j ws₀)
  pub frame : Within replaced_at free_at ws₀ ws

pub turning-none : (n count : ℕ) (ws : List ℕ) → Ordered n count ws → Turning n count ws ws 0 0
unfolding words_in tabulate those merge_cells
turning-none n count ws g = record {
  ordered = g;
  said = refl;
  ready = record { long = g.long; few = g.few; entered = entered-none ws; mixed = mixed-none ws };
  most = omega arith;
  frame = within_none replaced_at free_at ws;
}

module _ (n count : ℕ) (ws₀ ws : List ℕ) (k j : ℕ) (g : Turning n count ws₀ ws k j) where
  netlist-same : netlist_in n ws ≡ netlist_in n ws₀
  netlist-same = let few : n ≤ 512 = g.ordered.few in ap netlist_of (records-kept replaced_at free_at ws₀ ws g.frame n (omega arith))

  module _ (s : ℕ) (s-is : s ≡ get_or ws (order_at + j) 0) (l : j < count) where
    place : s ≡ get_or ws₀ (order_at + j) 0
    place = let short : count ≤ 1024 = g.ordered.short in s-is ∙ g.frame.before (order_at + j) (omega arith)

    pub turning-inside : s < n
    turning-inside = omega (arith, place, g.ordered.inside j l)

    load-more : sum (load_of (netlist_in n ws₀)) (words_in order_at (j + 1) ws₀) ≡ sum (load_of (netlist_in n ws₀)) (words_in order_at j ws₀) + load_of (netlist_in n ws₀) s
    load-more =
        ap (sum (load_of (netlist_in n ws₀))) (words_more j ws₀)
        ∙ sum_more (load_of (netlist_in n ws₀)) (words_in order_at j ws₀) (get_or ws₀ (order_at + j) 0)
        ∙ ap (λ (x : ℕ). sum (load_of (netlist_in n ws₀)) (words_in order_at j ws₀) + load_of (netlist_in n ws₀) x) (sym place)

    pub turning-room : k + load_of (netlist_in n ws) s ≤ 1024
    turning-room =
        rw netlist-same
        (omega (
          arith,
          g.most,
          load-more,
          sum-prefix (load_of (netlist_in n ws₀)) ws₀ (j + 1) count (omega arith),
          g.ordered.room,
        ))

    pub turning-more : (ws' : List ℕ) (k' : ℕ) → MergesNext n k s ws ws' k' → Turning n count ws₀ ws' k' (j + 1)
    turning-more ws' k' m =
        let d : Netlist = netlist_in n ws₀ in
        record {
          ordered = g.ordered;
          said =
              m.said ∙ ap (λ (e : Netlist). merge_cells e (merging_in n k ws) (those (looks_for e) (s ∷ []))) netlist-same
              ∙ ap (λ (x : Merging). merge_cells d x (those (looks_for d) (s ∷ []))) g.said
              ∙ ap (λ (x : ℕ). merge_cells d (merge_cells d (merging_in n 0 ws₀) (those (looks_for d) (words_in order_at j ws₀))) (those (looks_for d) (x ∷ []))) place
              ∙ sym (cells-more d (merging_in n 0 ws₀) (words_in order_at j ws₀) (get_or ws₀ (order_at + j) 0))
              ∙ ap (λ (xs : List ℕ). merge_cells d (merging_in n 0 ws₀) (those (looks_for d) xs)) (sym (words_more j ws₀));
          ready = m.ready;
          most = omega (arith, m.most, g.most, load-more, ap (λ (e : Netlist). load_of e s) netlist-same);
          frame = within-then replaced_at free_at ws₀ ws ws' g.frame m.frame;
        }

  pub turning-all : j ≤ count → count ≤ j → MergesCells n count ws₀ ws
  unfolding merging_in
  turning-all m h =
      let q : j ≡ count = omega arith in
      let d : Netlist = netlist_in n ws₀ in
      record {
        said = subst (λ (i : ℕ). design_in n ws ≡ (merge_cells d (merging_in n 0 ws₀) (those (looks_for d) (words_in order_at i ws₀))).design) q
            (ap (λ (m : Merging). m.design) g.said);
        frame = g.frame;
      }

-- the whole of it: the order, no net replaced, the cells, and what `apply` does
every-at : (P : ℕ → Type 0) (xs : List ℕ) → Every P xs → (j : ℕ) → j < length xs → P (get_or xs j 0)
unfolding Every
every-at P [] p j l = absurd (omega arith)
every-at P (x ∷ xs) p zero l = p.0
every-at P (x ∷ xs) p (suc j) l = every-at P xs p.1 j (omega arith)

module _ (n count : ℕ) (ws ws₁ ws₂ : List ℕ) (order : words_in order_at count ws₁ ≡ iter_cells_topo (netlist_in n ws)) (frame₁ : Within visited_at replaced_at ws ws₁)
    (blank : replaced_in n ws₂ ≡ tabulate net_in n) (frame₂ : Within replaced_at figures_at ws₁ ws₂) (long : 16384 ≤ length ws) (few : n ≤ 512)
    (seq : Sequenced (netlist_in n ws).bits) where
  abbrev d : Netlist
  d = netlist_in n ws

  fits : length d.cells ≡ length d.bits
  fits = cells-length n ws ∙ sym (bits-length n ws)

  records-same : records_in n ws₂ ≡ records_in n ws
  records-same = records-kept replaced_at figures_at ws₁ ws₂ frame₂ n (omega arith) ∙ records-kept visited_at replaced_at ws ws₁ frame₁ n (omega arith)

  count-is : length (iter_cells_topo d) ≡ count
  unfolding words_in
  count-is = ap length (sym order) ∙ tabulate-length (λ i. get_or ws₁ (order_at + i) 0) count

  short : count ≤ 1024
  short = omega (arith, count-is, order-short d seq fits, bits-length n ws)

  order_same : words_in order_at count ws₂ ≡ iter_cells_topo d
  order_same = words-kept replaced_at figures_at ws₁ ws₂ frame₂ order_at count (inl (let h : count ≤ 1024 = short in omega arith)) ∙ order

  place_at : (j : ℕ) → j < count → get_or ws₂ (order_at + j) 0 ≡ get_or (iter_cells_topo d) j 0
  unfolding words_in
  place_at j l = sym (tabulate-at (λ i. get_or ws₂ (order_at + i) 0) count 0 j l) ∙ ap (λ (xs : List ℕ). get_or xs j 0) order_same

  pub all-ordered : Ordered n count ws₂
  all-ordered = record {
    long = omega (arith, frame₁.same, frame₂.same);
    few = few;
    short = short;
    inside = λ j l. omega (
      arith,
      place_at j l,
      (every-at (λ s. (s < length d.bits) × (get_or d.bits s 0 ≡ 0)) (iter_cells_topo d) (order-starts d seq fits) j (omega (arith, count-is))).0,
      bits-length n ws,
    );
    room = rw (records-same, order_same) (omega (arith, order-fits d seq fits, bits-length n ws));
  }

  start : merging_in n 0 ws₂ ≡ record { design = unchanged d.cells; numberer = [] }
  unfolding merging_in design_in numberer_in tabulate unchanged
  start = rw (blank, records-same, cells-length n ws)

  pub all-merged : (ws₃ : List ℕ) → MergesCells n count ws₂ ws₃ → MergesAll n ws ws₃
  unfolding merging looks_for
  all-merged ws₃ m = record {
    said = m.said ∙ rw (start, records-same, order_same);
    records = records-kept replaced_at free_at ws₂ ws₃ m.frame n (omega arith) ∙ records-same;
    frame = within-then visited_at free_at ws ws₂ ws₃
        (within-then visited_at free_at ws ws₁ ws₂ (within_wider visited_at replaced_at visited_at free_at ws ws₁ (omega arith) (omega arith) frame₁)
        (within_wider replaced_at figures_at visited_at free_at ws₁ ws₂ (omega arith) (omega arith) frame₂))
        (within_wider replaced_at free_at visited_at free_at ws₂ ws₃ (omega arith) (omega arith) m.frame);
  }

pub merged : (n : ℕ) (ws ws₁ ws₂ : List ℕ) (r : Bool) → MergesAll n ws ws₁ → netlist_in n ws₂ ≡ applied_in n ws₁ → r ≡ did_change (design_in n ws₁)
    → Within 0 visited_at ws₁ ws₂ → MergesNetlist n ws ws₂ r
unfolding merge applied_in
merged n ws ws₁ ws₂ r m e f w = record {
  result = e ∙ rw (m.said, m.records);
  flag = f ∙ ap did_change m.said;
  frame = within-then 0 free_at ws ws₁ ws₂ (within_wider visited_at free_at 0 free_at ws ws₁ (omega arith) (omega arith) m.frame)
      (within_wider 0 visited_at 0 free_at ws₁ ws₂ (omega arith) (omega arith) w);
}
