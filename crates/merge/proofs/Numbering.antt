-- Keys found or entered. Assumes nothing.
use mathlib.Core.Path.{◌≡◌, refl, sym, ap, ◌∙◌, subst}
use mathlib.Core.List.{List, [], ◌∷◌, ◌++◌, map}
use mathlib.Core.Logic.{◌⊎◌, inl, inr}
use Prim.Native.Nat.{ℕ, suc, ◌+◌, ◌-◌, ◌*◌, ◌≤◌, ◌<◌}
use native.Mathlib.Omega.{arith}
use lib.ListN.{length, set}
use Rattle.value.specs.declared.Net.{Net}
use Rattle.cell.specs.declared.Record.{Record}
use Rattle.cell.specs.declared.Cell.{Cell}
use Rattle.cell.specs.Records.{cell_of, cell_record}
use Rattle.basics.specs.Lists.{tabulate}
use Rattle.cell.proofs.RoundTrips.{cell-back}
use Rattle.netlist.specs.inner.Areas.{word_record, store_words, Within, figures_at, free_at, keys_at, keys_from, mixes_at, numberer_at, numberer_from, replaced_at}
use Rattle.netlist.specs.Shape.{visit_mut}
use Rattle.netlist.specs.Netlist.{cell_in, output_of}
use Rattle.netlist.proofs.Frames.{within_none, within-then, within_wider, tabulate-same, record-kept, records-kept}
use Rattle.std.proofs.Common.{Option, Some, None}
use Rattle.design.specs.Queue.{map_net_new}
use Rattle.numberer.specs.Numberer.{seek}
use Rattle.design.specs.inner.Words.{netlist_in, replaced_in, design_in}
use Rattle.numberer.specs.inner.Words.{numberer_in, IsCell, mix_of, Inserts}
use Rattle.numberer.proofs.Records.{is-cell}
use Rattle.numberer.proofs.Inserting.{numberer-stays, entered-stays, mixed-stays, inserts}
use Rattle.merge.specs.Merge.{Merging, key_of, find_or_insert, find_or_insert_all, merge_cell}
use Rattle.merge.specs.inner.Words.{merging_in, key_in, key_at, Ready, Keyed, Keys, Numbers, NumbersAll, width_of, Merges}
use Rattle.design.proofs.Words.{cell_at}
use Rattle.basics.proofs.Tables.{map-table}
use Rattle.merge.proofs.Cells.{replaced-stays}

-- the design after a store behind the replaced nets
pub design-stays : (from to n : ℕ) (ws ws' : List ℕ) → figures_at ≤ from → n ≤ 512 → Within from to ws ws' → design_in n ws' ≡ design_in n ws
unfolding design_in
design-stays from to n ws ws' far few w =
    rw (replaced-stays from to n ws ws' far few w, records-kept from to ws ws' w n (omega arith))

-- what merging asks after a store that the numberer is not in
ready-stays : (from to : ℕ) (ws ws' : List ℕ) → Within from to ws ws' → (k : ℕ) → (to ≤ mixes_at) ⊎ (numberer_from + k * 4 ≤ from) → (n : ℕ) → Ready n k ws → Ready n k ws'
ready-stays from to ws ws' w k apart n g = record {
  long = omega (arith, g.long, w.same);
  few = g.few;
  entered = entered-stays from to ws ws' w k apart g.entered;
  mixed = mixed-stays from to ws ws' w k apart g.mixed;
}

-- `find_or_insert`
module _ (ws : List ℕ) (s : ℕ) (keyed : Keyed s (s + 1) ws) (key : Record) (key-is : key ≡ word_record ws (keys_at + s)) where
  key-of-slot : key ≡ cell_record s (key_at ws s)
  key-of-slot = key-is ∙ keyed.each s (omega arith) (omega arith)

  pub key-is-cell : IsCell key
  key-is-cell = is-cell key s (key_at ws s) key-of-slot

  key-cell : cell_of key ≡ key_at ws s
  unfolding key_at
  key-cell = ap cell_of key-is

  module _ (n k : ℕ) (g : Ready n k ws) (v : Option Net) (v-is : v ≡ seek (numberer_in k ws) (cell_of key)) where
    numbered-by : (d : Option Net) → v ≡ d → find_or_insert (merging_in n k ws) (key_at ws s) s (seek (numberer_in k ws) (key_at ws s)) ≡ find_or_insert (merging_in n k ws) (key_at ws s) s d
    numbered-by d e =
        ap (find_or_insert (merging_in n k ws) (key_at ws s) s) (ap (seek (numberer_in k ws)) (sym key-cell) ∙ sym v-is ∙ e)

    pub numbers-found : (x : Net) → v ≡ Some x → (ws' : List ℕ) → replaced_in n ws' ≡ set (replaced_in n ws) s x → Within replaced_at figures_at ws ws' → Numbers n k s ws ws' k
    unfolding merging_in design_in
    numbers-found x e ws' q w =
        let few : n ≤ 512 = g.few in
        record {
          said =
              rw (q, records-kept replaced_at figures_at ws ws' w n (omega arith), numberer-stays replaced_at figures_at ws ws' w k (inl (omega arith)))
              (sym (numbered-by (Some x) e));
          ready = ready-stays replaced_at figures_at ws ws' w k (inl (omega arith)) n g;
          most = omega arith;
          frame = within_wider replaced_at figures_at replaced_at keys_from ws ws' (omega arith) (omega arith) w;
        }

    pub numbers-new : (ws' : List ℕ) → ws' ≡ set (store_words ws (numberer_at + k) key) (mixes_at + k) (mix_of key) → k < 1024 → s < n → v ≡ None → Numbers n k s ws ws' (k + 1)
    unfolding merging_in
    numbers-new ws' put room small e =
        let few : n ≤ 512 = g.few in
        let long : 16384 ≤ length ws = g.long in
        let q : Inserts k s (key_at ws s) ws ws' = inserts ws k key s (key_at ws s) key-of-slot ws' put long room (omega arith) in
        record {
          said = rw (design-stays mixes_at keys_from n ws ws' (omega arith) few q.frame, q.said) (sym (numbered-by None e));
          ready = record {
            long = omega (arith, q.frame.same);
            few = few;
            entered = q.entered g.entered;
            mixed = q.mixed g.mixed;
          };
          most = omega arith;
          frame = within_wider mixes_at keys_from replaced_at keys_from ws ws' (omega arith) (omega arith) q.frame;
        }

-- the loop of `find_or_insert_all`: one key after another
abbrev step : Merging → Cell → ℕ → Merging
step m c s = find_or_insert m c s (seek m.numberer c)

insert-more : (m : Merging) (bs : List (Cell × ℕ)) (c : Cell) (s : ℕ) → find_or_insert_all m (bs ++ ((c, s) ∷ [])) ≡ step (find_or_insert_all m bs) c s
unfolding find_or_insert_all
insert-more m [] c s = refl
insert-more m (b ∷ bs) c s = insert-more (step m b.0 b.1) bs c s

pub record Numbering (n k₀ s e : ℕ) (ws₀ ws : List ℕ) (k i : ℕ) : Type 0 where
  pub from : s ≤ i
  pub inside : e ≤ n
  pub room : k₀ + (e - s) ≤ 1024
  pub keyed : Keyed s e ws₀
  pub said : merging_in n k ws ≡ find_or_insert_all (merging_in n k₀ ws₀) (tabulate (λ j. (key_at ws₀ (s + j), s + j)) (i - s))
  pub ready : Ready n k ws
  pub most : k ≤ k₀ + (i - s)
  pub frame : Within replaced_at keys_from ws₀ ws

pub numbering-none : (n k s e : ℕ) (ws : List ℕ) → Ready n k ws → Keyed s e ws → s ≤ e → e ≤ n → k + (e - s) ≤ 1024 → Numbering n k s e ws ws k s
unfolding find_or_insert_all tabulate
numbering-none n k s e ws g q a b r =
    let z : s - s ≡ 0 = omega arith in
    record {
      from = omega arith;
      inside = b;
      room = r;
      keyed = q;
      said = rw z;
      ready = g;
      most = omega arith;
      frame = within_none replaced_at keys_from ws;
    }

module _ (n k₀ s e : ℕ) (ws₀ ws : List ℕ) (k i : ℕ) (g : Numbering n k₀ s e ws₀ ws k i) where
  place-stays : (j : ℕ) → word_record ws (keys_at + j) ≡ word_record ws₀ (keys_at + j)
  place-stays j = record-kept replaced_at keys_from ws₀ ws g.frame (keys_at + j) (inr (omega arith))

  key-same : (j : ℕ) → key_at ws j ≡ key_at ws₀ j
  unfolding key_at
  key-same j = ap cell_of (place-stays j)

  pub numbering-keyed : i < e → Keyed i (i + 1) ws
  numbering-keyed l =
      let a : s ≤ i = g.from in
      record { each = λ j x y. place-stays j ∙ g.keyed.each j (omega arith) (omega arith) ∙ ap (cell_record j) (sym (key-same j)) }

  pub numbering-more : (ws' : List ℕ) (k' : ℕ) → Numbers n k i ws ws' k' → i < e → Numbering n k₀ s e ws₀ ws' k' (i + 1)
  unfolding merging_in tabulate
  numbering-more ws' k' q l =
      let a : s ≤ i = g.from in
      let here : s + (i - s) ≡ i = omega arith in
      let next : i + 1 - s ≡ suc (i - s) = omega arith in
      let most : k ≤ k₀ + (i - s) = g.most in
      let more : k' ≤ k + 1 = q.most in
      record {
        from = omega arith;
        inside = g.inside;
        room = g.room;
        keyed = g.keyed;
        said =
            q.said ∙ ap (λ (c : Cell). step (merging_in n k ws) c i) (key-same i) ∙ ap (λ (m : Merging). step m (key_at ws₀ i) i) g.said
            ∙ sym (rw (next, insert-more (merging_in n k₀ ws₀) (tabulate (λ j. (key_at ws₀ (s + j), s + j)) (i - s)) (key_at ws₀ (s + (i - s))) (s + (i - s)), here));
        ready = q.ready;
        most = omega arith;
        frame = within-then replaced_at keys_from ws₀ ws ws' g.frame q.frame;
      }

  pub numbering-all : (s ≤ e → i ≤ e) → s ≤ e → e ≤ i → NumbersAll n k₀ s e ws₀ ws k
  numbering-all m l h =
      let z : i ≡ e = let u : i ≤ e = m l in omega arith in
      record {
        said = subst (λ (x : ℕ). merging_in n k ws ≡ find_or_insert_all (merging_in n k₀ ws₀) (tabulate (λ j. (key_at ws₀ (s + j), s + j)) (x - s))) z g.said;
        ready = g.ready;
        most = subst (λ (x : ℕ). k ≤ k₀ + (x - s)) z g.most;
        frame = g.frame;
      }

-- `merge_cell`
module _ (n s e : ℕ) (ws ws₁ : List ℕ) (q : Keys n s e ws ws₁) where
  pub keys-keyed : Keyed s e ws₁
  unfolding key_at
  keys-keyed = record { each = λ j a b. q.each j a b ∙ ap (cell_record j) (sym (ap cell_of (q.each j a b) ∙ cell-back j (key_in n ws j))) }

  pub keys-ready : (k : ℕ) → Ready n k ws → k + width_of (netlist_in n ws).bits s ≤ 1024 → Ready n k ws₁
  keys-ready k g r = ready-stays keys_from free_at ws ws₁ q.frame k (inr (omega arith)) n g

  module _ (k : ℕ) (g : Ready n k ws) (e-is : e ≡ s + width_of (netlist_in n ws).bits s) (inside : e ≤ n) (r : k + width_of (netlist_in n ws).bits s ≤ 1024) where
    merging-same : merging_in n k ws₁ ≡ merging_in n k ws
    unfolding merging_in
    merging-same =
        rw (design-stays keys_from free_at n ws ws₁ (omega arith) g.few q.frame, numberer-stays keys_from free_at ws ws₁ q.frame k (inr (omega arith)))

    key-of-bit : (i : ℕ) → i < width_of (netlist_in n ws).bits s
        → key_at ws₁ (s + i) ≡ key_of (visit_mut (map_net_new (merging_in n k ws).design.replaced) (cell_in (netlist_in n ws).cells (s + i)))
    unfolding key_at key_in merging_in design_in
    key-of-bit i l =
        ap cell_of (q.each (s + i) (omega arith) (omega arith)) ∙ cell-back (s + i) (key_in n ws (s + i))
        ∙ ap (λ (c : Cell). key_of (visit_mut (map_net_new (replaced_in n ws)) c)) (sym (cell_at n ws (s + i) (omega arith)))

    abbrev keyed : ℕ → Cell × ℕ
    keyed i = (key_of (visit_mut (map_net_new (merging_in n k ws).design.replaced) (cell_in (netlist_in n ws).cells i)), i)

    abbrev placed : ℕ → Cell × ℕ
    placed i = (key_at ws₁ (s + i), s + i)

    bits-same : tabulate placed (e - s) ≡ map keyed (output_of (netlist_in n ws).bits s)
    unfolding output_of width_of
    bits-same =
        let w : ℕ = width_of (netlist_in n ws).bits s in
        ap (tabulate placed) (omega arith)
        ∙ tabulate-same placed (λ i. keyed (s + i)) w (λ i l. ap (λ (c : Cell). (c, s + i)) (key-of-bit i l))
        ∙ sym (map-table (λ i. s + i) keyed w)

    pub merges : (ws₂ : List ℕ) (k' : ℕ) → NumbersAll n k s e ws₁ ws₂ k' → Merges n k s ws ws₂ k'
    unfolding merge_cell
    merges ws₂ k' a =
        let most : k' ≤ k + (e - s) = a.most in
        record {
          said = a.said ∙ rw (merging-same, bits-same);
          ready = a.ready;
          most = omega arith;
          frame = within-then replaced_at free_at ws ws₁ ws₂ (within_wider keys_from free_at replaced_at free_at ws ws₁ (omega arith) (omega arith) q.frame)
              (within_wider replaced_at keys_from replaced_at free_at ws₁ ws₂ (omega arith) (omega arith) a.frame);
        }
