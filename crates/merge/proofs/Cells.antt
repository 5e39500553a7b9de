-- The bits of a cell, and their keys. Assumes nothing.
use mathlib.Core.Path.{◌≡◌, refl, sym, ap, ◌∙◌, subst}
use mathlib.Core.Bool.{Bool, true, false, cond}
use mathlib.Core.List.{List}
use mathlib.Core.Logic.{inl}
use Prim.Native.Nat.{ℕ, zero, suc, ◌+◌, ◌-◌, ◌*◌, ◌≤◌, ◌<◌}
use native.Mathlib.Omega.{arith}
use native.Mathlib.Numerals.{add-one}
use native.Mathlib.Decide.{dec_lt}
use lib.Dec.{eqb}
use lib.ListN.{length, get_or, drop, drop_of_length-le}
use lib.Seq.{drop-cons}
use Rattle.value.specs.declared.Net.{Net}
use Rattle.value.specs.Value.{net_at}
use Rattle.cell.specs.declared.Record.{Record}
use Rattle.cell.specs.declared.Cell.{Cell}
use Rattle.cell.specs.Records.{cell_of, cell_record}
use Rattle.netlist.specs.inner.Areas.{word_record, store_words, Within, figures_at, free_at, keys_at, keys_from, replaced_at}
use Rattle.netlist.specs.Netlist.{run}
use Rattle.netlist.proofs.Frames.{within_none, within-then, within_wider, tabulate-same, record-kept}
use Rattle.netlist.proofs.Areas.{store-within, stored_other, stored_same}
use Rattle.netlist.specs.Shape.{visit_mut}
use Rattle.design.specs.Queue.{map_net_new}
use Rattle.netlist.specs.inner.Fields.{renamed_fields}
use Rattle.design.specs.inner.Words.{netlist_in, replaced_in}
use Rattle.netlist.proofs.Operands.{renamed-cell}
use Rattle.design.proofs.Words.{bits-length, bit_at}
use Rattle.numberer.proofs.Records.{cell-sized}
use Rattle.merge.specs.Merge.{key_of}
use Rattle.merge.specs.inner.Words.{key_fields, key_in, Keys, width_of}
use Rattle.merge.proofs.Keys.{key-fields}

-- the slot behind a cell
run_at : (n : ℕ) (ws : List ℕ) (e : ℕ) → e < n
    → run (drop e (netlist_in n ws).bits) ≡ cond (eqb (word_record ws e).bit 0) 0 (suc (run (drop (e + 1) (netlist_in n ws).bits)))
unfolding run
run_at n ws e l = rw (drop-cons (netlist_in n ws).bits e 0 (omega (arith, bits-length n ws)), bit_at n ws e l, add-one)

run-passed : (n : ℕ) (ws : List ℕ) (i e m : ℕ) → i + m ≡ e → e ≤ n → ((j : ℕ) → i ≤ j → j < e → eqb (word_record ws j).bit 0 ≡ false)
    → i + run (drop i (netlist_in n ws).bits) ≡ e + run (drop e (netlist_in n ws).bits)
run-passed n ws i e zero q h p = ap (λ (k : ℕ). k + run (drop k (netlist_in n ws).bits)) (let z : i ≡ e = omega arith in z)
run-passed n ws i e (suc m) q h p =
    omega (
      arith,
      run_at n ws i (omega arith) ∙ ap (λ (b : Bool). cond b 0 (suc (run (drop (i + 1) (netlist_in n ws).bits)))) (p i (omega arith) (omega arith)),
      run-passed n ws (i + 1) e m (omega arith) h (λ j a b. p j (omega arith) b),
    )

run-ends : (n : ℕ) (ws : List ℕ) (e : ℕ) → (e < n → eqb (word_record ws e).bit 0 ≡ true) → Dec (e < n) → run (drop e (netlist_in n ws).bits) ≡ 0
unfolding run
run-ends n ws e z (yes l) = run_at n ws e l ∙ ap (λ (b : Bool). cond b 0 (suc (run (drop (e + 1) (netlist_in n ws).bits)))) (z l)
run-ends n ws e z (no l) =
    let past : length (netlist_in n ws).bits ≤ e = omega (arith, bits-length n ws) in
    ap run (drop_of_length-le (netlist_in n ws).bits past)

pub cell-ends : (n : ℕ) (ws : List ℕ) (s e : ℕ) → s < e → e ≤ n → ((j x : ℕ) → x ≡ get_or ws j 0 → s < j → j < e → eqb (word_record ws j).bit 0 ≡ false)
    → (e < n → eqb (word_record ws e).bit 0 ≡ true) → e ≡ s + width_of (netlist_in n ws).bits s
unfolding width_of
cell-ends n ws s e l h p z =
    omega (
      arith,
      run-passed n ws (s + 1) e (e - (s + 1)) (omega arith) h (λ j a b. p j (get_or ws j 0) refl (omega arith) b),
      run-ends n ws e z (dec_lt e n),
    )

-- stores behind the replaced nets
module _ (from to n : ℕ) (ws ws' : List ℕ) (far : figures_at ≤ from) (few : n ≤ 512) (w : Within from to ws ws') where
  pub replaced-stays : replaced_in n ws' ≡ replaced_in n ws
  unfolding replaced_in
  replaced-stays =
      tabulate-same (λ i. net_at (get_or ws' (replaced_at + i) 0)) (λ i. net_at (get_or ws (replaced_at + i) 0)) n
      (λ i l. ap net_at (w.before (replaced_at + i) (omega arith)))

  pub key-stays : (s : ℕ) → s < n → key_in n ws' s ≡ key_in n ws s
  unfolding key_in
  key-stays s l = rw (replaced-stays, record-kept from to ws ws' w s (inl (omega arith)))

pub key-put : (n : ℕ) (ws ws' : List ℕ) (s : ℕ) (q own new key : Record) → ws' ≡ store_words ws (keys_at + s) key → key ≡ key_fields s new
    → new ≡ renamed_fields (map_net_new (replaced_in n ws)) own → own ≡ cell_record q.bit (cell_of q) → q ≡ word_record ws s
    → ws' ≡ store_words ws (keys_at + s) (cell_record s (key_in n ws s))
unfolding key_in
key-put n ws ws' s q own new key e ek en eo eq =
    let f : Net → Net = map_net_new (replaced_in n ws) in
    e
    ∙ ap (store_words ws (keys_at + s)) (ek
    ∙ ap (key_fields s) (en ∙ ap (renamed_fields f) eo ∙ renamed-cell f q.bit (cell_of q))
    ∙ key-fields s q.bit (visit_mut f (cell_of q))
    ∙ ap (λ (r : Record). cell_record s (key_of (visit_mut f (cell_of r)))) eq)

-- the loop of `put_keys`
pub record Keying (n s e : ℕ) (ws₀ ws : List ℕ) (i : ℕ) : Type 0 where
  pub long : 16384 ≤ length ws₀
  pub few : n ≤ 512
  pub inside : e ≤ n
  pub each : (j : ℕ) → s ≤ j → j < i → word_record ws (keys_at + j) ≡ cell_record j (key_in n ws₀ j)
  pub frame : Within keys_from free_at ws₀ ws

pub keying-none : (n s e : ℕ) (ws : List ℕ) → 16384 ≤ length ws → n ≤ 512 → e ≤ n → Keying n s e ws ws s
keying-none n s e ws h few m = record { long = h; few = few; inside = m; each = λ j l m. absurd (omega arith); frame = within_none keys_from free_at ws }

module _ (n s e : ℕ) (ws₀ ws : List ℕ) (i : ℕ) (g : Keying n s e ws₀ ws i) where
  pub keying-more : (ws' : List ℕ) → ws' ≡ store_words ws (keys_at + i) (cell_record i (key_in n ws i)) → i < e → Keying n s e ws₀ ws' (i + 1)
  keying-more ws' f l =
      let few : n ≤ 512 = g.few in
      let m : e ≤ n = g.inside in
      let long : 16384 ≤ length ws = let h : 16384 ≤ length ws₀ = g.long in omega (arith, g.frame.same) in
      let key : key_in n ws i ≡ key_in n ws₀ i = key-stays keys_from free_at n ws₀ ws (omega arith) few g.frame i (omega arith) in
      let r : Record = cell_record i (key_in n ws₀ i) in
      subst (λ (vs : List ℕ). Keying n s e ws₀ vs (i + 1)) (sym (f ∙ ap (λ (d : Cell). store_words ws (keys_at + i) (cell_record i d)) key)) (record {
        long = g.long;
        few = few;
        inside = m;
        each = λ j a b. go j a b long (omega arith) (dec_lt j i);
        frame = within-then keys_from free_at ws₀ ws (store_words ws (keys_at + i) r) g.frame
            (within_wider ((keys_at + i) * 4) ((keys_at + i) * 4 + 4) keys_from free_at ws (store_words ws (keys_at + i) r) (omega arith) (omega arith) (store-within ws (keys_at + i) r));
      })
    where
      go : (j : ℕ) → s ≤ j → j < i + 1 → 16384 ≤ length ws → i < 512 → Dec (j < i)
          → word_record (store_words ws (keys_at + i) (cell_record i (key_in n ws₀ i))) (keys_at + j) ≡ cell_record j (key_in n ws₀ j)
      go j a b long h (yes k) = stored_other ws (keys_at + i) (cell_record i (key_in n ws₀ i)) (keys_at + j) (λ z. absurd (omega arith)) ∙ g.each j a k
      go j a b long h (no k) =
          let z : i ≡ j = omega arith in
          subst (λ (v : ℕ). word_record (store_words ws (keys_at + i) (cell_record i (key_in n ws₀ i))) (keys_at + v) ≡ cell_record v (key_in n ws₀ v)) z
          (stored_same ws (keys_at + i) (cell_record i (key_in n ws₀ i)) (omega arith) (cell-sized i (key_in n ws₀ i) (omega arith)))

  pub keying-all : e ≤ i → Keys n s e ws₀ ws
  keying-all h = record { each = λ j a b. g.each j a (omega arith); frame = g.frame }
