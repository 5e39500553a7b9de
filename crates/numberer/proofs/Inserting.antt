-- Keys entered, and the areas of the numberer after stores into others. Assumes nothing.
use mathlib.Core.Path.{◌≡◌, sym, ap, ◌∙◌, subst}
use mathlib.Core.List.{List, [], ◌∷◌, ◌++◌}
use mathlib.Core.Logic.{◌⊎◌, inl, inr, ⊎_elim}
use Prim.Native.Nat.{ℕ, ◌+◌, ◌*◌, ◌≤◌, ◌<◌}
use native.Mathlib.Omega.{arith}
use native.Mathlib.Numerals.{add-one}
use native.Mathlib.Decide.{dec_lt}
use lib.ListN.{length, get_or, set}
use lib.Seq.{get_or-set_same}
use Rattle.cell.specs.declared.Record.{Record}
use Rattle.cell.specs.declared.Cell.{Cell}
use Rattle.cell.specs.Records.{cell_record}
use Rattle.basics.specs.Lists.{tabulate}
use Rattle.cell.proofs.RoundTrips.{cell-back}
use Rattle.netlist.specs.inner.Areas.{word_record, store_words, Within, keys_from, mixes_at, numberer_at, numberer_from}
use Rattle.netlist.proofs.Frames.{within-then, within_wider, within-set, tabulate-same, word_kept, record-kept}
use Rattle.netlist.proofs.Areas.{Sized, store-within, stored_other, stored_same}
use Rattle.design.specs.Queue.{net_in}
use Rattle.numberer.specs.inner.Words.{mix_of, entry_of, numberer_in, IsCell, Entered, MixedAt, Mixed, Inserts}
use Rattle.numberer.proofs.Records.{bit-of, is-cell, cell-sized}

-- a store that reaches neither the first k keys nor their numbers
module _ (from to : ℕ) (ws ws' : List ℕ) (w : Within from to ws ws') (k : ℕ) (apart : (to ≤ mixes_at) ⊎ (numberer_from + k * 4 ≤ from)) where
  entry-stays : (i : ℕ) → i < k → word_record ws' (numberer_at + i) ≡ word_record ws (numberer_at + i)
  entry-stays i l = record-kept from to ws ws' w (numberer_at + i) (⊎_elim (λ h. inr (omega arith)) (λ h. inl (omega arith)) apart)

  mix-stays : (i : ℕ) → i < k → get_or ws' (mixes_at + i) 0 ≡ get_or ws (mixes_at + i) 0
  mix-stays i l = word_kept from to ws ws' w (mixes_at + i) (⊎_elim (λ h. inr (omega arith)) (λ h. inl (omega arith)) apart)

  pub numberer-stays : numberer_in k ws' ≡ numberer_in k ws
  unfolding numberer_in
  numberer-stays =
      tabulate-same (λ i. entry_of (word_record ws' (numberer_at + i))) (λ i. entry_of (word_record ws (numberer_at + i))) k (λ i l. ap entry_of (entry-stays i l))

  pub entered-stays : Entered k ws → Entered k ws'
  entered-stays en = record { each = λ i l. subst IsCell (sym (entry-stays i l)) (en.each i l) }

  pub mixed-stays : Mixed k ws → Mixed k ws'
  mixed-stays m = record { each = λ i l. mix-stays i l ∙ m.each i l ∙ sym (ap mix_of (entry-stays i l)) }

-- none is entered
pub entered-none : (ws : List ℕ) → Entered 0 ws
entered-none ws = record { each = λ i l. absurd (omega arith) }

pub mixed-none : (ws : List ℕ) → Mixed 0 ws
mixed-none ws = record { each = λ i l. absurd (omega arith) }

module _ (ws : List ℕ) (k : ℕ) (key : Record) (s : ℕ) (c : Cell) (key-is : key ≡ cell_record s c) (ws' : List ℕ)
    (put : ws' ≡ set (store_words ws (numberer_at + k) key) (mixes_at + k) (mix_of key)) (long : 16384 ≤ length ws) (room : k < 1024) (small : s < 1024) where
  abbrev between : List ℕ
  between = store_words ws (numberer_at + k) key

  within-store : Within ((numberer_at + k) * 4) ((numberer_at + k) * 4 + 4) ws between
  within-store = store-within ws (numberer_at + k) key

  within-put : Within (mixes_at + k) (mixes_at + k + 1) between ws'
  within-put =
      subst (λ (vs : List ℕ). Within (mixes_at + k) (mixes_at + k + 1) between vs) (sym put)
      (within-set (mixes_at + k) (mixes_at + k + 1) between (mixes_at + k) (mix_of key) (omega arith) (omega arith))

  key-stays : (i : ℕ) → word_record ws' (numberer_at + i) ≡ word_record between (numberer_at + i)
  key-stays i = record-kept (mixes_at + k) (mixes_at + k + 1) between ws' within-put (numberer_at + i) (inr (omega arith))

  key-there : word_record ws' (numberer_at + k) ≡ key
  key-there = key-stays k ∙ stored_same ws (numberer_at + k) key (omega arith) (subst Sized (sym key-is) (cell-sized s c (omega arith)))

  key-before : (i : ℕ) → i < k → word_record ws' (numberer_at + i) ≡ word_record ws (numberer_at + i)
  key-before i l = key-stays i ∙ stored_other ws (numberer_at + k) key (numberer_at + i) (λ e. absurd (omega arith))

  numberer-more : numberer_in (k + 1) ws' ≡ numberer_in k ws ++ ((c, net_in s) ∷ [])
  unfolding numberer_in tabulate
  numberer-more =
      rw (
        add-one k,
        tabulate-same (λ i. entry_of (word_record ws' (numberer_at + i))) (λ i. entry_of (word_record ws (numberer_at + i))) k (λ i l. ap entry_of (key-before i l)),
        key-there,
        key-is,
        cell-back s c,
        bit-of s c,
      )

  entered-more : Entered k ws → Entered (k + 1) ws'
  entered-more en = record { each = λ i l. go i l (dec_lt i k) }
    where
      go : (i : ℕ) → i < k + 1 → Dec (i < k) → IsCell (word_record ws' (numberer_at + i))
      go i l (yes m) = subst IsCell (sym (key-before i m)) (en.each i m)
      go i l (no m) =
          let q : k ≡ i = omega arith in
          subst (λ (j : ℕ). IsCell (word_record ws' (numberer_at + j))) q (is-cell (word_record ws' (numberer_at + k)) s c (key-there ∙ key-is))

  mixed-more : Mixed k ws → Mixed (k + 1) ws'
  mixed-more mx = record { each = λ i l. go i l (dec_lt i k) }
    where
      go : (i : ℕ) → i < k + 1 → Dec (i < k) → MixedAt i ws'
      go i l (yes m) =
          word_kept (mixes_at + k) (mixes_at + k + 1) between ws' within-put (mixes_at + i) (inl (omega arith))
          ∙ word_kept ((numberer_at + k) * 4) ((numberer_at + k) * 4 + 4) ws between within-store (mixes_at + i) (inl (omega arith))
          ∙ mx.each i m ∙ sym (ap mix_of (key-before i m))
      go i l (no m) =
          let q : k ≡ i = omega arith in
          subst (λ (j : ℕ). MixedAt j ws') q
          (ap (λ (vs : List ℕ). get_or vs (mixes_at + k) 0) put
          ∙ get_or-set_same between (mixes_at + k) (mix_of key) 0 (omega (arith, within-store.same)) ∙ sym (ap mix_of key-there))

  pub inserts : Inserts k s c ws ws'
  inserts = record {
    said = numberer-more;
    entered = entered-more;
    mixed = mixed-more;
    frame = within-then mixes_at keys_from ws between ws'
        (within_wider ((numberer_at + k) * 4) ((numberer_at + k) * 4 + 4) mixes_at keys_from ws between (omega arith) (omega arith) within-store)
        (within_wider (mixes_at + k) (mixes_at + k + 1) mixes_at keys_from between ws' (omega arith) (omega arith) within-put);
  }
