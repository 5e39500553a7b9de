-- Words that a call leaves as they were. Assumes nothing.
use mathlib.Core.Path.{◌≡◌, refl, sym, ap, ◌∙◌}
use mathlib.Core.Bool.{not}
use mathlib.Core.List.{List}
use mathlib.Core.Logic.{◌⊎◌, inl, ⊎_elim}
use Prim.Native.Nat.{ℕ, zero, suc, ◌+◌, ◌-◌, ◌*◌, ◌<◌, ◌≤◌}
use native.Mathlib.Omega.{arith}
use lib.Dec.{eqb}
use lib.ListN.{get_or, set, drop, length-set, length-drop, get_or-eq_default}
use native.Mathlib.Decide.{dec_lt}
use lib.Seq.{get_or-set_other, get_or-drop, ext_get_or}
use Rattle.basics.specs.Lists.{tabulate}
use Rattle.basics.proofs.Tables.{tabulate-length, tabulate-at}
use Rattle.netlist.specs.inner.Areas.{word_record, records_in, words_in, marks_in, Within}

pub within_none : (from to : ℕ) (ws : List ℕ) → Within from to ws ws
within_none from to ws = record { before = λ i h. refl; after = λ i h. refl; same = refl }

pub within-then : (from to : ℕ) (ws ws' ws'' : List ℕ) → Within from to ws ws' → Within from to ws' ws'' → Within from to ws ws''
within-then from to ws ws' ws'' p q = record {
  before = λ i h. q.before i h ∙ p.before i h;
  after = λ i h. q.after i h ∙ p.after i h;
  same = q.same ∙ p.same;
}

pub within_wider : (from to from' to' : ℕ) (ws ws' : List ℕ) → from' ≤ from → to ≤ to' → Within from to ws ws' → Within from' to' ws ws'
within_wider from to from' to' ws ws' l m p = record { before = λ i h. p.before i (omega arith); after = λ i h. p.after i (omega arith); same = p.same }

pub within-set : (from to : ℕ) (ws : List ℕ) (i v : ℕ) → from ≤ i → i < to → Within from to ws (set ws i v)
within-set from to ws i v l m = record {
  before = λ j h. get_or-set_other ws i j v 0 (λ e. absurd (omega arith));
  after = λ j h. get_or-set_other ws i j v 0 (λ e. absurd (omega arith));
  same = length-set ws i v;
}

pub within-drop : (from to k : ℕ) (ws ws' : List ℕ) → to ≤ k → Within from to ws ws' → drop k ws' ≡ drop k ws
within-drop from to k ws ws' l p =
    ext_get_or 0 (drop k ws') (drop k ws) (length-drop k ws' ∙ ap (λ (m : ℕ). m - k) p.same ∙ sym (length-drop k ws))
    (λ i h. get_or-drop k ws' i 0 ∙ p.after (k + i) (omega arith) ∙ sym (get_or-drop k ws i 0))

-- tables that agree at each place below n
pub tabulate-same : {A : Type 0} (f g : ℕ → A) (n : ℕ) → ((i : ℕ) → i < n → f i ≡ g i) → tabulate f n ≡ tabulate g n
unfolding tabulate
tabulate-same f g zero h = refl
tabulate-same f g (suc n) h = rw (tabulate-same f g n (λ i l. h i (omega arith)), h n (omega arith))

-- a word outside of what changed
module _ (from to : ℕ) (ws ws' : List ℕ) (p : Within from to ws ws') where
  pub word_kept : (i : ℕ) → (i < from) ⊎ (to ≤ i) → get_or ws' i 0 ≡ get_or ws i 0
  word_kept i h = ⊎_elim (λ l. p.before i l) (λ l. p.after i l) h

  -- areas that lie before or after what changed
  module _ (base n : ℕ) (apart : (base + n ≤ from) ⊎ (to ≤ base)) where
    place_kept : (i : ℕ) → i < n → get_or ws' (base + i) 0 ≡ get_or ws (base + i) 0
    place_kept i l = ⊎_elim (λ h. p.before (base + i) (omega arith)) (λ h. p.after (base + i) (omega arith)) apart

    pub words-kept : words_in base n ws' ≡ words_in base n ws
    unfolding words_in
    words-kept = tabulate-same (λ i. get_or ws' (base + i) 0) (λ i. get_or ws (base + i) 0) n place_kept

    pub marks-kept : marks_in base n ws' ≡ marks_in base n ws
    unfolding marks_in
    marks-kept =
        tabulate-same (λ i. not (eqb (get_or ws' (base + i) 0) 0)) (λ i. not (eqb (get_or ws (base + i) 0) 0)) n
        (λ i l. ap (λ (x : ℕ). not (eqb x 0)) (place_kept i l))

  pub record-kept : (s : ℕ) → (s * 4 + 4 ≤ from) ⊎ (to ≤ s * 4) → word_record ws' s ≡ word_record ws s
  unfolding word_record
  record-kept s h =
      let at : (i : ℕ) → s * 4 ≤ i → i < s * 4 + 4 → get_or ws' i 0 ≡ get_or ws i 0 =
      λ i l m. ⊎_elim (λ k. p.before i (omega arith)) (λ k. p.after i (omega arith)) h in
      rw (
        at (s * 4) (omega arith) (omega arith),
        at (s * 4 + 1) (omega arith) (omega arith),
        at (s * 4 + 2) (omega arith) (omega arith),
        at (s * 4 + 3) (omega arith) (omega arith),
      )

  pub records-kept : (n : ℕ) → n * 4 ≤ from → records_in n ws' ≡ records_in n ws
  unfolding records_in
  records-kept n h = tabulate-same (word_record ws') (word_record ws) n (λ i l. record-kept i (inl (omega arith)))

-- a word of an area's first n, and d past them
module _ (base n : ℕ) (ws : List ℕ) (s : ℕ) where
  pub word-inside : (d : ℕ) → s < n → (w : ℕ) → w ≡ get_or ws (base + s) 0 → w ≡ get_or (words_in base n ws) s d
  unfolding words_in
  word-inside d l w e = e ∙ sym (tabulate-at (λ i. get_or ws (base + i) 0) n d s l)

  pub word-past : (d : ℕ) → n ≤ s → d ≡ get_or (words_in base n ws) s d
  unfolding words_in
  word-past d l = sym (get_or-eq_default (words_in base n ws) d (omega (arith, tabulate-length (λ (i : ℕ). get_or ws (base + i) 0) n)))

  -- so of what a function makes of the words
  pub word-as : {A : Type 0} (g : ℕ → A) (d : ℕ) → get_or (tabulate (λ i. g (get_or ws (base + i) 0)) n) s (g d) ≡ g (get_or (words_in base n ws) s d)
  word-as {A} g d = go (dec_lt s n)
    where
      table : ℕ → A
      table i = g (get_or ws (base + i) 0)

      go : Dec (s < n) → get_or (tabulate table n) s (g d) ≡ g (get_or (words_in base n ws) s d)
      go (yes l) = tabulate-at table n (g d) s l ∙ ap g (word-inside d l (get_or ws (base + s) 0) refl)
      go (no l) =
          get_or-eq_default (tabulate table n) (g d) (omega (arith, tabulate-length table n)) ∙ ap g (word-past d (omega arith))
