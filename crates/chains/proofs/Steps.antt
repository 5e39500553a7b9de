-- The lists over clearing, over an item that is in none, and over changes beside their areas. Assumes nothing.
use mathlib.Core.Path.{◌≡◌, sym, ap, ◌∙◌, subst}
use mathlib.Core.Bool.{true, ◌&&◌}
use mathlib.Core.List.{List}
use mathlib.Core.Logic.{inl, inr, ⊎_elim}
use Prim.Native.Nat.{ℕ, ◌+◌, ◌*◌, ◌<◌, ◌≤◌}
use native.Mathlib.Omega.{arith}
use native.Mathlib.Decide.{dec_lt}
use lib.Dec.{leb}
use lib.ListN.{length, get_or}
use borrow.Author.Tests.{leb-true}
use Rattle.basics.proofs.Truth.{or-either, and_both}
use Rattle.netlist.specs.inner.Areas.{word_record, Within}
use Rattle.chains.specs.declared.Chains.{Chains}
use Rattle.chains.specs.Chains.{least_from, item_of, Chained, apart, fits, Beside, Only}
use Rattle.chains.proofs.Firsts.{least-none, least-other, least-classes}

-- what `fits` says of words
pub record Fits (c : Chains) (n : ℕ) (ws : List ℕ) : Type 0 where
  pub heads_tails : (i j : ℕ) → i < c.classes → j < c.classes → c.heads.0 + i ≡ c.tails.0 + j → ⊥
  pub heads_links : (i j : ℕ) → i < c.classes → j < n → c.heads.0 + i ≡ c.links.0 + j → ⊥
  pub tails_links : (i j : ℕ) → i < c.classes → j < n → c.tails.0 + i ≡ c.links.0 + j → ⊥
  pub heads : c.heads.0 + c.classes ≤ length ws
  pub tails : c.tails.0 + c.classes ≤ length ws
  pub links : c.links.0 + n ≤ length ws

parted : (a n b m : ℕ) → apart a n b m ≡ true → (i j : ℕ) → i < n → j < m → a + i ≡ b + j → ⊥
unfolding apart
parted a n b m e i j l k q =
    or-either (leb (a + n) b) (leb (b + m) a) e
    (λ h. let f : a + n ≤ b = leb-true (a + n) b h in omega arith)
    (λ h. let f : b + m ≤ a = leb-true (b + m) a h in omega arith)

pub fitting : (c : Chains) (n words : ℕ) → fits c n words ≡ true → (ws : List ℕ) → words ≤ length ws → Fits c n ws
unfolding fits
fitting c n words e ws long =
    let P = apart c.heads.0 c.classes c.tails.0 c.classes in
    let Q = apart c.heads.0 c.classes c.links.0 n in
    let R = apart c.tails.0 c.classes c.links.0 n in
    let H = leb (c.heads.0 + c.classes) words in
    let T = leb (c.tails.0 + c.classes) words in
    let l = and_both (P && Q && R && H && T) (leb (c.links.0 + n) words) e in
    let t = and_both (P && Q && R && H) T l.0 in
    let h = and_both (P && Q && R) H t.0 in
    let r = and_both (P && Q) R h.0 in
    let q = and_both P Q r.0 in
    let heads : c.heads.0 + c.classes ≤ words = leb-true (c.heads.0 + c.classes) words h.1 in
    let tails : c.tails.0 + c.classes ≤ words = leb-true (c.tails.0 + c.classes) words t.1 in
    let links : c.links.0 + n ≤ words = leb-true (c.links.0 + n) words l.1 in
    record {
      heads_tails = parted c.heads.0 c.classes c.tails.0 c.classes q.0;
      heads_links = parted c.heads.0 c.classes c.links.0 n q.1;
      tails_links = parted c.tails.0 c.classes c.links.0 n r.1;
      heads = omega arith;
      tails = omega arith;
      links = omega arith;
    }

-- of no items
pub chained-cleared : (c : Chains) (class : ℕ → ℕ) (ws : List ℕ) → ((b : ℕ) → b < c.classes → get_or ws (c.heads.0 + b) 0 ≡ 0) → Chained c class 0 ws
chained-cleared c class ws blank = record {
  head = λ b l. ap item_of (blank b l) ∙ sym (least-none class b 0 0 (λ j k m. absurd (omega arith)));
  next = λ i l. absurd (omega arith);
  tail = λ i l. absurd (omega arith);
}

-- where all words of the lists are as they were
module _ (c : Chains) (class : ℕ → ℕ) (k : ℕ) (ws ws' : List ℕ) (g : Chained c class k ws)
    (heads : (b : ℕ) → b < c.classes → get_or ws' (c.heads.0 + b) 0 ≡ get_or ws (c.heads.0 + b) 0)
    (tails : (b : ℕ) → b < c.classes → get_or ws' (c.tails.0 + b) 0 ≡ get_or ws (c.tails.0 + b) 0)
    (links : (i : ℕ) → i < k → get_or ws' (c.links.0 + i) 0 ≡ get_or ws (c.links.0 + i) 0) where
  chained-same : Chained c class k ws'
  chained-same = record {
    head = λ b l. ap item_of (heads b l) ∙ g.head b l;
    next = λ i l m. ap item_of (links i l) ∙ g.next i l m;
    tail = λ i l m e. tails (class i) m ∙ g.tail i l m e;
  }

-- over a change beside the areas
pub chained-beside : (c : Chains) (class : ℕ → ℕ) (k n : ℕ) (ws ws' : List ℕ) (from to : ℕ) → Within from to ws ws' → Beside c n from to → k ≤ n
    → Chained c class k ws → Chained c class k ws'
chained-beside c class k n ws ws' from to w apart few g =
    chained-same c class k ws ws' g
    (λ b l. ⊎_elim (λ h. w.after (c.heads.0 + b) (omega arith)) (λ h. w.before (c.heads.0 + b) (omega arith)) apart.0)
    (λ b l. ⊎_elim (λ h. w.after (c.tails.0 + b) (omega arith)) (λ h. w.before (c.tails.0 + b) (omega arith)) apart.1)
    (λ i l. ⊎_elim (λ h. w.after (c.links.0 + i) (omega arith)) (λ h. w.before (c.links.0 + i) (omega arith)) apart.2)

-- over an item that is in no list
pub chained-skipped : (c : Chains) (class : ℕ → ℕ) (k : ℕ) (ws : List ℕ) → c.classes ≤ class k → Chained c class k ws → Chained c class (k + 1) ws
chained-skipped c class k ws none g = record {
  head = λ b l. g.head b l ∙ sym (least-other class b 0 k (λ e. absurd (omega arith)));
  next = λ i l m. g.next i (before i l m) m ∙ sym (least-other class (class i) (i + 1) k (λ e. absurd (omega arith)));
  tail = λ i l m e. g.tail i (before i l m) m (sym (least-other class (class i) (i + 1) k (λ q. absurd (omega arith))) ∙ e);
}
  where
    before : (i : ℕ) → i < k + 1 → class i < c.classes → i < k
    before i l m = go (dec_lt i k)
      where
        go : Dec (i < k) → i < k
        go (yes a) = a
        go (no a) = let q : i ≡ k = omega arith in let f : class i ≡ class k = ap class q in absurd (omega arith)

-- only the classes of those k items count: a class function that reads the words may go by the present ones
pub chained-classes : (c : Chains) (class class' : ℕ → ℕ) (k : ℕ) (ws : List ℕ) → Chained c class k ws → ((i : ℕ) → i < k → class' i ≡ class i) → Chained c class' k ws
chained-classes c class class' k ws g same = record {
  head = λ b l. g.head b l ∙ sym (least-classes class class' b 0 k same);
  next = λ i l m. g.next i l (of i l m) ∙ sym (moved i l);
  tail = λ i l m e. ap (λ (x : ℕ). get_or ws (c.tails.0 + x) 0) (same i l) ∙ g.tail i l (of i l m) (sym (moved i l) ∙ e);
}
  where
    of : (i : ℕ) → i < k → class' i < c.classes → class i < c.classes
    of i l m = subst (λ (x : ℕ). x < c.classes) (same i l) m

    moved : (i : ℕ) → i < k → least_from class' (class' i) (i + 1) k ≡ least_from class (class i) (i + 1) k
    moved i l = ap (λ (x : ℕ). least_from class' x (i + 1) k) (same i l) ∙ least-classes class class' (class i) (i + 1) k same

-- what changes in the three areas alone leave as it was
pub cleared-only : (c : Chains) (n : ℕ) (ws ws' : List ℕ) → Within c.heads.0 (c.heads.0 + c.classes) ws ws' → Only c n ws ws'
cleared-only c n ws ws' w = record {
  others = λ x h. ⊎_elim (λ (l : x + 1 ≤ c.heads.0). w.before x (omega arith)) (λ (l : c.heads.0 + c.classes ≤ x). w.after x l) h.0;
  same = w.same;
}

module _ (c : Chains) (n : ℕ) (ws ws' : List ℕ) (o : Only c n ws ws') where
  pub only-within : (from to : ℕ) → from ≤ c.heads.0 → c.heads.0 + c.classes ≤ to → from ≤ c.tails.0 → c.tails.0 + c.classes ≤ to
      → from ≤ c.links.0 → c.links.0 + n ≤ to → Within from to ws ws'
  only-within from to h h' t t' l l' = record {
    before = λ i m. o.others i (inl (omega arith), inl (omega arith), inl (omega arith));
    after = λ i m. o.others i (inr (omega arith), inr (omega arith), inr (omega arith));
    same = o.same;
  }

  pub only-record : (s : ℕ) → Beside c n (s * 4) (s * 4 + 4) → word_record ws' s ≡ word_record ws s
  unfolding word_record
  only-record s h =
      let at : (i : ℕ) → s * 4 ≤ i → i < s * 4 + 4 → get_or ws' i 0 ≡ get_or ws i 0 =
      λ i l m. o.others i (
        ⊎_elim (λ (x : s * 4 + 4 ≤ c.heads.0). inl (omega arith)) (λ (x : c.heads.0 + c.classes ≤ s * 4). inr (omega arith)) h.0,
        ⊎_elim (λ (x : s * 4 + 4 ≤ c.tails.0). inl (omega arith)) (λ (x : c.tails.0 + c.classes ≤ s * 4). inr (omega arith)) h.1,
        ⊎_elim (λ (x : s * 4 + 4 ≤ c.links.0). inl (omega arith)) (λ (x : c.links.0 + n ≤ s * 4). inr (omega arith)) h.2,
      ) in
      rw (
        at (s * 4) (omega arith) (omega arith),
        at (s * 4 + 1) (omega arith) (omega arith),
        at (s * 4 + 2) (omega arith) (omega arith),
        at (s * 4 + 3) (omega arith) (omega arith),
      )
