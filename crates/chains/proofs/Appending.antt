-- An item appended to the list of its class. Assumes nothing.
use Rattle.std.specs.Prelude.{Option, Some, None}
use mathlib.Core.Path.{◌≡◌, refl, sym, ap, ◌∙◌, subst}
use mathlib.Core.List.{List}
use mathlib.Core.Logic.{◌⊎◌, inl, inr, ⊎_elim}
use mathlib.Core.Bool.{true}
use Prim.Native.Nat.{ℕ, zero, suc, ◌+◌, ◌-◌, ◌<◌, ◌≤◌}
use native.Mathlib.Omega.{arith}
use native.Mathlib.Decide.{dec_lt}
use lib.Dec.{eqb}
use lib.ListN.{length, get_or, set, length-set}
use lib.Seq.{get_or-set_same, get_or-set_other}
use borrow.Author.Tests.{eqb-true, eqb-false, ne_eqb}
use Rattle.basics.proofs.Truth.{either}
use Rattle.chains.specs.declared.Chains.{Chains}
use Rattle.chains.specs.Chains.{least_from, item_of, first_in, next_in, Chained, appended, fits, Beside, Only}
use Rattle.chains.proofs.Firsts.{Least, Last, least-has, least-lacks, least-is, least-none, least-stays, least-other, last-of}
use Rattle.chains.proofs.Steps.{Fits, fitting}

-- three stores
module _ (ws : List ℕ) (p q r u v w : ℕ) where
  stores : List ℕ
  stores = set (set (set ws p u) q v) r w

  stores-length : length stores ≡ length ws
  unfolding stores
  stores-length = simp length-set

  stores-other : (x : ℕ) → (x ≡ p → ⊥) → (x ≡ q → ⊥) → (x ≡ r → ⊥) → get_or stores x 0 ≡ get_or ws x 0
  unfolding stores
  stores-other x a b d = get_or-set_other (set (set ws p u) q v) r x w 0 d ∙ get_or-set_other (set ws p u) q x v 0 b ∙ get_or-set_other ws p x u 0 a

  stores-first : p < length ws → (p ≡ q → ⊥) → (p ≡ r → ⊥) → get_or stores p 0 ≡ u
  unfolding stores
  stores-first l b d = get_or-set_other (set (set ws p u) q v) r p w 0 d ∙ get_or-set_other (set ws p u) q p v 0 b ∙ get_or-set_same ws p u 0 l

  stores-second : q < length ws → (q ≡ r → ⊥) → get_or stores q 0 ≡ v
  unfolding stores
  stores-second l d = get_or-set_other (set (set ws p u) q v) r q w 0 d ∙ get_or-set_same (set ws p u) q v 0 (simp length-set l)

  stores-third : r < length ws → get_or stores r 0 ≡ w
  unfolding stores
  stores-third l = get_or-set_same (set (set ws p u) q v) r w 0 (simp length-set l)

item-of-more : (k : ℕ) → item_of (k + 1) ≡ Some k
item-of-more k = let e : k + 1 ≡ suc k = omega arith in rw e

module _ (c : Chains) (class : ℕ → ℕ) (k n : ℕ) (ws : List ℕ) (f : Fits c n ws) (room : k < n) (b : ℕ) (own : class k ≡ b) (small : b < c.classes)
    (g : Chained c class k ws) where
  -- the words, where the item's number goes into the head, or into the link of the last item
  abbrev after : ℕ → List ℕ
  after q = stores ws (c.links.0 + k) q (c.tails.0 + b) 0 (k + 1) (k + 1)

  first-after : first_in c ws b ≡ None → appended c ws k b ≡ after (c.heads.0 + b)
  unfolding appended stores
  first-after e = go (get_or ws (c.heads.0 + b) 0) refl
    where
      go : (x : ℕ) → get_or ws (c.heads.0 + b) 0 ≡ x → appended c ws k b ≡ after (c.heads.0 + b)
      go zero q = rw q
      go (suc x) q = let z : Some x ≡ None = sym (ap item_of q) ∙ e in absurd (cc)

  later-after : (h m : ℕ) → first_in c ws b ≡ Some h → get_or ws (c.tails.0 + b) 0 ≡ m + 1 → appended c ws k b ≡ after (c.links.0 + m)
  unfolding appended stores
  later-after h m e t = go (get_or ws (c.heads.0 + b) 0) refl
    where
      go : (x : ℕ) → get_or ws (c.heads.0 + b) 0 ≡ x → appended c ws k b ≡ after (c.links.0 + m)
      go zero q = let z : None ≡ Some h = sym (ap item_of q) ∙ e in absurd (cc)
      go (suc x) q = let s : m + 1 - 1 ≡ m = omega arith in rw (q, ne_eqb (suc x) 0 (λ z. absurd (omega arith)), t, s)

  -- only the areas are changed
  after-only : (q : ℕ) → ((x : ℕ) → Beside c n x (x + 1) → x ≡ q → ⊥) → Only c n ws (after q)
  after-only q away = record {
    others = λ x h. stores-other ws (c.links.0 + k) q (c.tails.0 + b) 0 (k + 1) (k + 1) x
        (λ z. ⊎_elim (λ (l : x + 1 ≤ c.links.0). absurd (omega arith)) (λ (l : c.links.0 + n ≤ x). absurd (omega arith)) h.2)
        (away x h)
        (λ z. ⊎_elim (λ (l : x + 1 ≤ c.tails.0). absurd (omega arith)) (λ (l : c.tails.0 + c.classes ≤ x). absurd (omega arith)) h.1);
    same = stores-length ws (c.links.0 + k) q (c.tails.0 + b) 0 (k + 1) (k + 1);
  }

  -- an item of another class is not k
  before : (i : ℕ) → i < k + 1 → (class i ≡ b → ⊥) → i < k
  before i l h = go (dec_lt i k)
    where
      go : Dec (i < k) → i < k
      go (yes a) = a
      go (no a) = let q : i ≡ k = omega arith in absurd (h (ap class q ∙ own))

  -- what both ways have in common: the middle store, into q, changes neither the link of item k, nor a tail, nor what other classes have
  module _ (q : ℕ) (links-away : (i : ℕ) → i < n → (class i ≡ b → ⊥) ⊎ (i ≡ k) → c.links.0 + i ≡ q → ⊥)
      (heads-away : (x : ℕ) → x < c.classes → (x ≡ b → ⊥) → c.heads.0 + x ≡ q → ⊥) (tails-away : (x : ℕ) → x < c.classes → c.tails.0 + x ≡ q → ⊥) where
    stays : (x : ℕ) → (x ≡ c.links.0 + k → ⊥) → (x ≡ q → ⊥) → (x ≡ c.tails.0 + b → ⊥) → get_or (after q) x 0 ≡ get_or ws x 0
    stays x = stores-other ws (c.links.0 + k) q (c.tails.0 + b) 0 (k + 1) (k + 1) x

    not-own : (x : ℕ) → (x ≡ b → ⊥) → class k ≡ x → ⊥
    not-own x h e = h (sym e ∙ own)

    module _ (own-head : first_in c (after q) b ≡ least_from class b 0 (k + 1))
        (own-links : (i : ℕ) → i < k → class i ≡ b → next_in c (after q) i ≡ least_from class b (i + 1) (k + 1)) where
      head-after : (x : ℕ) → x < c.classes → first_in c (after q) x ≡ least_from class x 0 (k + 1)
      head-after x l = either (eqb x b) (λ t. same (eqb-true x b t)) (λ t. other (eqb-false x b t))
        where
          same : x ≡ b → first_in c (after q) x ≡ least_from class x 0 (k + 1)
          same e = subst (λ (y : ℕ). first_in c (after q) y ≡ least_from class y 0 (k + 1)) (sym e) own-head

          other : (x ≡ b → ⊥) → first_in c (after q) x ≡ least_from class x 0 (k + 1)
          other h =
              ap item_of (stays (c.heads.0 + x) (f.heads_links x k l room) (heads-away x l h) (f.heads_tails x b l small)) ∙ g.head x l
              ∙ sym (least-other class x 0 k (not-own x h))

      next-after : (i : ℕ) → i < k + 1 → class i < c.classes → next_in c (after q) i ≡ least_from class (class i) (i + 1) (k + 1)
      next-after i l s = either (eqb (class i) b) (λ t. of-class (eqb-true (class i) b t) (dec_lt i k)) (λ t. other (eqb-false (class i) b t))
        where
          of-class : class i ≡ b → Dec (i < k) → next_in c (after q) i ≡ least_from class (class i) (i + 1) (k + 1)
          of-class e (yes a) = own-links i a e ∙ sym (ap (λ (y : ℕ). least_from class y (i + 1) (k + 1)) e)
          of-class e (no a) =
              let z : i ≡ k = omega arith in
              let in_words : c.links.0 + n ≤ length ws = f.links in
              ap (λ (j : ℕ). next_in c (after q) j) z
              ∙ ap item_of (stores-first ws (c.links.0 + k) q (c.tails.0 + b) 0 (k + 1) (k + 1) (omega arith) (links-away k room (inr refl))
              (λ y. f.tails_links b k small room (sym y)))
              ∙ sym (least-none class (class i) (i + 1) (k + 1) (λ j u v. absurd (omega arith)))

          other : (class i ≡ b → ⊥) → next_in c (after q) i ≡ least_from class (class i) (i + 1) (k + 1)
          other h =
              let a : i < k = before i l h in
              ap item_of (stays (c.links.0 + i) (λ e. absurd (omega arith)) (links-away i (omega arith) (inl h))
              (λ e. f.tails_links b i small (omega arith) (sym e)))
              ∙ g.next i a s ∙ sym (least-other class (class i) (i + 1) k (not-own (class i) h))

      tail-after : (i : ℕ) → i < k + 1 → class i < c.classes → least_from class (class i) (i + 1) (k + 1) ≡ None
          → get_or (after q) (c.tails.0 + class i) 0 ≡ i + 1
      tail-after i l s e = either (eqb (class i) b) (λ t. of-class (eqb-true (class i) b t) (dec_lt i k)) (λ t. other (eqb-false (class i) b t))
        where
          of-class : class i ≡ b → Dec (i < k) → get_or (after q) (c.tails.0 + class i) 0 ≡ i + 1
          of-class t (yes a) = absurd ((least-lacks class (class i) (i + 1) (k + 1) e).none k (omega arith) (omega arith) (own ∙ sym t))
          of-class t (no a) =
              let z : k ≡ i = omega arith in
              let in_words : c.tails.0 + c.classes ≤ length ws = f.tails in
              rw t (stores-third ws (c.links.0 + k) q (c.tails.0 + b) 0 (k + 1) (k + 1) (omega arith) ∙ ap (λ (j : ℕ). j + 1) z)

          other : (class i ≡ b → ⊥) → get_or (after q) (c.tails.0 + class i) 0 ≡ i + 1
          other h =
              let a : i < k = before i l h in
              stays (c.tails.0 + class i) (f.tails_links (class i) k s room) (tails-away (class i) s) (λ t. h (omega arith))
              ∙ g.tail i a s (sym (least-other class (class i) (i + 1) k (not-own (class i) h)) ∙ e)

      chained-after : Chained c class (k + 1) (after q)
      chained-after = record { head = head-after; next = next-after; tail = tail-after }

  -- the first of its class
  first-chained : first_in c ws b ≡ None → Chained c class (k + 1) (after (c.heads.0 + b))
  first-chained none =
      let in_words : c.heads.0 + c.classes ≤ length ws = f.heads in
      chained-after (c.heads.0 + b) (λ i l h e. f.heads_links b i small l (sym e)) (λ x l h e. h (omega arith)) (λ x l e. f.heads_tails b x small l (sym e))
      (ap item_of (stores-second ws (c.links.0 + k) (c.heads.0 + b) (c.tails.0 + b) 0 (k + 1) (k + 1) (omega arith) (f.heads_tails b b small small))
      ∙ item-of-more k ∙ sym (least-is class b 0 (k + 1) k (omega arith) (omega arith) own (λ j l m. alone j m)))
      (λ i l e. absurd (alone i l e))
    where
      alone : (j : ℕ) → j < k → class j ≡ b → ⊥
      alone j l e = (least-lacks class b 0 k (sym (g.head b small) ∙ none)).none j (omega arith) l e

  -- one more of its class, behind the last
  module _ (h m : ℕ) (some : first_in c ws b ≡ Some h) (last : Last class b k m) where
    last-tail : get_or ws (c.tails.0 + b) 0 ≡ m + 1
    last-tail =
        ap (λ (x : ℕ). get_or ws (c.tails.0 + x) 0) (sym last.of)
        ∙ g.tail m last.below (subst (λ (x : ℕ). x < c.classes) (sym last.of) small)
        (least-none class (class m) (m + 1) k (λ j u v e. last.after j (omega arith) v (e ∙ last.of)))

    in-links : m < n
    in-links = let below : m < k = last.below in omega arith

    -- the link of an item before the last, and of the last
    link-after : (i : ℕ) → i < k → class i ≡ b → next_in c (after (c.links.0 + m)) i ≡ least_from class b (i + 1) (k + 1)
    link-after i l e = go (dec_lt i m) (dec_lt m i)
      where
        more : (o : Option ℕ) → i < m → least_from class b (i + 1) k ≡ o → least_from class b (i + 1) (k + 1) ≡ least_from class b (i + 1) k
        more None a t = absurd ((least-lacks class b (i + 1) k t).none m (omega arith) last.below last.of)
        more (Some x) a t = least-stays class b (i + 1) k x t ∙ sym t

        go : Dec (i < m) → Dec (m < i) → next_in c (after (c.links.0 + m)) i ≡ least_from class b (i + 1) (k + 1)
        go (yes a) d =
            ap item_of (stores-other ws (c.links.0 + k) (c.links.0 + m) (c.tails.0 + b) 0 (k + 1) (k + 1) (c.links.0 + i)
            (λ t. absurd (omega arith)) (λ t. absurd (omega arith)) (λ t. f.tails_links b i small (omega arith) (sym t)))
            ∙ g.next i l (subst (λ (x : ℕ). x < c.classes) (sym e) small) ∙ ap (λ (x : ℕ). least_from class x (i + 1) k) e
            ∙ sym (more (least_from class b (i + 1) k) a refl)
        go (no a) (yes d) = absurd (last.after i d l e)
        go (no a) (no d) =
            let z : i ≡ m = omega arith in
            let in_words : c.links.0 + n ≤ length ws = f.links in
            ap (λ (j : ℕ). next_in c (after (c.links.0 + m)) j) z
            ∙ ap item_of (stores-second ws (c.links.0 + k) (c.links.0 + m) (c.tails.0 + b) 0 (k + 1) (k + 1) (omega arith)
            (λ t. f.tails_links b m small in-links (sym t)))
            ∙ item-of-more k ∙ sym (least-is class b (i + 1) (k + 1) k (omega arith) (omega arith) own (λ j u v. last.after j (omega arith) v))

    later-chained : Chained c class (k + 1) (after (c.links.0 + m))
    later-chained =
        let below : m < k = last.below in
        chained-after (c.links.0 + m)
        (λ i l d e. let z : i ≡ m = omega arith in ⊎_elim (λ t. t (ap class z ∙ last.of)) (λ (t : i ≡ k). absurd (omega arith)) d)
        (λ x l d e. f.heads_links x m l in-links e) (λ x l e. f.tails_links x m l in-links e)
        (ap item_of (stores-other ws (c.links.0 + k) (c.links.0 + m) (c.tails.0 + b) 0 (k + 1) (k + 1) (c.heads.0 + b)
        (f.heads_links b k small room) (f.heads_links b m small in-links) (f.heads_tails b b small small))
        ∙ some ∙ sym (least-stays class b 0 k h (sym (g.head b small) ∙ some)))
        link-after

  -- by whether the class has an item
  by-head : (o : Option ℕ) → first_in c ws b ≡ o → Chained c class (k + 1) (appended c ws k b) × Only c n ws (appended c ws k b)
  by-head None none =
      rw (first-after none) (
        first-chained none,
        after-only (c.heads.0 + b)
            (λ x h e. ⊎_elim (λ (l : x + 1 ≤ c.heads.0). absurd (omega arith)) (λ (l : c.heads.0 + c.classes ≤ x). absurd (omega arith)) h.0),
      )
  by-head (Some h) some = behind (last-of class b k h there.below there.of)
    where
      there : Least class b 0 k h
      there = least-has class b 0 k h (sym (g.head b small) ∙ some)

      behind : (m : ℕ) × Last class b k m → Chained c class (k + 1) (appended c ws k b) × Only c n ws (appended c ws k b)
      behind (m, last) =
          rw (later-after h m some (last-tail h m some last)) (
            later-chained h m some last,
            after-only (c.links.0 + m)
                (λ x a e. let below : m < k = last.below in
                ⊎_elim (λ (l : x + 1 ≤ c.links.0). absurd (omega arith)) (λ (l : c.links.0 + n ≤ x). absurd (omega arith)) a.2),
          )

module _ (c : Chains) (class : ℕ → ℕ) (k n words : ℕ) (ws ws' : List ℕ) (b : ℕ) (areas : fits c n words ≡ true) (long : words ≤ length ws) (room : k < n)
    (own : class k ≡ b) (small : b < c.classes) (g : Chained c class k ws) (e : ws' ≡ appended c ws k b) where
  both : Chained c class (k + 1) (appended c ws k b) × Only c n ws (appended c ws k b)
  both = by-head c class k n ws (fitting c n words areas ws long) room b own small g (first_in c ws b) refl

  -- item k in the list of its class
  pub chained-appended : Chained c class (k + 1) ws'
  chained-appended = rw e both.0

  pub appended-only : Only c n ws ws'
  appended-only = rw e both.1
