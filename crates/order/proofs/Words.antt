-- The walk in the words of the work slice: an item marked, and an item put into the order. Assumes nothing.
use mathlib.Core.Path.{◌≡◌, refl, sym, ap, ◌∙◌}
use mathlib.Core.Bool.{Bool, true, false, not}
use mathlib.Core.List.{List, [], ◌∷◌, ◌++◌}
use mathlib.Core.Logic.{inl, inr}
use Prim.Native.Nat.{ℕ, ◌+◌, ◌≤◌, ◌<◌}
use native.Mathlib.Omega.{arith}
use native.Mathlib.Numerals.{add-one}
use lib.Dec.{eqb}
use lib.ListN.{length, get_or, set, replicate, length-set, length-replicate, get_or-replicate, get_or-eq_default}
use lib.Seq.{get_or-set_same, get_or-set_other, ext_get_or}
use borrow.Author.Tests.{eqb-true, eqb-false}
use Rattle.basics.specs.Lists.{tabulate}
use Rattle.basics.proofs.Tables.{tabulate-length, tabulate-at}
use Rattle.netlist.specs.inner.Areas.{words_in, marks_in, Within, visited_at, order_at, replaced_at}
use Rattle.netlist.proofs.Frames.{within_wider, within-set, word-as, words-kept, marks-kept, tabulate-same}
use Rattle.order.specs.Walk.{mark, push}
use Rattle.order.specs.inner.Code.{walk_of, visited_in, Clears}
use Rattle.order.proofs.Walks.{inside}

pub tabulate-replicate : {A : Type 0} (n : ℕ) (v : A) → tabulate (λ i. v) n ≡ replicate n v
tabulate-replicate n v =
    ext_get_or v (tabulate (λ i. v) n) (replicate n v) (tabulate-length (λ i. v) n ∙ sym (length-replicate n v))
    (λ i h. let l : i < n = omega (arith, tabulate-length (λ (j : ℕ). v) n) in tabulate-at (λ i. v) n v i l ∙ sym (get_or-replicate n i v v l))

-- a table changed at one place
pub tabulate-set : {A : Type 0} (d : A) (f g : ℕ → A) (n s : ℕ) (v : A) → s < n → g s ≡ v → ((i : ℕ) → (i ≡ s → ⊥) → g i ≡ f i)
    → tabulate g n ≡ set (tabulate f n) s v
tabulate-set {A} d f g n s v l here there =
    ext_get_or d (tabulate g n) (set (tabulate f n) s v) (tabulate-length g n ∙ sym (tabulate-length f n) ∙ sym (length-set (tabulate f n) s v))
    (λ i h. go i (omega (arith, tabulate-length g n)) (eqb i s) refl)
  where
    go : (i : ℕ) → i < n → (b : Bool) → eqb i s ≡ b → get_or (tabulate g n) i d ≡ get_or (set (tabulate f n) s v) i d
    go i m true e =
        let q : i ≡ s = eqb-true i s e in
        tabulate-at g n d i m ∙ ap g q ∙ here ∙ sym (ap (λ (j : ℕ). get_or (set (tabulate f n) s v) j d) q ∙ get_or-set_same (tabulate f n) s v d (omega (arith, tabulate-length f n)))
    go i m false e =
        let q : i ≡ s → ⊥ = eqb-false i s e in
        tabulate-at g n d i m ∙ there i q ∙ sym (get_or-set_other (tabulate f n) s i v d q ∙ tabulate-at f n d i m)

pub marks-length : (n : ℕ) (ws : List ℕ) → length (marks_in visited_at n ws) ≡ n
unfolding marks_in
marks-length n ws = tabulate-length (λ i. not (eqb (get_or ws (visited_at + i) 0) 0)) n

pub mark-past : (n : ℕ) (ws : List ℕ) (s : ℕ) → n ≤ s → visited_in n ws s ≡ true
unfolding visited_in
mark-past n ws s l = get_or-eq_default (marks_in visited_at n ws) true (omega (arith, marks-length n ws))

pub new-below : (n : ℕ) (ws : List ℕ) (s : ℕ) → visited_in n ws s ≡ false → s < n
unfolding visited_in
new-below n ws s e = omega (arith, inside (marks_in visited_at n ws) s e, marks-length n ws)

pub mark-word : (n : ℕ) (ws : List ℕ) (s x : ℕ) → x ≡ get_or (words_in visited_at n ws) s 1 → not (eqb x 0) ≡ visited_in n ws s
unfolding visited_in marks_in
mark-word n ws s x e = ap (λ (y : ℕ). not (eqb y 0)) e ∙ sym (word-as visited_at n ws s (λ (y : ℕ). not (eqb y 0)) 1)

module _ (n : ℕ) (ws : List ℕ) (s : ℕ) (few : n ≤ 1024) (long : 16384 ≤ length ws) (below : s < n) where
  marks-set : marks_in visited_at n (set ws (visited_at + s) 1) ≡ set (marks_in visited_at n ws) s true
  unfolding marks_in
  marks-set =
      tabulate-set true (λ i. not (eqb (get_or ws (visited_at + i) 0) 0)) (λ i. not (eqb (get_or (set ws (visited_at + s) 1) (visited_at + i) 0) 0)) n s true below
      (ap (λ (x : ℕ). not (eqb x 0)) (get_or-set_same ws (visited_at + s) 1 0 (omega arith)))
      (λ i d. ap (λ (x : ℕ). not (eqb x 0)) (get_or-set_other ws (visited_at + s) (visited_at + i) 1 0 (λ e. d (omega arith))))

  pub marks-frame : Within visited_at order_at ws (set ws (visited_at + s) 1)
  marks-frame = within-set visited_at order_at ws (visited_at + s) 1 (omega arith) (omega arith)

  pub walk-marked : (count : ℕ) → walk_of n count (set ws (visited_at + s) 1) ≡ mark s (walk_of n count ws)
  unfolding walk_of
  walk-marked count =
      rw (marks-set, words-kept visited_at order_at ws (set ws (visited_at + s) 1) marks-frame order_at count (inr (omega arith)))

module _ (n : ℕ) (ws : List ℕ) (count s : ℕ) (few : n ≤ 1024) (long : 16384 ≤ length ws) (below : count < 1024) where
  pub order-frame : Within order_at replaced_at ws (set ws (order_at + count) s)
  order-frame = within-set order_at replaced_at ws (order_at + count) s (omega arith) (omega arith)

  pub words-push : words_in order_at (count + 1) (set ws (order_at + count) s) ≡ words_in order_at count ws ++ (s ∷ [])
  unfolding words_in tabulate
  words-push = rw (
    add-one count,
    tabulate-same (λ i. get_or (set ws (order_at + count) s) (order_at + i) 0) (λ i. get_or ws (order_at + i) 0) count
        (λ i l. get_or-set_other ws (order_at + count) (order_at + i) s 0 (λ e. absurd (omega arith))),
    get_or-set_same ws (order_at + count) s 0 (omega arith),
  )

  pub walk-pushed : walk_of n (count + 1) (set ws (order_at + count) s) ≡ push s (walk_of n count ws)
  unfolding walk_of
  walk-pushed = rw (words-push, marks-kept order_at replaced_at ws (set ws (order_at + count) s) order-frame visited_at n (inl (omega arith)))

-- the words of the first n items are 0
pub blank-clears : (n : ℕ) (ws ws' : List ℕ) → n ≤ 1024 → ((i : ℕ) → i < n → get_or ws' (visited_at + i) 0 ≡ 0)
    → Within visited_at (visited_at + n) ws ws' → Clears n ws ws'
unfolding marks_in
blank-clears n ws ws' few zero p = record {
  blank = tabulate-same (λ u. not (eqb (get_or ws' (visited_at + u) 0) 0)) (λ u. false) n
      (λ u l. ap (λ (x : ℕ). not (eqb x 0)) (zero u l)) ∙ tabulate-replicate n false;
  frame = within_wider visited_at (visited_at + n) visited_at order_at ws ws' (omega arith) (omega arith) p;
}
