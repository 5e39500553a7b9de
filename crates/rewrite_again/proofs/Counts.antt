-- How many slots pass a test: in the slots' own order, and in any order that has each of them once. Assumes nothing.
use mathlib.Core.Path.{◌≡◌, refl, sym, ap, ◌∙◌, subst}
use mathlib.Core.Bool.{Bool, true, false, cond, not, ◌&&◌}
use mathlib.Core.List.{List, [], ◌∷◌, ◌++◌, append_assoc, append-nil}
use Prim.Native.Nat.{ℕ, zero, suc, ◌+◌, ◌≤◌, ◌<◌}
use native.Mathlib.Omega.{arith}
use lib.Dec.{eqb}
use lib.ListN.{length, length-append}
use borrow.Author.Tests.{eqb-true, eqb-false}
use Rattle.basics.specs.Lists.{tabulate, those, slots, has}
use Rattle.basics.proofs.Those.{those-append}
use Rattle.order_laws.specs.Ordered.{OnceAfter, Each}
use Rattle.basics.proofs.Truth.{either}
use Rattle.basics.proofs.Members.{has-snoc-same, has-snoc-other, those-same, all-tabulate, has_first, has-later}
use Rattle.kept.proofs.Chosen.{chosen, count, count_yes, count_no}

pub count_same : (p q : ℕ → Bool) (n : ℕ) → ((i : ℕ) → i < n → p i ≡ q i) → count p n ≡ count q n
unfolding chosen
count_same p q n h = ap length (those-same p q (slots n) (all-tabulate (λ i. p i ≡ q i) (λ i. i) n h))

-- a test that one slot more passes
module _ (p q : ℕ → Bool) (s : ℕ) (out : p s ≡ false) (in' : q s ≡ true) (else : (i : ℕ) → (i ≡ s → ⊥) → q i ≡ p i) where
  count-more : (n : ℕ) → s < n → count q n ≡ suc (count p n)
  count-more zero l = absurd (omega arith)
  count-more (suc n) l =
      let rec : s < n → count q n ≡ suc (count p n) = count-more n in
      either (eqb s n)
      (λ e. let k : s ≡ n = eqb-true s n e in
      count_yes q n (ap q (sym k) ∙ in') ∙ ap suc (count_same q p n (λ i h. else i (λ z. omega arith)) ∙ sym (count_no p n (ap p (sym k) ∙ out))))
      (λ e. let k : s ≡ n → ⊥ = eqb-false s n e in
      let same : q n ≡ p n = else n (λ z. k (sym z)) in
      either (p n)
      (λ b. count_yes q n (same ∙ b) ∙ ap suc (rec (omega (arith, k))) ∙ ap suc (sym (count_yes p n b)))
      (λ b. count_no q n (same ∙ b) ∙ rec (omega (arith, k)) ∙ ap suc (sym (count_no p n b))))

-- those that fail the test are the others
pub count-not : (p : ℕ → Bool) (n : ℕ) → count p n + count (λ i. not (p i)) n ≡ n
unfolding chosen tabulate those
count-not p zero = refl
count-not p (suc n) =
    let rec : count p n + count (λ i. not (p i)) n ≡ n = count-not p n in
    either (p n)
    (λ e. omega (arith, count_yes p n e, count_no (λ i. not (p i)) n (ap not e)))
    (λ e. omega (arith, count_no p n e, count_yes (λ i. not (p i)) n (ap not e)))

-- all pass from slot n on
pub count-rest : (p : ℕ → Bool) (n k : ℕ) → ((i : ℕ) → n ≤ i → i < n + k → p i ≡ true) → count p (n + k) ≡ count p n + k
count-rest p n zero h = ap (count p) (let q : n + 0 ≡ n = omega arith in q) ∙ omega arith
count-rest p n (suc k) h =
    let rec : count p (n + k) ≡ count p n + k = count-rest p n k (λ i a b. h i a (omega arith)) in
    ap (count p) (let q : n + suc k ≡ suc (n + k) = omega arith in q) ∙ count_yes p (n + k) (h (n + k) (omega arith) (omega arith)) ∙ omega arith

module _ (p : ℕ → Bool) where
  -- those of a list that pass, by the slots' own order
  abbrev among : List ℕ → ℕ → Bool
  among xs i = has i xs && p i

  module _ (xs : List ℕ) (s : ℕ) where
    pub those-yes : p s ≡ true → those p (xs ++ (s ∷ [])) ≡ those p xs ++ (s ∷ [])
    unfolding those
    those-yes e = those-append p xs (s ∷ []) ∙ ap (λ (b : Bool). those p xs ++ cond b (s ∷ []) []) e

    pub those-no : p s ≡ false → those p (xs ++ (s ∷ [])) ≡ those p xs
    unfolding those
    those-no e = those-append p xs (s ∷ []) ∙ ap (λ (b : Bool). those p xs ++ cond b (s ∷ []) []) e ∙ append-nil (those p xs)

    among-else : (i : ℕ) → (i ≡ s → ⊥) → among (xs ++ (s ∷ [])) i ≡ among xs i
    among-else i h = ap (λ (b : Bool). b && p i) (has-snoc-other i xs s h)

    among-no : p s ≡ false → (i : ℕ) → among (xs ++ (s ∷ [])) i ≡ among xs i
    among-no e i = either (eqb i s)
        (λ q. let k : p i ≡ false = ap p (eqb-true i s q) ∙ e in
        ap (λ (b : Bool). has i (xs ++ (s ∷ [])) && b) k ∙ none (has i (xs ++ (s ∷ []))) (has i xs) ∙ ap (λ (b : Bool). has i xs && b) (sym k))
        (λ q. among-else i (eqb-false i s q))
      where
        none : (a b : Bool) → (a && false) ≡ (b && false)
        none true true = refl
        none true false = refl
        none false true = refl
        none false false = refl

    count-item : (n : ℕ) → s < n → has s xs ≡ false → length (those p xs) ≡ count (among xs) n
        → length (those p (xs ++ (s ∷ []))) ≡ count (among (xs ++ (s ∷ []))) n
    count-item n l new h = either (p s)
        (λ e. ap length (those-yes e) ∙ length-append (those p xs) (s ∷ []) ∙ ap (λ (k : ℕ). k + 1) h
        ∙ (let q : count (among (xs ++ (s ∷ []))) n ≡ suc (count (among xs) n) =
        count-more (among xs) (among (xs ++ (s ∷ []))) s (rw new refl) (rw (has-snoc-same xs s) e) among-else n l in omega arith))
        (λ e. ap length (those-no e) ∙ h ∙ count_same (among xs) (among (xs ++ (s ∷ []))) n (λ i k. sym (among-no e i)))

  count-items : (n : ℕ) (xs before : List ℕ) → OnceAfter before xs → ((s : ℕ) → has s xs ≡ true → s < n) → length (those p before) ≡ count (among before) n
      → length (those p (before ++ xs)) ≡ count (among (before ++ xs)) n
  unfolding OnceAfter has
  count-items n [] before o l h = rw (append-nil before) h
  count-items n (s ∷ xs) before o l h =
      subst (λ (b : List ℕ). length (those p b) ≡ count (among b) n) (append_assoc before (s ∷ []) xs)
      (count-items n xs (before ++ (s ∷ [])) o.1 (λ x e. l x (has-later x s xs e))
      (count-item before s n (l s (has_first s xs)) o.0 h))

  none-among : (n : ℕ) → count (λ (i : ℕ). false) n ≡ 0
  unfolding chosen tabulate those
  none-among zero = refl
  none-among (suc n) = count_no (λ i. false) n refl ∙ none-among n

  -- the law
  pub each-count : (n : ℕ) (order : List ℕ) → Each n order → length (those p order) ≡ count p n
  unfolding has those
  each-count n order e =
      count-items n order [] e.once e.small (sym (none-among n)) ∙ count_same (among order) p n (λ i l. rw (e.all i l))
