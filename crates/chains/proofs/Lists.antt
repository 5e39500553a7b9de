-- Each list holds exactly the items of its class, in order. Assumes nothing.
use Rattle.std.specs.Prelude.{Option, Some, None}
use mathlib.Core.Path.{◌≡◌, refl, sym, ap, ap₂, ◌∙◌, subst}
use mathlib.Core.Bool.{Bool, true, false, cond, ◌&&◌}
use mathlib.Core.List.{List, [], ◌∷◌, ◌++◌}
use Prim.Native.Nat.{ℕ, zero, suc, ◌+◌, ◌<◌, ◌≤◌}
use native.Mathlib.Omega.{arith}
use native.Mathlib.Decide.{dec_lt}
use lib.Dec.{eqb, leb}
use borrow.Author.Tests.{leb-true, le-leb, eqb-true, eq-eqb}
use Rattle.basics.specs.Lists.{tabulate, slots, those}
use Rattle.basics.proofs.Truth.{either, and_both, and-true}
use Rattle.basics.proofs.Those.{those-snoc, slots_same}
use Rattle.chains.specs.declared.Chains.{Chains}
use Rattle.chains.specs.Chains.{least_from, next_in, Chained, linked, list_in}
use Rattle.chains.proofs.Firsts.{Least, least-has, least-lacks}

those-none : (p : ℕ → Bool) (k : ℕ) → ((j : ℕ) → j < k → p j ≡ false) → those p (slots k) ≡ []
unfolding tabulate those
those-none p zero h = refl
those-none p (suc k) h = those-snoc p (slots k) k ∙ rw (those-none p k (λ j l. h j (omega arith)), h k (omega arith))

-- the first one, and the others by another test
module _ (p q : ℕ → Bool) (m : ℕ) (here : p m ≡ true) (before : (j : ℕ) → j < m → p j ≡ false) (upto : (j : ℕ) → j ≤ m → q j ≡ false)
    (after : (j : ℕ) → m < j → p j ≡ q j) where
  those-first : (k : ℕ) → m < k → those p (slots k) ≡ m ∷ those q (slots k)
  unfolding tabulate
  those-first zero l = absurd (omega arith)
  those-first (suc k) l = go (dec_lt m k) (those-first k)
    where
      go : Dec (m < k) → (m < k → those p (slots k) ≡ m ∷ those q (slots k)) → those p (slots k ++ (k ∷ [])) ≡ m ∷ those q (slots k ++ (k ∷ []))
      go (yes a) rec =
          those-snoc p (slots k) k ∙ ap₂ (λ (xs : List ℕ) (b : Bool). xs ++ cond b (k ∷ []) []) (rec a) (after k a)
          ∙ sym (ap (λ (xs : List ℕ). m ∷ xs) (those-snoc q (slots k) k))
      go (no a) rec =
          let e : k ≡ m = omega arith in
          those-snoc p (slots k) k
          ∙ rw (those-none p k (λ j n. before j (omega arith)), ap p e ∙ here)
          (rw (those-snoc q (slots k) k, those-none q k (λ j n. upto j (omega arith)), upto k (omega arith)) (ap (λ (x : ℕ). x ∷ []) e))

module _ (c : Chains) (class : ℕ → ℕ) (k : ℕ) (ws : List ℕ) (g : Chained c class k ws) (b : ℕ) (small : b < c.classes) where
  later : ℕ → ℕ → Bool
  later i j = leb i j && eqb (class j) b

  later-is : (i j : ℕ) → i ≤ j → class j ≡ b → later i j ≡ true
  unfolding later
  later-is i j l e = and-true (leb i j) (eqb (class j) b) (le-leb i j l) (eq-eqb (class j) b e)

  later-not : (i j : ℕ) → (i ≤ j → class j ≡ b → ⊥) → later i j ≡ false
  unfolding later
  later-not i j h =
      either (later i j)
      (λ e. let both = and_both (leb i j) (eqb (class j) b) e in absurd (h (leb-true i j both.0) (eqb-true (class j) b both.1)))
      (λ e. e)

  later-same : (i i' j : ℕ) → i ≤ j → i' ≤ j → later i j ≡ later i' j
  unfolding later
  later-same i i' j l l' = rw (le-leb i j l, le-leb i' j l')

  linked-later : (n i : ℕ) → k ≤ n + i → linked c ws n (least_from class b i k) ≡ those (later i) (slots k)
  unfolding linked
  linked-later zero i l = sym (those-none (later i) k (λ j m. later-not i j (λ a e. absurd (omega arith))))
  linked-later (suc n) i l = go (λ j h. linked-later n j h) (least_from class b i k) refl
    where
      go : ((j : ℕ) → k ≤ n + j → linked c ws n (least_from class b j k) ≡ those (later j) (slots k))
          → (o : Option ℕ) → least_from class b i k ≡ o → linked c ws (suc n) (least_from class b i k) ≡ those (later i) (slots k)
      go rec None e = rw e (sym (those-none (later i) k (λ j m. later-not i j (λ a q. (least-lacks class b i k e).none j a m q))))
      go rec (Some m) e = rw e (ap (λ (xs : List ℕ). m ∷ xs) (ap (linked c ws n) next ∙ rec (m + 1) (let from : i ≤ m = there.from in omega arith)) ∙ sym split)
        where
          there : Least class b i k m
          there = least-has class b i k m e

          next : next_in c ws m ≡ least_from class b (m + 1) k
          next = g.next m there.below (subst (λ (x : ℕ). x < c.classes) (sym there.of) small) ∙ ap (λ (x : ℕ). least_from class x (m + 1) k) there.of

          split : those (later i) (slots k) ≡ m ∷ those (later (m + 1)) (slots k)
          split =
              let from : i ≤ m = there.from in
              those-first (later i) (later (m + 1)) m (later-is i m from there.of) (λ j n. later-not i j (λ a q. there.before j a n q))
              (λ j n. later-not (m + 1) j (λ a q. absurd (omega arith))) (λ j n. later-same i (m + 1) j (omega arith) (omega arith)) k there.below

  -- followed from the first one on, for as many steps as there are items or more
  pub list-is-class : (n : ℕ) → k ≤ n → list_in c ws n b ≡ those (λ i. eqb (class i) b) (slots k)
  unfolding later
  list-is-class n l =
      ap (linked c ws n) (g.head b small) ∙ linked-later n 0 (omega arith)
      ∙ slots_same (later 0) (λ i. eqb (class i) b) k (λ j m. rw (le-leb 0 j (omega arith)))
