-- Slots that pass a test, in their order: a slot's place among them is the number of those before it. Assumes nothing.
use mathlib.Core.Path.{◌≡◌, sym, ap, ◌∙◌, subst}
use mathlib.Core.Bool.{Bool, true, false, cond}
use mathlib.Core.List.{List, [], ◌∷◌, ◌++◌, append-nil}
use Prim.Native.Nat.{ℕ, zero, suc, ◌≤◌, ◌<◌, ◌+◌}
use native.Mathlib.Omega.{arith}
use native.Mathlib.Decide.{dec_lt}
use lib.ListN.{length, get_or, length-append, get_or-append}
use lib.Seq.{get_or-append_seam}
use Rattle.basics.specs.Lists.{tabulate, those, slots}
use Rattle.basics.proofs.Those.{those-append}
use Rattle.basics.proofs.Truth.{either}

module _ (p : ℕ → Bool) where
  unfoldable pub chosen : ℕ → List ℕ
  chosen n = those p (slots n)

  abbrev pub count : ℕ → ℕ
  count n = length (chosen n)

  pub chosen-yes : (n : ℕ) → p n ≡ true → chosen (suc n) ≡ chosen n ++ (n ∷ [])
  unfolding chosen tabulate those
  chosen-yes n e = those-append p (slots n) (n ∷ []) ∙ ap (λ (b : Bool). those p (slots n) ++ cond b (n ∷ []) []) e

  pub chosen-no : (n : ℕ) → p n ≡ false → chosen (suc n) ≡ chosen n
  unfolding chosen tabulate those
  chosen-no n e = those-append p (slots n) (n ∷ []) ∙ ap (λ (b : Bool). those p (slots n) ++ cond b (n ∷ []) []) e ∙ append-nil (those p (slots n))

  pub count_yes : (n : ℕ) → p n ≡ true → count (suc n) ≡ suc (count n)
  count_yes n e = ap length (chosen-yes n e) ∙ length-append (chosen n) (n ∷ []) ∙ omega arith

  pub count_no : (n : ℕ) → p n ≡ false → count (suc n) ≡ count n
  count_no n e = ap length (chosen-no n e)

  -- none passes from slot n on
  pub chosen-rest : (n k : ℕ) → ((i : ℕ) → n ≤ i → i < n + k → p i ≡ false) → chosen (n + k) ≡ chosen n
  chosen-rest n zero h = ap chosen (let q : n + 0 ≡ n = omega arith in q)
  chosen-rest n (suc k) h =
      ap chosen (let q : n + suc k ≡ suc (n + k) = omega arith in q)
      ∙ chosen-no (n + k) (h (n + k) (omega arith) (omega arith)) ∙ chosen-rest n k (λ i a b. h i a (omega arith))

  pub count-le : (n : ℕ) → count n ≤ n
  unfolding chosen tabulate those
  count-le zero = omega arith
  count-le (suc n) =
      let h : count n ≤ n = count-le n in
      either (p n) (λ e. omega (arith, count_yes n e)) (λ e. omega (arith, count_no n e))

  -- the place of a slot that passes
  pub record PlaceOf (n s : ℕ) : Type 0 where
    pub below : count s < count n
    pub at : get_or (chosen n) (count s) 0 ≡ s

  pub place_of : (n s : ℕ) → s < n → p s ≡ true → PlaceOf n s
  place_of zero s l e = absurd (omega arith)
  place_of (suc n) s l e = go (dec_lt s n) (λ m. place_of n s m e)
    where
      go : Dec (s < n) → (s < n → PlaceOf n s) → PlaceOf (suc n) s
      go (yes m) rec = either (p n)
          (λ q. record {
            below = let h : count s < count n = (rec m).below in omega (arith, count_yes n q);
            at = ap (λ (l : List ℕ). get_or l (count s) 0) (chosen-yes n q) ∙ get_or-append (chosen n) (n ∷ []) 0 (count s) (rec m).below ∙ (rec m).at;
          })
          (λ q. record {
            below = let h : count s < count n = (rec m).below in omega (arith, count_no n q);
            at = ap (λ (l : List ℕ). get_or l (count s) 0) (chosen-no n q) ∙ (rec m).at;
          })
      go (no m) rec =
          let q : s ≡ n = omega arith in
          let c : p n ≡ true = ap p (sym q) ∙ e in
          subst (λ (x : ℕ). PlaceOf (suc n) x) (sym q)
          (record {
            below = omega (arith, count_yes n c);
            at = ap (λ (l : List ℕ). get_or l (count n) 0) (chosen-yes n c) ∙ get_or-append_seam (chosen n) n [] 0;
          })

  -- the slot at a place
  pub record SlotAt (n j : ℕ) : Type 0 where
    pub small : get_or (chosen n) j 0 < n
    pub passes : p (get_or (chosen n) j 0) ≡ true
    pub place : count (get_or (chosen n) j 0) ≡ j

  pub slot-at : (n j : ℕ) → j < count n → SlotAt n j
  unfolding chosen tabulate those
  slot-at zero j l = absurd (omega arith)
  slot-at (suc n) j l = go (dec_lt j (count n)) (λ m. slot-at n j m)
    where
      found : (x : ℕ) → get_or (chosen (suc n)) j 0 ≡ x → x < suc n → p x ≡ true → count x ≡ j → SlotAt (suc n) j
      found x q a b c = record {
        small = subst (λ (y : ℕ). y < suc n) (sym q) a;
        passes = ap p q ∙ b;
        place = ap count q ∙ c;
      }

      go : Dec (j < count n) → (j < count n → SlotAt n j) → SlotAt (suc n) j
      go (yes m) rec =
          let h : SlotAt n j = rec m in
          let g : get_or (chosen n) j 0 < n = h.small in
          either (p n)
          (λ q. found (get_or (chosen n) j 0) (ap (λ (l : List ℕ). get_or l j 0) (chosen-yes n q) ∙ get_or-append (chosen n) (n ∷ []) 0 j m) (omega arith) h.passes h.place)
          (λ q. found (get_or (chosen n) j 0) (ap (λ (l : List ℕ). get_or l j 0) (chosen-no n q)) (omega arith) h.passes h.place)
      go (no m) rec = either (p n)
          (λ q. let e : j ≡ count n = omega (arith, count_yes n q) in
          found n (ap (λ (l : List ℕ). get_or l j 0) (chosen-yes n q) ∙ ap (λ (k : ℕ). get_or (chosen n ++ (n ∷ [])) k 0) e ∙ get_or-append_seam (chosen n) n [] 0)
          (omega arith) q (sym e))
          (λ q. absurd (omega (arith, count_no n q)))
