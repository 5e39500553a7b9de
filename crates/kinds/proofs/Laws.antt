-- Laws of the kind table. Assumes nothing.
use Rattle.std.specs.Prelude.{Option, Some, None, is_some}
use mathlib.Core.Path.{◌≡◌, refl, sym, ap, ◌∙◌, subst}
use mathlib.Core.Bool.{Bool, true, false, ◌&&◌, false≢true, true≢false}
use mathlib.Core.List.{List, [], ◌∷◌, map}
use Prim.Native.Nat.{ℕ, zero, suc, ◌+◌, ◌<◌, ◌≤◌}
use native.Mathlib.Omega.{arith}
use native.Mathlib.Decide.{dec_lt}
use lib.ListN.{length, get_or, get_or-eq_default}
use lib.Dec.{T}
use Rattle.kinds.specs.declared.Sort.{Sort}
use Rattle.kinds.specs.declared.Sort.TheVariants.{Input, Output, Buf, Not, And, Or, Xor, Mux, Aig}
use Rattle.kinds.specs.Kinds.{sorts, sort_of, is_known, number_of, kind_table, kind_by, kind_of}

above : (m k : ℕ) → m ≤ k → (k ≡ m → ⊥) → m + 1 ≤ k
above m k h n = omega arith

-- a test of kind numbers and one of sorts agree on every kind, if they agree row by row, and past the last row
abbrev same : Bool → Bool → Bool
same true true = true
same true false = false
same false true = false
same false false = true

same-is : (p q : Bool) → T (same p q) → p ≡ q
same-is true true h = refl
same-is true false h = absurd h
same-is false true h = absurd h
same-is false false h = refl

module _ (p : ℕ → Bool) (q : Option Sort → Bool) where
  unfoldable pub rows_agree : ℕ → List (Option Sort) → Bool
  rows_agree k [] = true
  rows_agree k (s ∷ ss) = let rest = rows_agree (suc k) ss in same (p k) (q s) && rest

  row-agrees : (ss : List (Option Sort)) (k : ℕ) → T (rows_agree k ss) → ((m : ℕ) → k + length ss ≤ m → p m ≡ q None) → (i : ℕ) → p (k + i) ≡ q (get_or ss i None)
  unfolding rows_agree
  row-agrees [] k h past i = past (k + i) (omega arith)
  row-agrees (s ∷ ss) k h past i = go (λ g j. row-agrees ss (suc k) g (λ m l. past m (omega arith)) j) (same (p k) (q s)) refl h i
    where
      go : (T (rows_agree (suc k) ss) → (j : ℕ) → p (suc k + j) ≡ q (get_or ss j None)) → (b : Bool) → same (p k) (q s) ≡ b → T (b && rows_agree (suc k) ss)
          → (i : ℕ) → p (k + i) ≡ q (get_or (s ∷ ss) i None)
      go rec true e h zero = let z : k + 0 ≡ k = omega arith in rw z (same-is (p k) (q s) (subst T (sym e) tt))
      go rec true e h (suc i) = subst (λ (m : ℕ). p m ≡ q (get_or ss i None)) (omega arith) (rec h i)
      go rec false e h i = absurd h

  pub by_row : T (rows_agree 0 sorts) → ((k : ℕ) → 10 ≤ k → p k ≡ q None) → (k : ℕ) → p k ≡ q (sort_of k)
  unfolding sort_of
  by_row h past k = subst (λ (m : ℕ). p m ≡ q (get_or sorts k None)) (omega arith) (row-agrees sorts 0 h past k)

-- a number that is none of the table's
pub sort-none : (k : ℕ) → (k ≡ 1 → ⊥) → (k ≡ 2 → ⊥) → (k ≡ 3 → ⊥) → (k ≡ 4 → ⊥) → (k ≡ 5 → ⊥) → (k ≡ 6 → ⊥) → (k ≡ 7 → ⊥) → (k ≡ 8 → ⊥) → (k ≡ 9 → ⊥)
    → None ≡ sort_of k
unfolding sort_of
sort-none k n1 n2 n3 n4 n5 n6 n7 n8 n9 = go (dec_lt k 1)
  where
    go : Dec (k < 1) → None ≡ get_or sorts k None
    go (yes h) = let e : k ≡ 0 = omega arith in rw e
    go (no h) =
        let one : 1 ≤ k = omega arith in
        sym (get_or-eq_default sorts None
        (above 9 k (above 8 k (above 7 k (above 6 k (above 5 k (above 4 k (above 3 k (above 2 k (above 1 k one n1) n2) n3) n4) n5) n6) n7) n8) n9))

pub ruleset decoding = (sort-none)

-- a record adds at most one to the gate count
gates-of : (s : Sort) → (kind_table s).gates ≤ 1
gates-of Input = omega arith
gates-of Output = omega arith
gates-of Buf = omega arith
gates-of Not = omega arith
gates-of And = omega arith
gates-of Or = omega arith
gates-of Xor = omega arith
gates-of Mux = omega arith
gates-of Aig = omega arith

gates-by : (o : Option Sort) → (kind_by o).gates ≤ 1
gates-by None = omega arith
gates-by (Some s) = gates-of s

-- kind by kind from 0 to 10: by request 2026-03 and, or, xor, mux and and-inverter add 1, buf and not nothing; nor do inputs, outputs and kinds
-- that are not known
pub gates-by-kind : map (λ k. (kind_of k).gates) (0 ∷ 1 ∷ 2 ∷ 3 ∷ 4 ∷ 5 ∷ 6 ∷ 7 ∷ 8 ∷ 9 ∷ 10 ∷ []) ≡ 0 ∷ 0 ∷ 0 ∷ 0 ∷ 0 ∷ 1 ∷ 1 ∷ 1 ∷ 1 ∷ 1 ∷ 0 ∷ []
unfolding sort_of kind_of
gates-by-kind = refl

pub gates-one : (k : ℕ) → (kind_of k).gates ≤ 1
unfolding kind_of
gates-one k = gates-by (sort_of k)

-- the number of a sort's row
pub sort-back : (s : Sort) → sort_of (number_of s) ≡ Some s
unfolding sort_of
sort-back Input = refl
sort-back Output = refl
sort-back Buf = refl
sort-back Not = refl
sort-back And = refl
sort-back Or = refl
sort-back Xor = refl
sort-back Mux = refl
sort-back Aig = refl

-- a sort's number; 0 for what is no kind
abbrev number : Option Sort → ℕ
number None = 0
number (Some s) = number_of s

by-number : (k : ℕ) → is_known k ≡ true → number (sort_of k) ≡ k
unfolding sort_of
by-number zero h = absurd (false≢true h)
by-number (suc zero) h = refl
by-number (suc (suc zero)) h = refl
by-number (suc (suc (suc zero))) h = refl
by-number (suc (suc (suc (suc zero)))) h = refl
by-number (suc (suc (suc (suc (suc zero))))) h = refl
by-number (suc (suc (suc (suc (suc (suc zero)))))) h = refl
by-number (suc (suc (suc (suc (suc (suc (suc zero))))))) h = refl
by-number (suc (suc (suc (suc (suc (suc (suc (suc zero)))))))) h = refl
by-number (suc (suc (suc (suc (suc (suc (suc (suc (suc zero))))))))) h = refl
by-number (suc (suc (suc (suc (suc (suc (suc (suc (suc (suc k)))))))))) h = absurd (false≢true h)

pub number-back : (k : ℕ) (s : Sort) → sort_of k ≡ Some s → number_of s ≡ k
number-back k s h = ap number (sym h) ∙ by-number k (subst (λ (o : Option Sort). is_some o ≡ true) (sym h) refl)

-- what the table does not know
pub unknown-sort : (k : ℕ) → is_known k ≡ false → None ≡ sort_of k
unknown-sort k h = go (sort_of k) h
  where
    go : (o : Option Sort) → is_some o ≡ false → None ≡ o
    go None e = refl
    go (Some s) e = absurd (true≢false e)
