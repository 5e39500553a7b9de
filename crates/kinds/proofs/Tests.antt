-- The code's tests of kind numbers are those of the table. Assumes nothing.
use Rattle.std.specs.Prelude.{is_some}
use mathlib.Core.Path.{◌≡◌, refl, sym}
use mathlib.Core.Bool.{Bool, true, false, not, ◌&&◌, ◌||◌}
use Prim.Native.Nat.{ℕ, ◌≤◌}
use native.Mathlib.Omega.{arith}
use lib.Dec.{eqb, leb}
use borrow.Author.Tests.{lt-leb, ne_eqb}
use Rattle.kinds.specs.Kinds.{sort_of, is_known, kind_by, kind_of, is_operand_use, is_used, commutes, is_source_sort}
use Rattle.kinds.proofs.Laws.{rows_agree, by_row}

-- a range, and a single number, that end below 10
past-range : (low high k : ℕ) → high ≤ 9 → 10 ≤ k → leb low k && leb k high ≡ false
past-range low high k h l = rw (lt-leb k high (omega arith)) (go (leb low k))
  where
    go : (b : Bool) → b && false ≡ false
    go true = refl
    go false = refl

pub past_one : (m k : ℕ) → m ≤ 9 → 10 ≤ k → eqb k m ≡ false
past_one m k h l = ne_eqb k m (λ e. absurd (omega arith))

pub known_is : (k : ℕ) → is_known k ≡ leb 1 k && leb k 9
unfolding rows_agree
known_is k = sym (by_row (λ k. leb 1 k && leb k 9) is_some tt (λ k l. past-range 1 9 k (omega arith) l) k)

pub net-in-a-is : (k : ℕ) → is_operand_use (kind_of k).a ≡ leb 2 k && leb k 9
unfolding rows_agree kind_of
net-in-a-is k = sym (by_row (λ k. leb 2 k && leb k 9) (λ s. is_operand_use (kind_by s).a) tt (λ k l. past-range 2 9 k (omega arith) l) k)

pub net-in-b-is : (k : ℕ) → is_operand_use (kind_of k).b ≡ leb 5 k && leb k 9
unfolding rows_agree kind_of
net-in-b-is k = sym (by_row (λ k. leb 5 k && leb k 9) (λ s. is_operand_use (kind_by s).b) tt (λ k l. past-range 5 9 k (omega arith) l) k)

pub net-in-c-is : (k : ℕ) → is_operand_use (kind_of k).c ≡ eqb k 8
unfolding rows_agree kind_of
net-in-c-is k = sym (by_row (λ k. eqb k 8) (λ s. is_operand_use (kind_by s).c) tt (λ k l. past_one 8 k (omega arith) l) k)

pub uses-b-is : (k : ℕ) → is_used (kind_of k).b ≡ eqb k 2 || (leb 5 k && leb k 9)
unfolding rows_agree kind_of
uses-b-is k = sym (by_row (λ k. eqb k 2 || (leb 5 k && leb k 9)) (λ s. is_used (kind_by s).b) tt
    (λ k l. rw (past_one 2 k (omega arith) l) (past-range 5 9 k (omega arith) l)) k)

pub has-flags-is : (k : ℕ) → not (eqb (kind_of k).flags 0) ≡ eqb k 9
unfolding rows_agree kind_of
has-flags-is k = sym (by_row (λ k. eqb k 9) (λ s. not (eqb (kind_by s).flags 0)) tt (λ k l. past_one 9 k (omega arith) l) k)

pub commutes-is : (k : ℕ) → commutes (sort_of k) ≡ (leb 5 k && leb k 7) || eqb k 9
unfolding rows_agree
commutes-is k = sym (by_row (λ k. (leb 5 k && leb k 7) || eqb k 9) commutes tt (λ k l. rw (past-range 5 7 k (omega arith) l) (past_one 9 k (omega arith) l)) k)

pub is-source-is : (k : ℕ) → is_source_sort (sort_of k) ≡ eqb k 1
unfolding rows_agree
is-source-is k = sym (by_row (λ k. eqb k 1) is_source_sort tt (λ k l. past_one 1 k (omega arith) l) k)

-- what the functions that ask the table by ranges cite
pub ruleset tests = (known_is, net-in-a-is, net-in-b-is, net-in-c-is, uses-b-is, has-flags-is, commutes-is, is-source-is)
