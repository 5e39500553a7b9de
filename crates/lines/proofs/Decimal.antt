-- Laws of decimal digits: they read back as the number, they are the fewest that hold it, and they are what `{}` writes. Assumes nothing.
use Rattle.std.proofs.Common.{◌≡◌, refl, sym, ap, ◌∙◌, subst, List, [], ◌∷◌, ◌++◌, ℕ, zero, suc, ◌+◌, ◌*◌, ◌/◌, ◌%◌, ◌-◌, ◌^◌, ◌<◌, ◌≤◌, length, arith}
use native.Mathlib.Decide.{dec_lt}
use borrow.Author.Tests.{lt-ltb, le-ltb}
use Rattle.std.specs.Fmt.{decimal as displayed}
use Rattle.std.proofs.lemmas.Fmt.{AppendsLastDigit, decimal_from_appends, length-decimal-le, length-decimal-le_succ}
use native.Mathlib.Nat.{pow-suc, one-le-pow, zero-lt-suc}
use Rattle.lines.specs.Decimal.{digit, digits_in, decimal, read_from, IsDigitCount, last_digits}

-- ---- one digit more
digits-one : (k n : ℕ) → n < 10 → digits_in (suc k) n ≡ digit n ∷ []
unfolding digits_in
digits-one k n h = rw (lt-ltb n 10 h)

digits_more : (k n : ℕ) → 10 ≤ n → digits_in (suc k) n ≡ digits_in k (n / 10) ++ (digit (n % 10) ∷ [])
unfolding digits_in
digits_more k n h = rw (le-ltb n 10 h)

-- steps beyond the number change nothing
steps_alike : (k m n : ℕ) → n < k → n < m → digits_in k n ≡ digits_in m n
steps_alike zero m n h g = absurd (omega arith)
steps_alike (suc k) zero n h g = absurd (omega arith)
steps_alike (suc k) (suc m) n h g = elim (dec_lt n 10) [
  | yes l ↦ digits-one k n l ∙ sym (digits-one m n l)
  | no l ↦
      let ten : 10 ≤ n = omega arith in
      digits_more k n ten ∙ ap (λ (ds : List ℕ). ds ++ (digit (n % 10) ∷ [])) (steps_alike k m (n / 10) (omega arith) (omega arith)) ∙ sym (digits_more m n ten)
]

pub decimal-one : (n : ℕ) → n < 10 → decimal n ≡ digit n ∷ []
unfolding decimal
decimal-one n h = steps_alike (n + 1) (suc n) n (omega arith) (omega arith) ∙ digits-one n n h

pub decimal-more : (n : ℕ) → 10 ≤ n → decimal n ≡ decimal (n / 10) ++ (digit (n % 10) ∷ [])
unfolding decimal
decimal-more n h =
    steps_alike (n + 1) (suc n) n (omega arith) (omega arith)
    ∙ digits_more n n h
    ∙ ap (λ (ds : List ℕ). ds ++ (digit (n % 10) ∷ [])) (steps_alike n (n / 10 + 1) (n / 10) (omega arith) (omega arith))

-- ---- the digits read back as the number
read-append : (v : ℕ) (ds es : List ℕ) → read_from v (ds ++ es) ≡ read_from (read_from v ds) es
unfolding read_from
read-append v [] es = refl
read-append v (d ∷ ds) es = read-append (10 * v + (d - 48)) ds es

read_one : (v d : ℕ) → read_from v (digit d ∷ []) ≡ 10 * v + d
unfolding read_from
read_one v d = omega arith

read-in : (k n : ℕ) → n < k → read_from 0 (decimal n) ≡ n
read-in zero n h = absurd (omega arith)
read-in (suc k) n h = elim (dec_lt n 10) [
  | yes l ↦ ap (read_from 0) (decimal-one n l) ∙ read_one 0 n ∙ omega arith
  | no l ↦
      let ten : 10 ≤ n = omega arith in
      ap (read_from 0) (decimal-more n ten)
      ∙ read-append 0 (decimal (n / 10)) (digit (n % 10) ∷ [])
      ∙ read_one (read_from 0 (decimal (n / 10))) (n % 10)
      ∙ ap (λ (v : ℕ). 10 * v + n % 10) (read-in k (n / 10) (omega arith))
      ∙ omega arith
]

pub reads-back : (n : ℕ) → read_from 0 (decimal n) ≡ n
reads-back n = read-in (suc n) n (omega arith)

-- ---- they are the fewest that hold it
tenth-of : (p n : ℕ) → p * 10 ≤ n → p ≤ n / 10
tenth-of p n h = omega arith

pub fewest-are : (k n : ℕ) → IsDigitCount n k → last_digits k n ≡ decimal n
fewest-are zero n f = absurd (omega (arith, f.0))
fewest-are (suc zero) n f =
    let h : n < 10 = omega (arith, f.1) in
    let e : n % 10 ≡ n = omega arith in
    ap (λ (d : ℕ). digit d ∷ []) e ∙ sym (decimal-one n h)
fewest-are (suc (suc k)) n f =
    let low : 10 ^ (suc k) ≤ n = subst (λ (j : ℕ). 10 ^ j ≤ n) (omega arith) (f.2 (omega arith)) in
    let ten : 10 ≤ n = omega (arith, pow-suc 10 k, one-le-pow k 10 (zero-lt-suc 9)) in
    let tenth : IsDigitCount (n / 10) (suc k) = (omega arith, omega (arith, pow-suc 10 (suc k), f.1), λ h. subst (λ (j : ℕ). 10 ^ j ≤ n / 10) (omega arith) (tenth-of (10 ^ k) n (omega (arith, pow-suc 10 k)))) in
    ap (λ (ds : List ℕ). ds ++ (digit (n % 10) ∷ [])) (fewest-are (suc k) (n / 10) tenth) ∙ sym (decimal-more n ten)

-- ---- they are what `{}` writes of a number, in std's definition
appends : AppendsLastDigit digits_in
appends = record { one = digits-one; more = digits_more }

pub as-displayed : (n : ℕ) → n < 2 ^ 64 → displayed n ≡ decimal n
unfolding decimal
as-displayed n h = sym (decimal_from_appends digits_in appends (n + 1) n h (length-decimal-le_succ n h))

-- a u32 has at most ten digits
pub ten-digits : (n : ℕ) → n < 2 ^ 32 → length (decimal n) ≤ 10
ten-digits n h = subst (λ (ds : List ℕ). length ds ≤ 10) (as-displayed n (omega arith)) (length-decimal-le 10 n (omega arith) (omega arith) (omega arith))
