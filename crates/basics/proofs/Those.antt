-- Those of a list that pass a test, and how many slots do. Assumes nothing.
use mathlib.Core.Path.{◌≡◌, refl, sym, ap, ap₂, ◌∙◌, subst}
use mathlib.Core.Bool.{Bool, true, false, cond, ◌&&◌}
use mathlib.Core.List.{List, [], ◌∷◌, ◌++◌, map}
use Prim.Native.Nat.{ℕ, zero, suc, ◌+◌, ◌<◌, ◌≤◌}
use native.Mathlib.Omega.{arith}
use native.Mathlib.Numerals.{add-one}
use native.Mathlib.Decide.{dec_lt}
use lib.ListN.{length, length-append}
use Rattle.basics.specs.Lists.{tabulate, slots, those}
use Rattle.basics.proofs.Tables.{map-append}

pub those-append : {A : Type 0} (p : A → Bool) (xs ys : List A) → those p (xs ++ ys) ≡ those p xs ++ those p ys
unfolding those
those-append p [] ys = refl
those-append {A} p (x ∷ xs) ys = go (p x) (those-append p xs ys)
  where
    go : (b : Bool) → those p (xs ++ ys) ≡ those p xs ++ those p ys
        → cond b (x ∷ those p (xs ++ ys)) (those p (xs ++ ys)) ≡ cond b (x ∷ those p xs) (those p xs) ++ those p ys
    go true e = ap (λ (zs : List A). x ∷ zs) e
    go false e = e

pub those-length : {A : Type 0} (p : A → Bool) (xs : List A) → length (those p xs) ≤ length xs
unfolding those
those-length p [] = omega arith
those-length p (x ∷ xs) = go (p x) (those-length p xs)
  where
    go : (b : Bool) → length (those p xs) ≤ length xs → length (cond b (x ∷ those p xs) (those p xs)) ≤ suc (length xs)
    go true h = omega arith
    go false h = omega arith

module _ {A : Type 0} (p : A → Bool) where
  pub those-both : (q : A → Bool) (xs : List A) → those p (those q xs) ≡ those (λ x. q x && p x) xs
  unfolding those
  those-both q [] = refl
  those-both q (x ∷ xs) = go (q x) (those-both q xs)
    where
      go : (b : Bool) → those p (those q xs) ≡ those (λ y. q y && p y) xs
          → those p (cond b (x ∷ those q xs) (those q xs)) ≡ cond (b && p x) (x ∷ those (λ y. q y && p y) xs) (those (λ y. q y && p y) xs)
      go true e = rw e
      go false e = e

pub those-snoc : {A : Type 0} (p : A → Bool) (xs : List A) (x : A) → those p (xs ++ (x ∷ [])) ≡ those p xs ++ cond (p x) (x ∷ []) []
unfolding those
those-snoc p [] x = refl
those-snoc p (y ∷ xs) x = go (p y) (those-snoc p xs x)
  where
    go : (b : Bool) → those p (xs ++ (x ∷ [])) ≡ those p xs ++ cond (p x) (x ∷ []) []
        → cond b (y ∷ those p (xs ++ (x ∷ []))) (those p (xs ++ (x ∷ []))) ≡ cond b (y ∷ those p xs) (those p xs) ++ cond (p x) (x ∷ []) []
    go true e = ap (λ (l : List _). y ∷ l) e
    go false e = e

-- of the slots below s, those that pass a test
pub slots-more : (p : ℕ → Bool) (s : ℕ) → those p (slots (s + 1)) ≡ those p (slots s) ++ cond (p s) (s ∷ []) []
unfolding tabulate
slots-more p s = rw (add-one s) (those-snoc p (slots s) s)

pub count-more : (p : ℕ → Bool) (s : ℕ) → length (those p (slots (s + 1))) ≡ length (those p (slots s)) + cond (p s) 1 0
count-more p s = ap length (slots-more p s) ∙ length-append (those p (slots s)) (cond (p s) (s ∷ []) []) ∙ ap (λ (k : ℕ). length (those p (slots s)) + k) (go (p s))
  where
    go : (b : Bool) → length (cond b (s ∷ []) []) ≡ cond b 1 0
    go true = refl
    go false = refl

pub count-grows : (p : ℕ → Bool) (s n : ℕ) → s ≤ n → length (those p (slots s)) ≤ length (those p (slots n))
count-grows p s zero l = ap-count (omega arith)
  where
    ap-count : s ≡ 0 → length (those p (slots s)) ≤ length (those p (slots 0))
    ap-count e = rw e (omega arith)
count-grows p s (suc n) l = go (count-grows p s n) (dec_lt n s)
  where
    more : length (those p (slots n)) ≤ length (those p (slots (suc n)))
    more = subst (λ (k : ℕ). length (those p (slots n)) ≤ length (those p (slots k))) (add-one n) (rw (count-more p n) (omega arith))

    go : (s ≤ n → length (those p (slots s)) ≤ length (those p (slots n))) → Dec (n < s) → length (those p (slots s)) ≤ length (those p (slots (suc n)))
    go rec (yes h) = let e : s ≡ suc n = omega arith in rw e (omega arith)
    go rec (no h) = omega (arith, rec (omega arith), more)

pub slots_same : (p q : ℕ → Bool) (n : ℕ) → ((s : ℕ) → s < n → p s ≡ q s) → those p (slots n) ≡ those q (slots n)
unfolding tabulate those
slots_same p q zero h = refl
slots_same p q (suc n) h =
    those-snoc p (slots n) n
    ∙ ap₂ (λ (l : List ℕ) (b : Bool). l ++ cond b (n ∷ []) []) (slots_same p q n (λ s l. h s (omega arith))) (h n (omega arith))
    ∙ sym (those-snoc q (slots n) n)

-- what is the same at each slot is so at those that pass a test
pub map-slots-same : {B : Type 0} (p : ℕ → Bool) (f g : ℕ → B) (n : ℕ) → ((s : ℕ) → s < n → f s ≡ g s) → map f (those p (slots n)) ≡ map g (those p (slots n))
unfolding tabulate those
map-slots-same {B} p f g zero h = refl
map-slots-same {B} p f g (suc n) h =
    rw (those-append p (slots n) (n ∷ []), map-append f (those p (slots n)) (those p (n ∷ [])), map-append g (those p (slots n)) (those p (n ∷ [])), map-slots-same p f g n (λ s l. h s (omega arith)))
    (ap (λ (l : List B). map g (those p (slots n)) ++ l) (go (p n)))
  where
    go : (b : Bool) → map f (cond b (n ∷ []) []) ≡ map g (cond b (n ∷ []) [])
    go true = ap (λ (x : B). x ∷ []) (h n (omega arith))
    go false = refl
