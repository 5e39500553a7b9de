-- Lists: tables by index, those that pass a test, what holds of each, numbers among others. Assumes nothing: these are definitions.
use Rattle.std.specs.Prelude.{Bool, true, false, cond, ◌||◌, List, [], ◌∷◌, ◌++◌, ℕ, zero, suc, eqb}

-- f 0, f 1, .. f (n - 1)
unfoldable pub tabulate : {A : Type 0} → (ℕ → A) → ℕ → List A
tabulate f zero = []
tabulate f (suc n) = tabulate f n ++ (f n ∷ [])

-- the numbers 0, 1, .. n - 1, as the slots are numbered
abbrev pub slots : ℕ → List ℕ
slots n = tabulate (λ s. s) n

-- those of a list that pass a test
unfoldable pub those : {A : Type 0} → (A → Bool) → List A → List A
those p [] = []
those p (x ∷ xs) = let rest = those p xs in cond (p x) (x ∷ rest) rest

-- whether one of a list passes a test
unfoldable pub any_of : {A : Type 0} → (A → Bool) → List A → Bool
any_of p [] = false
any_of p (x ∷ xs) = let rest = any_of p xs in cond (p x) true rest

-- lists one after another
unfoldable pub joined : {A : Type 0} → List (List A) → List A
joined [] = []
joined (xs ∷ xss) = xs ++ joined xss

-- what holds of each element
unfoldable pub All : {A : Type 0} → (A → Type 0) → List A → Type 0
All P [] = Unit {0}
All P (x ∷ xs) = P x × All P xs

-- a number is in a list
unfoldable pub has : ℕ → List ℕ → Bool
has x [] = false
has x (y ∷ ys) = eqb x y || has x ys
