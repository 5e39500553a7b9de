-- Lists by their indices. Assumes nothing.
use mathlib.Core.Path.{◌≡◌, refl, sym, ap, ap₂, ◌∙◌}
use mathlib.Core.List.{List, [], ◌∷◌, ◌++◌, map}
use Prim.Native.Nat.{ℕ, zero, suc, ◌+◌, ◌-◌, ◌<◌}
use native.Mathlib.Omega.{arith}
use native.Mathlib.Decide.{dec_lt}
use lib.ListN.{length, get_or, replicate, length-map, get_or-map, get_or-append, get_or-eq_default}
use lib.Seq.{ext_get_or, get_or-append-add}
use Rattle.basics.proofs.Tables.{tabulate-length, tabulate-at}
use Rattle.basics.specs.Lists.{slots, All}

-- inside a list the default does not matter
pub get_d_any : {A : Type 0} (l : List A) (i : ℕ) (d e : A) → i < length l → get_or l i d ≡ get_or l i e
get_d_any [] i d e h = absurd (omega arith)
get_d_any (x ∷ l) zero d e h = refl
get_d_any (x ∷ l) (suc i) d e h = get_d_any l i d e (omega arith)

pub get_d-mapped : {A B : Type 0} (f : A → B) (l : List A) (i : ℕ) (d : A) (e : B) → i < length l → get_or (map f l) i e ≡ f (get_or l i d)
get_d-mapped f l i d e h = get_d_any (map f l) i e (f d) (omega (arith, length-map l f)) ∙ get_or-map f l i d

-- what is not the default is inside
pub get_d-inside : {A : Type 0} (l : List A) (i : ℕ) (d : A) → (get_or l i d ≡ d → ⊥) → i < length l
get_d-inside l i d h = go (dec_lt i (length l))
  where
    go : Dec (i < length l) → i < length l
    go (yes k) = k
    go (no k) = absurd (h (get_or-eq_default l d (omega arith)))

-- a list of defaults, and one behind another list
pub get_d-same : {A : Type 0} (n i : ℕ) (a : A) → get_or (replicate n a) i a ≡ a
get_d-same zero i a = refl
get_d-same (suc n) zero a = refl
get_d-same (suc n) (suc i) a = get_d-same n i a

pub get_d-padded : {A : Type 0} (l : List A) (n i : ℕ) (a : A) → get_or (l ++ replicate n a) i a ≡ get_or l i a
get_d-padded l n i a = go (dec_lt i (length l))
  where
    go : Dec (i < length l) → get_or (l ++ replicate n a) i a ≡ get_or l i a
    go (yes k) = get_or-append l (replicate n a) a i k
    go (no k) =
        ap (λ (j : ℕ). get_or (l ++ replicate n a) j a) (let q : i ≡ length l + (i - length l) = omega arith in q)
        ∙ get_or-append-add l (replicate n a) (i - length l) a ∙ get_d-same n (i - length l) a
        ∙ sym (get_or-eq_default l a {n = i} (omega arith))

pub map_same : {A B : Type 0} (f g : A → B) (xs : List A) → All (λ x. f x ≡ g x) xs → map f xs ≡ map g xs
unfolding All
map_same f g [] h = refl
map_same {A} {B} f g (x ∷ xs) h = ap₂ (λ (y : B) (l : List B). y ∷ l) h.0 (map_same f g xs h.1)

pub map-slots : {A : Type 0} (d : A) (l : List A) → map (λ i. get_or l i d) (slots (length l)) ≡ l
map-slots d l =
    let n : length (slots (length l)) ≡ length l = tabulate-length (λ i. i) (length l) in
    let m : length (map (λ i. get_or l i d) (slots (length l))) ≡ length (slots (length l)) = length-map (slots (length l)) (λ i. get_or l i d) in
    ext_get_or d (map (λ i. get_or l i d) (slots (length l))) l (m ∙ n)
    (λ i h. get_d-mapped (λ i. get_or l i d) (slots (length l)) i 0 d (omega arith)
    ∙ ap (λ (j : ℕ). get_or l j d) (tabulate-at (λ i. i) (length l) 0 i (omega arith)))
