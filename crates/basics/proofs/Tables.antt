-- Tables by index, and functions put to them. Assumes nothing.
use mathlib.Core.Path.{◌≡◌, refl, sym, ap, ◌∙◌, subst}
use mathlib.Core.Bool.{Bool, true, false, cond, ◌||◌}
use mathlib.Core.List.{List, [], ◌∷◌, ◌++◌, map, append_assoc}
use Prim.Native.Nat.{ℕ, zero, suc, ◌+◌, ◌<◌}
use native.Mathlib.Omega.{arith}
use native.Mathlib.Numerals.{add-one}
use native.Mathlib.Decide.{dec_lt}
use lib.ListN.{length, get_or, length-append, length-map, get_or-append}
use lib.Seq.{get_or-append_seam, ext_get_or}
use Rattle.basics.specs.Lists.{tabulate, slots, any_of, joined}

module _ {A : Type 0} (f : ℕ → A) where
  pub tabulate-length : (n : ℕ) → length (tabulate f n) ≡ n
  unfolding tabulate
  tabulate-length zero = refl
  tabulate-length (suc n) = length-append (tabulate f n) (f n ∷ []) ∙ ap (λ (k : ℕ). k + 1) (tabulate-length n) ∙ add-one n

  pub tabulate-at : (n : ℕ) (d : A) (i : ℕ) → i < n → get_or (tabulate f n) i d ≡ f i
  unfolding tabulate
  tabulate-at zero d i h = absurd (omega arith)
  tabulate-at (suc n) d i h = go (λ p. tabulate-at n d i p) (dec_lt i n)
    where
      go : (i < n → get_or (tabulate f n) i d ≡ f i) → Dec (i < n) → get_or (tabulate f n ++ (f n ∷ [])) i d ≡ f i
      go r (yes p) = get_or-append (tabulate f n) (f n ∷ []) d i (omega (arith, tabulate-length n)) ∙ r p
      go r (no p) =
          let e : i ≡ n = omega arith in
          subst (λ (k : ℕ). get_or (tabulate f n ++ (f n ∷ [])) k d ≡ f k) (tabulate-length n ∙ sym e)
          (get_or-append_seam (tabulate f n) (f n) [] d ∙ sym (ap f (tabulate-length n)))

module _ {A : Type 0} (p : A → Bool) where
  cond-any : (b c : Bool) → cond b true c ≡ b || c
  cond-any true c = refl
  cond-any false c = refl

  or_assoc : (b c d : Bool) → b || (c || d) ≡ (b || c) || d
  or_assoc true c d = refl
  or_assoc false c d = refl

  pub any-more : (xs : List A) (x : A) → any_of p (xs ++ (x ∷ [])) ≡ any_of p xs || p x
  unfolding any_of
  any-more [] x = go (p x)
    where
      go : (b : Bool) → cond b true false ≡ b
      go true = refl
      go false = refl
  any-more (y ∷ xs) x =
      rw (any-more xs x, cond-any (p y) (any_of p xs || p x), cond-any (p y) (any_of p xs)) (or_assoc (p y) (any_of p xs) (p x))

module _ {A B : Type 0} (f : A → B) where
  pub map-append : (xs ys : List A) → map f (xs ++ ys) ≡ map f xs ++ map f ys
  map-append [] ys = refl
  map-append (x ∷ xs) ys = ap (λ (l : List B). f x ∷ l) (map-append xs ys)

  pub map_at : (xs : List A) (i : ℕ) (d : B) (e : A) → i < length xs → get_or (map f xs) i d ≡ f (get_or xs i e)
  map_at [] i d e h = absurd (omega arith)
  map_at (x ∷ xs) zero d e h = refl
  map_at (x ∷ xs) (suc i) d e h = map_at xs i d e (omega arith)

-- tables
module _ {A : Type 0} (g : ℕ → A) where
  pub map-table : {B : Type 0} (f : A → B) (n : ℕ) → map f (tabulate g n) ≡ tabulate (λ s. f (g s)) n
  unfolding tabulate
  map-table f zero = refl
  map-table {B} f (suc n) = map-append f (tabulate g n) (g n ∷ []) ∙ ap (λ (l : List B). l ++ (f (g n) ∷ [])) (map-table f n)

  pub any-table : (p : A → Bool) (n : ℕ) → any_of p (tabulate g n) ≡ any_of (λ s. p (g s)) (slots n)
  unfolding tabulate any_of
  any-table p zero = refl
  any-table p (suc n) =
      any-more p (tabulate g n) (g n) ∙ ap (λ (b : Bool). b || p (g n)) (any-table p n) ∙ sym (any-more (λ s. p (g s)) (slots n) n)

module _ {A B : Type 0} (f : A → B) where
  -- a table over the elements of a list
  pub tabulate-map : (g : ℕ → B) (xs : List A) (e : A) → ((i : ℕ) → i < length xs → g i ≡ f (get_or xs i e)) → tabulate g (length xs) ≡ map f xs
  tabulate-map g xs e h =
      ext_get_or (f e) (tabulate g (length xs)) (map f xs) (tabulate-length g (length xs) ∙ sym (length-map xs f))
      (λ i l. let m : i < length xs = omega (arith, tabulate-length g (length xs)) in
      tabulate-at g (length xs) (f e) i m ∙ h i m ∙ sym (map_at f xs i (f e) e m))

pub joined-append : {A : Type 0} (xs ys : List (List A)) → joined (xs ++ ys) ≡ joined xs ++ joined ys
unfolding joined
joined-append [] ys = refl
joined-append {A} (x ∷ xs) ys = rw (joined-append xs ys) (sym (append_assoc x (joined xs) (joined ys)))
