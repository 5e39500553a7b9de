-- Members of lists: what holds of each, and numbers among others. Assumes nothing.
use mathlib.Core.Path.{◌≡◌, refl, sym, ap, ◌∙◌, subst}
use mathlib.Core.Bool.{Bool, true, false, cond, ◌&&◌, ◌||◌, true≢false, false≢true}
use mathlib.Core.List.{List, [], ◌∷◌, ◌++◌, map}
use Prim.Native.Nat.{ℕ, zero, suc, ◌<◌}
use native.Mathlib.Omega.{arith}
use lib.Dec.{eqb}
use lib.ListN.{length, get_or}
use borrow.Author.Tests.{eqb-true, eqb-false, ne_eqb}
use Rattle.basics.specs.Lists.{tabulate, slots, those, any_of, joined, has, All}
use Rattle.basics.proofs.Truth.{either, never, eqb-self, or_left, or_right, or-none, and_both, and-true}

-- what holds of each element
pub all-imp : {A : Type 0} (P Q : A → Type 0) → ((x : A) → P x → Q x) → (xs : List A) → All P xs → All Q xs
unfolding All
all-imp P Q f [] h = tt
all-imp P Q f (x ∷ xs) h = (f x h.0, all-imp P Q f xs h.1)

pub all-every : {A : Type 0} (P : A → Type 0) → ((x : A) → P x) → (xs : List A) → All P xs
unfolding All
all-every P f [] = tt
all-every P f (x ∷ xs) = (f x, all-every P f xs)

pub all_both : {A : Type 0} (P Q : A → Type 0) (xs : List A) → All P xs → All Q xs → All (λ x. P x × Q x) xs
unfolding All
all_both P Q [] g h = tt
all_both P Q (x ∷ xs) g h = ((g.0, h.0), all_both P Q xs g.1 h.1)

pub all_map : {A B : Type 0} (f : A → B) (P : B → Type 0) (xs : List A) → All (λ x. P (f x)) xs → All P (map f xs)
unfolding All
all_map f P [] h = tt
all_map f P (x ∷ xs) h = (h.0, all_map f P xs h.1)

pub all-unmap : {A B : Type 0} (f : A → B) (P : B → Type 0) (xs : List A) → All P (map f xs) → All (λ x. P (f x)) xs
unfolding All
all-unmap f P [] h = tt
all-unmap f P (x ∷ xs) h = (h.0, all-unmap f P xs h.1)

module _ {A : Type 0} (P : A → Type 0) where
  pub all_append : (xs ys : List A) → All P xs → All P ys → All P (xs ++ ys)
  unfolding All
  all_append [] ys g h = h
  all_append (x ∷ xs) ys g h = (g.0, all_append xs ys g.1 h)

  pub all-tabulate : (f : ℕ → A) (n : ℕ) → ((i : ℕ) → i < n → P (f i)) → All P (tabulate f n)
  unfolding All tabulate
  all-tabulate f zero h = tt
  all-tabulate f (suc n) h = all_append (tabulate f n) (f n ∷ []) (all-tabulate f n (λ i l. h i (omega arith))) (h n (omega arith), tt)

  -- by its place
  pub all-at : (xs : List A) (i : ℕ) (d : A) → All P xs → i < length xs → P (get_or xs i d)
  unfolding All
  all-at [] i d h l = absurd (omega arith)
  all-at (x ∷ xs) zero d h l = h.0
  all-at (x ∷ xs) (suc i) d h l = all-at xs i d h.1 (omega arith)

  pub all-joined : {B : Type 0} (F : B → List A) (is : List B) → All (λ i. All P (F i)) is → All P (joined (map F is))
  unfolding All joined
  all-joined F [] h = tt
  all-joined F (i ∷ is) h = all_append (F i) (joined (map F is)) h.0 (all-joined F is h.1)

-- a number among others
pub has_first : (y : ℕ) (ys : List ℕ) → has y (y ∷ ys) ≡ true
unfolding has
has_first y ys = or_left (eqb y y) (has y ys) (eqb-self y)

pub has-later : (x y : ℕ) (ys : List ℕ) → has x ys ≡ true → has x (y ∷ ys) ≡ true
unfolding has
has-later x y ys e = or_right (eqb x y) (has x ys) e

-- by cases: the first one, or one behind it
pub has-cons : {A : Type 0} (x y : ℕ) (ys : List ℕ) → has x (y ∷ ys) ≡ true → (x ≡ y → A) → (has x ys ≡ true → A) → A
unfolding has
has-cons x y ys h f g = either (eqb x y) (λ e. f (eqb-true x y e)) (λ e. g (sym (or-none (eqb x y) (has x ys) e) ∙ h))

-- of each and of each by its number
module _ (P : ℕ → Type 0) where
  pub all-has : (xs : List ℕ) → ((x : ℕ) → has x xs ≡ true → P x) → All P xs
  unfolding All
  all-has [] h = tt
  all-has (y ∷ ys) h = (h y (has_first y ys), all-has ys (λ x e. h x (has-later x y ys e)))

  pub has_all : (xs : List ℕ) → All P xs → (x : ℕ) → has x xs ≡ true → P x
  unfolding All has
  has_all [] a x h = absurd (false≢true h)
  has_all (y ∷ ys) a x h = has-cons x y ys h (λ e. subst P (sym e) a.0) (has_all ys a.1 x)

pub has-append : (x : ℕ) (ys zs : List ℕ) → has x (ys ++ zs) ≡ (has x ys || has x zs)
unfolding has
has-append x [] zs = refl
has-append x (y ∷ ys) zs = join (eqb x y) (has-append x ys zs)
  where
    join : (b : Bool) → has x (ys ++ zs) ≡ (has x ys || has x zs) → (b || has x (ys ++ zs)) ≡ (b || has x ys || has x zs)
    join true e = refl
    join false e = e

-- one more at the end
pub has-snoc-same : (ys : List ℕ) (s : ℕ) → has s (ys ++ (s ∷ [])) ≡ true
has-snoc-same ys s = has-append s ys (s ∷ []) ∙ or_right (has s ys) _ (has_first s [])

pub has-snoc-other : (x : ℕ) (ys : List ℕ) (s : ℕ) → (x ≡ s → ⊥) → has x (ys ++ (s ∷ [])) ≡ has x ys
unfolding has
has-snoc-other x ys s h = has-append x ys (s ∷ []) ∙ go (has x ys) (eqb x s) (ne_eqb x s h)
  where
    go : (b c : Bool) → c ≡ false → (b || (c || false)) ≡ b
    go true c e = refl
    go false true e = absurd (true≢false e)
    go false false e = refl

pub has-snoc-old : (x : ℕ) (ys : List ℕ) (s : ℕ) → has x ys ≡ true → has x (ys ++ (s ∷ [])) ≡ true
has-snoc-old x ys s e = has-append x ys (s ∷ []) ∙ or_left (has x ys) _ e

-- by cases: the last one, or one before
pub has-snoc : {A : Type 0} (x : ℕ) (ys : List ℕ) (s : ℕ) → has x (ys ++ (s ∷ [])) ≡ true → (x ≡ s → A) → (has x ys ≡ true → A) → A
has-snoc x ys s h f g =
    either (eqb x s) (λ e. f (eqb-true x s e)) (λ e. g (sym (has-snoc-other x ys s (eqb-false x s e)) ∙ h))

pub has-any : (x : ℕ) (ys : List ℕ) → has x ys ≡ any_of (eqb x) ys
unfolding has any_of
has-any x [] = refl
has-any x (y ∷ ys) = go (eqb x y) (has-any x ys)
  where
    go : (b : Bool) → has x ys ≡ any_of (eqb x) ys → (b || has x ys) ≡ cond b true (any_of (eqb x) ys)
    go true e = refl
    go false e = e

pub has-map : (f : ℕ → ℕ) (x : ℕ) (ys : List ℕ) → has x ys ≡ true → has (f x) (map f ys) ≡ true
unfolding has
has-map f x [] h = absurd (false≢true h)
has-map f x (y ∷ ys) h =
    has-cons x y ys h
    (λ e. ap (λ (z : ℕ). has (f z) (map f (y ∷ ys))) e ∙ has_first (f y) (map f ys))
    (λ e. has-later (f x) (f y) (map f ys) (has-map f x ys e))

pub has-joined : (F : ℕ → List ℕ) (i x : ℕ) (is : List ℕ) → has i is ≡ true → has x (F i) ≡ true → has x (joined (map F is)) ≡ true
unfolding has joined
has-joined F i x [] h k = absurd (false≢true h)
has-joined F i x (j ∷ is) h k =
    has-append x (F j) (joined (map F is))
    ∙ has-cons i j is h
    (λ e. or_left (has x (F j)) _ (subst (λ (z : ℕ). has x (F z) ≡ true) e k))
    (λ e. or_right (has x (F j)) _ (has-joined F i x is e k))

pub has-tabulate : (f : ℕ → ℕ) (n i : ℕ) → i < n → has (f i) (tabulate f n) ≡ true
unfolding tabulate
has-tabulate f zero i l = absurd (omega arith)
has-tabulate f (suc n) i l =
    let h : i < n → has (f i) (tabulate f n) ≡ true = has-tabulate f n i in
    either (eqb i n)
    (λ e. ap (λ x. has (f x) (tabulate f n ++ (f n ∷ []))) (eqb-true i n e) ∙ has-snoc-same (tabulate f n) (f n))
    (λ e. has-snoc-old (f i) (tabulate f n) (f n) (h (omega (arith, eqb-false i n e))))

-- the slots are the numbers below n
pub has-slots : (n s : ℕ) → s < n → has s (slots n) ≡ true
has-slots n s l = has-tabulate (λ i. i) n s l

pub all_slots : (n : ℕ) → All (λ s. s < n) (slots n)
all_slots n = all-tabulate (λ s. s < n) (λ s. s) n (λ i l. l)

pub slots_small : (n s : ℕ) → has s (slots n) ≡ true → s < n
slots_small n s h = has_all (λ s. s < n) (slots n) (all_slots n) s h

-- among those that pass a test
pub has-those : (q : ℕ → Bool) (xs : List ℕ) (x : ℕ) → has x (those q xs) ≡ (has x xs && q x)
unfolding has those
has-those q [] x = refl
has-those q (y ∷ xs) x = go (eqb x y) refl (q y) refl (has-those q xs x)
  where
    go : (e : Bool) → eqb x y ≡ e → (t : Bool) → q y ≡ t → has x (those q xs) ≡ (has x xs && q x)
        → has x (cond t (y ∷ those q xs) (those q xs)) ≡ ((e || has x xs) && q x)
    go true e true g ih = ap (λ b. b || has x (those q xs)) e ∙ sym (ap q (eqb-true x y e) ∙ g)
    go true e false g ih = ih ∙ none (has x xs) (q x) (ap q (eqb-true x y e) ∙ g) ∙ sym (ap q (eqb-true x y e) ∙ g)
      where
        none : (a b : Bool) → b ≡ false → (a && b) ≡ false
        none true b f = f
        none false b f = refl
    go false e true g ih = ap (λ b. b || has x (those q xs)) e ∙ ih
    go false e false g ih = ih

pub those-has : (q : ℕ → Bool) (xs : List ℕ) (x : ℕ) → has x (those q xs) ≡ true → has x xs ≡ true
those-has q xs x h = (and_both (has x xs) (q x) (sym (has-those q xs x) ∙ h)).0

pub has-passing : (q : ℕ → Bool) (xs : List ℕ) (x : ℕ) → has x xs ≡ true → q x ≡ true → has x (those q xs) ≡ true
has-passing q xs x h e = has-those q xs x ∙ and-true (has x xs) (q x) h e

module _ {A : Type 0} (p : A → Bool) where
  pub those-pass : (xs : List A) → All (λ x. p x ≡ true) (those p xs)
  unfolding those All
  those-pass [] = tt
  those-pass (x ∷ xs) = go (p x) refl (those-pass xs)
    where
      go : (b : Bool) → p x ≡ b → All (λ x. p x ≡ true) (those p xs) → All (λ x. p x ≡ true) (cond b (x ∷ those p xs) (those p xs))
      go true e h = (e, h)
      go false e h = h

  pub all-those : (P : A → Type 0) (xs : List A) → All P xs → All P (those p xs)
  unfolding those All
  all-those P [] h = tt
  all-those P (x ∷ xs) h = go (p x) (all-those P xs h.1)
    where
      go : (b : Bool) → All P (those p xs) → All P (cond b (x ∷ those p xs) (those p xs))
      go true k = (h.0, k)
      go false k = k

  -- a test that passes no other
  pub those-those : (q : A → Bool) (xs : List A) → All (λ x. q x ≡ true → p x ≡ true) xs → those q (those p xs) ≡ those q xs
  unfolding those All
  those-those q [] h = refl
  those-those q (x ∷ xs) h = go (p x) (q x) refl refl (those-those q xs h.1)
    where
      go : (b c : Bool) → p x ≡ b → q x ≡ c → those q (those p xs) ≡ those q xs
          → those q (cond b (x ∷ those p xs) (those p xs)) ≡ cond c (x ∷ those q xs) (those q xs)
      go true true e f k = ap (λ (t : Bool). cond t (x ∷ those q (those p xs)) (those q (those p xs))) f ∙ ap (λ (l : List A). x ∷ l) k
      go true false e f k = ap (λ (t : Bool). cond t (x ∷ those q (those p xs)) (those q (those p xs))) f ∙ k
      go false true e f k = never (h.0 f) e
      go false false e f k = k

  pub those-same : (q : A → Bool) (xs : List A) → All (λ x. p x ≡ q x) xs → those p xs ≡ those q xs
  unfolding those All
  those-same q [] h = refl
  those-same q (x ∷ xs) h =
      ap (λ (b : Bool). cond b (x ∷ those p xs) (those p xs)) h.0 ∙ ap (λ (l : List A). cond (q x) (x ∷ l) l) (those-same q xs h.1)

  pub those-every : (xs : List A) → All (λ x. p x ≡ true) xs → those p xs ≡ xs
  unfolding All those
  those-every [] h = refl
  those-every (x ∷ xs) h = ap (λ (b : Bool). cond b (x ∷ those p xs) (those p xs)) h.0 ∙ ap (λ (l : List A). x ∷ l) (those-every xs h.1)

  pub any_none : (xs : List A) → All (λ x. p x ≡ false) xs → any_of p xs ≡ false
  unfolding All any_of
  any_none [] h = refl
  any_none (x ∷ xs) h = ap (λ (b : Bool). cond b true (any_of p xs)) h.0 ∙ any_none xs h.1

  pub none_any : (xs : List A) → any_of p xs ≡ false → All (λ x. p x ≡ false) xs
  unfolding All any_of
  none_any [] e = tt
  none_any (x ∷ xs) e = go (p x) refl e (none_any xs)
    where
      go : (b : Bool) → p x ≡ b → cond b true (any_of p xs) ≡ false → (any_of p xs ≡ false → All (λ x. p x ≡ false) xs)
          → (p x ≡ false) × All (λ x. p x ≡ false) xs
      go true q f rec = absurd (true≢false f)
      go false q f rec = (q, rec f)

pub map-those : {A B : Type 0} (f : A → B) (q : B → Bool) (xs : List A) → map f (those (λ x. q (f x)) xs) ≡ those q (map f xs)
unfolding those
map-those f q [] = refl
map-those {A} {B} f q (x ∷ xs) = go (q (f x)) (map-those f q xs)
  where
    go : (b : Bool) → map f (those (λ x. q (f x)) xs) ≡ those q (map f xs)
        → map f (cond b (x ∷ those (λ x. q (f x)) xs) (those (λ x. q (f x)) xs)) ≡ cond b (f x ∷ those q (map f xs)) (those q (map f xs))
    go true e = ap (λ (l : List B). f x ∷ l) e
    go false e = e
