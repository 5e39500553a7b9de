-- A choice by a test; a test that decides equality, and what is read off it.
-- Assumes nothing.
use mathlib.Core.Path.{◌≡◌, refl, subst}
use mathlib.Core.Bool.{Bool, true, false, cond, true≢false}

-- what holds of both branches, each where the test leads to it, holds of the choice
pub cond_has : {A : Type 0} (P : A → Type 0) (b : Bool) (x y : A) → (b ≡ true → P x) → (b ≡ false → P y) → P (cond b x y)
cond_has P true x y p q = p refl
cond_has P false x y p q = q refl

pub record Decides {A : Type 0} (eq : A → A → Bool) : Type 0 where
  pub same : (a b : A) → eq a b ≡ true → a ≡ b
  pub apart : (a b : A) → eq a b ≡ false → a ≡ b → ⊥
  pub is_true : (a b : A) → a ≡ b → eq a b ≡ true
  pub is_false : (a b : A) → (a ≡ b → ⊥) → eq a b ≡ false

-- it is enough that the test tells only equals, and each value of itself
pub decides : {A : Type 0} (eq : A → A → Bool) → ((a b : A) → eq a b ≡ true → a ≡ b) → ((a : A) → eq a a ≡ true) → Decides eq
decides {A} eq told self =
    record {
      same = told;
      apart = λ a b e q. true≢false (rw (holds a b q) at e);
      is_true = holds;
      is_false = λ a b h. fails a b h (eq a b) refl;
    }
  where
    holds : (a b : A) → a ≡ b → eq a b ≡ true
    holds a b q = subst (λ (z : A). eq a z ≡ true) q (self a)

    fails : (a b : A) → (a ≡ b → ⊥) → (t : Bool) → eq a b ≡ t → t ≡ false
    fails a b h true e = absurd (h (told a b e))
    fails a b h false e = refl
