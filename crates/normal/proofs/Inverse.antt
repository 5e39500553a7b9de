-- A map of n numbers into n numbers that is one to one reaches each of them, so it has an inverse. Assumes nothing.
use mathlib.Core.Path.{◌≡◌, refl, sym, ◌∙◌}
use mathlib.Core.Bool.{Bool, true, false, cond}
use Prim.Native.Nat.{ℕ, zero, suc, ◌<◌}
use native.Mathlib.Omega.{arith}
use native.Mathlib.Decide.{dec_lt}
use lib.Dec.{eqb}
use borrow.Author.Tests.{eqb-true, eqb-false}
use Rattle.logic.proofs.Tests.{cond_has}
use Rattle.basics.proofs.Truth.{either}

pub record Into (p : ℕ → ℕ) (n : ℕ) : Type 0 where
  pub inside : (s : ℕ) → s < n → p s < n
  pub single : (s t : ℕ) → s < n → t < n → p s ≡ p t → s ≡ t

pub record Preimage (p : ℕ → ℕ) (n t : ℕ) : Type 0 where
  pub slot : ℕ
  pub inside : slot < n
  pub leads : p slot ≡ t

-- one number less: what went to m goes where m went
module _ (m : ℕ) (p : ℕ → ℕ) (into : Into p (suc m)) where
  abbrev less : ℕ → ℕ
  less s = cond (eqb (p s) m) (p m) (p s)

  others : (s : ℕ) → s < m → p s ≡ p m → ⊥
  others s l e = let q : s ≡ m = into.single s m (omega arith) (omega arith) e in omega arith

  less-inside : (s : ℕ) → s < m → less s < m
  less-inside s l =
      let a : p s < suc m = into.inside s (omega arith) in
      let b : p m < suc m = into.inside m (omega arith) in
      cond_has (λ (i : ℕ). i < m) (eqb (p s) m) (p m) (p s)
      (λ e. let f : p m ≡ m → ⊥ = λ g. others s l (eqb-true (p s) m e ∙ sym g) in omega arith)
      (λ e. let f : p s ≡ m → ⊥ = eqb-false (p s) m e in omega arith)

  less-single : (s t : ℕ) → s < m → t < m → less s ≡ less t → s ≡ t
  less-single s t l k = go (eqb (p s) m) (eqb (p t) m) refl refl
    where
      go : (b c : Bool) → eqb (p s) m ≡ b → eqb (p t) m ≡ c → cond b (p m) (p s) ≡ cond c (p m) (p t) → s ≡ t
      go true true e f h = into.single s t (omega arith) (omega arith) (eqb-true (p s) m e ∙ sym (eqb-true (p t) m f))
      go true false e f h = absurd (others t k (sym h))
      go false true e f h = absurd (others s l h)
      go false false e f h = into.single s t (omega arith) (omega arith) h

  less-into : Into less m
  less-into = record { inside = less-inside; single = less-single }

  -- from what reaches t there to what reaches it here
  more : (t : ℕ) → t < suc m → ((i : ℕ) → i < m → Preimage less m i) → Preimage p (suc m) t
  more t l rec = either (eqb (p m) t) (λ e. record { slot = m; inside = omega arith; leads = eqb-true (p m) t e }) (λ e. below (eqb-false (p m) t e))
    where
      back : (s : ℕ) (b c : Bool) → s < m → (p m ≡ t → ⊥) → eqb (p s) m ≡ b → eqb t m ≡ c → cond b (p m) (p s) ≡ cond c (p m) t → p s ≡ t
      back s true true k h e f q = eqb-true (p s) m e ∙ sym (eqb-true t m f)
      back s true false k h e f q = absurd (h q)
      back s false true k h e f q = absurd (others s k q)
      back s false false k h e f q = q

      target : (p m ≡ t → ⊥) → cond (eqb t m) (p m) t < m
      target h =
          let b : p m < suc m = into.inside m (omega arith) in
          cond_has (λ (i : ℕ). i < m) (eqb t m) (p m) t
          (λ e. let f : t ≡ m = eqb-true t m e in omega (arith, h)) (λ e. let f : t ≡ m → ⊥ = eqb-false t m e in omega arith)

      below : (p m ≡ t → ⊥) → Preimage p (suc m) t
      below h =
          let r : Preimage less m (cond (eqb t m) (p m) t) = rec (cond (eqb t m) (p m) t) (target h) in
          let k : r.slot < m = r.inside in
          record { slot = r.slot; inside = omega arith; leads = back r.slot (eqb (p r.slot) m) (eqb t m) k h refl refl r.leads }

pub preimage : (n : ℕ) (p : ℕ → ℕ) → Into p n → (t : ℕ) → t < n → Preimage p n t
preimage zero p into t l = absurd (omega arith)
preimage (suc m) p into t l = more m p into t l (preimage m (less m p into) (less-into m p into))

module _ (n : ℕ) (p : ℕ → ℕ) (into : Into p n) where
  at : (t : ℕ) → Dec (t < n) → ℕ
  at t (yes l) = (preimage n p into t l).slot
  at t (no l) = 0

  found : (t : ℕ) → t < n → (x : Dec (t < n)) → (at t x < n) × (p (at t x) ≡ t)
  unfolding at
  found t l (yes k) = ((preimage n p into t k).inside, (preimage n p into t k).leads)
  found t l (no k) = absurd (k l)

  pub inverse : ℕ → ℕ
  inverse t = at t (dec_lt t n)

  pub inverse-inside : (t : ℕ) → t < n → inverse t < n
  unfolding inverse
  inverse-inside t l = (found t l (dec_lt t n)).0

  pub inverse-right : (t : ℕ) → t < n → p (inverse t) ≡ t
  unfolding inverse
  inverse-right t l = (found t l (dec_lt t n)).1

  pub inverse_left : (s : ℕ) → s < n → inverse (p s) ≡ s
  inverse_left s l =
      let k : p s < n = into.inside s l in
      into.single (inverse (p s)) s (inverse-inside (p s) k) l (inverse-right (p s) k)
