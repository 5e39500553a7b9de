-- The first of the slots that passes a test, and the least item of a class. Assumes nothing.
use Rattle.std.specs.Prelude.{Option, Some, None, is_some, find}
use Rattle.std.specs.Option.{option_or}
use Rattle.std.proofs.lemmas.List.Folds.{find-append}
use mathlib.Core.Path.{◌≡◌, refl, sym, ap, ◌∙◌, subst}
use mathlib.Core.Bool.{Bool, true, false, cond, ◌&&◌}
use mathlib.Core.List.{List, [], ◌∷◌}
use mathlib.Core.Logic.{◌⊎◌, inl, inr, ⊎_elim}
use Prim.Native.Nat.{ℕ, zero, suc, ◌+◌, ◌<◌, ◌≤◌}
use native.Mathlib.Omega.{arith}
use native.Mathlib.Decide.{dec_lt}
use lib.Dec.{eqb, leb}
use borrow.Author.Tests.{eqb-true, eq-eqb, leb-true, le-leb}
use Rattle.basics.specs.Lists.{tabulate, slots, any_of}
use Rattle.basics.proofs.Truth.{either, never, and_both, and-true}
use Rattle.chains.specs.Chains.{least_from}

module _ (p : ℕ → Bool) where
  -- a slot passes, and none before it
  pub record First (k i : ℕ) : Type 0 where
    pub below : i < k
    pub passes : p i ≡ true
    pub before : (j : ℕ) → j < i → p j ≡ false
    pub is : find p (slots k) ≡ Some i

  -- or none does
  pub record Nowhere (k : ℕ) : Type 0 where
    pub fails : (j : ℕ) → j < k → p j ≡ false
    pub is : find p (slots k) ≡ None

  more : (k : ℕ) → find p (slots (suc k)) ≡ option_or (find p (slots k)) (cond (p k) (Some k) None)
  unfolding tabulate
  more k = find-append p (slots k) (k ∷ [])

  -- one of the two
  pub looked : (k : ℕ) → ((i : ℕ) × First k i) ⊎ Nowhere k
  unfolding tabulate
  looked zero = inr (record { fails = λ j l. absurd (omega arith); is = refl })
  looked (suc k) = ⊎_elim found lacking (looked k)
    where
      found : ((i : ℕ) × First k i) → ((i : ℕ) × First (suc k) i) ⊎ Nowhere (suc k)
      found (i, f) =
          inl (i, record { below = let l : i < k = f.below in omega arith; passes = f.passes; before = f.before; is = more k ∙ rw f.is })

      lacking : Nowhere k → ((i : ℕ) × First (suc k) i) ⊎ Nowhere (suc k)
      lacking w =
          either (p k)
          (λ e. inl (k, record { below = omega arith; passes = e; before = w.fails; is = more k ∙ rw (w.is, e) }))
          (λ e. inr (record { fails = λ j l. last j l e (dec_lt j k); is = more k ∙ rw (w.is, e) }))
        where
          last : (j : ℕ) → j < suc k → p k ≡ false → Dec (j < k) → p j ≡ false
          last j l e (yes m) = w.fails j m
          last j l e (no m) = let q : k ≡ j = omega arith in subst (λ (x : ℕ). p x ≡ false) q e

  pub first-is : (k i : ℕ) → i < k → p i ≡ true → ((j : ℕ) → j < i → p j ≡ false) → find p (slots k) ≡ Some i
  first-is k i l t h = ⊎_elim found (λ w. never t (w.fails i l)) (looked k)
    where
      found : ((m : ℕ) × First k m) → find p (slots k) ≡ Some i
      found (m, f) = go (dec_lt i m) (dec_lt m i)
        where
          go : Dec (i < m) → Dec (m < i) → find p (slots k) ≡ Some i
          go (yes a) d = never t (f.before i a)
          go (no a) (yes b) = never f.passes (h m b)
          go (no a) (no b) = let q : m ≡ i = omega arith in f.is ∙ ap Some q

  pub first-none : (k : ℕ) → ((j : ℕ) → j < k → p j ≡ false) → find p (slots k) ≡ None
  first-none k h = ⊎_elim (λ f. never f.1.passes (h f.0 f.1.below)) (λ w. w.is) (looked k)

-- tests that agree on the slots
pub first-same : (p q : ℕ → Bool) (k : ℕ) → ((i : ℕ) → i < k → p i ≡ q i) → find p (slots k) ≡ find q (slots k)
first-same p q k same =
    ⊎_elim
    (λ f. first-is p k f.0 f.1.below (same f.0 f.1.below ∙ f.1.passes) (λ j l. same j (let below : f.0 < k = f.1.below in omega arith) ∙ f.1.before j l) ∙ sym f.1.is)
    (λ w. first-none p k (λ j l. same j l ∙ w.fails j l) ∙ sym w.is) (looked q k)

-- whether there is one at all
pub first-any : (p : ℕ → Bool) (xs : List ℕ) → is_some (find p xs) ≡ any_of p xs
unfolding any_of
first-any p [] = refl
first-any p (x ∷ xs) = go (p x) (first-any p xs)
  where
    go : (b : Bool) → is_some (find p xs) ≡ any_of p xs → is_some (cond b (Some x) (find p xs)) ≡ cond b true (any_of p xs)
    go true e = refl
    go false e = e

module _ (class : ℕ → ℕ) (b i k : ℕ) where
  -- an item from i on, the first of the class
  pub record Least (m : ℕ) : Type 0 where
    pub from : i ≤ m
    pub below : m < k
    pub of : class m ≡ b
    pub before : (j : ℕ) → i ≤ j → j < m → class j ≡ b → ⊥
    pub is : least_from class b i k ≡ Some m

  -- or none
  pub record NoneLeft : Type 0 where
    pub none : (j : ℕ) → i ≤ j → j < k → class j ≡ b → ⊥
    pub is : least_from class b i k ≡ None

  test : ℕ → Bool
  test j = leb i j && eqb (class j) b

  passes : (j : ℕ) → i ≤ j → class j ≡ b → test j ≡ true
  unfolding test
  passes j l e = and-true (leb i j) (eqb (class j) b) (le-leb i j l) (eq-eqb (class j) b e)

  passed : (j : ℕ) → test j ≡ true → (i ≤ j) × (class j ≡ b)
  unfolding test
  passed j e = let both = and_both (leb i j) (eqb (class j) b) e in (leb-true i j both.0, eqb-true (class j) b both.1)

  least : ((m : ℕ) × Least m) ⊎ NoneLeft
  unfolding least_from test
  least = ⊎_elim found lacking (looked test k)
    where
      found : ((m : ℕ) × First test k m) → ((m : ℕ) × Least m) ⊎ NoneLeft
      found (m, f) = inl (
        m,
        record {
          from = (passed m f.passes).0;
          below = f.below;
          of = (passed m f.passes).1;
          before = λ j l n e. never (passes j l e) (f.before j n);
          is = f.is;
        },
      )

      lacking : Nowhere test k → ((m : ℕ) × Least m) ⊎ NoneLeft
      lacking w = inr (record { none = λ j l n e. never (passes j l e) (w.fails j n); is = w.is })

  pub least-has : (m : ℕ) → least_from class b i k ≡ Some m → Least m
  least-has m e = ⊎_elim (λ (f : (x : ℕ) × Least x). let q : f.0 ≡ m = cc (f.1.is) in subst Least q f.1) (λ w. let z : Some m ≡ None = cc (w.is) in absurd (cc)) least

  pub least-lacks : least_from class b i k ≡ None → NoneLeft
  least-lacks e = ⊎_elim (λ (f : (x : ℕ) × Least x). let z : Some f.0 ≡ None = cc (f.1.is) in absurd (cc)) (λ w. w) least

  pub least-is : (m : ℕ) → i ≤ m → m < k → class m ≡ b → ((j : ℕ) → i ≤ j → j < m → class j ≡ b → ⊥) → least_from class b i k ≡ Some m
  least-is m l n e h = ⊎_elim found (λ w. absurd (w.none m l n e)) least
    where
      found : ((x : ℕ) × Least x) → least_from class b i k ≡ Some m
      found (x, f) = go (dec_lt m x) (dec_lt x m)
        where
          go : Dec (m < x) → Dec (x < m) → least_from class b i k ≡ Some m
          go (yes a) d = absurd (f.before m l a e)
          go (no a) (yes a') = absurd (h x f.from a' f.of)
          go (no a) (no a') = let q : x ≡ m = omega arith in f.is ∙ ap Some q

  pub least-none : ((j : ℕ) → i ≤ j → j < k → class j ≡ b → ⊥) → least_from class b i k ≡ None
  least-none h = ⊎_elim (λ (f : (x : ℕ) × Least x). absurd (h f.0 f.1.from f.1.below f.1.of)) (λ w. w.is) least

-- of one item more
module _ (class : ℕ → ℕ) (b i k : ℕ) where
  pub least-stays : (m : ℕ) → least_from class b i k ≡ Some m → least_from class b i (k + 1) ≡ Some m
  least-stays m e =
      let f = least-has class b i k m e in
      let l : m < k = f.below in
      least-is class b i (k + 1) m f.from (omega arith) f.of f.before

  pub least-other : (class k ≡ b → ⊥) → least_from class b i (k + 1) ≡ least_from class b i k
  least-other h = go (least_from class b i k) refl
    where
      last : (j : ℕ) → j < k + 1 → class j ≡ b → j < k
      last j l e = go (dec_lt j k)
        where
          go : Dec (j < k) → j < k
          go (yes m) = m
          go (no m) = let q : j ≡ k = omega arith in absurd (h (sym (ap class q) ∙ e))

      go : (o : Option ℕ) → least_from class b i k ≡ o → least_from class b i (k + 1) ≡ o
      go None e =
          let w = least-lacks class b i k e in
          least-none class b i (k + 1) (λ j l m q. w.none j l (last j m q) q)
      go (Some m) e = least-stays m e

-- the classes of the first k items alone count
pub least-classes : (class class' : ℕ → ℕ) (b i k : ℕ) → ((j : ℕ) → j < k → class' j ≡ class j) → least_from class' b i k ≡ least_from class b i k
least-classes class class' b i k same = go (least_from class b i k) refl
  where
    go : (o : Option ℕ) → least_from class b i k ≡ o → least_from class' b i k ≡ o
    go None e =
        let w = least-lacks class b i k e in
        least-none class' b i k (λ j l m q. w.none j l m (sym (same j m) ∙ q))
    go (Some m) e =
        let f = least-has class b i k m e in
        least-is class' b i k m f.from f.below (same m f.below ∙ f.of)
        (λ j l n q. f.before j l n (sym (same j (let below : m < k = f.below in omega arith)) ∙ q))

-- the last item of a class
pub record Last (class : ℕ → ℕ) (b k m : ℕ) : Type 0 where
  pub below : m < k
  pub of : class m ≡ b
  pub after : (j : ℕ) → m < j → j < k → class j ≡ b → ⊥

-- is there, where the class has an item
pub last-of : (class : ℕ → ℕ) (b k i : ℕ) → i < k → class i ≡ b → (m : ℕ) × Last class b k m
last-of class b zero i l e = absurd (omega arith)
last-of class b (suc k) i l e =
    either (eqb (class k) b)
    (λ t. (k, record { below = omega arith; of = eqb-true (class k) b t; after = λ j l m. absurd (omega arith) }))
    (λ t. earlier t (dec_lt i k) (last-of class b k i))
  where
    other : eqb (class k) b ≡ false → (j : ℕ) → j ≡ k → class j ≡ b → ⊥
    other t j q f = never (eq-eqb (class k) b (sym (ap class q) ∙ f)) t

    earlier : eqb (class k) b ≡ false → Dec (i < k) → (i < k → class i ≡ b → (m : ℕ) × Last class b k m) → (m : ℕ) × Last class b (suc k) m
    earlier t (no n) rec = absurd (other t i (omega arith) e)
    earlier t (yes n) rec =
        let f = rec n e in
        let l : f.0 < k = f.1.below in
        (f.0, record { below = omega arith; of = f.1.of; after = λ j a c q. go j a q (dec_lt j k) f.1 c })
      where
        go : {m : ℕ} (j : ℕ) → m < j → class j ≡ b → Dec (j < k) → Last class b k m → j < suc k → ⊥
        go j a q (yes c) f d = f.after j a c q
        go j a q (no c) f d = other t j (omega arith) q
