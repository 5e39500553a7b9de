-- The loop of `find`. Assumes nothing.
use Rattle.std.specs.Prelude.{Option, Some, None, find}
use mathlib.Core.Path.{◌≡◌, refl, sym, ap, ◌∙◌, subst}
use mathlib.Core.Bool.{Bool, true, false, ◌&&◌}
use mathlib.Core.List.{List}
use Prim.Native.Nat.{ℕ, ◌+◌, ◌-◌, ◌^◌, ◌<◌, ◌≤◌}
use native.Mathlib.Omega.{arith}
use native.Mathlib.Decide.{dec_lt}
use lib.Dec.{eqb}
use borrow.Author.Tests.{eqb-true, eq-eqb}
use Rattle.basics.specs.Lists.{slots}
use Rattle.basics.proofs.Truth.{either, and-true}
use Rattle.chains.specs.declared.Chains.{Chains}
use Rattle.chains.specs.Chains.{least_from, first_in, next_in, Chained, Searchable, Agrees, Finds}
use Rattle.chains.proofs.Firsts.{first-is, first-none, first-same, least-has, least-lacks}

-- all items of the class before the one that is reached are missed
pub record Searching (post : ℕ → Bool → Type 0) (c : Chains) (ws : List ℕ) (b : ℕ) (at : Option ℕ) : Type 0 where
  pub of : (class : ℕ → ℕ) (k : ℕ) → Chained c class k ws → (i : ℕ) → at ≡ Some i → (i < k) × (class i ≡ b)
  pub missed : (class : ℕ → ℕ) (k : ℕ) (t : ℕ → Bool) → Chained c class k ws → Agrees post k t
      → (j : ℕ) → j < k → ((i : ℕ) → at ≡ Some i → j < i) → class j ≡ b → t j ≡ false

-- how far an item is from all that a word can hold
abbrev pub left : Option ℕ → ℕ
left None = 0
left (Some i) = 2 ^ 32 - i

module _ (post : ℕ → Bool → Type 0) (c : Chains) (ws : List ℕ) (b : ℕ) (small : b < c.classes) where
  -- at the least item from one on, with all before that missed
  reached : (i : ℕ) (at : Option ℕ)
      → ((class : ℕ → ℕ) (k : ℕ) → Chained c class k ws → at ≡ least_from class b i k)
      → ((class : ℕ → ℕ) (k : ℕ) (t : ℕ → Bool) → Chained c class k ws → Agrees post k t → (j : ℕ) → j < k → j < i → class j ≡ b → t j ≡ false)
      → Searching post c ws b at
  reached i at is h = record {
    of = λ class k s m e. let f = least-has class b i k m (sym (is class k s) ∙ e) in (f.below, f.of);
    missed = λ class k t s a j l before q. go class k t s a j l before q (dec_lt j i) at refl;
  }
    where
      go : (class : ℕ → ℕ) (k : ℕ) (t : ℕ → Bool) → Chained c class k ws → Agrees post k t → (j : ℕ) → j < k → ((m : ℕ) → at ≡ Some m → j < m) → class j ≡ b
          → Dec (j < i) → (o : Option ℕ) → at ≡ o → t j ≡ false
      go class k t s a j l before q (yes m) o e = h class k t s a j l m q
      go class k t s a j l before q (no m) None e = absurd ((least-lacks class b i k (sym (is class k s) ∙ e)).none j (omega arith) l q)
      go class k t s a j l before q (no m) (Some x) e =
          absurd ((least-has class b i k x (sym (is class k s) ∙ e)).before j (omega arith) (before x e) q)

  pub searching-starts : (at : Option ℕ) → at ≡ first_in c ws b → Searching post c ws b at
  searching-starts at e = reached 0 at (λ class k s. e ∙ s.head b small) (λ class k t s a j l m. absurd (omega arith))

  module _ (at : Option ℕ) (g : Searching post c ws b at) where
    pub searching-ends : at ≡ None → Finds post c ws b None
    searching-ends e = record {
      found = λ class k t s a. sym (first-none (λ i. eqb (class i) b && t i) k (λ j l. either (eqb (class j) b) (λ q. fails class k t s a j l q) (λ q. rw q)));
    }
      where
        fails : (class : ℕ → ℕ) (k : ℕ) (t : ℕ → Bool) → Chained c class k ws → Agrees post k t → (j : ℕ) → j < k → eqb (class j) b ≡ true
            → (eqb (class j) b && t j) ≡ false
        fails class k t s a j l q =
            rw (q, g.missed class k t s a j l (λ m f. let z : None ≡ Some m = sym e ∙ f in absurd (cc)) (eqb-true (class j) b q))

    module _ (i : ℕ) (is : at ≡ Some i) (y : Bool) (said : post i y) where
      pub searching-finds : y ≡ true → Finds post c ws b (Some i)
      searching-finds e = record { found = λ class k t s a. sym (here class k t s a) }
        where
          here : (class : ℕ → ℕ) (k : ℕ) (t : ℕ → Bool) → Chained c class k ws → Agrees post k t → find (λ i. eqb (class i) b && t i) (slots k) ≡ Some i
          here class k t s a =
              let there = g.of class k s i is in
              first-is (λ i. eqb (class i) b && t i) k i there.0
              (and-true (eqb (class i) b) (t i) (eq-eqb (class i) b there.1) (sym (a i y there.0 said) ∙ e))
              (λ j l. either (eqb (class j) b) (λ q. earlier class k t s a j l there.0 q) (λ q. rw q))
            where
              earlier : (class : ℕ → ℕ) (k : ℕ) (t : ℕ → Bool) → Chained c class k ws → Agrees post k t → (j : ℕ) → j < i → i < k → eqb (class j) b ≡ true
                  → (eqb (class j) b && t j) ≡ false
              earlier class k t s a j l n q =
                  rw (q, g.missed class k t s a j (omega arith) (λ m f. let z : i ≡ m = cc in omega arith) (eqb-true (class j) b q))

      -- and the next one
      module _ (at' : Option ℕ) (next : at' ≡ next_in c ws i) where
        onward : (class : ℕ → ℕ) (k : ℕ) → Chained c class k ws → at' ≡ least_from class b (i + 1) k
        onward class k s =
            let there = g.of class k s i is in
            next ∙ s.next i there.0 (subst (λ (x : ℕ). x < c.classes) (sym there.1) small) ∙ ap (λ (x : ℕ). least_from class x (i + 1) k) there.1

        pub searching-more : y ≡ false → Searching post c ws b at'
        searching-more e = reached (i + 1) at' onward (λ class k t s a j l m q. go class k t s a j l m q (dec_lt j i))
          where
            go : (class : ℕ → ℕ) (k : ℕ) (t : ℕ → Bool) → Chained c class k ws → Agrees post k t → (j : ℕ) → j < k → j < i + 1 → class j ≡ b
                → Dec (j < i) → t j ≡ false
            go class k t s a j l m q (yes n) = g.missed class k t s a j l (λ x f. let z : i ≡ x = cc in omega arith) q
            go class k t s a j l m q (no n) =
                let z : i ≡ j = omega arith in
                subst (λ (x : ℕ). t x ≡ false) z (sym (a i y (g.of class k s i is).0 said) ∙ e)

        pub searching-falls : (pre : ℕ → Type 0) → Searchable pre c ws → left at' < left at
        searching-falls pre q = subst (λ (o : Option ℕ). left at' < left o) (sym is) (go at' refl)
          where
            go : (o : Option ℕ) → at' ≡ o → left o < left (Some i)
            go None e = let l : i < q.items = (g.of q.class q.items q.chained i is).0 in let f : q.items ≤ 2 ^ 32 = q.few in omega arith
            go (Some j) e =
                let f = least-has q.class b (i + 1) q.items j (sym (onward q.class q.items q.chained) ∙ e) in
                let few : q.items ≤ 2 ^ 32 = q.few in
                let from : i + 1 ≤ j = f.from in
                let below : j < q.items = f.below in
                omega arith

-- where only items of the class pass, what is found is the first of all items that passes
pub found-of-all : (post : ℕ → Bool → Type 0) (c : Chains) (ws : List ℕ) (b : ℕ) (r : Option ℕ) → Finds post c ws b r
    → (class : ℕ → ℕ) (k : ℕ) (t : ℕ → Bool) → Chained c class k ws → Agrees post k t → ((i : ℕ) → i < k → t i ≡ true → class i ≡ b)
    → r ≡ find t (slots k)
found-of-all post c ws b r f class k t s a own = f.found class k t s a ∙ first-same (λ i. eqb (class i) b && t i) t k same
  where
    same : (i : ℕ) → i < k → (eqb (class i) b && t i) ≡ t i
    same i l = either (t i) (λ e. and-true (eqb (class i) b) (t i) (eq-eqb (class i) b (own i l e)) e ∙ sym e) (λ e. rw e (none (eqb (class i) b)))
      where
        none : (x : Bool) → (x && false) ≡ false
        none true = refl
        none false = refl
