-- A FOLD SOLVES ITS EQUATION: along an order in which each slot stands once and after what it depends on, every value is at the end what it is
-- computed to be from the others at the end. Assumes nothing.
use mathlib.Core.Path.{◌≡◌, refl, sym, ap, ◌∙◌, subst}
use mathlib.Core.Bool.{Bool, true, false, true≢false}
use mathlib.Core.Logic.{◌⊎◌, ⊎_elim}
use mathlib.Core.List.{List, [], ◌∷◌, ◌++◌}
use Prim.Native.Nat.{ℕ, ◌<◌}
use native.Mathlib.Omega.{arith}
use lib.Dec.{eqb}
use lib.ListN.{length, get_or, set, length-set}
use lib.Seq.{get_or-set_same, get_or-set_other}
use borrow.Author.Tests.{eqb-true, eqb-false}
use Rattle.levels.specs.Fold.{fold_in}
use Rattle.basics.specs.Lists.{has}
use Rattle.order_laws.specs.Ordered.{OnceAfter, FedAfter}
use Rattle.basics.proofs.Truth.{either, or-none, neither}
use Rattle.basics.proofs.Members.{has-snoc-same}
use Rattle.order_laws.proofs.Walks.{once-not}

-- a value is computed from its own so far and from those of the slots that it depends on and of the sources; a source keeps its own
module _ {A : Type 0} (d : A) (g : A → List A → ℕ → A) (n : ℕ) (deps : ℕ → List ℕ) (source : ℕ → Bool)
    (own : (a : A) (vs : List A) (s : ℕ) → source s ≡ true → g a vs s ≡ a)
    (local : (a : A) (vs ws : List A) (s : ℕ) → s < n
    → ((x : ℕ) → x < n → (has x (deps s) ≡ true) ⊎ (source x ≡ true) → get_or vs x d ≡ get_or ws x d) → g a vs s ≡ g a ws s) where
  abbrev step : List A → ℕ → A
  step vs s = g (get_or vs s d) vs s

  pub fold-length : (ss : List ℕ) (vs : List A) → length (fold_in step ss vs) ≡ length vs
  unfolding fold_in
  fold-length [] vs = refl
  fold-length (s ∷ ss) vs = fold-length ss (set vs s (step vs s)) ∙ length-set vs s (step vs s)

  fold-other : (ss : List ℕ) (vs : List A) (x : ℕ) → has x ss ≡ false → get_or (fold_in step ss vs) x d ≡ get_or vs x d
  unfolding fold_in has
  fold-other [] vs x h = refl
  fold-other (s ∷ ss) vs x h =
      fold-other ss (set vs s (step vs s)) x (neither (eqb x s) (has x ss) h).1
      ∙ get_or-set_other vs s x (step vs s) d (eqb-false x s (neither (eqb x s) (has x ss) h).0)

  fold-source : (ss : List ℕ) (vs : List A) (x : ℕ) → source x ≡ true → x < length vs → get_or (fold_in step ss vs) x d ≡ get_or vs x d
  unfolding fold_in
  fold-source [] vs x h l = refl
  fold-source (s ∷ ss) vs x h l =
      fold-source ss (set vs s (step vs s)) x h (let e : length (set vs s (step vs s)) ≡ length vs = length-set vs s (step vs s) in omega arith)
      ∙ either (eqb x s)
      (λ e. let q : x ≡ s = eqb-true x s e in
      subst (λ (y : ℕ). get_or (set vs y (step vs y)) x d ≡ get_or vs x d) q (get_or-set_same vs x (step vs x) d l ∙ own (get_or vs x d) vs x h))
      (λ e. get_or-set_other vs s x (step vs s) d (eqb-false x s e))

  -- the first slot of an order
  head-solved : (before : List ℕ) (u : ℕ) (us : List ℕ) (vs : List A) → OnceAfter before (u ∷ us) → FedAfter n deps before (u ∷ us) → length vs ≡ n → u < n
      → get_or (fold_in step (u ∷ us) vs) u d ≡ g (get_or vs u d) (fold_in step (u ∷ us) vs) u
  unfolding fold_in OnceAfter FedAfter
  head-solved before u us vs o f e k =
      fold-other us (set vs u (step vs u)) u (once-not (before ++ (u ∷ [])) us u o.1 (has-snoc-same before u))
      ∙ get_or-set_same vs u (step vs u) d (omega arith)
      ∙ local (get_or vs u d) vs (fold_in step (u ∷ us) vs) u k
      (λ x m c. ⊎_elim
      (λ q. sym (fold-other (u ∷ us) vs x (once-not before (u ∷ us) x o (f.0 x q m))))
      (λ q. sym (fold-source (u ∷ us) vs x q (omega arith)))
      c)

  pub solved : (before ss : List ℕ) (vs : List A) → OnceAfter before ss → FedAfter n deps before ss → length vs ≡ n → (s : ℕ) → s < n → has s ss ≡ true
      → get_or (fold_in step ss vs) s d ≡ g (get_or vs s d) (fold_in step ss vs) s
  unfolding fold_in has OnceAfter FedAfter
  solved before [] vs o f e s l h = absurd (true≢false (sym h))
  solved before (u ∷ us) vs o f e s l h =
      let vs' : List A = set vs u (step vs u) in
      let r : List A = fold_in step us vs' in
      either (eqb s u)
      (λ q. let p : s ≡ u = eqb-true s u q in
      subst (λ (y : ℕ). get_or r y d ≡ g (get_or vs y d) r y) (sym p) (head-solved before u us vs o f e (omega arith)))
      (λ q. solved (before ++ (u ∷ [])) us vs' o.1 f.1 (length-set vs u (step vs u) ∙ e) s l (sym (or-none (eqb s u) (has s us) q) ∙ h)
      ∙ ap (λ (a : A). g a r s) (get_or-set_other vs u s (step vs u) d (eqb-false s u q)))
