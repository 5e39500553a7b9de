-- What the walk from some roots visits: these, and with each item what it depends on; and it is the least that has both. Assumes nothing.
use mathlib.Core.Path.{◌≡◌, refl, sym, ◌∙◌, subst}
use mathlib.Core.Bool.{Bool, true, false, cond, false≢true}
use mathlib.Core.List.{List, [], ◌∷◌}
use Prim.Native.Nat.{ℕ, zero, suc, ◌≤◌, ◌<◌}
use native.Mathlib.Omega.{arith}
use lib.Dec.{eqb}
use lib.ListN.{length, get_or}
use lib.Seq.{get_or-set_other}
use borrow.Author.Tests.{eqb-true, eqb-false}
use Rattle.order.specs.Walk.{Walk, is_visited, mark, each, down, walk, unvisited, fresh, walk_from}
use Rattle.basics.specs.Lists.{has, All}
use Rattle.basics.proofs.Truth.{either, never}
use Rattle.basics.proofs.Indices.{get_d-same}
use Rattle.order_laws.proofs.Walks.{Inv, Went, WentAll, each-went, mark-inv, mark-fewer, walk-went, fresh-inv, fresh-new, count-replicate}

module _ (n : ℕ) (deps : ℕ → List ℕ) where
  -- what the items visited on the way from w to w' depend on is visited
  abbrev Feeds : Walk → Walk → Type 0
  Feeds w w' = (i : ℕ) → is_visited w i ≡ false → is_visited w' i ≡ true → (d : ℕ) → has d (deps i) ≡ true → is_visited w' d ≡ true

  each-feeds : (k : ℕ) (go : ℕ → Walk → Walk) → ((s : ℕ) (w : Walk) → Inv n w → unvisited w ≤ k → Went n deps s w (go s w))
      → ((s : ℕ) (w : Walk) → Inv n w → unvisited w ≤ k → Feeds w (go s w))
      → (ds : List ℕ) (w : Walk) → Inv n w → unvisited w ≤ k → Feeds w (each go ds w)
  unfolding each
  each-feeds k go h g [] w v f i e p d q = never p e
  each-feeds k go h g (s ∷ ds) w v f i e p d q =
      let a : Went n deps s w (go s w) = h s w v f in
      let f' : unvisited (go s w) ≤ k = omega (arith, a.goes.fewer) in
      let b : WentAll n deps ds (go s w) (each go ds (go s w)) = each-went n deps k go h ds (go s w) a.inv f' in
      either (is_visited (go s w) i) (λ o. b.goes.grown d (g s w v f i e o d q)) (λ o. each-feeds k go h g ds (go s w) a.inv f' i o p d q)

  walk-feeds : (k s : ℕ) (w : Walk) → Inv n w → unvisited w ≤ k → Feeds w (walk k deps s w)
  unfolding walk down
  walk-feeds zero s w v f = λ i e p d q. never p e
  walk-feeds (suc k) s w v f = go (is_visited w s) refl (walk-feeds k)
    where
      go : (b : Bool) → is_visited w s ≡ b → ((s : ℕ) (w : Walk) → Inv n w → unvisited w ≤ k → Feeds w (walk k deps s w))
          → Feeds w (cond b w (down (walk k deps) deps s w))
      go true o h i e p d q = never p e
      go false o h i e p d q =
          let v' : Inv n (mark s w) = mark-inv n deps s w v o in
          let f' : unvisited (mark s w) ≤ k = mark-fewer n deps k s w o f in
          let b : WentAll n deps (deps s) (mark s w) (each (walk k deps) (deps s) (mark s w)) =
          each-went n deps k (walk k deps) (walk-went n deps k) (deps s) (mark s w) v' f' in
          either (eqb i s)
          (λ c. b.there d (subst (λ (x : ℕ). has d (deps x) ≡ true) (eqb-true i s c) q))
          (λ c. each-feeds k (walk k deps) (walk-went n deps k) h (deps s) (mark s w) v' f' i
          (get_or-set_other w.visited s i true true (eqb-false i s c) ∙ e) p d q)

  module _ (roots : List ℕ) where
    abbrev reached : Walk
    reached = walk_from n deps roots (fresh n)

    all-went : WentAll n deps roots (fresh n) reached
    unfolding walk_from
    all-went = each-went n deps n (walk n deps) (walk-went n deps n) roots (fresh n) (fresh-inv n deps) (count-replicate n)

    pub reached-wide : length reached.visited ≡ n
    reached-wide = all-went.inv.wide

    pub roots-reached : (s : ℕ) → has s roots ≡ true → is_visited reached s ≡ true
    roots-reached s h = all-went.there s h

    pub deps-reached : (s d : ℕ) → s < n → is_visited reached s ≡ true → has d (deps s) ≡ true → is_visited reached d ≡ true
    unfolding walk_from
    deps-reached s d l p q =
        each-feeds n (walk n deps) (walk-went n deps n) (walk-feeds n) roots (fresh n) (fresh-inv n deps) (count-replicate n) s (fresh-new n deps s l) p d q

-- what holds of the roots and, with an item, of what it depends on, holds of all that is visited
module _ (deps : ℕ → List ℕ) (P : ℕ → Type 0) (closed : (s : ℕ) → P s → All P (deps s)) where
  abbrev pub Only : Walk → Type 0
  Only w = (x : ℕ) → get_or w.visited x false ≡ true → P x

  pub mark-only : (s : ℕ) (w : Walk) → P s → Only w → Only (mark s w)
  mark-only s w p o x v =
      either (eqb x s) (λ g. subst P (sym (eqb-true x s g)) p) (λ g. o x (sym (get_or-set_other w.visited s x true false (eqb-false x s g)) ∙ v))

  pub each-only : (go : ℕ → Walk → Walk) → ((s : ℕ) (w : Walk) → P s → Only w → Only (go s w)) → (ds : List ℕ) → All P ds → (w : Walk) → Only w → Only (each go ds w)
  unfolding each All
  each-only go h [] f w o = o
  each-only go h (s ∷ ds) f w o = each-only go h ds f.1 (go s w) (h s w f.0 o)

  pub walk-only : (k s : ℕ) (w : Walk) → P s → Only w → Only (walk k deps s w)
  unfolding walk down
  walk-only zero s w p o = o
  walk-only (suc k) s w p o = go (is_visited w s) (walk-only k)
    where
      go : (b : Bool) → ((s : ℕ) (w : Walk) → P s → Only w → Only (walk k deps s w)) → Only (cond b w (down (walk k deps) deps s w))
      go true h = o
      go false h = each-only (walk k deps) h (deps s) (closed s p) (mark s w) (mark-only s w p o)

  pub least : (n : ℕ) (roots : List ℕ) → All P roots → (x : ℕ) → get_or (walk_from n deps roots (fresh n)).visited x false ≡ true → P x
  unfolding walk_from
  least n roots h = each-only (walk n deps) (walk-only n) roots h (fresh n) (λ x e. absurd (false≢true (sym (get_d-same n x false) ∙ e)))
