-- Laws of the walk: what it adds to the result it takes from the unvisited items, and a visited item changes nothing. Assumes nothing.
use mathlib.Core.Path.{◌≡◌, refl, sym, ap, ◌∙◌}
use mathlib.Core.Bool.{Bool, true, false, cond, true≢false}
use mathlib.Core.List.{List, [], ◌∷◌, ◌++◌}
use Prim.Native.Nat.{ℕ, zero, suc, ◌+◌, ◌≤◌, ◌<◌}
use native.Mathlib.Omega.{arith}
use lib.ListN.{length, get_or, set, length-append}
use lib.Seq.{get_or-set_same, get_or-set_other}
use Rattle.order.specs.Walk.{Walk, is_visited, mark, push, each, down, walk, count_false, unvisited}

-- an item is marked
pub count_set : (l : List Bool) (s : ℕ) → get_or l s true ≡ false → suc (count_false (set l s true)) ≡ count_false l
unfolding count_false
count_set [] s e = absurd (true≢false e)
count_set (true ∷ l) zero e = absurd (true≢false e)
count_set (false ∷ l) zero e = refl
count_set (true ∷ l) (suc s) e = count_set l s e
count_set (false ∷ l) (suc s) e = ap suc (count_set l s e)

pub inside : (l : List Bool) (s : ℕ) → get_or l s true ≡ false → s < length l
inside [] s e = absurd (true≢false e)
inside (b ∷ l) zero e = omega arith
inside (b ∷ l) (suc s) e = let h : s < length l = inside l s e in omega arith

none_left : (l : List Bool) (s : ℕ) → count_false l ≤ 0 → get_or l s true ≡ true
unfolding count_false
none_left [] s h = refl
none_left (true ∷ l) zero h = refl
none_left (false ∷ l) zero h = absurd (omega arith)
none_left (true ∷ l) (suc s) h = none_left l s h
none_left (false ∷ l) (suc s) h = absurd (omega arith)

pub all-visited : (l : List Bool) → ((i : ℕ) → get_or l i true ≡ true) → count_false l ≡ 0
unfolding count_false
all-visited [] h = refl
all-visited (true ∷ l) h = all-visited l (λ i. h (suc i))
all-visited (false ∷ l) h = absurd (true≢false (sym (h 0)))

pub each_append : (go : ℕ → Walk → Walk) (xs ys : List ℕ) (w : Walk) → each go (xs ++ ys) w ≡ each go ys (each go xs w)
unfolding each
each_append go [] ys w = refl
each_append go (x ∷ xs) ys w = each_append go xs ys (go x w)

-- items in the result and items unvisited together are as many as before
pub record Keeps (w w' : Walk) : Type 0 where
  pub total : length w'.result + unvisited w' ≡ length w.result + unvisited w
  pub fewer : unvisited w' ≤ unvisited w
  pub grown : (i : ℕ) → is_visited w i ≡ true → is_visited w' i ≡ true

keeps-none : (w : Walk) → Keeps w w
keeps-none w = record { total = refl; fewer = omega arith; grown = λ i e. e }

pub each_keeps : (go : ℕ → Walk → Walk) → ((s : ℕ) (w : Walk) → Keeps w (go s w)) → (xs : List ℕ) (w : Walk) → Keeps w (each go xs w)
unfolding each
each_keeps go h [] w = keeps-none w
each_keeps go h (x ∷ xs) w =
    let a : Keeps w (go x w) = h x w in
    let b : Keeps (go x w) (each go xs (go x w)) = each_keeps go h xs (go x w) in
    record { total = b.total ∙ a.total; fewer = omega (arith, a.fewer, b.fewer); grown = λ i e. b.grown i (a.grown i e) }

mark-grown : (l : List Bool) (s i : ℕ) → get_or l s true ≡ false → get_or l i true ≡ true → get_or (set l s true) i true ≡ true
mark-grown l s i e h = get_or-set_other l s i true true (λ q. true≢false (sym h ∙ ap (λ (j : ℕ). get_or l j true) q ∙ e)) ∙ h

push-keeps : (s : ℕ) (w w₂ : Walk) → is_visited w s ≡ false → Keeps (mark s w) w₂ → Keeps w (push s w₂)
push-keeps s w w₂ e a = record {
  total = omega (arith, a.total, count_set w.visited s e, length-append w₂.result (s ∷ []));
  fewer = omega (arith, a.fewer, count_set w.visited s e);
  grown = λ i h. a.grown i (mark-grown w.visited s i e h);
}

module _ (deps : ℕ → List ℕ) where
  pub walk-keeps : (k s : ℕ) (w : Walk) → Keeps w (walk k deps s w)
  unfolding walk down
  walk-keeps zero s w = keeps-none w
  walk-keeps (suc k) s w = go (is_visited w s) refl (walk-keeps k)
    where
      go : (b : Bool) → is_visited w s ≡ b → ((s : ℕ) (w : Walk) → Keeps w (walk k deps s w)) → Keeps w (cond b w (down (walk k deps) deps s w))
      go true e h = keeps-none w
      go false e h = push-keeps s w (each (walk k deps) (deps s) (mark s w)) e (each_keeps (walk k deps) h (deps s) (mark s w))

  pub items_keep : (k : ℕ) (xs : List ℕ) (w : Walk) → Keeps w (each (walk k deps) xs w)
  items_keep k xs w = each_keeps (walk k deps) (walk-keeps k) xs w

  -- the item itself is visited
  pub walk-there : (k s : ℕ) (w : Walk) → unvisited w ≤ k → is_visited (walk k deps s w) s ≡ true
  unfolding walk down
  walk-there zero s w l = none_left w.visited s l
  walk-there (suc k) s w l = go (is_visited w s) refl
    where
      go : (b : Bool) → is_visited w s ≡ b → is_visited (cond b w (down (walk k deps) deps s w)) s ≡ true
      go true e = e
      go false e =
          (each_keeps (walk k deps) (walk-keeps k) (deps s) (mark s w)).grown s (get_or-set_same w.visited s true true (inside w.visited s e))

  pub walk-less : (k s : ℕ) (w : Walk) → unvisited w ≤ k → is_visited w s ≡ false → unvisited (walk k deps s w) < unvisited w
  unfolding walk down
  walk-less zero s w l e = absurd (omega (arith, count_set w.visited s e))
  walk-less (suc k) s w l e =
      rw e (omega (arith, count_set w.visited s e, (each_keeps (walk k deps) (walk-keeps k) (deps s) (mark s w)).fewer))

  pub walk-visited : (k s : ℕ) (w : Walk) → is_visited w s ≡ true → walk k deps s w ≡ w
  unfolding walk
  walk-visited zero s w e = refl
  walk-visited (suc k) s w e = rw e

  -- an unvisited item, by what the walk down from it gives with every depth that is enough
  pub walk-down : (k s : ℕ) (w w₂ : Walk) → is_visited w s ≡ false → unvisited w ≤ k
      → ((j : ℕ) → unvisited (mark s w) ≤ j → w₂ ≡ each (walk j deps) (deps s) (mark s w)) → push s w₂ ≡ walk k deps s w
  unfolding walk down
  walk-down zero s w w₂ e l h = absurd (omega (arith, count_set w.visited s e))
  walk-down (suc k) s w w₂ e l h = rw (e, h k (omega (arith, count_set w.visited s e)))
