-- The marks of the walk: what a slot that is opened or finished changes of them. Assumes nothing.
use mathlib.Core.Path.{◌≡◌, refl, sym, ap, ◌∙◌, subst}
use mathlib.Core.Bool.{Bool, true, false}
use mathlib.Core.List.{List}
use Prim.Native.Nat.{ℕ, ◌+◌, ◌<◌, ◌≤◌}
use native.Mathlib.Nat.{le_refl}
use native.Mathlib.Omega.{arith}
use lib.Dec.{eqb}
use lib.ListN.{length, get_or, set, length-set}
use lib.Seq.{get_or-set_same, get_or-set_other}
use borrow.Author.Tests.{eqb-true, eqb-false, eq-eqb, ne_eqb}
use Rattle.std.specs.Prelude.{Some}
use Rattle.value.specs.declared.Slot.{Slot}
use Rattle.cell.specs.declared.Record.{Record}
use Rattle.cell.specs.Operands.{edge_at}
use Rattle.cell.specs.Records.{record_in}
use Rattle.std.proofs.Common.{Option}
use Rattle.loops.specs.inner.Search.{Searchable}
use Rattle.loops.specs.inner.Walk.{mark, unvisited, Before, Walking, Ready, Leaves}
use Rattle.loops.proofs.Counting.{counted-grows, counted-less}

-- a mark after a store: the new one at its place, the old one at every other
module _ (P : ℕ → Type 0) (ws : List ℕ) (s v u : ℕ) (l : s < length ws) where
  pub mark_set : (u ≡ s → P v) → ((u ≡ s → ⊥) → P (mark ws u)) → P (mark (set ws s v) u)
  mark_set here there = go (eqb u s) refl
    where
      go : (b : Bool) → eqb u s ≡ b → P (mark (set ws s v) u)
      go true t = let e : u ≡ s = eqb-true u s t in subst P (sym (ap (λ (i : ℕ). get_or (set ws s v) i 0) e ∙ get_or-set_same ws s v 0 l)) (here e)
      go false t = let d : u ≡ s → ⊥ = eqb-false u s t in subst P (sym (get_or-set_other ws s u v 0 d)) (there d)

-- the area of the marks begins at word 0
pub zero-plus : (s : ℕ) → s ≡ 0 + s
zero-plus s = omega arith

pub from_zero : (ws' ws : List ℕ) (s v : ℕ) → ws' ≡ set ws (0 + s) v → ws' ≡ set ws s v
from_zero ws' ws s v e = e ∙ ap (λ (i : ℕ). set ws i v) (sym (zero-plus s))

mark-same : (ws : List ℕ) (s v : ℕ) → s < length ws → mark (set ws s v) s ≡ v
mark-same ws s v l = get_or-set_same ws s v 0 l

mark-other : (ws : List ℕ) (s v u : ℕ) → (u ≡ s → ⊥) → mark (set ws s v) u ≡ mark ws u
mark-other ws s v u d = get_or-set_other ws s u v 0 d

-- what was visited keeps its mark
abbrev Kept : List ℕ → List ℕ → Type 0
Kept ws ws' = (u : ℕ) → (mark ws u ≡ 0 → ⊥) → mark ws' u ≡ mark ws u

pub before-kept : (stop : Option Slot) (ws ws' : List ℕ) (m m' x : ℕ) → Kept ws ws' → m ≤ m' → Before stop ws m x → Before stop ws' m' x
before-kept stop ws ws' m m' x k l b = let e : mark ws' x ≡ mark ws x = k x b.met in record {
  met = λ z. b.met (sym e ∙ z);
  finished = λ t. let h : 2 ≤ mark ws x = b.finished t in omega arith;
  earlier = λ t. let h : mark ws x < m = b.earlier t in omega arith;
}

unvisited-grows : (n : ℕ) (ws ws' : List ℕ) → ((u : ℕ) → u < n → mark ws u ≡ 0 → mark ws' u ≡ 0) → unvisited n ws ≤ unvisited n ws'
unfolding unvisited
unvisited-grows n ws ws' h =
    counted-grows (λ s. eqb (mark ws s) 0) (λ s. eqb (mark ws' s) 0) n (λ i l t. eq-eqb _ _ (h i l (eqb-true (mark ws i) 0 t)))

pub unvisited-kept : (n : ℕ) (ws ws' : List ℕ) → Kept ws ws' → unvisited n ws' ≤ unvisited n ws
unvisited-kept n ws ws' k = unvisited-grows n ws' ws (λ u l z. go u z (eqb (mark ws u) 0) refl)
  where
    go : (u : ℕ) → mark ws' u ≡ 0 → (b : Bool) → eqb (mark ws u) 0 ≡ b → mark ws u ≡ 0
    go u z true t = eqb-true _ _ t
    go u z false t = let d : mark ws u ≡ 0 → ⊥ = eqb-false _ _ t in absurd (d (sym (k u d) ∙ z))

module _ (n : ℕ) (ws : List ℕ) (s v : ℕ) (l : s < length ws) (i : s < n) (p : 0 < v) where
  -- a slot is visited
  unvisited-less : mark ws s ≡ 0 → unvisited n (set ws s v) < unvisited n ws
  unfolding unvisited
  unvisited-less z =
      counted-less (λ u. eqb (mark (set ws s v) u) 0) (λ u. eqb (mark ws u) 0) n
      (λ u k t. mark_set (λ m. m ≡ 0 → eqb (mark ws u) 0 ≡ true) ws s v u l (λ e q. absurd (omega arith)) (λ d q. eq-eqb _ _ q) (eqb-true _ _ t))
      s i (ne_eqb (mark (set ws s v) s) 0 (λ q. absurd (omega (arith, mark-same ws s v l)))) (eq-eqb _ _ z)

  -- a slot that was visited gets another mark
  unvisited-same : (mark ws s ≡ 0 → ⊥) → unvisited n (set ws s v) ≤ unvisited n ws
  unvisited-same z =
      unvisited-grows n (set ws s v) ws (λ u k. mark_set (λ m. m ≡ 0 → mark ws u ≡ 0) ws s v u l (λ e q. absurd (omega arith)) (λ d q. q))

-- slot s is opened
module _ (rs : List Record) (stop : Option Slot) (clock : ℕ) (ws : List ℕ) (s : ℕ) (g : Ready rs stop clock ws s 0) where
  within-words : s < length ws
  within-words = omega (arith, g.below, g.fits.few, g.fits.long)

  opens_kept : Kept ws (set ws s 1)
  opens_kept u d = mark-other ws s 1 u (λ e. d (ap (mark ws) e ∙ g.marked))

  opens-walking : Walking rs stop clock (set ws s 1)
  opens-walking = let w : Walking rs stop clock ws = g.walking in record {
    begun = w.begun;
    stamps = λ u k. mark_set (λ m. m < clock) ws s 1 u within-words (λ e. w.begun) (λ d. w.stamps u k);
    before = λ u f x k e.
        mark_set (λ m. 2 ≤ m → Before stop (set ws s 1) m x.0) ws s 1 u within-words (λ q h. absurd (omega arith))
        (λ d h. before-kept stop ws (set ws s 1) (mark ws u) (mark ws u) x.0 opens_kept (le_refl (mark ws u)) (w.before u f x h e)) k;
    room = omega (arith, w.room, unvisited-kept (length rs) ws (set ws s 1) opens_kept);
  }

  opens-fits : Searchable rs (length rs) (set ws s 1)
  opens-fits = let f : Searchable rs (length rs) ws = g.fits in record {
    long = simp length-set f.long;
    count = refl;
    few = f.few;
    inside = f.inside;
  }

  opens_at : (ws' : List ℕ) → ws' ≡ set ws s 1 → Ready rs stop clock ws' s 1
  opens_at ws' e = subst (λ (vs : List ℕ). Ready rs stop clock vs s 1) (sym e) (record {
    fits = opens-fits;
    walking = opens-walking;
    below = g.below;
    within = g.within;
    marked = mark-same ws s 1 within-words;
  })

  pub opens : (ws' : List ℕ) → ws' ≡ set ws (0 + s) 1 → Ready rs stop clock ws' s 1
  opens ws' e = opens_at ws' (from_zero ws' ws s 1 e)

  pub opens-fewer : (ws' : List ℕ) → ws' ≡ set ws s 1 → unvisited (length rs) ws' < unvisited (length rs) ws
  opens-fewer ws' e =
      subst (λ (vs : List ℕ). unvisited (length rs) vs < unvisited (length rs) ws) (sym e)
      (unvisited-less (length rs) ws s 1 within-words g.below (omega arith) g.marked)

-- slot s is finished, after its edges were followed
module _ (rs : List Record) (stop : Option Slot) (clock c : ℕ) (ws ws₁ ws₂ : List ℕ) (s : ℕ) (g : Ready rs stop clock ws s 0) (o : ws₁ ≡ set ws s 1)
    (n : length ws₂ ≡ length ws₁) (a : Leaves rs stop clock c ws₁ ws₂)
    (b : (f : ℕ) (x : Slot) → edge_at (record_in rs s) f ≡ Some x → Before stop ws₂ c x.0) where
  is_open : Ready rs stop clock ws₁ s 1
  is_open = opens_at rs stop clock ws s g ws₁ o

  still_open : mark ws₂ s ≡ 1
  still_open = a.kept s (λ z. absurd (omega (arith, is_open.marked))) ∙ is_open.marked

  in_words : s < length ws₂
  in_words = omega (arith, is_open.below, is_open.fits.few, is_open.fits.long)

  stamp : 2 ≤ c
  stamp = a.walking.begun

  finishes-before : (m x : ℕ) → Before stop ws₂ m x → Before stop (set ws₂ s c) m x
  finishes-before m x h = record {
    met = mark_set (λ k. k ≡ 0 → ⊥) ws₂ s c x in_words (λ e z. absurd (omega (arith, stamp))) (λ d. h.met);
    finished = λ t. mark_set (λ k. 2 ≤ k) ws₂ s c x in_words (λ e. stamp) (λ d. h.finished t);
    earlier = λ t. mark_set (λ k. k < m) ws₂ s c x in_words (λ e. absurd (omega (arith, h.finished t, ap (mark ws₂) e, still_open))) (λ d. h.earlier t);
  }

  finishes-rising : (c + 1) + unvisited (length rs) (set ws₂ s c) ≤ clock + unvisited (length rs) ws
  finishes-rising =
      let u₃ : unvisited (length rs) (set ws₂ s c) ≤ unvisited (length rs) ws₂ =
      unvisited-same (length rs) ws₂ s c in_words g.below (omega (arith, stamp)) (λ z. absurd (omega (arith, still_open))) in
      omega (arith, a.rising, opens-fewer rs stop clock ws s g ws₁ o)

  finishes-walking : Walking rs stop (c + 1) (set ws₂ s c)
  finishes-walking = let w : Walking rs stop c ws₂ = a.walking in record {
    begun = omega (arith, stamp);
    stamps = λ u k. mark_set (λ m. m < c + 1) ws₂ s c u in_words (λ e. omega arith) (λ d. omega (arith, w.stamps u k));
    before = λ u f x k e.
        mark_set (λ m. 2 ≤ m → Before stop (set ws₂ s c) m x.0) ws₂ s c u in_words
        (λ q h. finishes-before c x.0 (b f x (ap (λ (i : ℕ). edge_at (record_in rs i) f) (sym q) ∙ e)))
        (λ d h. finishes-before (mark ws₂ u) x.0 (w.before u f x h e)) k;
    room = omega (arith, finishes-rising, g.walking.room);
  }

  finishes-kept : Kept ws (set ws₂ s c)
  finishes-kept u d =
      let e : u ≡ s → ⊥ = λ q. d (ap (mark ws) q ∙ g.marked) in
      let m₁ : mark ws₁ u ≡ mark ws u = ap (λ (vs : List ℕ). mark vs u) o ∙ mark-other ws s 1 u e in
      mark-other ws₂ s c u e ∙ a.kept u (λ z. d (sym m₁ ∙ z)) ∙ m₁

  finishes-opened : (u : ℕ) → mark (set ws₂ s c) u ≡ 1 → mark ws u ≡ 1
  finishes-opened u =
      mark_set (λ m. m ≡ 1 → mark ws u ≡ 1) ws₂ s c u in_words (λ e q. absurd (omega (arith, stamp)))
      (λ d q. sym (ap (λ (vs : List ℕ). mark vs u) o ∙ mark-other ws s 1 u d) ∙ a.opened u q)

  pub finishes : Leaves rs stop clock (c + 1) ws (set ws₂ s c)
  finishes = record {
    walking = finishes-walking;
    later = omega (arith, a.later);
    kept = finishes-kept;
    opened = finishes-opened;
    rising = finishes-rising;
  }

  pub finished-last : (2 ≤ mark (set ws₂ s c) s) × (mark (set ws₂ s c) s + 1 ≡ c + 1)
  finished-last = let e : mark (set ws₂ s c) s ≡ c = mark-same ws₂ s c in_words in (omega (arith, stamp), omega arith)
