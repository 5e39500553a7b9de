-- What the search shows around the walk: cleared marks are where a walk begins, and what its end says of loops. Assumes nothing.
use mathlib.Core.Path.{◌≡◌, refl, sym, ap, ◌∙◌, subst}
use mathlib.Core.Bool.{Bool, true, false}
use mathlib.Core.List.{List}
use mathlib.Core.Logic.{inl}
use Prim.Native.Nat.{ℕ, ◌+◌, ◌<◌, ◌≤◌}
use native.Mathlib.Omega.{arith}
use lib.Dec.{eqb}
use lib.ListN.{length, drop, get_or}
use borrow.Author.Count.{below_more}
use borrow.Author.Tests.{eq-eqb, eqb-true, eqb-false}
use Rattle.std.specs.Prelude.{Some}
use Rattle.value.specs.declared.Slot.{Slot}
use Rattle.value.specs.Value.{slot_at}
use Rattle.cell.specs.declared.Record.{Record}
use Rattle.cell.specs.Operands.{edge_at}
use Rattle.cell.specs.Records.{record_in}
use Rattle.netlist.specs.inner.Areas as area
use Rattle.netlist.proofs.Frames.{within-drop}
use Rattle.std.proofs.Common.{Option, Some, None}
use Rattle.loops.specs.Reach.{Reaches, edge, path, on_loop}
use Rattle.loops.specs.inner.Search.{Searchable, Finds}
use Rattle.loops.specs.inner.Walk.{mark, unvisited, stops_at, Stopped, Reached, Within, Before, Walking, Ready, Coming, Leaves, Visits, Meets, Cleared, Frees, Tells}
use Rattle.loops.proofs.Counting.{counted-le}
use Rattle.loops.proofs.Marks.{zero-plus}
use Rattle.loops.proofs.Edges.{edge-below}
use Rattle.loops.proofs.Reach.{on_loop-iff, on_loop-false}
use Rattle.loops.proofs.Rank.{falls-no-loop}
use Rattle.loops.proofs.Lowest.{IsLowest, lowest-on-loop}

-- the marks of the first n slots are off
pub cleared : (n : ℕ) (ws ws' : List ℕ) → (n ≤ 512) × (16384 ≤ length ws) → ((i : ℕ) → i < n → get_or ws' (0 + i) 0 ≡ 0) → area.Within 0 (0 + n) ws ws' → Cleared n ws ws'
cleared n ws ws' h blank within = record {
  blank = λ u k. ap (mark ws') (zero-plus u) ∙ blank u k;
  rest = within-drop 0 (0 + n) 16384 ws ws' (omega arith) within;
}

searchable-own : (rs : List Record) (n : ℕ) (ws : List ℕ) → Searchable rs n ws → Searchable rs (length rs) ws
searchable-own rs n ws g = subst (λ (k : ℕ). Searchable rs k ws) (sym g.count) g

searchable-kept : (rs : List Record) (n : ℕ) (ws ws' : List ℕ) → Searchable rs n ws → length ws' ≡ length ws → Searchable rs n ws'
searchable-kept rs n ws ws' g e = record {
  long = let l : 16384 ≤ length ws = g.long in omega arith;
  count = g.count;
  few = g.few;
  inside = g.inside;
}

-- a walk begins with the marks off
module _ (rs : List Record) (n : ℕ) (ws ws' : List ℕ) (g : Searchable rs n ws) (k : Cleared n ws ws') (e : length ws' ≡ length ws) where
  off : (u : ℕ) → u < length rs → mark ws' u ≡ 0
  off u l = k.blank u (omega (arith, g.count))

  begins : (stop : Option Slot) → Walking rs stop 2 ws'
  unfolding unvisited
  begins stop = record {
    begun = omega arith;
    stamps = λ u l. omega (arith, off u l);
    before = λ u f x l q. absurd (omega (arith, off u (edge-below rs u f x q)));
    room = omega (arith, counted-le (λ s. eqb (mark ws' s) 0) (length rs));
  }

  fits-own : Searchable rs (length rs) ws'
  fits-own = searchable-own rs n ws' (searchable-kept rs n ws ws' g e)

  pub visit-begins : (s : Slot) → s.0 < n → Ready rs (Some s) 2 ws' s.0 0
  unfolding Within
  visit-begins s l = record {
    fits = fits-own;
    walking = begins (Some s);
    below = omega (arith, g.count);
    within = inl refl;
    marked = k.blank s.0 l;
  }

  module _ (s : Slot) (l : s.0 < n) (ws'' : List ℕ) (c : ℕ) (v : Visits rs (Some s) 2 ws' ws'' s.0 c) where
    on-loop : c ≡ 0 → on_loop rs s.0 ≡ true
    unfolding Stopped
    on-loop q = (on_loop-iff rs s.0).1 (v.walked.looped q)

    module _ (d : c ≡ 0 → ⊥) where
      leaves : Leaves rs (Some s) 2 c ws' ws''
      leaves = v.walked.done d

      -- from a finished slot an edge leads to a finished slot that is not s, since s has the last stamp
      onward : (u f : ℕ) (x : Slot) → 2 ≤ mark ws'' u → edge_at (record_in rs u) f ≡ Some x → (2 ≤ mark ws'' x.0) × (x.0 ≡ s.0 → ⊥)
      unfolding stops_at
      onward u f x m e =
          let b : Before (Some s) ws'' (mark ws'' u) x.0 = leaves.walking.before u f x m e in
          let o : mark ws'' x.0 ≡ 1 → ⊥ = λ h. absurd (omega (arith, leaves.opened x.0 h, off x.0 (fits-own.inside u f x e))) in
          (omega (arith, o, b.met), λ h. absurd (omega (arith, b.earlier (eq-eqb _ _ (sym h)), ap (mark ws'') h, v.stamped d, leaves.walking.stamps u (edge-below rs u f x e))))

      never_back : (u y : ℕ) → 2 ≤ mark ws'' u → Reaches rs u y → y ≡ s.0 → ⊥
      never_back u y m (edge f e) = (onward u f (slot_at y) m e).1
      never_back u y m (path {x = x} f e p) = never_back x y (onward u f (slot_at x) m e).0 p

      not-on-loop : on_loop rs s.0 ≡ false
      not-on-loop = on_loop-false rs s.0 (λ p. never_back s.0 s.0 (v.stamped d).0 p refl)

    pub tells : Tells rs ws ws'' s.0 (eqb c 0)
    tells = record { told = go (eqb c 0) refl; rest = v.walked.rest ∙ k.rest }
      where
        go : (b : Bool) → eqb c 0 ≡ b → b ≡ on_loop rs s.0
        go true t = sym (on-loop (eqb-true c 0 t))
        go false t = sym (not-on-loop (eqb-false c 0 t))

-- all slots below i are finished
pub record Going (rs : List Record) (n : ℕ) (ws ws' : List ℕ) (clock i : ℕ) : Type 0 where
  pub upto : i ≤ n
  pub same : length ws' ≡ length ws
  pub fits : Searchable rs n ws'
  pub walking : Walking rs None clock ws'
  pub finished : (u : ℕ) → u < i → 2 ≤ mark ws' u
  pub rest : drop 16384 ws' ≡ drop 16384 ws

pub going-begins : (rs : List Record) (n : ℕ) (ws ws' : List ℕ) → Searchable rs n ws → Cleared n ws ws' → length ws' ≡ length ws → Going rs n ws' ws' 2 0
going-begins rs n ws ws' g k e = record {
  upto = omega arith;
  same = refl;
  fits = searchable-kept rs n ws ws' g e;
  walking = begins rs n ws ws' g k e None;
  finished = λ u l. absurd (omega arith);
  rest = refl;
}

module _ (rs : List Record) (n : ℕ) (ws₀ ws : List ℕ) (clock i : ℕ) (g : Going rs n ws₀ ws clock i) where
  module _ (l : i < n) where
    pub going-coming : Coming rs None clock ws i
    unfolding Reached
    going-coming = record {
      fits = searchable-own rs n ws g.fits;
      walking = g.walking;
      below = omega (arith, g.fits.count);
      reached = tt;
    }

    module _ (ws' : List ℕ) (c : ℕ) (v : Meets rs None clock ws ws' i c) where
      pub going_more : (c ≡ 0 → ⊥) → length ws' ≡ length ws → Going rs n ws₀ ws' c (i + 1)
      unfolding stops_at
      going_more d e = let a : Leaves rs None clock c ws ws' = v.walked.done d in record {
        upto = omega arith;
        same = e ∙ g.same;
        fits = searchable-kept rs n ws ws' g.fits e;
        walking = a.walking;
        finished = below_more (λ u. 2 ≤ mark ws' u) i
            (λ u h. let m : 2 ≤ mark ws u = g.finished u h in omega (arith, a.kept u (λ z. absurd (omega arith)))) ((v.before d).finished refl);
        rest = v.walked.rest ∙ g.rest;
      }

  pub going-ends : (ws₁ : List ℕ) → n ≤ i → Cleared n ws₁ ws₀ → Frees rs ws₁ ws true
  unfolding stops_at
  going-ends ws₁ l k = record {
    free = λ q j. on_loop-false rs j (falls-no-loop rs (mark ws) (λ s f x e.
        (g.walking.before s f x (g.finished s (omega (arith, edge-below rs s f x e, g.fits.count))) e).earlier refl) j);
    rest = g.rest ∙ k.rest;
  }

-- no slot below i is on a loop
pub record Seeking (rs : List Record) (n : ℕ) (ws ws' : List ℕ) (i : ℕ) : Type 0 where
  pub upto : i ≤ n
  pub same : length ws' ≡ length ws
  pub fits : Searchable rs n ws'
  pub none : (k : ℕ) → k < i → on_loop rs k ≡ false
  pub rest : drop 16384 ws' ≡ drop 16384 ws

module _ (rs : List Record) (n : ℕ) (ws₀ ws : List ℕ) (i : ℕ) (g : Seeking rs n ws₀ ws i) where
  module _ (l : i < n) (ws' : List ℕ) (b : Bool) (v : Tells rs ws ws' i b) where
    pub seeking-more : b ≡ false → length ws' ≡ length ws → Seeking rs n ws₀ ws' (i + 1)
    seeking-more f e = record {
      upto = omega arith;
      same = e ∙ g.same;
      fits = searchable-kept rs n ws ws' g.fits e;
      none = below_more (λ k. on_loop rs k ≡ false) i g.none (sym v.told ∙ f);
      rest = v.rest ∙ g.rest;
    }

    pub seeking-found : b ≡ true → Finds rs ws₀ ws' (Some (slot_at i))
    unfolding IsLowest
    seeking-found t = record {
      found = (lowest-on-loop rs (Some (slot_at i))).1 (omega (arith, g.fits.count), sym v.told ∙ t, g.none);
      rest = v.rest ∙ g.rest;
    }

finds-nothing : (rs : List Record) (ws ws' : List ℕ) → ((i : ℕ) → i < length rs → on_loop rs i ≡ false) → drop 16384 ws' ≡ drop 16384 ws → Finds rs ws ws' None
unfolding IsLowest
finds-nothing rs ws ws' h e = record { found = (lowest-on-loop rs None).1 h; rest = e }

pub seeking-ends : (rs : List Record) (n : ℕ) (ws₀ ws : List ℕ) (i : ℕ) → Seeking rs n ws₀ ws i → n ≤ i → Finds rs ws₀ ws None
seeking-ends rs n ws₀ ws i g l = finds-nothing rs ws₀ ws (λ j h. g.none j (omega (arith, g.fits.count))) g.rest

module _ (rs : List Record) (ws ws' : List ℕ) (b : Bool) (v : Frees rs ws ws' b) where
  pub free-finds : b ≡ true → Finds rs ws ws' None
  free-finds t = finds-nothing rs ws ws' (λ j h. v.free t j) v.rest
