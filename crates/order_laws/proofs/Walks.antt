-- The walk: each item once, and after what it depends on where a rank falls. Assumes nothing.
use mathlib.Core.Path.{◌≡◌, refl, sym, ap, ◌∙◌, subst}
use mathlib.Core.Bool.{Bool, true, false, cond, true≢false, false≢true}
use mathlib.Core.List.{List, [], ◌∷◌, ◌++◌, append_assoc, append-nil}
use Prim.Native.Nat.{ℕ, zero, suc, ◌≤◌, ◌<◌}
use native.Mathlib.Omega.{arith}
use lib.Dec.{eqb}
use lib.ListN.{length, replicate, length-set, length-replicate, get_or-replicate}
use lib.Seq.{get_or-set_same, get_or-set_other}
use borrow.Author.Tests.{eqb-true, eqb-false}
use Rattle.order.specs.Walk.{Walk, is_visited, mark, push, each, down, walk, count_false, unvisited, fresh, walk_from}
use Rattle.order.proofs.Walks.{count_set, inside, walk-there}
use Rattle.basics.specs.Lists.{has}
use Rattle.order_laws.specs.Ordered.{OnceAfter, FedAfter, Each}
use Rattle.basics.proofs.Truth.{either, or-none, never}
use Rattle.basics.proofs.Members.{has_first, has-later, has-cons, has-snoc, has-snoc-same, has-snoc-other, has-snoc-old}

-- what stands before a list of which each is once is not in it
pub once-not : (before ss : List ℕ) (x : ℕ) → OnceAfter before ss → has x before ≡ true → has x ss ≡ false
unfolding OnceAfter has
once-not before [] x o h = refl
once-not before (s ∷ ss) x o h =
    either (eqb x s) (λ e. never h (ap (λ y. has y before) (eqb-true x s e) ∙ o.0))
    (λ e. or-none (eqb x s) (has x ss) e ∙ once-not (before ++ (s ∷ [])) ss x o.1 (has-snoc-old x before s h))

-- once and fed, with one more at the end
pub once-snoc : (before xs : List ℕ) (s : ℕ) → OnceAfter before xs → has s (before ++ xs) ≡ false → OnceAfter before (xs ++ (s ∷ []))
unfolding OnceAfter
once-snoc before [] s o h = (rw append-nil at h, tt)
once-snoc before (x ∷ xs) s o h = (o.0, once-snoc (before ++ (x ∷ [])) xs s o.1 (rw (append_assoc before (x ∷ []) xs) h))

fed-snoc : (n : ℕ) (deps : ℕ → List ℕ) (before xs : List ℕ) (s : ℕ) → FedAfter n deps before xs
    → ((d : ℕ) → has d (deps s) ≡ true → d < n → has d (before ++ xs) ≡ true) → FedAfter n deps before (xs ++ (s ∷ []))
unfolding FedAfter
fed-snoc n deps before [] s o h = ((λ d e l. rw append-nil at (h d e l)), tt)
fed-snoc n deps before (x ∷ xs) s o h =
    (o.0, fed-snoc n deps (before ++ (x ∷ [])) xs s o.1 (λ d e l. rw (append_assoc before (x ∷ []) xs) (h d e l)))

-- the count of unvisited items
pub count-replicate : (n : ℕ) → count_false (replicate n false) ≤ n
unfolding count_false
count-replicate zero = omega arith
count-replicate (suc n) = let h : count_false (replicate n false) ≤ n = count-replicate n in omega arith

pub record Inv (n : ℕ) (w : Walk) : Type 0 where
  pub wide : length w.visited ≡ n
  pub known : (i : ℕ) → has i w.result ≡ true → is_visited w i ≡ true
  pub small : (i : ℕ) → has i w.result ≡ true → i < n
  pub once : OnceAfter [] w.result

-- from one state of the walk to a later one, with the same items open: visited and not yet in the result
pub record Goes (w w' : Walk) : Type 0 where
  pub grown : (i : ℕ) → is_visited w i ≡ true → is_visited w' i ≡ true
  pub stay : (i : ℕ) → is_visited w i ≡ true → has i w'.result ≡ has i w.result
  pub closed : (i : ℕ) → is_visited w i ≡ false → is_visited w' i ≡ true → has i w'.result ≡ true
  pub fewer : unvisited w' ≤ unvisited w

pub goes_none : (w : Walk) → Goes w w
goes_none w = record { grown = λ i e. e; stay = λ i e. refl; closed = λ i e f. never f e; fewer = omega arith }

pub goes_on : (w w₁ w₂ : Walk) → Goes w w₁ → Goes w₁ w₂ → Goes w w₂
goes_on w w₁ w₂ a b = record {
  grown = λ i e. b.grown i (a.grown i e);
  stay = λ i e. b.stay i (a.grown i e) ∙ a.stay i e;
  closed = λ i e f. either (is_visited w₁ i) (λ g. b.stay i g ∙ a.closed i e g) (λ g. b.closed i g f);
  fewer = omega (arith, a.fewer, b.fewer);
}

module _ (n : ℕ) (deps : ℕ → List ℕ) where
  pub record Went (s : ℕ) (w w' : Walk) : Type 0 where
    pub inv : Inv n w'
    pub goes : Goes w w'
    pub there : is_visited w' s ≡ true

  pub record WentAll (ds : List ℕ) (w w' : Walk) : Type 0 where
    pub inv : Inv n w'
    pub goes : Goes w w'
    pub there : (d : ℕ) → has d ds ≡ true → is_visited w' d ≡ true

  -- one item, then the others
  pub went_then : (s : ℕ) (ds : List ℕ) (w w₁ w₂ : Walk) → Went s w w₁ → WentAll ds w₁ w₂ → WentAll (s ∷ ds) w w₂
  went_then s ds w w₁ w₂ a b = record {
    inv = b.inv;
    goes = goes_on w w₁ w₂ a.goes b.goes;
    there = λ d e. has-cons d s ds e (λ q. b.goes.grown d (ap (is_visited w₁) q ∙ a.there)) (b.there d);
  }

  pub went-none : (w : Walk) → Inv n w → WentAll [] w w
  unfolding has
  went-none w i = record { inv = i; goes = goes_none w; there = λ d e. absurd (false≢true e) }

  pub each-went : (k : ℕ) (go : ℕ → Walk → Walk) → ((s : ℕ) (w : Walk) → Inv n w → unvisited w ≤ k → Went s w (go s w))
      → (ds : List ℕ) (w : Walk) → Inv n w → unvisited w ≤ k → WentAll ds w (each go ds w)
  unfolding each
  each-went k go h [] w i f = went-none w i
  each-went k go h (s ∷ ds) w i f =
      let a : Went s w (go s w) = h s w i f in
      went_then s ds w (go s w) (each go ds (go s w)) a (each-went k go h ds (go s w) a.inv (omega (arith, a.goes.fewer)))

  -- an unvisited item: marked, then what it depends on, then itself
  module _ (s : ℕ) (w w₂ : Walk) (i : Inv n w) (new : is_visited w s ≡ false) (inv₂ : Inv n w₂) (goes₂ : Goes (mark s w) w₂) where
    s-inside : s < length w.visited
    s-inside = inside w.visited s new

    mark-same : is_visited (mark s w) s ≡ true
    mark-same = get_or-set_same w.visited s true true s-inside

    mark-other : (x : ℕ) → (x ≡ s → ⊥) → is_visited (mark s w) x ≡ is_visited w x
    mark-other x h = get_or-set_other w.visited s x true true h

    old-not-s : (x : ℕ) → is_visited w x ≡ true → x ≡ s → ⊥
    old-not-s x e q = true≢false (sym e ∙ ap (is_visited w) q ∙ new)

    s-open : has s w₂.result ≡ false
    s-open = goes₂.stay s mark-same ∙ either (has s w.result) (λ e. never (i.known s e) new) (λ e. e)

    push_goes : Goes w (push s w₂)
    unfolding count_false
    push_goes = record {
      grown = λ x e. goes₂.grown x (mark-other x (old-not-s x e) ∙ e);
      stay = λ x e. has-snoc-other x w₂.result s (old-not-s x e) ∙ goes₂.stay x (mark-other x (old-not-s x e) ∙ e);
      closed = λ x e f. either (eqb x s)
          (λ g. ap (λ y. has y (w₂.result ++ (s ∷ []))) (eqb-true x s g) ∙ has-snoc-same w₂.result s)
          (λ g. let h : x ≡ s → ⊥ = eqb-false x s g in
          has-snoc-other x w₂.result s h ∙ goes₂.closed x (mark-other x h ∙ e) f);
      fewer = omega (arith, goes₂.fewer, count_set w.visited s new);
    }

    push-inv : Inv n (push s w₂)
    push-inv = record {
      wide = inv₂.wide;
      known = λ x e. has-snoc x w₂.result s e (λ q. ap (is_visited w₂) q ∙ goes₂.grown s mark-same) (inv₂.known x);
      small = λ x e. has-snoc x w₂.result s e (λ q. omega (arith, s-inside, i.wide, q)) (inv₂.small x);
      once = once-snoc [] w₂.result s inv₂.once s-open;
    }

    pub push-went : Went s w (push s w₂)
    push-went = record { inv = push-inv; goes = push_goes; there = goes₂.grown s mark-same }

  pub mark-inv : (s : ℕ) (w : Walk) → Inv n w → is_visited w s ≡ false → Inv n (mark s w)
  mark-inv s w i new = record {
    wide = length-set w.visited s true ∙ i.wide;
    known = λ x e. either (eqb x s)
        (λ g. ap (is_visited (mark s w)) (eqb-true x s g) ∙ get_or-set_same w.visited s true true (inside w.visited s new))
        (λ g. get_or-set_other w.visited s x true true (eqb-false x s g) ∙ i.known x e);
    small = i.small;
    once = i.once;
  }

  pub mark-fewer : (k s : ℕ) (w : Walk) → is_visited w s ≡ false → unvisited w ≤ suc k → unvisited (mark s w) ≤ k
  mark-fewer k s w new f = omega (arith, count_set w.visited s new)

  pub walk-went : (k s : ℕ) (w : Walk) → Inv n w → unvisited w ≤ k → Went s w (walk k deps s w)
  unfolding walk down
  walk-went zero s w i f = record { inv = i; goes = goes_none w; there = walk-there deps zero s w f }
  walk-went (suc k) s w i f = go (is_visited w s) refl (walk-went k)
    where
      go : (b : Bool) → is_visited w s ≡ b → ((s : ℕ) (w : Walk) → Inv n w → unvisited w ≤ k → Went s w (walk k deps s w))
          → Went s w (cond b w (down (walk k deps) deps s w))
      go true e h = record { inv = i; goes = goes_none w; there = e }
      go false e h =
          let b : WentAll (deps s) (mark s w) (each (walk k deps) (deps s) (mark s w)) =
          each-went k (walk k deps) h (deps s) (mark s w) (mark-inv s w i e) (mark-fewer k s w e f) in
          push-went s w (each (walk k deps) (deps s) (mark s w)) i e b.inv b.goes

  -- where a rank falls along dependencies, each item stands after what it depends on
  module _ (rank : ℕ → ℕ) (falls : (s d : ℕ) → has d (deps s) ≡ true → rank d < rank s) where
    -- the open items rank above s
    abbrev Above : Walk → ℕ → Type 0
    Above w s = (i : ℕ) → i < n → is_visited w i ≡ true → has i w.result ≡ false → rank s < rank i

    above_kept : (w w' : Walk) (s : ℕ) → Goes w w' → Above w s → Above w' s
    above_kept w w' s g a i l e h =
        either (is_visited w i) (λ v. a i l v (sym (g.stay i v) ∙ h)) (λ v. never (g.closed i v e) h)

    abbrev Fed : Walk → Type 0
    Fed w = FedAfter n deps [] w.result

    each_fed : (k : ℕ) (go : ℕ → Walk → Walk) → ((s : ℕ) (w : Walk) → Inv n w → unvisited w ≤ k → Went s w (go s w))
        → ((s : ℕ) (w : Walk) → Inv n w → unvisited w ≤ k → Above w s → Fed w → Fed (go s w))
        → (ds : List ℕ) (w : Walk) → Inv n w → unvisited w ≤ k → ((d : ℕ) → has d ds ≡ true → Above w d) → Fed w → Fed (each go ds w)
    unfolding each has
    each_fed k go h hf [] w i f a o = o
    each_fed k go h hf (s ∷ ds) w i f a o =
        let b : Went s w (go s w) = h s w i f in
        each_fed k go h hf ds (go s w) b.inv (omega (arith, b.goes.fewer))
        (λ d e. above_kept w (go s w) d b.goes (a d (has-later d s ds e)))
        (hf s w i f (a s (has_first s ds)) o)

    mark-above : (s : ℕ) (w : Walk) → is_visited w s ≡ false → Above w s → (d : ℕ) → has d (deps s) ≡ true → Above (mark s w) d
    mark-above s w new a d e i l v h =
        either (eqb i s)
        (λ g. subst (λ x. rank d < rank x) (sym (eqb-true i s g)) (falls s d e))
        (λ g. let v' : is_visited w i ≡ true = sym (get_or-set_other w.visited s i true true (eqb-false i s g)) ∙ v in
        omega (arith, falls s d e, a i l v' h))

    pub walk-fed : (k s : ℕ) (w : Walk) → Inv n w → unvisited w ≤ k → Above w s → Fed w → Fed (walk k deps s w)
    unfolding walk down
    walk-fed zero s w i f a o = o
    walk-fed (suc k) s w i f a o = go (is_visited w s) refl (walk-fed k)
      where
        go : (b : Bool) → is_visited w s ≡ b → ((s : ℕ) (w : Walk) → Inv n w → unvisited w ≤ k → Above w s → Fed w → Fed (walk k deps s w))
            → Fed (cond b w (down (walk k deps) deps s w))
        go true e h = o
        go false e h =
            let w₁ : Walk = mark s w in
            let i₁ : Inv n w₁ = mark-inv s w i e in
            let f₁ : unvisited w₁ ≤ k = mark-fewer k s w e f in
            let a₁ : (d : ℕ) → has d (deps s) ≡ true → Above w₁ d = mark-above s w e a in
            let w₂ : Walk = each (walk k deps) (deps s) w₁ in
            let b : WentAll (deps s) w₁ w₂ = each-went k (walk k deps) (walk-went k) (deps s) w₁ i₁ f₁ in
            fed-snoc n deps [] w₂.result s (each_fed k (walk k deps) (walk-went k) h (deps s) w₁ i₁ f₁ a₁ o)
            (λ d q l. either (is_visited w₁ d)
            (λ v. either (has d w₁.result) (λ g. b.goes.stay d v ∙ g) (λ g. absurd (omega (arith, a₁ d q d l v g))))
            (λ v. b.goes.closed d v (b.there d q)))

  -- a walk from nothing
  pub fresh-new : (i : ℕ) → i < n → is_visited (fresh n) i ≡ false
  fresh-new i l = get_or-replicate n i false true l

  pub fresh-inv : Inv n (fresh n)
  unfolding has OnceAfter
  fresh-inv = record {
    wide = length-replicate n false;
    known = λ i e. absurd (false≢true e);
    small = λ i e. absurd (false≢true e);
    once = tt;
  }

  -- the walk from every item in turn
  module _ (roots : List ℕ) (every : (s : ℕ) → s < n → has s roots ≡ true) where
    fresh-unvisited : unvisited (fresh n) ≤ n
    fresh-unvisited = count-replicate n

    walked : WentAll roots (fresh n) (walk_from n deps roots (fresh n))
    unfolding walk_from
    walked = each-went n (walk n deps) (walk-went n) roots (fresh n) fresh-inv fresh-unvisited

    pub walk-each : Each n (walk_from n deps roots (fresh n)).result
    walk-each = record {
      once = walked.inv.once;
      all = λ s l. walked.goes.closed s (fresh-new s l) (walked.there s (every s l));
      small = walked.inv.small;
    }

    pub walk-ordered : (rank : ℕ → ℕ) → ((s d : ℕ) → has d (deps s) ≡ true → rank d < rank s)
        → FedAfter n deps [] (walk_from n deps roots (fresh n)).result
    unfolding walk_from FedAfter
    walk-ordered rank falls =
        each_fed rank falls n (walk n deps) (walk-went n) (walk-fed rank falls n) roots (fresh n) fresh-inv fresh-unvisited
        (λ d e i l v h. never v (fresh-new i l)) tt
