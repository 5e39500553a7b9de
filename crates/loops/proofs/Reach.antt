-- The computed `reaches` is the relation `Reaches`. A slot's mark stays in the rounds after; a round that adds no mark ends them, and
-- every other round adds one, so there are no more of those than records. Assumes nothing.
use mathlib.Core.Path.{◌≡◌, refl, sym, ap, ◌∙◌}
use mathlib.Core.Bool.{Bool, true, false, ◌||◌}
use mathlib.Core.List.{List}
use mathlib.Core.Logic.{◌⊎◌, inl, inr, ⊎_elim, ◌↔◌}
use Prim.Native.Nat.{ℕ, zero, suc, ◌<◌}
use native.Mathlib.Omega.{arith}
use lib.Dec.{eqb, ltb}
use lib.ListN.{length, get_or, get_or-map}
use borrow.Author.Tests.{eqb-true, eq-eqb, ltb-true, ltb-false}
use Rattle.std.specs.Prelude.{Option, Some, None}
use Rattle.value.specs.declared.Slot.{Slot}
use Rattle.value.specs.Value.{slot_at}
use Rattle.cell.specs.declared.Record.{Record}
use Rattle.kinds.specs.Kinds.{kind_of, use_of, sort_of}
use Rattle.cell.specs.Operands.{is_operand, is_comb_edge, edge_at}
use Rattle.cell.specs.Records.{record_of, record_in}
use Rattle.loops.specs.Reach.{Reaches, edge, path, OnLoop, hits, leads, step_back, reaching_in, reaches, on_loop}
use Rattle.loops.specs.inner.Counted.{counted}
use Rattle.loops.proofs.Counting.{counted-le, counted_same}
use Rattle.loops.proofs.Edges.{edge-field, edge-below}

or_cases : (a b : Bool) → (a || b) ≡ true → (a ≡ true) ⊎ (b ≡ true)
or_cases true b e = inl refl
or_cases false b e = inr e

or_left : (a b : Bool) → a ≡ true → (a || b) ≡ true
or_left a b e = rw e

or_right : (a b : Bool) → b ≡ true → (a || b) ≡ true
or_right true b e = refl
or_right false b e = e

-- an edge by some field to a slot with the property p
abbrev LeadsTo : (ℕ → Bool) → Record → Type 0
LeadsTo p r = (f : ℕ) × (x : Slot) × (edge_at r f ≡ Some x) × (p x.0 ≡ true)

module _ (p : ℕ → Bool) (r : Record) where
  hits-in : (f : ℕ) (e : Option Slot) → edge_at r f ≡ e → hits p e ≡ true → LeadsTo p r
  hits-in f (Some x) q h = (f, x, q, h)
  hits-in f None q h = let z : ◌≡◌ {A = ℕ} 0 1 = cc in absurd (omega arith)

  leads-in : leads p r ≡ true → LeadsTo p r
  leads-in h =
      ⊎_elim (λ k. ⊎_elim (hits-in 1 _ refl) (hits-in 2 _ refl) (or_cases (hits p (edge_at r 1)) _ k)) (hits-in 3 _ refl)
      (or_cases (hits p (edge_at r 1) || hits p (edge_at r 2)) _ h)

  hits-out : (f g : ℕ) (x : Slot) → edge_at r f ≡ Some x → p x.0 ≡ true → f ≡ g → hits p (edge_at r g) ≡ true
  hits-out f g x q h e = ap (λ (i : ℕ). hits p (edge_at r i)) (sym e) ∙ ap (hits p) q ∙ h

  leads-out : (f : ℕ) (x : Slot) → edge_at r f ≡ Some x → p x.0 ≡ true → leads p r ≡ true
  leads-out f x q h =
      ⊎_elim (λ e. or_left _ _ (or_left _ _ (hits-out f 1 x q h e)))
      (⊎_elim (λ e. or_left _ _ (or_right (hits p (edge_at r 1)) _ (hits-out f 2 x q h e))) (λ e. or_right (hits p (edge_at r 1) || hits p (edge_at r 2)) _ (hits-out f 3 x q h e)))
      (edge-field r f x q)

leads-grows : (p q : ℕ → Bool) (r : Record) → ((x : ℕ) → p x ≡ true → q x ≡ true) → leads p r ≡ true → leads q r ≡ true
leads-grows p q r h l = go (leads-in p r l)
  where
    go : LeadsTo p r → leads q r ≡ true
    go (f, x, e, t) = leads-out q r f x e (h x.0 t)

or-grows : (a b c : Bool) → (b ≡ true → c ≡ true) → (a || b) ≡ true → (a || c) ≡ true
or-grows true b c h e = refl
or-grows false b c h e = h e

module _ (rs : List Record) (y : ℕ) where
  abbrev marked : ℕ → ℕ → Bool
  marked k s = get_or (reaching_in k rs y) s false

  abbrev target : ℕ → ℕ → Bool
  target k x = eqb x y || marked k x

  marked-zero : (s : ℕ) → marked 0 s ≡ false
  unfolding reaching_in
  marked-zero s = get_or-map (λ r. false) rs s (record_of 0 0 0 0 0 0)

  marked-suc : (k s : ℕ) → marked (suc k) s ≡ leads (target k) (record_in rs s)
  unfolding reaching_in step_back edge_at is_comb_edge is_operand kind_of use_of sort_of
  marked-suc k s = get_or-map (leads (target k)) rs s (record_of 0 0 0 0 0 0)

  -- a mark is there for a reason
  marked-reaches : (k s : ℕ) → marked k s ≡ true → Reaches rs s y
  marked-reaches zero s h = let z : ◌≡◌ {A = ℕ} 0 1 = cc (marked-zero s) in absurd (omega arith)
  marked-reaches (suc k) s h = go (leads-in (target k) (record_in rs s) (sym (marked-suc k s) ∙ h)) (marked-reaches k)
    where
      go : LeadsTo (target k) (record_in rs s) → ((x : ℕ) → marked k x ≡ true → Reaches rs x y) → Reaches rs s y
      go (f, x, q, t) r =
          ⊎_elim (λ e. edge f (q ∙ ap (λ (i : ℕ). Some (slot_at i)) (eqb-true _ _ e))) (λ e. path f q (r x.0 e)) (or_cases (eqb x.0 y) _ t)

  -- marks stay
  marked_more : (j k s : ℕ) → ((x : ℕ) → marked j x ≡ true → marked k x ≡ true) → marked (suc j) s ≡ true → marked (suc k) s ≡ true
  marked_more j k s h e =
      marked-suc k s ∙ leads-grows (target j) (target k) (record_in rs s) (λ x. or-grows (eqb x y) _ _ (h x)) (sym (marked-suc j s) ∙ e)

  marked-grows : (k s : ℕ) → marked k s ≡ true → marked (suc k) s ≡ true
  marked-grows zero s e = let z : ◌≡◌ {A = ℕ} 0 1 = cc (marked-zero s) in absurd (omega arith)
  marked-grows (suc k) s e = marked_more k (suc k) s (marked-grows k) e

  marked-below : (k s : ℕ) → marked (suc k) s ≡ true → s < length rs
  marked-below k s e = go (leads-in (target k) (record_in rs s) (sym (marked-suc k s) ∙ e))
    where
      go : LeadsTo (target k) (record_in rs s) → s < length rs
      go (f, x, q, t) = edge-below rs s f x q

  -- round k adds no mark
  abbrev Closed : ℕ → Type 0
  Closed k = (s : ℕ) → marked (suc k) s ≡ true → marked k s ≡ true

  closed-or-more : (k : ℕ) → Closed k ⊎ (counted (marked k) (length rs) < counted (marked (suc k)) (length rs))
  closed-or-more k = go (ltb (counted (marked k) (length rs)) (counted (marked (suc k)) (length rs))) refl
    where
      go : (b : Bool) → ltb (counted (marked k) (length rs)) (counted (marked (suc k)) (length rs)) ≡ b → Closed k ⊎ (counted (marked k) (length rs) < counted (marked (suc k)) (length rs))
      go true t = inr (ltb-true _ _ t)
      go false t = inl (λ s e. counted_same (marked k) (marked (suc k)) (length rs) (λ i l. marked-grows k i) (ltb-false _ _ t) s (marked-below k s e) e)

  closed-or-many : (k : ℕ) → Closed k ⊎ (k < counted (marked (suc k)) (length rs))
  closed-or-many zero = ⊎_elim (λ c. inl c) (λ h. inr (omega arith)) (closed-or-more zero)
  closed-or-many (suc k) =
      ⊎_elim (λ c. inl (λ s. marked_more (suc k) k s c)) (λ l. ⊎_elim (λ c. inl c) (λ h. inr (omega arith)) (closed-or-more (suc k))) (closed-or-many k)

  closed-at-last : Closed (length rs)
  closed-at-last =
      ⊎_elim (λ c. c) (λ h. absurd (omega (arith, counted-le (marked (suc (length rs))) (length rs)))) (closed-or-many (length rs))

closed-marked : (rs : List Record) (k s y : ℕ) → Closed rs y k → Reaches rs s y → marked rs y k s ≡ true
closed-marked rs k s y c (edge f e) = c s (marked-suc rs y k s ∙ leads-out (target rs y k) (record_in rs s) f (slot_at y) e (or_left _ _ (eq-eqb y y refl)))
closed-marked rs k s y c (path {x = x} f e r) =
    c s (marked-suc rs y k s ∙ leads-out (target rs y k) (record_in rs s) f (slot_at x) e (or_right (eqb x y) _ (closed-marked rs k x y c r)))

pub reaches-iff : (rs : List Record) (s y : ℕ) → (reaches rs s y ≡ true) ↔ Reaches rs s y
unfolding reaches
reaches-iff rs s y = (marked-reaches rs y (length rs) s, closed-marked rs (length rs) s y (closed-at-last rs y))

pub on_loop-iff : (rs : List Record) (s : ℕ) → (on_loop rs s ≡ true) ↔ OnLoop rs s
unfolding on_loop
on_loop-iff rs s = reaches-iff rs s s

-- the same for the answer false
pub on_loop-false : (rs : List Record) (s : ℕ) → (OnLoop rs s → ⊥) → on_loop rs s ≡ false
on_loop-false rs s h = go (on_loop rs s) refl
  where
    go : (b : Bool) → on_loop rs s ≡ b → on_loop rs s ≡ false
    go true t = absurd (h ((on_loop-iff rs s).0 t))
    go false t = t
