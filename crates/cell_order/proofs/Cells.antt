-- The cell order: what a cell depends on, the lowest first, and the places of the walk. Assumes nothing.
use mathlib.Core.Path.{◌≡◌, refl, sym, ap, ◌∙◌, subst}
use mathlib.Core.Bool.{Bool, true, false, ◌&&◌, false≢true}
use mathlib.Core.List.{List, [], ◌∷◌, ◌++◌, map}
use Prim.Native.Nat.{ℕ, zero, suc, ◌+◌, ◌*◌, ◌≤◌, ◌<◌}
use native.Mathlib.Omega.{arith}
use native.Mathlib.Decide.{dec_lt}
use lib.Dec.{eqb, leb, leb-zero}
use lib.ListN.{length, set}
use borrow.Author.Tests.{leb-true, le-leb, lt-leb}
use mir.Syntax.{w32}
use mir.Val.{Fits}
use Rattle.std.proofs.Common.{Option, None, Some}
use Rattle.value.specs.declared.Slot.{Slot}
use Rattle.cell.specs.declared.Record.{Record}
use Rattle.basics.specs.Lists.{tabulate, slots, those, any_of}
use Rattle.cell.specs.Records.{cell_of}
use Rattle.netlist.specs.Netlist.{netlist_of, cell_deps, output_of}
use Rattle.netlist.specs.inner.Areas.{records_in, order_at, visited_at}
use Rattle.order.specs.Walk.{Walk, each, walk}
use Rattle.order.specs.inner.Code.{walk_of, visited_in, unvisited_in, Ready, Walks}
use Rattle.cell_order.specs.inner.Code.{cells_by}
use Rattle.cell_order.specs.inner.Descent.{bits_in, read_by, read_up_to, deps_from, Lowest, LowestSlot}
use Rattle.order.proofs.Walks.{each_append, walk-visited}
use Rattle.order.proofs.Walking.{visited-of, walks-then, walks-records, walks-passed, walks_less, pushed-next, pushed}
use Rattle.basics.proofs.Those.{those-append}
use Rattle.netlist.proofs.Cells.{cells-length}

-- the slots that pass a test
those-same : (p q : ℕ → Bool) (xs : List ℕ) → ((x : ℕ) → p x ≡ q x) → those p xs ≡ those q xs
unfolding those
those-same p q [] h = refl
those-same p q (x ∷ xs) h = rw (h x, those-same p q xs h)

one_same : (p q : ℕ → Bool) (x : ℕ) → p x ≡ q x → those p (x ∷ []) ≡ those q (x ∷ [])
unfolding those
one_same p q x h = rw h

pub one-taken : (p : ℕ → Bool) (x : ℕ) → p x ≡ true → those p (x ∷ []) ≡ x ∷ []
unfolding those
one-taken p x h = rw h

pub one_left : (p : ℕ → Bool) (x : ℕ) → p x ≡ false → those p (x ∷ []) ≡ []
unfolding those
one_left p x h = rw h

slots-none : (p : ℕ → Bool) (m : ℕ) → ((x : ℕ) → x < m → p x ≡ false) → those p (slots m) ≡ []
unfolding those tabulate
slots-none p zero h = refl
slots-none p (suc m) h = those-append p (slots m) (m ∷ []) ∙ rw (slots-none p m (λ x l. h x (omega arith)), one_left p m (h m (omega arith)))

module _ (go : ℕ → Walk → Walk) where
  -- where those change nothing
  slots_same : (p : ℕ → Bool) (m : ℕ) (w : Walk) → ((x : ℕ) → x < m → p x ≡ true → go x w ≡ w) → each go (those p (slots m)) w ≡ w
  unfolding those tabulate each
  slots_same p zero w h = refl
  slots_same p (suc m) w h =
      ap (λ (xs : List ℕ). each go xs w) (those-append p (slots m) (m ∷ [])) ∙ each_append go (those p (slots m)) (those p (m ∷ [])) w
      ∙ ap (each go (those p (m ∷ []))) (slots_same p m w (λ x l. h x (omega arith))) ∙ last (p m) refl
    where
      last : (b : Bool) → p m ≡ b → each go (those p (m ∷ [])) w ≡ w
      last true e = ap (λ (xs : List ℕ). each go xs w) (one-taken p m e) ∙ h m (omega arith) e
      last false e = ap (λ (xs : List ℕ). each go xs w) (one_left p m e)

  module _ (p : ℕ → Bool) (w : Walk) (from r : ℕ) (above : from ≤ r) (here : p r ≡ true)
      (same : (x : ℕ) → from ≤ x → x < r → p x ≡ true → go x w ≡ w) where
    abbrev since : ℕ → ℕ → Bool
    since f x = leb f x && p x

    since-true : (f x : ℕ) → since f x ≡ true → (f ≤ x) × (p x ≡ true)
    since-true f x = split (leb f x) refl
      where
        split : (b : Bool) → leb f x ≡ b → (b && p x) ≡ true → (f ≤ x) × (p x ≡ true)
        split true e h = (leb-true f x e, h)
        split false e h = absurd (false≢true h)

    since_at : (f x : ℕ) → f ≤ x → since f x ≡ p x
    since_at f x l = rw (le-leb f x l)

    since-before : (f x : ℕ) → x < f → since f x ≡ false
    since-before f x l = rw (lt-leb f x l)

    -- the first that changes something, then those behind it
    slots-first : (m : ℕ) → r < m → each go (those (since from) (slots m)) w ≡ each go (those (since (r + 1)) (slots m)) (go r w)
    unfolding those tabulate each
    slots-first zero l = absurd (omega arith)
    slots-first (suc m) l =
        ap (λ (xs : List ℕ). each go xs w) (those-append (since from) (slots m) (m ∷ []))
        ∙ each_append go (those (since from) (slots m)) (those (since from) (m ∷ [])) w
        ∙ split (dec_lt r m) (slots-first m)
        ∙ sym (each_append go (those (since (r + 1)) (slots m)) (those (since (r + 1)) (m ∷ [])) (go r w))
        ∙ ap (λ (xs : List ℕ). each go xs (go r w)) (sym (those-append (since (r + 1)) (slots m) (m ∷ [])))
      where
        split : Dec (r < m) → (r < m → each go (those (since from) (slots m)) w ≡ each go (those (since (r + 1)) (slots m)) (go r w))
            → each go (those (since from) (m ∷ [])) (each go (those (since from) (slots m)) w)
            ≡ each go (those (since (r + 1)) (m ∷ [])) (each go (those (since (r + 1)) (slots m)) (go r w))
        split (yes k) h =
            ap (each go (those (since from) (m ∷ []))) (h k)
            ∙ ap (λ (xs : List ℕ). each go xs (each go (those (since (r + 1)) (slots m)) (go r w)))
            (one_same (since from) (since (r + 1)) m (since_at from m (omega arith) ∙ sym (since_at (r + 1) m (omega arith))))
        split (no k) h =
            let q : m ≡ r = omega arith in
            ap (each go (those (since from) (m ∷ [])))
            (slots_same (since from) m w (λ x j t. same x (since-true from x t).0 (omega arith) (since-true from x t).1))
            ∙ ap (λ (xs : List ℕ). each go xs w) (one-taken (since from) m (since_at from m (omega arith) ∙ ap p q ∙ here))
            ∙ ap (λ (x : ℕ). go x w) q
            ∙ ap (λ (xs : List ℕ). each go xs (go r w)) (sym (slots-none (since (r + 1)) m (λ x j. since-before (r + 1) x (omega arith))))
            ∙ ap (λ (xs : List ℕ). each go xs (each go (those (since (r + 1)) (slots m)) (go r w)))
            (sym (one_left (since (r + 1)) m (since-before (r + 1) m (omega arith))))

-- from 0 on, all that a cell depends on
deps-all : (rs : List Record) (s : ℕ) → deps_from rs s 0 ≡ cells_by rs s
unfolding deps_from cells_by cell_deps netlist_of output_of read_by read_up_to bits_in
deps-all rs s =
    those-same (λ x. leb 0 x && any_of (eqb x) (read_by rs s)) (λ x. any_of (eqb x) (read_by rs s)) (slots (length (map cell_of rs)))
    (λ x. rw (leb-zero x))

module _ (n count : ℕ) (ws : List ℕ) (s from : ℕ) (o : Option Slot) (f : LowestSlot n ws from (read_by (records_in n ws) s) o) where
  passed : (x : ℕ) → Lowest n ws from (read_by (records_in n ws) s) x → (k y : ℕ) → from ≤ y → y < x → any_of (eqb y) (read_by (records_in n ws) s) ≡ true
      → walk k (cells_by (records_in n ws)) y (walk_of n count ws) ≡ walk_of n count ws
  passed x v k y l m e = walk-visited (cells_by (records_in n ws)) k y (walk_of n count ws) (visited-of n count ws y ∙ v.lowest y l m e)

  -- there is none
  pub deps-none : o ≡ None → Walks cells_by (deps_from (records_in n ws) s from) n count ws ws count
  unfolding deps_from
  deps-none h = walks-passed cells_by n count ws (deps_from (records_in n ws) s from)
      (λ k. ap (λ (m : ℕ). each (walk k (cells_by (records_in n ws))) (those (λ y. leb from y && any_of (eqb y) (read_by (records_in n ws) s)) (slots m)) (walk_of n count ws)) (cells-length n ws)
      ∙ slots_same (walk k (cells_by (records_in n ws))) (λ y. leb from y && any_of (eqb y) (read_by (records_in n ws) s)) n (walk_of n count ws)
      (λ y m t. both k y m (leb from y) refl t))
    where
      both : (k y : ℕ) → y < n → (b : Bool) → leb from y ≡ b → (b && any_of (eqb y) (read_by (records_in n ws) s)) ≡ true
          → walk k (cells_by (records_in n ws)) y (walk_of n count ws) ≡ walk_of n count ws
      both k y m true e t = passed n (f.none h) k y (leb-true from y e) m t
      both k y m false e t = absurd (false≢true t)

  -- the lowest, then the others
  module _ (x : Slot) (e : o ≡ Some x) where
    below : x.0 < n
    below = (f.found x e).0

    v : Lowest n ws from (read_by (records_in n ws) s) x.0
    v = (f.found x e).1

    pub deps-new : visited_in n ws x.0 ≡ false
    deps-new = (v.found below).2

    pub deps-next : Ready n count ws → Fits w32 (x.0 + 1)
    deps-next g = omega (arith, below, g.few)

    -- there are fewer unvisited than before
    pub deps-falls : (ws₁ : List ℕ) (c t : ℕ) → Walks cells_by (x.0 ∷ []) n count ws ws₁ c → 8 * unvisited_in n ws + 2 ≡ t → 8 * unvisited_in n ws₁ + 2 < t
    deps-falls ws₁ c t w q = omega (arith, walks_less cells_by n count ws ws₁ c x.0 w deps-new)

    pub deps-more : Ready n count ws → (ws₁ ws₂ : List ℕ) (c d : ℕ) → Walks cells_by (x.0 ∷ []) n count ws ws₁ c
        → Walks cells_by (deps_from (records_in n ws₁) s (x.0 + 1)) n c ws₁ ws₂ d → Walks cells_by (deps_from (records_in n ws) s from) n count ws ws₂ d
    unfolding deps_from each
    deps-more g ws₁ ws₂ c d v₁ v₂ =
        let rs : List Record = records_in n ws in
        let both : Walks cells_by ((x.0 ∷ []) ++ deps_from rs s (x.0 + 1)) n count ws ws₂ d =
        walks-then cells_by n (x.0 ∷ []) count ws ws₁ c v₁ g (deps_from rs s (x.0 + 1)) ws₂ d
        (subst (λ (us : List Record). Walks cells_by (deps_from us s (x.0 + 1)) n c ws₁ ws₂ d) (walks-records cells_by n (x.0 ∷ []) count ws ws₁ c v₁ g) v₂) in
        record {
          said = λ k l.
              both.said k l
              ∙ sym (slots-first (walk k (cells_by rs)) (λ y. any_of (eqb y) (read_by rs s)) (walk_of n count ws) from x.0 (v.found below).0 (v.found below).1
              (passed x.0 v k) (length (map cell_of rs)) (omega (arith, below, cells-length n ws)));
          frame = both.frame;
        }

-- a cell that was not visited
module _ (n count : ℕ) (ws ws₁ ws₂ : List ℕ) (s : ℕ) (g : Ready n count ws) (new : visited_in n ws s ≡ false) (o : ws₁ ≡ set ws (visited_at + s) 1)
    (c : ℕ) (v : Walks cells_by (deps_from (records_in n ws₁) s 0) n count ws₁ ws₂ c) where
  down : Walks cells_by (cells_by (records_in n ws₁) s) n count ws₁ ws₂ c
  down = subst (λ (xs : List ℕ). Walks cells_by xs n count ws₁ ws₂ c) (deps-all (records_in n ws₁) s) v

  pub cell-next : Fits w32 (c + 1)
  cell-next = pushed-next n count ws ws₁ s g new o cells_by ws₂ c down

  pub cell-done : (ws₃ : List ℕ) → ws₃ ≡ set ws₂ (order_at + c) s → Walks cells_by (s ∷ []) n count ws ws₃ (c + 1)
  cell-done ws₃ p = pushed n count ws ws₁ s g new o cells_by ws₂ c down ws₃ p
