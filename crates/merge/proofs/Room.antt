-- The cells of the order share no slot, so that their bits are no more than the slots. Assumes nothing.
use mathlib.Core.Path.{◌≡◌, refl, sym, ap, ◌∙◌}
use mathlib.Core.Bool.{Bool, true, false, cond, not, ◌||◌, true≢false, false≢true}
use mathlib.Core.List.{List, [], ◌∷◌, ◌++◌, map}
use mathlib.Core.Logic.{◌⊎◌, inl, inr, ⊎_elim}
use Prim.Native.Nat.{ℕ, zero, suc, ◌+◌, ◌-◌, ◌≤◌, ◌<◌}
use native.Mathlib.Omega.{arith}
use native.Mathlib.Numerals.{add-one}
use native.Mathlib.Decide.{dec_lt}
use lib.Dec.{eqb}
use lib.ListN.{length, get_or, set, drop, replicate, get_or-eq_default}
use borrow.Author.Tests.{eqb-true, eq-eqb}
use Rattle.cell.specs.declared.Cell.{Cell}
use Rattle.cell.specs.declared.Cell.TheVariants.{Input, Output, Buf, Not, And, Or, Xor, Mux, Aig}
use Rattle.basics.specs.Lists.{tabulate, slots, those, any_of, joined}
use Rattle.basics.proofs.Tables.{tabulate-length}
use Rattle.netlist.specs.Shape.{visit, is_input, is_source, is_output, has_effects}
use Rattle.netlist.specs.Netlist.{Netlist, cell_in, sources, start_of, run, output_of, iter_cells, cell_deps}
use Rattle.basics.proofs.Those.{those-length}
use Rattle.netlist.proofs.Sources.{source-input}
use Rattle.order.specs.Walk.{Walk, is_visited, mark, each, down, walk, walk_from, fresh}
use Rattle.order.specs.Orders.{emit, iter_cells_topo}
use Rattle.merge.specs.inner.Words.{Sequenced, width_of, load_of, sum}

-- a property of each element of a list
unfoldable pub Every : (ℕ → Type 0) → List ℕ → Type 0
Every P [] = Unit {0}
Every P (x ∷ xs) = P x × Every P xs

module _ (P : ℕ → Type 0) where
  every_append : (xs ys : List ℕ) → Every P xs → Every P ys → Every P (xs ++ ys)
  unfolding Every
  every_append [] ys p q = q
  every_append (x ∷ xs) ys p q = (p.0, every_append xs ys p.1 q)

  every_more : (xs : List ℕ) (s : ℕ) → Every P xs → P s → Every P (xs ++ (s ∷ []))
  unfolding Every
  every_more xs s p q = every_append xs (s ∷ []) p (q, tt)

  -- those that pass a test, of elements that have a property
  every-those : (Q : ℕ → Type 0) (t : ℕ → Bool) (xs : List ℕ) → Every Q xs → ((x : ℕ) → Q x → t x ≡ true → P x) → Every P (those t xs)
  unfolding Every those
  every-those Q t [] q h = tt
  every-those Q t (x ∷ xs) q h = go (t x) refl (every-those Q t xs q.1 h)
    where
      go : (b : Bool) → t x ≡ b → Every P (those t xs) → Every P (cond b (x ∷ those t xs) (those t xs))
      go true e r = (h x q.0 e, r)
      go false e r = r

  every-slot : (n : ℕ) → ((s : ℕ) → s < n → P s) → Every P (slots n)
  unfolding tabulate Every
  every-slot zero h = tt
  every-slot (suc n) h = every_more (slots n) n (every-slot n (λ s l. h s (omega arith))) (h n (omega arith))

  -- what a walk from items with the property finds has it
  each-every : (go : ℕ → Walk → Walk) (ss : List ℕ) → ((s : ℕ) (w : Walk) → P s → Every P w.result → Every P (go s w).result)
      → (w : Walk) → Every P ss → Every P w.result → Every P (each go ss w).result
  unfolding each Every
  each-every go [] h w p q = q
  each-every go (s ∷ ss) h w p q = each-every go ss h (go s w) p.1 (h s w p.0 q)

  walk-every : (k : ℕ) (deps : ℕ → List ℕ) → ((s : ℕ) → Every P (deps s)) → (s : ℕ) (w : Walk) → P s → Every P w.result → Every P (walk k deps s w).result
  unfolding walk down
  walk-every zero deps d s w p q = q
  walk-every (suc k) deps d s w p q = go (is_visited w s) (walk-every k deps d)
    where
      go : (b : Bool) → ((s : ℕ) (w : Walk) → P s → Every P w.result → Every P (walk k deps s w).result)
          → Every P (cond b w (down (walk k deps) deps s w)).result
      go true h = q
      go false h = every_more (each (walk k deps) (deps s) (mark s w)).result s (each-every (walk k deps) (deps s) h (mark s w) (d s) q) p

-- a figure for each item, summed over a list
pub sum-append : (f : ℕ → ℕ) (xs ys : List ℕ) → sum f (xs ++ ys) ≡ sum f xs + sum f ys
unfolding sum
sum-append f [] ys = omega arith
sum-append f (x ∷ xs) ys = let h : sum f (xs ++ ys) ≡ sum f xs + sum f ys = sum-append f xs ys in omega arith

pub sum_more : (f : ℕ → ℕ) (xs : List ℕ) (s : ℕ) → sum f (xs ++ (s ∷ [])) ≡ sum f xs + f s
unfolding sum
sum_more f xs s = sum-append f xs (s ∷ []) ∙ omega arith

sum-none : (f : ℕ → ℕ) (xs : List ℕ) → Every (λ s. f s ≡ 0) xs → sum f xs ≡ 0
unfolding sum Every
sum-none f [] p = refl
sum-none f (x ∷ xs) p = let h : sum f xs ≡ 0 = sum-none f xs p.1 in let e : f x ≡ 0 = p.0 in omega arith

-- and over the items that were not visited
unfoldable left : (ℕ → ℕ) → List Bool → ℕ
left f [] = 0
left f (true ∷ bs) = left (λ i. f (suc i)) bs
left f (false ∷ bs) = f 0 + left (λ i. f (suc i)) bs

left-set : (f : ℕ → ℕ) (bs : List Bool) (s : ℕ) → get_or bs s true ≡ false → f s + left f (set bs s true) ≡ left f bs
unfolding left
left-set f [] s e = absurd (true≢false e)
left-set f (true ∷ bs) zero e = absurd (true≢false e)
left-set f (false ∷ bs) zero e = refl
left-set f (true ∷ bs) (suc s) e = left-set (λ i. f (suc i)) bs s e
left-set f (false ∷ bs) (suc s) e =
    let h : f (suc s) + left (λ i. f (suc i)) (set bs s true) ≡ left (λ i. f (suc i)) bs = left-set (λ i. f (suc i)) bs s e in omega arith

left-marked : (f : ℕ → ℕ) (bs : List Bool) (s : ℕ) → left f (set bs s true) ≤ left f bs
unfolding left
left-marked f [] s = omega arith
left-marked f (true ∷ bs) zero = omega arith
left-marked f (false ∷ bs) zero = omega arith
left-marked f (true ∷ bs) (suc s) = left-marked (λ i. f (suc i)) bs s
left-marked f (false ∷ bs) (suc s) =
    let h : left (λ i. f (suc i)) (set bs s true) ≤ left (λ i. f (suc i)) bs = left-marked (λ i. f (suc i)) bs s in omega arith

-- a walk adds to its result what it takes from the unvisited
module _ (f : ℕ → ℕ) where
  abbrev charge : Walk → ℕ
  charge w = sum f w.result + left f w.visited

  each-charge : (Q : ℕ → Type 0) (go : ℕ → Walk → Walk) (ss : List ℕ) → Every Q ss → ((s : ℕ) (w : Walk) → Q s → charge (go s w) ≤ charge w)
      → (w : Walk) → charge (each go ss w) ≤ charge w
  unfolding each Every
  each-charge Q go [] q h w = omega arith
  each-charge Q go (s ∷ ss) q h w =
      let a : charge (each go ss (go s w)) ≤ charge (go s w) = each-charge Q go ss q.1 h (go s w) in
      let b : charge (go s w) ≤ charge w = h s w q.0 in omega arith

  every-unit : (ss : List ℕ) → Every (λ s. Unit {0}) ss
  unfolding Every
  every-unit [] = tt
  every-unit (s ∷ ss) = (tt, every-unit ss)

  walk-charge : (k : ℕ) (deps : ℕ → List ℕ) (s : ℕ) (w : Walk) → charge (walk k deps s w) ≤ charge w
  unfolding walk down
  walk-charge zero deps s w = omega arith
  walk-charge (suc k) deps s w = go (is_visited w s) refl (walk-charge k deps)
    where
      go : (b : Bool) → is_visited w s ≡ b → ((s : ℕ) (w : Walk) → charge (walk k deps s w) ≤ charge w)
          → charge (cond b w (down (walk k deps) deps s w)) ≤ charge w
      go true e h = omega arith
      go false e h =
          let v : Walk = each (walk k deps) (deps s) (mark s w) in
          omega (
            arith,
            each-charge (λ s. Unit {0}) (walk k deps) (deps s) (every-unit (deps s)) (λ s w u. h s w) (mark s w),
            sum_more f v.result s,
            left-set f w.visited s e,
          )

  emit-charge : (s : ℕ) (w : Walk) → f s ≡ 0 → charge (emit s w) ≤ charge w
  emit-charge s w e = omega (arith, sum_more f w.result s, left-marked f w.visited s)

-- cells that start where a bit is 0 are disjoint
cells_fit : (bits : List ℕ) (f : ℕ → ℕ) → ((i : ℕ) → f i ≤ cond (eqb (get_or bits i 0) 0) (suc (run (drop (suc i) bits))) 0)
    → left f (replicate (length bits) false) + run bits ≤ length bits
unfolding left run
cells_fit [] f h = omega arith
cells_fit (b ∷ bits) f h = go (eqb b 0) (cells_fit bits (λ i. f (suc i)) (λ i. h (suc i))) (h 0)
  where
    go : (z : Bool) → left (λ i. f (suc i)) (replicate (length bits) false) + run bits ≤ length bits → f 0 ≤ cond z (suc (run bits)) 0
        → f 0 + left (λ i. f (suc i)) (replicate (length bits) false) + cond z 0 (suc (run bits)) ≤ suc (length bits)
    go true p q = omega arith
    go false p q = omega arith

-- the slot where a cell starts has bit 0
start-bit : (bits : List ℕ) → Sequenced bits → (b s : ℕ) → get_or bits s 0 ≡ b → get_or bits (s - b) 0 ≡ 0
start-bit bits q zero s e = let z : s - 0 ≡ s = omega arith in rw z e
start-bit bits q (suc b) s e = go (start-bit bits q b (s - 1)) (dec_lt s (length bits))
  where
    go : (get_or bits (s - 1) 0 ≡ b → get_or bits (s - 1 - b) 0 ≡ 0) → Dec (s < length bits) → get_or bits (s - suc b) 0 ≡ 0
    go h (no l) = let d : get_or bits s 0 ≡ 0 = get_or-eq_default bits 0 (omega arith) in absurd (omega (arith, e))
    go h (yes l) =
        ⊎_elim (λ z. absurd (omega (arith, e, z)))
        (λ z. let m : s - suc b ≡ s - 1 - b = omega arith in ap (λ (k : ℕ). get_or bits k 0) m ∙ h (omega (arith, e, z))) (q.next s l)

any-map : {A : Type 0} (g : ℕ → ℕ) (x : ℕ) (zs : List ℕ) → any_of (eqb x) (map g zs) ≡ true → ((z : ℕ) → x ≡ g z → A) → A
unfolding any_of
any-map g x [] e h = absurd (false≢true e)
any-map {A} g x (z ∷ zs) e h = go (eqb x (g z)) refl e (any-map g x zs)
  where
    go : (b : Bool) → eqb x (g z) ≡ b → cond b true (any_of (eqb x) (map g zs)) ≡ true → (any_of (eqb x) (map g zs) ≡ true → ((z : ℕ) → x ≡ g z → A) → A) → A
    go true p q r = h z (eqb-true x (g z) p)
    go false p q r = r q h

-- the bits of a slot's cell, where it starts there and is looked for
unfoldable pub figure_of : Netlist → ℕ → ℕ
figure_of d s = cond (eqb (get_or d.bits s 0) 0) (load_of d s) 0

module _ (d : Netlist) (seq : Sequenced d.bits) (fits : length d.cells ≡ length d.bits) where
  abbrev Start : ℕ → Type 0
  Start s = (s < length d.bits) × (get_or d.bits s 0 ≡ 0)

  abbrev all : List ℕ
  all = iter_cells d.bits

  every-start : Every Start all
  unfolding iter_cells
  every-start =
      every-those Start (λ s. s < length d.bits) (λ s. eqb (get_or d.bits s 0) 0) (slots (length d.bits))
      (every-slot (λ s. s < length d.bits) (length d.bits) (λ s l. l)) (λ s l e. (l, eqb-true (get_or d.bits s 0) 0 e))

  some-start : (t : ℕ → Bool) → Every Start (those t all)
  some-start t = every-those Start Start t all every-start (λ s p e. p)

  deps-start : (s : ℕ) → Every Start (cell_deps d s)
  unfolding cell_deps
  deps-start s =
      let read : List ℕ = joined (map (λ i. sources (visit (cell_in d.cells i))) (output_of d.bits s)) in
      every-those Start (λ x. x < length d.bits) _ (slots (length d.cells))
      (every-slot (λ x. x < length d.bits) (length d.cells) (λ x l. omega arith))
      (λ x l e. (l, any-map (start_of d.bits) x read e (λ z q. ap (λ (y : ℕ). get_or d.bits y 0) q ∙ start-bit d.bits seq (get_or d.bits z 0) z refl)))

  abbrev firsts : List ℕ
  firsts = those (λ s. is_source (cell_in d.cells s)) all

  abbrev others : List ℕ
  others = those (λ s. not (is_output (cell_in d.cells s))) all

  abbrev outputs : List ℕ
  outputs = those (λ s. is_output (cell_in d.cells s)) all

  abbrev begun : Walk
  begun = each emit firsts (fresh (length d.cells))

  -- the order holds starts of cells only
  pub order-starts : Every Start (iter_cells_topo d)
  unfolding iter_cells_topo walk_from Every
  order-starts =
      every_append Start (walk_from (length d.cells) (cell_deps d) others begun).result outputs
      (each-every Start (walk (length d.cells) (cell_deps d)) others (walk-every Start (length d.cells) (cell_deps d) deps-start) begun
      (some-start (λ s. not (is_output (cell_in d.cells s))))
      (each-every Start emit firsts (λ s w p q. every_more Start w.result s q p) (fresh (length d.cells))
      (some-start (λ s. is_source (cell_in d.cells s))) tt))
      (some-start (λ s. is_output (cell_in d.cells s)))

  effects-none : (s : ℕ) → has_effects (cell_in d.cells s) ≡ true → figure_of d s ≡ 0
  unfolding figure_of load_of
  effects-none s e = rw e (go (eqb (get_or d.bits s 0) 0))
    where
      go : (b : Bool) → ◌≡◌ {A = ℕ} (cond b 0 0) 0
      go true = refl
      go false = refl

  or-true : (b c : Bool) → (b ≡ true) ⊎ (c ≡ true) → (b || c) ≡ true
  or-true true c h = refl
  or-true false c (inl e) = absurd (false≢true e)
  or-true false c (inr e) = e

  none_of : (t : ℕ → Bool) → ((s : ℕ) → t s ≡ true → has_effects (cell_in d.cells s) ≡ true) → Every (λ s. figure_of d s ≡ 0) (those t all)
  none_of t h = every-those (λ s. figure_of d s ≡ 0) Start t all every-start (λ s p e. effects-none s (h s e))

  figure-most : (s : ℕ) → figure_of d s ≤ cond (eqb (get_or d.bits s 0) 0) (suc (run (drop (suc s) d.bits))) 0
  unfolding figure_of load_of width_of
  figure-most s = go (eqb (get_or d.bits s 0) 0) (has_effects (cell_in d.cells s))
    where
      go : (b e : Bool) → cond b (cond e 0 (suc (run (drop (s + 1) d.bits)))) 0 ≤ cond b (suc (run (drop (suc s) d.bits))) 0
      go true true = omega arith
      go true false = rw add-one (omega arith)
      go false e = omega arith

  -- their bits have room
  figures-fit : sum (figure_of d) (iter_cells_topo d) ≤ length d.bits
  unfolding iter_cells_topo walk_from has_effects sum
  figures-fit =
      let f : ℕ → ℕ = figure_of d in
      let n : ℕ = length d.cells in
      omega (
        arith,
        sum-append f (each (walk n (cell_deps d)) others begun).result outputs,
        sum-none f outputs (none_of (λ s. is_output (cell_in d.cells s)) (λ s e. or-true (is_input (cell_in d.cells s)) (is_output (cell_in d.cells s)) (inr e))),
        each-charge f (λ s. Unit {0}) (walk n (cell_deps d)) others (every-unit f others) (λ s w u. walk-charge f n (cell_deps d) s w) begun,
        each-charge f (λ s. f s ≡ 0) emit firsts
            (none_of (λ s. is_source (cell_in d.cells s)) (λ s e. or-true (is_input (cell_in d.cells s)) (is_output (cell_in d.cells s)) (inl (source-input (cell_in d.cells s) e))))
            (emit-charge f) (fresh n),
        cells_fit d.bits f figure-most,
        ap (λ (k : ℕ). left f (replicate k false)) fits,
      )

  load-figure : (xs : List ℕ) → Every Start xs → sum (load_of d) xs ≡ sum (figure_of d) xs
  unfolding sum Every figure_of
  load-figure [] p = refl
  load-figure (x ∷ xs) p = rw (load-figure xs p.1, eq-eqb (get_or d.bits x 0) 0 p.0.1)

  pub order-fits : sum (load_of d) (iter_cells_topo d) ≤ length d.bits
  order-fits = omega (arith, load-figure (iter_cells_topo d) order-starts, figures-fit)

  -- the order is no longer than the slots twice over
  one_each : (xs : List ℕ) → sum (λ s. 1) xs ≡ length xs
  unfolding sum
  one_each [] = refl
  one_each (x ∷ xs) = let h : sum (λ s. 1) xs ≡ length xs = one_each xs in omega arith

  none-visited : (n : ℕ) → left (λ s. 1) (replicate n false) ≡ n
  unfolding left
  none-visited zero = refl
  none-visited (suc n) = let h : left (λ s. 1) (replicate n false) ≡ n = none-visited n in omega arith

  emits-length : (ss : List ℕ) (w : Walk) → charge (λ s. 1) (each emit ss w) ≤ charge (λ s. 1) w + length ss
  unfolding each
  emits-length [] w = omega arith
  emits-length (s ∷ ss) w =
      let h : charge (λ s. 1) (each emit ss (emit s w)) ≤ charge (λ s. 1) (emit s w) + length ss = emits-length ss (emit s w) in
      omega (arith, sum_more (λ s. 1) w.result s, left-marked (λ s. 1) w.visited s)

  apart : (xs : List ℕ) → length (those (λ s. is_source (cell_in d.cells s)) xs) + length (those (λ s. is_output (cell_in d.cells s)) xs) ≤ length xs
  unfolding those
  apart [] = omega arith
  apart (x ∷ xs) = go (cell_in d.cells x) (apart xs)
    where
      go : (c : Cell) → length (those (λ s. is_source (cell_in d.cells s)) xs) + length (those (λ s. is_output (cell_in d.cells s)) xs) ≤ length xs
          → length (cond (is_source c) (x ∷ those (λ s. is_source (cell_in d.cells s)) xs) (those (λ s. is_source (cell_in d.cells s)) xs))
          + length (cond (is_output c) (x ∷ those (λ s. is_output (cell_in d.cells s)) xs) (those (λ s. is_output (cell_in d.cells s)) xs)) ≤ suc (length xs)
      go (Input l) h = omega arith
      go (Output y l) h = omega arith
      go (Buf y) h = omega arith
      go (Not y) h = omega arith
      go (And y z) h = omega arith
      go (Or y z) h = omega arith
      go (Xor y z) h = omega arith
      go (Mux y z v) h = omega arith
      go (Aig p q) h = omega arith

  pub order-short : length (iter_cells_topo d) ≤ length d.bits + length d.bits
  unfolding iter_cells_topo walk_from iter_cells sum
  order-short =
      let f : ℕ → ℕ = λ s. 1 in
      let n : ℕ = length d.cells in
      omega (
        arith,
        sym (one_each (iter_cells_topo d)) ∙ sum-append f (each (walk n (cell_deps d)) others begun).result outputs,
        one_each outputs,
        each-charge f (λ s. Unit {0}) (walk n (cell_deps d)) others (every-unit f others) (λ s w u. walk-charge f n (cell_deps d) s w) begun,
        emits-length firsts (fresh n),
        none-visited n,
        apart all,
        those-length (λ s. eqb (get_or d.bits s 0) 0) (slots (length d.bits)),
        tabulate-length (λ s. s) (length d.bits),
      )
