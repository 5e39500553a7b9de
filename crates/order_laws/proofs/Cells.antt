-- The cell order: each cell once. Assumes nothing.
use mathlib.Core.Path.{◌≡◌, refl, sym, ap, ◌∙◌, subst}
use mathlib.Core.Bool.{Bool, true, false, cond, not, ◌&&◌, ◌||◌, true≢false, false≢true}
use mathlib.Core.List.{List, [], ◌∷◌, ◌++◌, append_assoc, append-nil}
use Prim.Native.Nat.{ℕ, zero, suc, ◌<◌}
use native.Mathlib.Omega.{arith}
use lib.Dec.{eqb}
use lib.ListN.{length, get_or}
use lib.Seq.{get_or-set_other}
use Rattle.basics.specs.Lists.{tabulate, slots, those, has, All}
use Rattle.netlist.specs.Shape.{is_source, is_output}
use Rattle.netlist.specs.Netlist.{Netlist, cell_in, iter_cells, cell_deps}
use Rattle.order.specs.Walk.{Walk, is_visited, mark, each, walk, fresh, walk_from}
use Rattle.order.specs.Orders.{emit, iter_cells_topo}
use Rattle.order_laws.specs.Ordered.{OnceAfter}
use Rattle.basics.proofs.Truth.{either, never, or_left, or_right, or-none, and_both}
use Rattle.basics.proofs.Members.{all-has, has_first, has-later, has-append, has-snoc-same, has-snoc-other, has-snoc-old, slots_small, has-those, those-has}
use Rattle.basics.proofs.Indices.{get_d_any, get_d-same}
use Rattle.order_laws.proofs.Sorts.{source-no-output}
use Rattle.order_laws.proofs.Walks.{Inv, goes_none, goes_on, Went, WentAll, went-none, went_then, each-went, mark-inv, push-went, walk-went, fresh-inv, fresh-new, count-replicate, once-not, once-snoc}
use Rattle.order_laws.proofs.Closed.{Only, mark-only, each-only, walk-only}

-- two lists, each once and apart, are once together
once-apart : (before done ys : List ℕ) → OnceAfter done ys → ((x : ℕ) → has x ys ≡ true → has x before ≡ false) → OnceAfter (before ++ done) ys
unfolding OnceAfter
once-apart before done [] p f = tt
once-apart before done (y ∷ ys) p f = (
  has-append y before done ∙ or-none (has y before) (has y done) (f y (has_first y ys)) ∙ p.0,
  rw (append_assoc before done (y ∷ [])) (once-apart before (done ++ (y ∷ [])) ys p.1 (λ x e. f x (has-later x y ys e))),
)

once-both : (before xs ys : List ℕ) → OnceAfter before xs → ((x : ℕ) → has x ys ≡ true → has x (before ++ xs) ≡ false) → OnceAfter [] ys → OnceAfter before (xs ++ ys)
unfolding OnceAfter
once-both before [] ys o f p = subst (λ b. OnceAfter b ys) (append-nil before) (once-apart before [] ys p (λ x e. rw append-nil at (f x e)))
once-both before (x ∷ xs) ys o f p =
    (o.0, once-both (before ++ (x ∷ [])) xs ys o.1 (λ y e. rw (append_assoc before (x ∷ []) xs) (f y e)) p)

module _ (n : ℕ) (deps : ℕ → List ℕ) where
  -- sources are marked and put down one after another
  emit-went : (s : ℕ) (w : Walk) → Inv n w → is_visited w s ≡ false → Went n deps s w (emit s w)
  emit-went s w i new = push-went n deps s w (mark s w) i new (mark-inv n deps s w i new) (goes_none (mark s w))

  emit-all : (before ss : List ℕ) (w : Walk) → Inv n w → OnceAfter before ss → ((s : ℕ) → has s ss ≡ true → is_visited w s ≡ false)
      → WentAll n deps ss w (each emit ss w)
  unfolding each OnceAfter
  emit-all before [] w i o f = went-none n deps w i
  emit-all before (s ∷ ss) w i o f =
      let a : Went n deps s w (emit s w) = emit-went s w i (f s (has_first s ss)) in
      went_then n deps s ss w (emit s w) (each emit ss (emit s w)) a
      (emit-all (before ++ (s ∷ [])) ss (emit s w) a.inv o.1 (λ x e.
      get_or-set_other w.visited s x true true
      (λ q. never e (once-not (before ++ (s ∷ [])) ss x o.1 (ap (λ y. has y (before ++ (s ∷ []))) q ∙ has-snoc-same before s)))
      ∙ f x (has-later x s ss e)))

  -- some first, then a walk from the others: each of them once, and nothing else
  module _ (firsts others : List ℕ) (once : OnceAfter [] firsts) (small : (x : ℕ) → (has x firsts || has x others) ≡ true → x < n)
      (depend : (s x : ℕ) → has x (deps s) ≡ true → (has x firsts || has x others) ≡ true) where
    abbrev p : ℕ → Bool
    p x = has x firsts || has x others

    abbrev w₁ : Walk
    w₁ = each emit firsts (fresh n)

    abbrev w₂ : Walk
    w₂ = walk_from n deps others w₁

    first_part : WentAll n deps firsts (fresh n) w₁
    first_part =
        emit-all [] firsts (fresh n) (fresh-inv n deps) once (λ s e. fresh-new n deps s (small s (or_left (has s firsts) (has s others) e)))

    second-part : WentAll n deps others w₁ w₂
    unfolding walk_from
    second-part = each-went n deps n (walk n deps) (walk-went n deps n) others w₁ first_part.inv (omega (arith, first_part.goes.fewer, count-replicate n))

    -- nothing else is visited
    abbrev P : ℕ → Type 0
    P x = p x ≡ true

    closed : (s : ℕ) → P s → All P (deps s)
    closed s e = all-has P (deps s) (depend s)

    only-these : Only deps P closed w₂
    unfolding walk_from
    only-these =
        each-only deps P closed (walk n deps) (walk-only deps P closed n) others (all-has P others (λ d e. or_right (has d firsts) (has d others) e)) w₁
        (each-only deps P closed emit (mark-only deps P closed) firsts (all-has P firsts (λ d e. or_left (has d firsts) (has d others) e)) (fresh n)
        (λ x v. never v (get_d-same n x false)))

    pub walked_once : OnceAfter [] w₂.result
    walked_once = second-part.inv.once

    reached : (x : ℕ) → p x ≡ true → is_visited w₂ x ≡ true
    reached x e = either (has x firsts)
        (λ g. second-part.goes.grown x (first_part.there x g))
        (λ g. second-part.there x (sym (or-none (has x firsts) (has x others) g) ∙ e))

    pub walked_all : (x : ℕ) → has x w₂.result ≡ p x
    walked_all x = either (p x)
        (λ e. (goes_on (fresh n) w₁ w₂ first_part.goes second-part.goes).closed x (fresh-new n deps x (small x e)) (reached x e) ∙ sym e)
        (λ e. either (has x w₂.result)
        (λ g. never (only-these x (get_d_any w₂.visited x false true (omega (arith, second-part.inv.small x g, second-part.inv.wide)) ∙ second-part.inv.known x g)) e)
        (λ g. g ∙ sym e))

-- those of a list that is once are once
pub once-those : (q : ℕ → Bool) (before before' xs : List ℕ) → ((x : ℕ) → has x before ≡ false → has x before' ≡ false) → OnceAfter before xs
    → OnceAfter before' (those q xs)
unfolding OnceAfter those
once-those q before before' [] f o = tt
once-those q before before' (y ∷ xs) f o = go (q y) (λ b g. once-those q (before ++ (y ∷ [])) b xs g o.1)
  where
    not-before : (x : ℕ) → has x (before ++ (y ∷ [])) ≡ false → has x before ≡ false
    not-before x e = either (has x before) (λ g. never (has-snoc-old x before y g) e) (λ g. g)

    not-y : (x : ℕ) → has x (before ++ (y ∷ [])) ≡ false → x ≡ y → ⊥
    not-y x e g = never (ap (λ z. has z (before ++ (y ∷ []))) g ∙ has-snoc-same before y) e

    go : (t : Bool) → ((b : List ℕ) → ((x : ℕ) → has x (before ++ (y ∷ [])) ≡ false → has x b ≡ false) → OnceAfter b (those q xs))
        → OnceAfter before' (cond t (y ∷ those q xs) (those q xs))
    go true ih = (f y o.0, ih (before' ++ (y ∷ [])) (λ x e. has-snoc-other x before' y (not-y x e) ∙ f x (not-before x e)))
    go false ih = ih before' (λ x e. f x (not-before x e))

slots-once : (n : ℕ) → OnceAfter [] (slots n)
unfolding tabulate OnceAfter
slots-once zero = tt
slots-once (suc n) =
    once-snoc [] (slots n) n (slots-once n) (either (has n (slots n)) (λ e. absurd (omega (arith, slots_small n n e))) (λ e. e))

-- the law: where the cells that a cell reads are cells of the netlist other than outputs, each cell stands once
module _ (d : Netlist) (sizes : length d.bits ≡ length d.cells) where
  abbrev starts : List ℕ
  starts = iter_cells d.bits

  abbrev firsts : List ℕ
  firsts = those (λ s. is_source (cell_in d.cells s)) starts

  abbrev others : List ℕ
  others = those (λ s. not (is_output (cell_in d.cells s))) starts

  abbrev outputs : List ℕ
  outputs = those (λ s. is_output (cell_in d.cells s)) starts

  starts-once : OnceAfter [] starts
  unfolding iter_cells
  starts-once = once-those (λ s. eqb (get_or d.bits s 0) 0) [] [] (slots (length d.bits)) (λ x e. e) (slots-once (length d.bits))

  starts-small : (x : ℕ) → has x starts ≡ true → x < length d.cells
  unfolding iter_cells
  starts-small x h =
      omega (arith, sizes, slots_small (length d.bits) x (those-has (λ s. eqb (get_or d.bits s 0) 0) (slots (length d.bits)) x h))

  parts : (x : ℕ) → ((has x firsts || has x others) ≡ (has x starts && not (is_output (cell_in d.cells x)))) × (has x outputs ≡ (has x starts && is_output (cell_in d.cells x)))
  parts x = (
    go (has x starts) (is_source (cell_in d.cells x)) (is_output (cell_in d.cells x)) (source-no-output (cell_in d.cells x))
        (has x firsts) (has x others) (has-those (λ s. is_source (cell_in d.cells s)) starts x) (has-those (λ s. not (is_output (cell_in d.cells s))) starts x),
    has-those (λ s. is_output (cell_in d.cells s)) starts x,
  )
    where
      go : (a i o : Bool) → (i ≡ true → o ≡ false) → (u v : Bool) → u ≡ (a && i) → v ≡ (a && not o) → (u || v) ≡ (a && not o)
      go a i o h true true e f = f
      go a i o h false v e f = f
      go false i o h true false e f = absurd (true≢false e)
      go true false o h true false e f = absurd (true≢false e)
      go true true false h true false e f = absurd (false≢true f)
      go true true true h true false e f = absurd (true≢false (h refl))

  module _ (depend : (s x : ℕ) → has x (cell_deps d s) ≡ true → has x others ≡ true) where
    abbrev reachable : ℕ → Bool
    reachable x = has x firsts || has x others

    reachable-small : (x : ℕ) → reachable x ≡ true → x < length d.cells
    reachable-small x e = starts-small x (and_both (has x starts) _ (sym (parts x).0 ∙ e)).0

    firsts-once : OnceAfter [] firsts
    firsts-once = once-those (λ s. is_source (cell_in d.cells s)) [] [] starts (λ x e. e) starts-once

    reads : (s x : ℕ) → has x (cell_deps d s) ≡ true → reachable x ≡ true
    reads s x e = or_right (has x firsts) (has x others) (depend s x e)

    abbrev walked_cells : List ℕ
    walked_cells = (walk_from (length d.cells) (cell_deps d) others (each emit firsts (fresh (length d.cells)))).result

    members : (x : ℕ) → has x walked_cells ≡ reachable x
    members = walked_all (length d.cells) (cell_deps d) firsts others firsts-once reachable-small reads

    apart : (a o u v : Bool) → u ≡ (a && not o) → v ≡ (a && o) → v ≡ true → u ≡ false
    apart true true u v e f g = e
    apart true false u v e f g = never g f
    apart false o u v e f g = e

    pub iter_cells_topo-once : OnceAfter [] (iter_cells_topo d)
    unfolding iter_cells_topo
    iter_cells_topo-once =
        once-both [] walked_cells outputs (walked_once (length d.cells) (cell_deps d) firsts others firsts-once reachable-small reads)
        (λ x e. apart (has x starts) (is_output (cell_in d.cells x)) (has x walked_cells) (has x outputs) (members x ∙ (parts x).0) (parts x).1 e)
        (once-those (λ s. is_output (cell_in d.cells s)) [] [] starts (λ x e. e) starts-once)

    pub iter_cells_topo-all : (x : ℕ) → has x (iter_cells_topo d) ≡ has x (iter_cells d.bits)
    unfolding iter_cells_topo
    iter_cells_topo-all x =
        has-append x walked_cells outputs ∙ go (has x starts) (is_output (cell_in d.cells x)) (has x walked_cells) (has x outputs) (members x ∙ (parts x).0) (parts x).1
      where
        go : (a o u v : Bool) → u ≡ (a && not o) → v ≡ (a && o) → (u || v) ≡ a
        go true true u v e f = or-none u v e ∙ f
        go true false u v e f = or_left u v e
        go false o u v e f = or-none u v e ∙ f
