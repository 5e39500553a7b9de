-- The bit order: each bit once, and after the bits that it reads where a rank falls along them. Assumes nothing.
use mathlib.Core.Path.{◌≡◌, refl, sym, ap, ◌∙◌, subst}
use mathlib.Core.Bool.{Bool, true, false, cond, not, ◌||◌}
use mathlib.Core.List.{List, [], ◌∷◌, ◌++◌, reverse, reverse_aux}
use Prim.Native.Nat.{ℕ, zero, suc, ◌+◌, ◌<◌}
use native.Mathlib.Omega.{arith}
use native.Mathlib.Decide.{dec_lt}
use lib.Dec.{eqb}
use lib.ListN.{length, get_or-eq_default}
use borrow.Author.Tests.{eqb-true, eqb-false, not-true}
use Rattle.value.specs.declared.Net.{Net}
use Rattle.cell.specs.declared.Cell.{Cell}
use Rattle.cell.specs.declared.Cell.TheVariants.{Input}
use Rattle.netlist.specs.Shape.{visit, is_source, comb_reads}
use Rattle.netlist.specs.Netlist.{cell_in, sources}
use Rattle.basics.specs.Lists.{slots, has, All}
use Rattle.order.specs.Orders.{bit_deps, topo_sort}
use Rattle.order_laws.specs.Ordered.{FedAfter, Each}
use Rattle.order_laws.specs.Members.{Drives}
use Rattle.basics.proofs.Truth.{either, and_both}
use Rattle.basics.proofs.Members.{has-slots, has-passing, has-those, those-has}
use Rattle.order_laws.proofs.Walks.{walk-each, walk-ordered}
use Rattle.order_laws.proofs.Operands.{all-sources, all-comb, input-reads, sources-all}
use Rattle.order_laws.proofs.Sorts.{other-inside}

or_swap : (a b c : Bool) → (a || (b || c)) ≡ (b || a || c)
or_swap true true c = refl
or_swap true false c = refl
or_swap false true c = refl
or_swap false false c = refl

has-reverse_aux : (x : ℕ) (ys zs : List ℕ) → has x (reverse_aux ys zs) ≡ (has x ys || has x zs)
unfolding has
has-reverse_aux x [] zs = refl
has-reverse_aux x (y ∷ ys) zs = has-reverse_aux x ys (y ∷ zs) ∙ or_swap (has x ys) (eqb x y) (has x zs)

pub has-reverse : (x : ℕ) (ys : List ℕ) → has x (reverse ys) ≡ has x ys
unfolding has
has-reverse x ys = has-reverse_aux x ys [] ∙ go (has x ys)
  where
    go : (b : Bool) → (b || false) ≡ b
    go true = refl
    go false = refl

-- what an item depends on may be listed in another order
fed-as : (n : ℕ) (deps deps' : ℕ → List ℕ) → ((s d : ℕ) → has d (deps' s) ≡ has d (deps s)) → (before xs : List ℕ) → FedAfter n deps before xs
    → FedAfter n deps' before xs
unfolding FedAfter
fed-as n deps deps' e before [] o = tt
fed-as n deps deps' e before (x ∷ xs) o = ((λ d h l. o.0 d (sym (e x d) ∙ h) l), fed-as n deps deps' e (before ++ (x ∷ [])) xs o.1)

pub topo_sort-each : (cs : List Cell) → Each (length cs) (topo_sort cs)
unfolding topo_sort
topo_sort-each cs = walk-each (length cs) (λ s. reverse (bit_deps cs s)) (slots (length cs)) (has-slots (length cs))

pub topo_sort-fed : (cs : List Cell) (rank : ℕ → ℕ) → ((s d : ℕ) → has d (bit_deps cs s) ≡ true → rank d < rank s)
    → FedAfter (length cs) (bit_deps cs) [] (topo_sort cs)
unfolding topo_sort
topo_sort-fed cs rank falls =
    fed-as (length cs) (λ s. reverse (bit_deps cs s)) (bit_deps cs) (λ s d. sym (has-reverse d (bit_deps cs s))) [] _
    (walk-ordered (length cs) (λ s. reverse (bit_deps cs s)) (slots (length cs)) (has-slots (length cs)) rank
    (λ s d h. falls s d (sym (has-reverse d (bit_deps cs s)) ∙ h)))

-- what holds of each slot that drives an operand holds of each bit that a bit depends on
deps-have : (P : ℕ → Type 0) (cs : List Cell) (s : ℕ) → (s < length cs → All (Drives P) (visit (cell_in cs s))) → (d : ℕ) → has d (bit_deps cs s) ≡ true → P d
unfolding bit_deps
deps-have P cs s h d e =
    sources-all P (visit (cell_in cs s)) (go (dec_lt s (length cs))) d (those-has (λ x. not (is_source (cell_in cs x))) (sources (visit (cell_in cs s))) d e)
  where
    go : Dec (s < length cs) → All (Drives P) (visit (cell_in cs s))
    go (yes l) = h l
    go (no l) = rw (get_or-eq_default cs (Input 0) {n = s} (omega arith)) (input-reads (Drives P) (Input 0) refl)

-- and each slot that drives an operand is a source or one of those bits
pub reads-deps : (cs : List Cell) (s : ℕ) → All (Drives (λ x. is_source (cell_in cs x) ≡ false → has x (bit_deps cs s) ≡ true)) (visit (cell_in cs s))
unfolding bit_deps
reads-deps cs s =
    let ns : List Net = visit (cell_in cs s) in
    all-sources (λ x. is_source (cell_in cs x) ≡ false → has x (bit_deps cs s) ≡ true) ns
    (λ x h i. has-passing (λ y. not (is_source (cell_in cs y))) (sources ns) x h (ap not i))

-- none of those bits is a source
deps-other : (cs : List Cell) (s d : ℕ) → has d (bit_deps cs s) ≡ true → is_source (cell_in cs d) ≡ false
unfolding bit_deps
deps-other cs s d e =
    let ns : List ℕ = sources (visit (cell_in cs s)) in
    not-true (is_source (cell_in cs d)) (and_both (has d ns) _ (sym (has-those (λ x. not (is_source (cell_in cs x))) ns d) ∙ e)).1

-- a number above the ranks of the first n slots
unfoldable pub above : (ℕ → ℕ) → ℕ → ℕ
above rank zero = 0
above rank (suc n) = above rank n + suc (rank n)

above-each : (rank : ℕ → ℕ) (n s : ℕ) → s < n → rank s < above rank n
unfolding above
above-each rank zero s l = absurd (omega arith)
above-each rank (suc n) s l =
    either (eqb s n)
    (λ e. let q : rank s ≡ rank n = ap rank (eqb-true s n e) in omega arith)
    (λ e. let h : rank s < above rank n = above-each rank n s (omega (arith, eqb-false s n e)) in omega arith)

-- a rank with the sources above all others. Where the rank falls along what each cell reads within a tick, this one falls along the bits
-- that a bit depends on: no bit depends on a source
unfoldable pub sources_last : List Cell → (ℕ → ℕ) → ℕ → ℕ
sources_last cs rank s = cond (is_source (cell_in cs s)) (above rank (length cs)) (rank s)

pub deps-fall : (cs : List Cell) (rank : ℕ → ℕ) → ((s : ℕ) → s < length cs → All (Drives (λ x. rank x < rank s)) (comb_reads (cell_in cs s)))
    → (s d : ℕ) → has d (bit_deps cs s) ≡ true → sources_last cs rank d < sources_last cs rank s
unfolding sources_last
deps-fall cs rank ranked s d h =
    let o : is_source (cell_in cs d) ≡ false = deps-other cs s d h in
    let F : Bool → Bool → Type 0 = λ (a b : Bool). cond a (above rank (length cs)) (rank d) < cond b (above rank (length cs)) (rank s) in
    subst (λ (a : Bool). F a (is_source (cell_in cs s))) (sym o)
    (either (is_source (cell_in cs s))
    (λ e. subst (F false) (sym e) (above-each rank (length cs) d (other-inside cs d o)))
    (λ e. subst (F false) (sym e)
    (deps-have (λ x. rank x < rank s) cs s (λ l. all-comb (Drives (λ x. rank x < rank s)) (cell_in cs s) e (ranked s l)) d h)))
