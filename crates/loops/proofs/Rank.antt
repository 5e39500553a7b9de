-- A netlist without loops has a rank that falls along every edge, and one with such a rank has no loops. Assumes nothing.
use mathlib.Core.Path.{◌≡◌}
use mathlib.Core.Bool.{false}
use mathlib.Core.List.{List}
use Prim.Native.Nat.{ℕ, ◌-◌, ◌<◌, ◌≤◌}
use native.Mathlib.Omega.{arith}
use lib.ListN.{length}
use Rattle.std.specs.Prelude.{Some}
use Rattle.value.specs.declared.Slot.{Slot}
use Rattle.cell.specs.declared.Record.{Record}
use Rattle.cell.specs.Operands.{edge_at}
use Rattle.cell.specs.Records.{record_in}
use Rattle.loops.specs.Reach.{Reaches, edge, path, OnLoop, reaches, on_loop}
use Rattle.loops.specs.inner.Counted.{counted}
use Rattle.loops.proofs.Counting.{counted-le, counted-less}
use Rattle.loops.proofs.Edges.{edge-below}
use Rattle.loops.proofs.Reach.{reaches-iff, on_loop-iff, on_loop-false}

-- how many slots do not reach s
unfoldable pub rank : List Record → ℕ → ℕ
rank rs s = length rs - counted (λ i. reaches rs i s) (length rs)

pub rank-le : (rs : List Record) (s : ℕ) → rank rs s ≤ length rs
unfolding rank
rank-le rs s = omega arith

pub reaches-by : (rs : List Record) (i s f : ℕ) (x : Slot) → edge_at (record_in rs s) f ≡ Some x → Reaches rs i s → Reaches rs i x.0
reaches-by rs i s f x e (edge g q) = path g q (edge f e)
reaches-by rs i s f x e (path {x = y} g q r) = path g q (reaches-by rs y s f x e r)

pub rank_falls : (rs : List Record) → ((s : ℕ) → OnLoop rs s → ⊥) → (s f : ℕ) (x : Slot) → edge_at (record_in rs s) f ≡ Some x → rank rs x.0 < rank rs s
unfolding rank on_loop
rank_falls rs h s f x e =
    let l : counted (λ i. reaches rs i s) (length rs) < counted (λ i. reaches rs i x.0) (length rs) =
    counted-less (λ i. reaches rs i s) (λ i. reaches rs i x.0) (length rs)
    (λ i k t. (reaches-iff rs i x.0).1 (reaches-by rs i s f x e ((reaches-iff rs i s).0 t)))
    s (edge-below rs s f x e) (on_loop-false rs s (h s)) ((reaches-iff rs s x.0).1 (edge f e)) in
    omega (arith, counted-le (λ i. reaches rs i x.0) (length rs))

module _ (rs : List Record) (g : ℕ → ℕ) (h : (s f : ℕ) (x : Slot) → edge_at (record_in rs s) f ≡ Some x → g x.0 < g s) where
  reached-falls : (s y : ℕ) → Reaches rs s y → g y < g s
  reached-falls s y (edge f e) = h s f _ e
  reached-falls s y (path {x = x} f e r) = omega (arith, h s f _ e, reached-falls x y r)

  pub falls-no-loop : (s : ℕ) → OnLoop rs s → ⊥
  falls-no-loop s r = omega (arith, reached-falls s s r)

-- the records of a list alone decide
pub no-loop-below : (rs : List Record) → ((i : ℕ) → i < length rs → on_loop rs i ≡ false) → (s : ℕ) → OnLoop rs s → ⊥
no-loop-below rs h s r = let e : on_loop rs s ≡ false = h s (reaches-below s s r) in let z : ◌≡◌ {A = ℕ} 0 1 = cc ((on_loop-iff rs s).1 r) in omega arith
  where
    reaches-below : (u y : ℕ) → Reaches rs u y → u < length rs
    reaches-below u y (edge f e) = edge-below rs u f _ e
    reaches-below u y (path f e p) = edge-below rs u f _ e
