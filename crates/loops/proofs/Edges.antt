-- Edges of a record: fields 1, 2 and 3 alone have one, and a slot past the records has none. Assumes nothing.
use mathlib.Core.Path.{◌≡◌, refl, ap, ◌∙◌}
use mathlib.Core.Bool.{Bool, true, false, cond}
use mathlib.Core.List.{List}
use mathlib.Core.Logic.{◌⊎◌, ⊎_elim}
use Prim.Native.Nat.{ℕ, ◌<◌, ◌≤◌}
use native.Mathlib.Omega.{arith}
use lib.Dec.{eqb, ltb}
use lib.ListN.{length}
use borrow.Author.Tests.{ltb-true, ltb-false}
use Rattle.std.specs.Prelude.{Option, Some, None}
use Rattle.value.specs.declared.Slot.{Slot}
use Rattle.cell.specs.declared.Record.{Record}
use Rattle.kinds.specs.declared.Use.{Use}
use Rattle.kinds.specs.declared.Use.TheVariants.{Unused}
use Rattle.kinds.specs.Kinds.{kind_of, use_of, sort_of}
use Rattle.cell.specs.Operands.{is_operand, is_comb_edge, edge_at}
use Rattle.cell.specs.Records.{record_of, record_in}
use Rattle.cell.proofs.Lists.{record-past}
use Rattle.cell.proofs.Operands.{operand-field}

unused-edge : (r : Record) (f : ℕ) → use_of (kind_of r.kind) f ≡ Unused → edge_at r f ≡ None
unfolding edge_at is_comb_edge is_operand
unused-edge r f e = rw e

not-two : (e : Option Slot) (x : Slot) → e ≡ Some x → e ≡ None → ⊥
not-two e x p q = let z : ◌≡◌ {A = ℕ} 0 1 = cc in omega arith

pub edge-field : (r : Record) (f : ℕ) (x : Slot) → edge_at r f ≡ Some x → (f ≡ 1) ⊎ ((f ≡ 2) ⊎ (f ≡ 3))
unfolding edge_at is_comb_edge
edge-field r f x e = go (is_operand r f) refl
  where
    go : (b : Bool) → is_operand r f ≡ b → (f ≡ 1) ⊎ ((f ≡ 2) ⊎ (f ≡ 3))
    go true o = operand-field r f o
    go false o = absurd (not-two (edge_at r f) x e (rw o))

pub edge-range : (r : Record) (f : ℕ) (x : Slot) → edge_at r f ≡ Some x → (1 ≤ f) × (f ≤ 3)
edge-range r f x e = ⊎_elim (λ i. omega arith) (⊎_elim (λ i. omega arith) (λ i. omega arith)) (edge-field r f x e)

either-unused : (b : Bool) (u : Use) → u ≡ Unused → cond b Unused u ≡ Unused
either-unused true u e = refl
either-unused false u e = e

pub no_edge : (f : ℕ) → edge_at (record_of 0 0 0 0 0 0) f ≡ None
unfolding use_of kind_of sort_of
no_edge f = unused-edge (record_of 0 0 0 0 0 0) f (either-unused (eqb f 1) _ (either-unused (eqb f 2) _ (either-unused (eqb f 3) _ refl)))

-- a slot with an edge has a record
pub edge-below : (rs : List Record) (s f : ℕ) (x : Slot) → edge_at (record_in rs s) f ≡ Some x → s < length rs
edge-below rs s f x e = go (ltb s (length rs)) refl
  where
    go : (b : Bool) → ltb s (length rs) ≡ b → s < length rs
    go true t = ltb-true _ _ t
    go false t = absurd (not-two (edge_at (record_in rs s) f) x e (ap (λ (r : Record). edge_at r f) (record-past rs s (ltb-false _ _ t)) ∙ no_edge f))
