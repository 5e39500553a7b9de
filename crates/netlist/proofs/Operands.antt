-- Operands renamed in the fields of a record. Assumes nothing.
use Rattle.std.specs.Prelude.{Option, Some, None, is_some}
use mathlib.Core.Path.{◌≡◌, refl, sym, ap, ap₂, ◌∙◌}
use mathlib.Core.Bool.{Bool, true, false, cond, not}
use Prim.Native.Nat.{ℕ, zero, suc, ◌+◌, ◌*◌, ◌/◌, ◌%◌, ◌<◌}
use native.Mathlib.Omega.{arith}
use lib.Dec.{eqb}
use Rattle.value.specs.declared.Net.{Net}
use Rattle.value.specs.declared.ControlNet.TheVariants.{Pos, Neg}
use Rattle.value.specs.Value.{ZERO, net_at, from_net_invert}
use Rattle.kinds.specs.declared.Use.{Use}
use Rattle.kinds.specs.declared.Sort.{Sort}
use Rattle.kinds.specs.declared.Sort.TheVariants as sort
use Rattle.kinds.specs.Kinds.{sort_of, number_of, kind_by, kind_of, use_of, is_used, is_operand_use}
use Rattle.kinds.proofs.Laws.{number-back}
use Rattle.cell.specs.declared.Record.{Record}
use Rattle.cell.specs.declared.Cell.{Cell}
use Rattle.cell.specs.declared.Cell.TheVariants.{Input, Output, Buf, Not, And, Or, Xor, Mux, Aig}
use Rattle.cell.specs.Operands.{field_of, is_operand}
use Rattle.cell.specs.Records.{record_of, cell_by, cell_of, cell_record}
use Rattle.netlist.specs.Shape.{visit_mut, visit_control}
use Rattle.netlist.specs.inner.Fields.{plain_fields, operand_at, with_nets, renamed_fields, renamed_record}

-- the flags of an and-inverter, bit by bit
bit_is : (v : ℕ) → v < 2 → cond (eqb v 1) 1 0 ≡ v
bit_is zero h = refl
bit_is (suc zero) h = refl
bit_is (suc (suc v)) h = absurd (omega arith)

twice-is : (v : ℕ) → v < 2 → cond (eqb v 1) 2 0 ≡ v * 2
twice-is zero h = refl
twice-is (suc zero) h = refl
twice-is (suc (suc v)) h = absurd (omega arith)

inverter-record : (bit a b : ℕ) (p q : Bool)
    → cell_record bit (Aig (from_net_invert (net_at a) p) (from_net_invert (net_at b) q)) ≡ record_of (number_of sort.Aig) (cond p 1 0 + cond q 2 0) bit a b 0
unfolding cell_record
inverter-record bit a b true true = refl
inverter-record bit a b true false = refl
inverter-record bit a b false true = refl
inverter-record bit a b false false = refl

inverter : (f bit a b : ℕ) → record_of (number_of sort.Aig) (f % 2 + f / 2 % 2 * 2) bit a b 0
    ≡ cell_record bit (Aig (from_net_invert (net_at a) (eqb (f % 2) 1)) (from_net_invert (net_at b) (eqb (f / 2 % 2) 1)))
inverter f bit a b =
    sym (inverter-record bit a b (eqb (f % 2) 1) (eqb (f / 2 % 2) 1)
    ∙ ap₂ (λ (x y : ℕ). record_of (number_of sort.Aig) (x + y) bit a b 0) (bit_is (f % 2) (omega arith)) (twice-is (f / 2 % 2) (omega arith)))

plain-as : (o : Option Sort) (k f bit a b c : ℕ) → ((s : Sort) → o ≡ Some s → number_of s ≡ k)
    → record_of (cond (is_some o) k (number_of sort.Buf)) (cond (not (eqb (kind_by o).flags 0)) (f % 2 + f / 2 % 2 * 2) 0) bit
    (cond (is_some o) a 0) (cond (is_used (kind_by o).b) b 0) (cond (is_operand_use (kind_by o).c) c 0)
    ≡ cell_record bit (cell_by o (record_of k f bit a b c))
unfolding cell_record
plain-as None k f bit a b c h = refl
plain-as (Some sort.Input) k f bit a b c h = rw (← h sort.Input refl)
plain-as (Some sort.Output) k f bit a b c h = rw (← h sort.Output refl)
plain-as (Some sort.Buf) k f bit a b c h = rw (← h sort.Buf refl)
plain-as (Some sort.Not) k f bit a b c h = rw (← h sort.Not refl)
plain-as (Some sort.And) k f bit a b c h = rw (← h sort.And refl)
plain-as (Some sort.Or) k f bit a b c h = rw (← h sort.Or refl)
plain-as (Some sort.Xor) k f bit a b c h = rw (← h sort.Xor refl)
plain-as (Some sort.Mux) k f bit a b c h = rw (← h sort.Mux refl)
plain-as (Some sort.Aig) k f bit a b c h = rw (← h sort.Aig refl) (inverter f bit a b)

pub plain-is : (r : Record) → plain_fields r ≡ cell_record r.bit (cell_of r)
unfolding plain_fields cell_of kind_of
plain-is r = plain-as (sort_of r.kind) r.kind r.flags r.bit r.a r.b r.c (number-back r.kind)

-- a function put to the nets in the fields
module _ (f : Net → Net) where
  pub renamed-cell : (bit : ℕ) (c : Cell) → renamed_fields f (cell_record bit c) ≡ cell_record bit (visit_mut f c)
  unfolding renamed_fields with_nets operand_at is_operand field_of use_of kind_of sort_of cell_record visit_mut
  renamed-cell bit (Input l) = refl
  renamed-cell bit (Output a l) = refl
  renamed-cell bit (Buf a) = refl
  renamed-cell bit (Not a) = refl
  renamed-cell bit (And a b) = refl
  renamed-cell bit (Or a b) = refl
  renamed-cell bit (Xor a b) = refl
  renamed-cell bit (Mux a b c) = refl
  renamed-cell bit (Aig (Pos a) (Pos b)) = refl
  renamed-cell bit (Aig (Pos a) (Neg b)) = refl
  renamed-cell bit (Aig (Neg a) (Pos b)) = refl
  renamed-cell bit (Aig (Neg a) (Neg b)) = refl

  pub renamed-plain : (r p : Record) → p ≡ cell_record r.bit (cell_of r) → renamed_fields f p ≡ renamed_record f r
  unfolding renamed_record
  renamed-plain r p e = ap (renamed_fields f) e ∙ renamed-cell r.bit (cell_of r)

  -- and in those of any record: its cell is renamed likewise
  control-mapped : (n : Net) (b : Bool) → from_net_invert (f n) b ≡ visit_control f (from_net_invert n b)
  control-mapped n true = refl
  control-mapped n false = refl

  renamed_by : Option Sort → Record → Record
  renamed_by o r =
      let at : Use → ℕ → ℕ = λ u x. cond (is_operand_use u) (f (net_at (cond (is_operand_use u) x 0))).0 x in
      record_of r.kind r.flags r.bit (at (kind_by o).a r.a) (at (kind_by o).b r.b) (at (kind_by o).c r.c)

  renamed_by_lem : f ZERO ≡ ZERO → (o : Option Sort) (r : Record) → cell_by o (renamed_by o r) ≡ visit_mut f (cell_by o r)
  unfolding renamed_by visit_mut
  renamed_by_lem z None r = ap Buf (sym z)
  renamed_by_lem z (Some sort.Input) r = refl
  renamed_by_lem z (Some sort.Output) r = refl
  renamed_by_lem z (Some sort.Buf) r = refl
  renamed_by_lem z (Some sort.Not) r = refl
  renamed_by_lem z (Some sort.And) r = refl
  renamed_by_lem z (Some sort.Or) r = refl
  renamed_by_lem z (Some sort.Xor) r = refl
  renamed_by_lem z (Some sort.Mux) r = refl
  renamed_by_lem z (Some sort.Aig) r = ap₂ Aig (control-mapped (net_at r.a) (eqb (r.flags % 2) 1)) (control-mapped (net_at r.b) (eqb (r.flags / 2 % 2) 1))

  pub renamed-of : f ZERO ≡ ZERO → (r : Record) → cell_of (renamed_fields f r) ≡ visit_mut f (cell_of r)
  unfolding cell_of renamed_fields with_nets operand_at is_operand field_of use_of kind_of renamed_by
  renamed-of z r = renamed_by_lem z (sort_of r.kind) r
