-- The records of cells as keys. Assumes nothing.
use mathlib.Core.Path.{◌≡◌, refl, sym, ap, ap₂, ◌∙◌}
use Prim.Native.Nat.{ℕ, ◌<◌}
use native.Mathlib.Omega.{arith}
use Rattle.value.specs.declared.ControlNet.TheVariants.{Pos, Neg}
use Rattle.cell.specs.declared.Record.{Record}
use Rattle.cell.specs.declared.Cell.{Cell}
use Rattle.cell.specs.declared.Cell.TheVariants.{Input, Output, Buf, Not, And, Or, Xor, Mux, Aig}
use Rattle.cell.specs.Records.{record_of, cell_of, cell_record}
use Rattle.cell.proofs.RoundTrips.{cell-back}
use Rattle.netlist.proofs.Areas.{Sized}
use Rattle.design.specs.Queue.{eq_record, eq_cell}
use Rattle.numberer.specs.inner.Words.{IsCell}

-- the bit stands by itself
abbrev with_bit : ℕ → Record → Record
with_bit b r = record_of r.kind r.flags b r.a r.b r.c

bit-apart : (b : ℕ) (c : Cell) → cell_record b c ≡ with_bit b (cell_record 0 c)
unfolding cell_record
bit-apart b (Input l) = refl
bit-apart b (Output x l) = refl
bit-apart b (Buf x) = refl
bit-apart b (Not x) = refl
bit-apart b (And x y) = refl
bit-apart b (Or x y) = refl
bit-apart b (Xor x y) = refl
bit-apart b (Mux x y z) = refl
bit-apart b (Aig p q) = refl

pub bit-of : (b : ℕ) (c : Cell) → (cell_record b c).bit ≡ b
bit-of b c = ap (λ (r : Record). r.bit) (bit-apart b c)

pub is-cell : (r : Record) (b : ℕ) (c : Cell) → r ≡ cell_record b c → IsCell r
is-cell r b c e =
    record { back = e ∙ sym (ap₂ cell_record (ap (λ (x : Record). x.bit) e ∙ bit-of b c) (ap cell_of e ∙ cell-back b c)) }

-- records of cells are compared as cells: the bit does not count
pub eq-cells : (x y : Record) → IsCell x → IsCell y → eq_record x y ≡ eq_cell (cell_of x) (cell_of y)
unfolding eq_cell eq_record
eq-cells x y p q =
    ap (λ (r : Record). eq_record r y) (p.back ∙ bit-apart x.bit (cell_of x))
    ∙ ap (eq_record (cell_record 0 (cell_of x))) (q.back ∙ bit-apart y.bit (cell_of y))

-- a cell's record fits into its words
pub cell-sized : (b : ℕ) (c : Cell) → b < 65536 → Sized (cell_record b c)
unfolding cell_record
cell-sized b (Input l) h = record { kind = omega arith; flags = omega arith; bit = h }
cell-sized b (Output x l) h = record { kind = omega arith; flags = omega arith; bit = h }
cell-sized b (Buf x) h = record { kind = omega arith; flags = omega arith; bit = h }
cell-sized b (Not x) h = record { kind = omega arith; flags = omega arith; bit = h }
cell-sized b (And x y) h = record { kind = omega arith; flags = omega arith; bit = h }
cell-sized b (Or x y) h = record { kind = omega arith; flags = omega arith; bit = h }
cell-sized b (Xor x y) h = record { kind = omega arith; flags = omega arith; bit = h }
cell-sized b (Mux x y z) h = record { kind = omega arith; flags = omega arith; bit = h }
cell-sized b (Aig (Pos x) (Pos y)) h = record { kind = omega arith; flags = omega arith; bit = h }
cell-sized b (Aig (Pos x) (Neg y)) h = record { kind = omega arith; flags = omega arith; bit = h }
cell-sized b (Aig (Neg x) (Pos y)) h = record { kind = omega arith; flags = omega arith; bit = h }
cell-sized b (Aig (Neg x) (Neg y)) h = record { kind = omega arith; flags = omega arith; bit = h }
