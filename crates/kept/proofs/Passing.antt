-- The records of a sound netlist pass checking. Assumes nothing.
use mathlib.Core.Path.{◌≡◌, refl, sym, ap, ◌∙◌}
use mathlib.Core.Bool.{Bool, true, false, ◌&&◌, not}
use mathlib.Core.List.{List}
use Prim.Native.Nat.{ℕ, ◌-◌, ◌<◌}
use native.Mathlib.Omega.{arith}
use lib.Dec.{eqb}
use lib.ListN.{length, get_or}
use borrow.Author.Tests.{lt-ltb}
use Rattle.std.specs.Prelude.{Ok}
use Rattle.value.specs.declared.Net.{Net}
use Rattle.value.specs.declared.ControlNet.TheVariants.{Pos, Neg}
use Rattle.value.specs.declared.Driver.{Driver}
use Rattle.value.specs.declared.Driver.TheVariants as driven
use Rattle.value.specs.Value.{net_at, driver}
use Rattle.cell.specs.declared.Record.{Record}
use Rattle.cell.specs.declared.Cell.{Cell}
use Rattle.cell.specs.declared.Cell.TheVariants.{Input, Output, Buf, Not, And, Or, Xor, Mux, Aig}
use Rattle.kinds.specs.Kinds.{kind_of, sort_of}
use Rattle.cell.specs.Operands.{field_of, is_operand}
use Rattle.cell.specs.Records.{record_of, record_in, cell_record}
use Rattle.basics.proofs.Tables.{tabulate-length, tabulate-at}
use Rattle.loops.specs.Reach.{OnLoop}
use Rattle.loops.proofs.Reach.{on_loop-false}
use Rattle.refusals.specs.Refusals.{first_of}
use Rattle.checking.specs.Checking.{unknown_kind, reserved_field, bit_out_of_sequence, undriven, undriven_field, netlist_stages}
use Rattle.checking.proofs.Groups.{fields-driven, RecordPasses, kind-exactly, field-exactly, bit-exactly, operand-exactly, records-exactly, loops-exactly, netlist-exactly}
use Rattle.netlist.specs.Shape.{visit}
use Rattle.netlist.specs.Netlist.{Netlist, cell_in, encode}
use Rattle.basics.specs.Lists.{All}
use Rattle.order_laws.specs.Members.{Wired}
use Rattle.basics.proofs.Members.{all-imp}
use Rattle.order_laws.proofs.Sorts.{output-kind, kind-known}
use Rattle.order_laws.proofs.Edges.{fields-have, FieldHas}
use Rattle.levels_laws.proofs.Ranks.{ranked-no-loop}
use Rattle.kept.proofs.Sound as sound
use Rattle.kept.proofs.Sound.{Sound, sound-wired}

-- 4 and 5: the record of a cell has a kind, and its unused fields are 0
known-kind : (bit : ℕ) (c : Cell) → unknown_kind (cell_record bit c) ≡ false
unfolding unknown_kind
known-kind bit c = ap not (kind-known bit c)

unused-zero : (bit : ℕ) (c : Cell) → reserved_field (cell_record bit c) ≡ false
unfolding reserved_field cell_record kind_of sort_of
unused-zero bit (Input l) = refl
unused-zero bit (Output a l) = refl
unused-zero bit (Buf a) = refl
unused-zero bit (Not a) = refl
unused-zero bit (And a b) = refl
unused-zero bit (Or a b) = refl
unused-zero bit (Xor a b) = refl
unused-zero bit (Mux a b c) = refl
unused-zero bit (Aig (Pos a) (Pos b)) = refl
unused-zero bit (Aig (Pos a) (Neg b)) = refl
unused-zero bit (Aig (Neg a) (Pos b)) = refl
unused-zero bit (Aig (Neg a) (Neg b)) = refl

-- 7
module _ (rs : List Record) where
  field-driven : (r : Record) (f : ℕ) → FieldHas (λ n. undriven rs (driver n) ≡ false) r f → undriven_field rs r f ≡ false
  unfolding undriven_field
  field-driven r f h = go (is_operand r f) refl
    where
      go : (b : Bool) → is_operand r f ≡ b → (b && undriven rs (driver (net_at (field_of r f)))) ≡ false
      go true e = h e
      go false e = refl

  cell-driven : (bit : ℕ) (c : Cell) → All (λ n. undriven rs (driver n) ≡ false) (visit c) → (f : ℕ) → undriven_field rs (cell_record bit c) f ≡ false
  cell-driven bit c h =
      let g = fields-have (λ n. undriven rs (driver n) ≡ false) bit c h in
      let r : Record = cell_record bit c in
      fields-driven rs r (field-driven r 1 g.0) (field-driven r 2 g.1) (field-driven r 3 g.2)

module _ (d : Netlist) (rank : ℕ → ℕ) (good : Sound d rank) where
  abbrev rs : List Record
  rs = encode d

  pub encode-length : length rs ≡ length d.cells
  unfolding encode
  encode-length = tabulate-length (sound.record_in d) (length d.cells)

  pub encode-at : (s : ℕ) → s < length d.cells → record_in rs s ≡ sound.record_in d s
  unfolding encode
  encode-at s l = tabulate-at (sound.record_in d) (length d.cells) (record_of 0 0 0 0 0 0) s l

  net-driven : (n : Net) → Wired d.cells n → undriven rs (driver n) ≡ false
  net-driven n o = go (driver n) refl
    where
      go : (r : Driver) → driver n ≡ r → undriven rs r ≡ false
      go (driven.Const t) e = refl
      go (driven.Cell x) e =
          rw (lt-ltb x.0 (length rs) (omega (arith, encode-length, (o x e).0)))
          (ap (λ (r : Record). eqb r.kind 2) (encode-at x.0 (o x e).0)
          ∙ sym (output-kind (get_or d.bits x.0 0) (cell_in d.cells x.0)) ∙ (o x e).1)

  operands-driven : (s : ℕ) → s < length d.cells → (f : ℕ) → undriven_field rs (sound.record_in d s) f ≡ false
  operands-driven s l =
      cell-driven rs (get_or d.bits s 0) (cell_in d.cells s)
      (all-imp (Wired d.cells) (λ n. undriven rs (driver n) ≡ false) net-driven (visit (cell_in d.cells s)) (sound-wired d rank good s l))

  no_loop : (s : ℕ) → OnLoop rs s → ⊥
  no_loop = ranked-no-loop d.cells rank good.ranked rs (λ s. get_or d.bits s 0) encode-length encode-at

  record-passes : (s : ℕ) → s < length rs → RecordPasses rs s
  unfolding bit_out_of_sequence
  record-passes s h =
      let l : s < length d.cells = let q : length rs ≡ length d.cells = encode-length in omega arith in
      let e : record_in rs s ≡ sound.record_in d s = encode-at s l in
      record {
        kind = (kind-exactly rs s).1 (ap unknown_kind e ∙ known-kind (get_or d.bits s 0) (cell_in d.cells s));
        fields = (field-exactly rs s).1 (ap reserved_field e ∙ unused-zero (get_or d.bits s 0) (cell_in d.cells s));
        bits = (bit-exactly rs s).1 (rw (encode-at (s - 1) (omega arith), e) (good.sequence s l));
        operands = (operand-exactly rs s).1 (λ f. ap (λ (r : Record). undriven_field rs r f) e ∙ operands-driven s l f);
      }

  pub sound-passes : first_of (netlist_stages (encode d)) ≡ Ok tt
  sound-passes =
      (netlist-exactly rs).1
      (record { records = (records-exactly rs).1 record-passes; loops = (loops-exactly rs).1 (λ s l. on_loop-false rs s (no_loop s)) })
