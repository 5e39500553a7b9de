-- Records that pass refusals 4 to 8: their kinds are known, their operands name slots other than outputs, and a rank falls along their edges.
-- Assumes nothing.
use mathlib.Core.Path.{◌≡◌, sym, ap, ap₂, ◌∙◌}
use mathlib.Core.Bool.{true, false, not, ◌&&◌}
use mathlib.Core.List.{List, map}
use Prim.Native.Nat.{ℕ, ◌<◌}
use native.Mathlib.Omega.{arith}
use lib.Dec.{eqb, ltb}
use lib.ListN.{length, length-map}
use borrow.Author.Tests.{ltb-true, not-false}
use Rattle.std.specs.Prelude.{Ok}
use Rattle.value.specs.declared.Slot.{Slot}
use Rattle.value.specs.declared.Driver.TheVariants as driven
use Rattle.value.specs.Value.{net_at, driver}
use Rattle.cell.specs.declared.Record.{Record}
use Rattle.cell.specs.declared.Cell.TheVariants.{Input}
use Rattle.kinds.specs.Kinds.{is_known}
use Rattle.cell.specs.Operands.{field_of, is_operand}
use Rattle.cell.specs.Records.{record_of, record_in, cell_of}
use Rattle.loops.specs.Reach.{OnLoop, on_loop}
use Rattle.loops.proofs.Rank.{rank, rank_falls, no-loop-below}
use Rattle.refusals.specs.Refusals.{first_of}
use Rattle.checking.specs.Checking.{unknown_kind, reserved_field, bit_out_of_sequence, undriven, undriven_field, netlist_stages}
use Rattle.checking.proofs.Groups.{kind-exactly, field-exactly, bit-exactly, operand-exactly, records-exactly, loops-exactly, netlist-exactly}
use Rattle.netlist.specs.Shape.{visit, comb_reads, is_output}
use Rattle.netlist.specs.Netlist.{cell_in}
use Rattle.netlist.proofs.Cells.{output-kind}
use Rattle.basics.specs.Lists.{All}
use Rattle.order_laws.specs.Members.{Drives, Wired}
use Rattle.basics.proofs.Truth.{neither}
use Rattle.basics.proofs.Indices.{get_d-mapped}
use Rattle.order_laws.proofs.Operands.{comb-by}
use Rattle.order_laws.proofs.Edges.{other_edge, operands-by}

module _ (rs : List Record) where
  -- 7: an operand names a record, and no output
  abbrev pub Tight : ℕ → Type 0
  Tight x = (x < length rs) × (eqb (record_in rs x).kind 2 ≡ false)

  slot-tight : (x : Slot) → undriven rs (driven.Cell x) ≡ false → Tight x.0
  slot-tight x e =
      let g = neither (not (ltb x.0 (length rs))) _ e in
      (ltb-true x.0 (length rs) (not-false (ltb x.0 (length rs)) g.0), g.1)

  operand-tight : (r : Record) (f : ℕ) (x : Slot) → undriven_field rs r f ≡ false → is_operand r f ≡ true → driver (net_at (field_of r f)) ≡ driven.Cell x
      → Tight x.0
  unfolding undriven_field
  operand-tight r f x e o d = slot-tight x (sym (ap₂ (λ b y. b && undriven rs y) o d) ∙ e)

  module _ (pass : first_of (netlist_stages rs) ≡ Ok tt) where
    pub record Passed (s : ℕ) : Type 0 where
      pub kind : unknown_kind (record_in rs s) ≡ false
      pub fields : reserved_field (record_in rs s) ≡ false
      pub bits : bit_out_of_sequence rs s ≡ false
      pub operands : (f : ℕ) → undriven_field rs (record_in rs s) f ≡ false
      pub loops : on_loop rs s ≡ false

    pub passed : (s : ℕ) → s < length rs → Passed s
    passed s l =
        let p = (netlist-exactly rs).0 pass in
        let r = (records-exactly rs).0 p.records s l in
        record {
          kind = (kind-exactly rs s).0 r.kind;
          fields = (field-exactly rs s).0 r.fields;
          bits = (bit-exactly rs s).0 r.bits;
          operands = (operand-exactly rs s).0 r.operands;
          loops = (loops-exactly rs).0 p.loops s l;
        }

    pub passed-known : (s : ℕ) → s < length rs → is_known (record_in rs s).kind ≡ true
    unfolding unknown_kind
    passed-known s l = not-false (is_known (record_in rs s).kind) (passed s l).kind

    no_loop : (s : ℕ) → OnLoop rs s → ⊥
    no_loop = no-loop-below rs (λ i l. (passed i l).loops)

    -- the slots of each operand, by the fields
    passed-operands : (Q : ℕ → Type 0) (s : ℕ) → s < length rs
        → ((f : ℕ) (x : Slot) → is_operand (record_in rs s) f ≡ true → driver (net_at (field_of (record_in rs s) f)) ≡ driven.Cell x → Tight x.0 → Q x.0)
        → All (Drives Q) (visit (cell_of (record_in rs s)))
    passed-operands Q s l h =
        operands-by (Drives Q) (record_in rs s) (passed-known s l)
        (λ f e x d. h f x e d (operand-tight (record_in rs s) f x ((passed s l).operands f) e d))

    pub passed-ranked : (s : ℕ) → s < length rs
        → All (Drives (λ x. (x < length (map cell_of rs)) × (rank rs x < rank rs s))) (comb_reads (cell_in (map cell_of rs) s))
    passed-ranked s l =
        let Q : ℕ → Type 0 = λ x. (x < length (map cell_of rs)) × (rank rs x < rank rs s) in
        rw (get_d-mapped cell_of rs s (record_of 0 0 0 0 0 0) (Input 0) l)
        (comb-by (Drives Q) (cell_of (record_in rs s)) (λ o.
        passed-operands Q s l (λ f x e d t.
        (omega (arith, t.0, length-map rs cell_of), rank_falls rs no_loop s f x (other_edge (record_in rs s) f x o e d)))))

    pub passed-wired : (s : ℕ) → s < length rs → All (Wired (map cell_of rs)) (visit (cell_in (map cell_of rs) s))
    passed-wired s l =
        rw (get_d-mapped cell_of rs s (record_of 0 0 0 0 0 0) (Input 0) l)
        (passed-operands (λ x. (x < length (map cell_of rs)) × (is_output (cell_in (map cell_of rs) x) ≡ false)) s l
        (λ f x e d t. (
          omega (arith, t.0, length-map rs cell_of),
          ap is_output (get_d-mapped cell_of rs x.0 (record_of 0 0 0 0 0 0) (Input 0) t.0) ∙ output-kind (record_in rs x.0) ∙ t.1,
        )))
