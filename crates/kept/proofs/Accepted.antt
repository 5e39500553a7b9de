-- The netlist of records that checking passes is sound. Assumes nothing.
use mathlib.Core.Path.{◌≡◌, sym, ap₂, ◌∙◌}
use mathlib.Core.Bool.{false}
use mathlib.Core.List.{List}
use Prim.Native.Nat.{ℕ, ◌-◌, ◌≤◌, ◌<◌}
use native.Mathlib.Omega.{arith}
use lib.Dec.{eqb}
use lib.ListN.{length, length-map}
use borrow.Author.Tests.{eqb-true, ltb-false, not-false}
use Rattle.std.specs.Prelude.{Ok}
use Rattle.cell.specs.declared.Record.{Record}
use Rattle.kinds.specs.declared.Use.{Use}
use Rattle.kinds.specs.declared.Use.TheVariants.{Unused, Label, Operand}
use Rattle.cell.specs.declared.Cell.TheVariants.{Input}
use Rattle.kinds.specs.Kinds.{is_known, kind_of}
use Rattle.cell.specs.Records.{record_of, record_in, cell_of, cell_record}
use Rattle.cell.proofs.RoundTrips.{ZeroIf, WellFormed, record-back}
use Rattle.loops.proofs.Rank.{rank}
use Rattle.refusals.specs.Refusals.{first_of}
use Rattle.checking.specs.Checking.{unknown_kind, unused_not_zero, reserved_field, bit_out_of_sequence, out_of_sequence, netlist_stages}
use Rattle.netlist.specs.Shape.{visit}
use Rattle.netlist.specs.Netlist.{Netlist, netlist_of, cell_in}
use Rattle.basics.specs.Lists.{All}
use Rattle.order_laws.specs.Members.{Wired}
use Rattle.basics.proofs.Indices.{get_d-mapped}
use Rattle.order_laws.proofs.Accepted.{passed, passed-ranked, passed-wired}
use Rattle.basics.proofs.Truth.{neither}
use Rattle.basics.proofs.Members.{all-imp}
use Rattle.levels_laws.specs.Algebra.{Ranked}
use Rattle.kept.proofs.Sound as sound
use Rattle.kept.proofs.Sound.{Inside, NoOutput, Sound}

zero-if : (u : Use) (x : ℕ) → unused_not_zero u x ≡ false → ZeroIf u x
zero-if Unused x e = eqb-true x 0 (not-false (eqb x 0) e)
zero-if Label x e = tt
zero-if Operand x e = tt

-- 4 and 5 of one record
well-formed : (r : Record) → unknown_kind r ≡ false → reserved_field r ≡ false → WellFormed r
unfolding unknown_kind reserved_field
well-formed r e f =
    let k = kind_of r.kind in
    let g₁ = neither (unused_not_zero k.a r.a) _ f in
    let g₂ = neither (unused_not_zero k.b r.b) _ g₁.1 in
    let g₃ = neither (unused_not_zero k.c r.c) _ g₂.1 in
    record {
      known = not-false (is_known r.kind) e;
      a = zero-if k.a r.a g₁.0;
      b = zero-if k.b r.b g₂.0;
      c = zero-if k.c r.c g₃.0;
      flags = ltb-false k.flags r.flags g₃.1;
    }

module _ (rs : List Record) (few : length rs ≤ 65536) (pass : first_of (netlist_stages rs) ≡ Ok tt) where
  -- the netlist of the records
  abbrev netlist : Netlist
  netlist = netlist_of rs

  pub netlist-length : length netlist.cells ≡ length rs
  unfolding netlist_of
  netlist-length = length-map rs cell_of

  netlist-wide : length netlist.bits ≡ length rs
  unfolding netlist_of
  netlist-wide = length-map rs (λ r. r.bit)

  pub netlist-cell : (s : ℕ) → s < length rs → cell_in netlist.cells s ≡ cell_of (record_in rs s)
  unfolding netlist_of
  netlist-cell s l = get_d-mapped cell_of rs s (record_of 0 0 0 0 0 0) (Input 0) l

  pub netlist-record : (s : ℕ) → s < length rs → sound.record_in netlist s ≡ record_in rs s
  unfolding netlist_of
  netlist-record s l =
      ap₂ cell_record (get_d-mapped (λ r. r.bit) rs s (record_of 0 0 0 0 0 0) 0 l) (netlist-cell s l)
      ∙ record-back (record_in rs s) (well-formed (record_in rs s) (passed rs pass s l).kind (passed rs pass s l).fields)

  inside : (s : ℕ) → s < length netlist.cells → s < length rs
  inside s l = let e : length netlist.cells ≡ length rs = netlist-length in omega arith

  accepted-ranked : Ranked netlist.cells (rank rs)
  unfolding Ranked netlist_of
  accepted-ranked s l = passed-ranked rs pass s (inside s l)

  accepted-inside : (s : ℕ) → s < length netlist.cells → All (Inside netlist.cells) (visit (cell_in netlist.cells s))
  unfolding netlist_of
  accepted-inside s l =
      all-imp (Wired netlist.cells) (Inside netlist.cells) (λ m w x e. (w x e).0) (visit (cell_in netlist.cells s)) (passed-wired rs pass s (inside s l))

  accepted-driven : (s : ℕ) → s < length netlist.cells → All (NoOutput netlist.cells) (visit (cell_in netlist.cells s))
  unfolding netlist_of
  accepted-driven s l =
      all-imp (Wired netlist.cells) (NoOutput netlist.cells) (λ m w x e. (w x e).1) (visit (cell_in netlist.cells s)) (passed-wired rs pass s (inside s l))

  accepted-sequence : (s : ℕ) → s < length netlist.cells → out_of_sequence s (sound.record_in netlist (s - 1)) (sound.record_in netlist s) ≡ false
  unfolding bit_out_of_sequence
  accepted-sequence s l =
      let k : s < length rs = inside s l in
      ap₂ (out_of_sequence s) (netlist-record (s - 1) (omega arith)) (netlist-record s k) ∙ (passed rs pass s k).bits

  pub accepted-sound : Sound netlist (rank rs)
  accepted-sound = record {
    wide = netlist-wide ∙ sym netlist-length;
    few = let e : length netlist.cells ≡ length rs = netlist-length in omega arith;
    ranked = accepted-ranked;
    inside = accepted-inside;
    driven = accepted-driven;
    sequence = accepted-sequence;
  }
