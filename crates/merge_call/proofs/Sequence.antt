-- The bits of a ticket that passes are in sequence. Assumes nothing.
use mathlib.Core.Path.{◌≡◌, refl, sym, ap, ◌∙◌}
use mathlib.Core.Bool.{Bool, true, false, not, ◌&&◌, ◌||◌, true≢false, false≢true}
use mathlib.Core.List.{List}
use mathlib.Core.Logic.{◌⊎◌, inl, inr, ⊎_elim}
use Prim.Native.Nat.{ℕ, ◌+◌, ◌-◌, ◌<◌}
use native.Mathlib.Omega.{arith}
use lib.Dec.{eqb}
use lib.ListN.{length, get_or, length-map}
use borrow.Author.Tests.{eqb-true}
use Rattle.std.specs.Prelude.{Ok}
use Rattle.cell.specs.declared.Record.{Record}
use Rattle.kinds.specs.Kinds.{kind_of}
use Rattle.cell.specs.Records.{record_of, record_in}
use Rattle.netlist.specs.Netlist.{netlist_of}
use Rattle.basics.proofs.Tables.{map_at}
use Rattle.merge.specs.inner.Words.{Sequenced}
use Rattle.refusals.specs.Refusals.{first_of}
use Rattle.checking.specs.Checking.{follows, out_of_sequence, bit_out_of_sequence, netlist_stages}
use Rattle.checking.proofs.Groups.{bit-exactly, records-exactly, netlist-exactly}

bit-or-next : (e o z f : Bool) → (not e && (o || (z || not f))) ≡ false → (e ≡ true) ⊎ (f ≡ true)
bit-or-next true o z f h = inl refl
bit-or-next false true z f h = absurd (true≢false h)
bit-or-next false false true f h = absurd (true≢false h)
bit-or-next false false false true h = inr refl
bit-or-next false false false false h = absurd (true≢false h)

second : (p q r : Bool) → (p && q && r) ≡ true → q ≡ true
second true true r h = refl
second true false r h = absurd (false≢true h)
second false q r h = absurd (false≢true h)

in-sequence : (s : ℕ) (p r : Record) → out_of_sequence s p r ≡ false → (r.bit ≡ 0) ⊎ (r.bit ≡ p.bit + 1)
unfolding out_of_sequence follows
in-sequence s p r h =
    ⊎_elim (λ e. inl (eqb-true r.bit 0 e))
    (λ e. inr (sym (eqb-true (p.bit + 1) r.bit (second (eqb p.kind r.kind) (eqb (p.bit + 1) r.bit) (not (kind_of r.kind).common_a || eqb p.a r.a) e))))
    (bit-or-next (eqb r.bit 0) (kind_of r.kind).one_bit (eqb s 0) (follows p r) h)

module _ (rs : List Record) (passed : first_of (netlist_stages rs) ≡ Ok tt) where
  bit-of : (s : ℕ) → s < length rs → get_or (netlist_of rs).bits s 0 ≡ (record_in rs s).bit
  unfolding netlist_of
  bit-of s l = map_at (λ (r : Record). r.bit) rs s 0 (record_of 0 0 0 0 0 0) l

  stage-6 : (s : ℕ) → s < length rs → bit_out_of_sequence rs s ≡ false
  stage-6 s l = (bit-exactly rs s).0 ((records-exactly rs).0 ((netlist-exactly rs).0 passed).records s l).bits

  pub records-sequenced : Sequenced (netlist_of rs).bits
  unfolding bit_out_of_sequence netlist_of
  records-sequenced = record {
    next = λ s l.
        let m : s < length rs = omega (arith, length-map rs (λ (r : Record). r.bit)) in
        ⊎_elim (λ e. inl (bit-of s m ∙ e)) (λ e. inr (bit-of s m ∙ e ∙ ap (λ (b : ℕ). b + 1) (sym (bit-of (s - 1) (omega arith)))))
        (in-sequence s (record_in rs (s - 1)) (record_in rs s) (stage-6 s m));
  }
