-- A sound netlist: what checking asks of a ticket but its length, in terms of cells. Assumes nothing.
use mathlib.Core.Path.{◌≡◌, refl, sym, ap, ◌∙◌, subst}
use mathlib.Core.Bool.{Bool, true, false, cond}
use mathlib.Core.List.{List, [], ◌∷◌}
use Prim.Native.Nat.{ℕ, zero, suc, ◌+◌, ◌-◌, ◌≤◌, ◌<◌}
use native.Mathlib.Omega.{arith}
use native.Mathlib.Decide.{dec_lt}
use lib.Dec.{eqb}
use lib.ListN.{length, get_or, drop, get_or-eq_default}
use lib.Seq.{get_or-drop}
use borrow.Author.Tests.{eqb-true, eqb-false, eq-eqb, ne_eqb}
use Rattle.value.specs.declared.Net.{Net}
use Rattle.cell.specs.declared.Record.{Record}
use Rattle.cell.specs.declared.Cell.{Cell}
use Rattle.cell.specs.Records.{cell_record}
use Rattle.checking.specs.Checking.{out_of_sequence}
use Rattle.netlist.specs.Shape.{visit, is_output}
use Rattle.netlist.specs.Netlist.{Netlist, cell_in, run, start_of, output_of}
use Rattle.basics.specs.Lists.{has, All}
use Rattle.order_laws.specs.Members.{Drives, Wired}
use Rattle.basics.proofs.Members.{has-tabulate, all-tabulate, all_both, all-imp}
use Rattle.order_laws.proofs.Sorts.{record-bit, ByKind, same-sort}
use Rattle.basics.proofs.Indices.{get_d-inside}
use Rattle.levels_laws.specs.Algebra.{Ranked}
use Rattle.kept.proofs.Records.{Continues, continues}

abbrev pub record_in : Netlist → ℕ → Record
record_in d s = cell_record (get_or d.bits s 0) (cell_in d.cells s)

-- a net that a slot of the netlist drives, or a constant
abbrev pub Inside : List Cell → Net → Type 0
Inside cs = Drives (λ x. x < length cs)

-- a net that no output drives
abbrev pub NoOutput : List Cell → Net → Type 0
NoOutput cs = Drives (λ x. is_output (cell_in cs x) ≡ false)

pub record Sound (d : Netlist) (rank : ℕ → ℕ) : Type 0 where
  pub wide : length d.bits ≡ length d.cells
  pub few : length d.cells ≤ 65536  -- so that each slot has a net, and each bit number 16 bits
  pub ranked : Ranked d.cells rank  -- of what is read within a tick; the next two of all that is read
  pub inside : (s : ℕ) → s < length d.cells → All (Inside d.cells) (visit (cell_in d.cells s))
  pub driven : (s : ℕ) → s < length d.cells → All (NoOutput d.cells) (visit (cell_in d.cells s))
  pub sequence : (s : ℕ) → s < length d.cells → out_of_sequence s (record_in d (s - 1)) (record_in d s) ≡ false

-- a run of bits above 0
run_long : (b : ℕ) (l : List ℕ) → ((j : ℕ) → j < b → get_or l j 0 ≡ 0 → ⊥) → b ≤ run l
unfolding run
run_long zero l h = omega arith
run_long (suc b) [] h = absurd (h 0 (omega arith) refl)
run_long (suc b) (x ∷ l) h = go (eqb x 0) refl (run_long b l (λ j k. h (suc j) (omega arith)))
  where
    go : (c : Bool) → eqb x 0 ≡ c → b ≤ run l → suc b ≤ cond c 0 (suc (run l))
    go true e r = absurd (h 0 (omega arith) (eqb-true x 0 e))
    go false e r = omega arith

run-above : (j : ℕ) (l : List ℕ) → j < run l → get_or l j 0 ≡ 0 → ⊥
unfolding run
run-above j [] h e = absurd (omega arith)
run-above zero (x ∷ l) h e = absurd (omega (arith, rw (eq-eqb x 0 e) at h))
run-above (suc j) (x ∷ l) h e = go (eqb x 0) h (λ k. run-above j l k e)
  where
    go : (c : Bool) → suc j < cond c 0 (suc (run l)) → (j < run l → ⊥) → ⊥
    go true k r = omega arith
    go false k r = r (omega arith)

-- the bits of a cell
module _ (d : Netlist) (rank : ℕ → ℕ) (sound : Sound d rank) where
  abbrev bit_at : ℕ → ℕ
  bit_at s = get_or d.bits s 0

  pub record Inner (s : ℕ) : Type 0 where
    pub later : 1 ≤ s
    pub kind : (record_in d (s - 1)).kind ≡ (record_in d s).kind
    pub bit : bit_at (s - 1) + 1 ≡ bit_at s

  pub bit-continues : (s : ℕ) → s < length d.cells → (bit_at s ≡ 0 → ⊥) → Continues s (record_in d (s - 1)) (record_in d s)
  bit-continues s l h =
      continues s (record_in d (s - 1)) (record_in d s) (sound.sequence s l)
      (ap (λ (i : ℕ). eqb i 0) (record-bit (bit_at s) (cell_in d.cells s)) ∙ ne_eqb (bit_at s) 0 h)

  pub inner : (s : ℕ) → s < length d.cells → (bit_at s ≡ 0 → ⊥) → Inner s
  inner s l h =
      let c : Continues s (record_in d (s - 1)) (record_in d s) = bit-continues s l h in
      record {
        later = omega (arith, eqb-false s 0 c.later);
        kind = c.after.kind;
        bit = ap (λ (i : ℕ). i + 1) (sym (record-bit (bit_at (s - 1)) (cell_in d.cells (s - 1)))) ∙ c.after.bit ∙ record-bit (bit_at s) (cell_in d.cells s);
      }

  bit-inside : (s : ℕ) → (bit_at s ≡ 0 → ⊥) → s < length d.cells
  bit-inside s h = omega (arith, sound.wide, get_d-inside d.bits s 0 h)

  -- from a bit back to the start of its cell
  pub record Back (b s : ℕ) : Type 0 where
    pub enough : b ≤ s
    pub at : (j : ℕ) → j ≤ b → bit_at (s - b + j) ≡ j
    pub kind : (record_in d (s - b)).kind ≡ (record_in d s).kind

  back : (b s : ℕ) → s < length d.cells → bit_at s ≡ b → Back b s
  back zero s l e = record {
    enough = omega arith;
    at = λ j h. let q : j ≡ 0 = omega arith in subst (λ (i : ℕ). bit_at (s - 0 + i) ≡ i) (sym q) (ap bit_at (omega arith) ∙ e);
    kind = ap (λ (i : ℕ). (record_in d i).kind) (omega arith);
  }
  back (suc b) s l e =
      let i : Inner s = inner s l (λ z. omega arith) in
      let f : 1 ≤ s = i.later in
      let h : Back b (s - 1) = back b (s - 1) (omega arith) (let g : bit_at (s - 1) + 1 ≡ bit_at s = i.bit in omega arith) in
      let m : b ≤ s - 1 = h.enough in
      let q : s - 1 - b ≡ s - suc b = omega arith in
      record {
        enough = omega arith;
        at = λ j k. go j k q (omega arith) h.at (dec_lt j (suc b));
        kind = ap (λ (i : ℕ). (record_in d i).kind) (sym q) ∙ h.kind ∙ i.kind;
      }
    where
      go : (j : ℕ) → j ≤ suc b → s - 1 - b ≡ s - suc b → suc b ≤ s → ((j : ℕ) → j ≤ b → bit_at (s - 1 - b + j) ≡ j) → Dec (j < suc b) → bit_at (s - suc b + j) ≡ j
      go j k q n h (yes m) = ap (λ (i : ℕ). bit_at (i + j)) (sym q) ∙ h j (omega arith)
      go j k q n h (no m) = let r : j ≡ suc b = omega arith in ap bit_at (omega arith) ∙ e ∙ sym r

  module _ (s : ℕ) (l : s < length d.cells) where
    abbrev start : ℕ
    start = start_of d.bits s

    to_start : Back (bit_at s) s
    to_start = back (bit_at s) s l refl

    pub bit-small : bit_at s ≤ s
    bit-small = to_start.enough

    pub start-inside : start < length d.cells
    start-inside = omega arith

    pub start-zero : bit_at start ≡ 0
    start-zero = ap bit_at (omega arith) ∙ to_start.at 0 (omega arith)

    pub start-kind : (record_in d start).kind ≡ (record_in d s).kind
    start-kind = to_start.kind

    pub start_has : has s (output_of d.bits start) ≡ true
    unfolding output_of
    start_has =
        let e : bit_at s ≤ s = to_start.enough in
        let long : bit_at s ≤ run (drop (start + 1) d.bits) =
        run_long (bit_at s) (drop (start + 1) d.bits)
        (λ j k z. let a : bit_at (start + suc j) ≡ suc j = to_start.at (suc j) k in
        let g : bit_at (start + suc j) ≡ 0 = ap bit_at (omega arith) ∙ sym (get_or-drop (start + 1) d.bits j 0) ∙ z in omega arith) in
        subst (λ (i : ℕ). has i (output_of d.bits start) ≡ true) (let q : start + bit_at s ≡ s = omega arith in q)
        (has-tabulate (λ i. start + i) (suc (run (drop (start + 1) d.bits))) (bit_at s) (omega arith))

  -- the bits of the cell from a slot on
  pub record Bit (s i : ℕ) : Type 0 where
    pub inside : i < length d.cells
    pub kind : (record_in d i).kind ≡ (record_in d s).kind

  onward : (s : ℕ) → s < length d.cells → (j : ℕ) → j ≤ run (drop (s + 1) d.bits) → Bit s (s + j)
  onward s l zero h = subst (Bit s) (let q : s ≡ s + 0 = omega arith in q) (record { inside = l; kind = refl })
  onward s l (suc j) h =
      let above : bit_at (s + suc j) ≡ 0 → ⊥ =
      λ z. run-above j (drop (s + 1) d.bits) (omega arith) (get_or-drop (s + 1) d.bits j 0 ∙ ap bit_at (omega arith) ∙ z) in
      let inside : s + suc j < length d.cells = bit-inside (s + suc j) above in
      record {
        inside = inside;
        kind = sym (inner (s + suc j) inside above).kind ∙ ap (λ (i : ℕ). (record_in d i).kind) (omega arith) ∙ (onward s l j (omega arith)).kind;
      }

  pub output-bits : (s : ℕ) → s < length d.cells → All (Bit s) (output_of d.bits s)
  unfolding output_of
  output-bits s l = all-tabulate (Bit s) (λ i. s + i) (suc (run (drop (s + 1) d.bits))) (λ j h. onward s l j (omega arith))

  -- what the kind decides of a cell is the same of each of its bits
  pub same_by : {sort : Cell → Bool} → ByKind sort → (s i : ℕ) → (record_in d i).kind ≡ (record_in d s).kind → sort (cell_in d.cells i) ≡ sort (cell_in d.cells s)
  same_by by s i e = same-sort by (bit_at i) (bit_at s) (cell_in d.cells i) (cell_in d.cells s) e

  -- each operand is driven by a slot that is no output
  pub sound-wired : (s : ℕ) → s < length d.cells → All (Wired d.cells) (visit (cell_in d.cells s))
  sound-wired s l =
      let ns : List Net = visit (cell_in d.cells s) in
      all-imp (λ n. Inside d.cells n × NoOutput d.cells n) (Wired d.cells) (λ n o x e. (o.0 x e, o.1 x e)) ns
      (all_both (Inside d.cells) (NoOutput d.cells) ns (sound.inside s l) (sound.driven s l))

-- the bits of the cell that starts at a slot are numbered from there, and each has its start there
module _ (d : Netlist) (rank : ℕ → ℕ) (sound : Sound d rank) (s : ℕ) (first : get_or d.bits s 0 ≡ 0) where
  bit-number : (j : ℕ) → j ≤ run (drop (s + 1) d.bits) → get_or d.bits (s + j) 0 ≡ j
  bit-number zero h = ap (λ (i : ℕ). get_or d.bits i 0) (omega arith) ∙ first
  bit-number (suc j) h =
      let before : get_or d.bits (s + j) 0 ≡ j = bit-number j (omega arith) in
      let above : get_or d.bits (s + suc j) 0 ≡ 0 → ⊥ =
      λ z. run-above j (drop (s + 1) d.bits) (omega arith) (get_or-drop (s + 1) d.bits j 0 ∙ ap (λ (i : ℕ). get_or d.bits i 0) (omega arith) ∙ z) in
      go before above (dec_lt (s + suc j) (length d.cells))
    where
      go : get_or d.bits (s + j) 0 ≡ j → (get_or d.bits (s + suc j) 0 ≡ 0 → ⊥) → Dec (s + suc j < length d.cells) → get_or d.bits (s + suc j) 0 ≡ suc j
      go before above (no l) = absurd (above (get_or-eq_default d.bits 0 (let w : length d.bits ≡ length d.cells = sound.wide in omega arith)))
      go before above (yes l) =
          sym (inner d rank sound (s + suc j) l above).bit
          ∙ ap (λ (i : ℕ). get_or d.bits i 0 + 1) (let q : s + suc j - 1 ≡ s + j = omega arith in q) ∙ omega arith

  pub bits-start : All (λ i. start_of d.bits i ≡ s) (output_of d.bits s)
  unfolding output_of
  bits-start =
      all-tabulate (λ i. start_of d.bits i ≡ s) (λ i. s + i) (suc (run (drop (s + 1) d.bits)))
      (λ j h. let e : get_or d.bits (s + j) 0 ≡ j = bit-number j (omega arith) in omega arith)
