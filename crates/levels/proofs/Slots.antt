-- Slots of a kind, and how many there are. Assumes nothing.
use mathlib.Core.Path.{◌≡◌, refl, sym, ap, ◌∙◌}
use mathlib.Core.Bool.{Bool, cond}
use mathlib.Core.List.{List, [], ◌∷◌}
use Prim.Native.Nat.{ℕ, ◌+◌, ◌<◌}
use native.Mathlib.Omega.{arith}
use lib.Dec.{eqb}
use lib.ListN.{length}
use lib.Seq.{ext_get_or}
use Rattle.std.specs.List.{filter, range_with_len}
use Rattle.std.proofs.lemmas.List.FromFn.{length-range_with_len, get_or-range_with_len}
use Rattle.cell.specs.declared.Record.{Record}
use Rattle.cell.specs.Records.{record_of}
use Rattle.basics.specs.Lists.{slots, those}
use Rattle.basics.proofs.Tables.{tabulate-length, tabulate-at}
use Rattle.basics.proofs.Those.{slots_same}
use Rattle.netlist.specs.Shape.{is_input, is_output}
use Rattle.netlist.specs.inner.Areas.{word_record, records_in}
use Rattle.netlist.proofs.Cells.{cells-length, cell_at, input-kind, output-kind}
use Rattle.levels.specs.Evaluate.{input_slots, output_slots}
use Rattle.levels.specs.Fold.{cells_in, of_kind}

-- the slots of a kind, inputs and outputs among the records in the work slice
module _ (n : ℕ) (ws : List ℕ) where
  pub kind-slots : (kind : ℕ) → of_kind kind (records_in n ws) ≡ those (λ s. eqb (word_record ws s).kind kind) (slots n)
  unfolding of_kind records_in
  kind-slots kind =
      rw (tabulate-length (word_record ws) n)
      (slots_same _ _ n (λ s l. ap (λ (r : Record). eqb r.kind kind) (tabulate-at (word_record ws) n (record_of 0 0 0 0 0 0) s l)))

  pub input-slots : input_slots (cells_in n ws) ≡ of_kind 1 (records_in n ws)
  unfolding input_slots
  input-slots =
      rw (cells-length n ws) (slots_same _ _ n (λ s l. ap is_input (cell_at n ws s l) ∙ input-kind (word_record ws s))) ∙ sym (kind-slots 1)

  pub output-slots : output_slots (cells_in n ws) ≡ of_kind 2 (records_in n ws)
  unfolding output_slots
  output-slots =
      rw (cells-length n ws) (slots_same _ _ n (λ s l. ap is_output (cell_at n ws s l) ∙ output-kind (word_record ws s))) ∙ sym (kind-slots 2)

-- how many there are, by a filter over the slots
filter-those : (p : ℕ → Bool) (xs : List ℕ) → filter p xs ≡ those p xs
unfolding those
filter-those p [] = refl
filter-those p (x ∷ xs) = ap (λ (rest : List ℕ). cond (p x) (x ∷ rest) rest) (filter-those p xs)

range-slots : (n : ℕ) → range_with_len 0 n ≡ slots n
range-slots n =
    ext_get_or 0 (range_with_len 0 n) (slots n) (length-range_with_len 0 n ∙ sym (tabulate-length (λ s. s) n))
    (λ i h. let l : i < n = omega (arith, length-range_with_len 0 n) in get_or-range_with_len 0 n i 0 l ∙ (let e : 0 + i ≡ i = omega arith in e) ∙ sym (tabulate-at (λ s. s) n 0 i l))

pub counted : (n kind : ℕ) (ws : List ℕ) → length (filter (λ s. eqb (word_record ws s).kind kind) (range_with_len 0 n)) ≡ length (of_kind kind (records_in n ws))
counted n kind ws =
    ap length (filter-those (λ s. eqb (word_record ws s).kind kind) (range_with_len 0 n)
    ∙ ap (those (λ s. eqb (word_record ws s).kind kind)) (range-slots n)
    ∙ sym (kind-slots n ws kind))
