-- The cells of the records in the work slice, and their sorts by kind number. Assumes nothing.
use Rattle.std.specs.Prelude.{Option, Some, None}
use mathlib.Core.Path.{◌≡◌, refl, sym, ap, ◌∙◌}
use mathlib.Core.Bool.{true, false}
use mathlib.Core.Logic.{◌⊎◌, ⊎_elim}
use mathlib.Core.List.{List, map}
use Prim.Native.Nat.{ℕ, ◌<◌, ◌≤◌}
use native.Mathlib.Omega.{arith}
use lib.Dec.{eqb}
use lib.ListN.{length, length-map, get_or-map, get_or-eq_default}
use Rattle.value.specs.declared.Net.{Net}
use Rattle.kinds.specs.declared.Sort.TheVariants as sort
use Rattle.kinds.specs.declared.Sort.{Sort}
use Rattle.kinds.specs.Kinds.{sort_of, number_of, is_source_sort}
use Rattle.kinds.proofs.Laws.{rows_agree, by_row}
use Rattle.kinds.proofs.Tests.{past_one}
use Rattle.cell.specs.declared.Record.{Record}
use Rattle.cell.specs.declared.Cell.{Cell}
use Rattle.cell.specs.declared.Cell.TheVariants.{Input, Output, Buf, Not, And, Or, Xor, Mux, Aig}
use Rattle.cell.specs.Records.{record_of, cell_by, cell_of}
use Rattle.basics.proofs.Tables.{tabulate-length, tabulate-at}
use Rattle.netlist.specs.Shape.{is_input, is_source, is_output, has_effects}
use Rattle.netlist.specs.Netlist.{cell_in}
use Rattle.netlist.specs.inner.Areas.{word_record, records_in}

module _ (n : ℕ) (ws : List ℕ) where
  pub cells-length : length (map cell_of (records_in n ws)) ≡ n
  unfolding records_in
  cells-length = length-map (records_in n ws) cell_of ∙ tabulate-length (word_record ws) n

  pub cell_at : (s : ℕ) → s < n → cell_in (map cell_of (records_in n ws)) s ≡ cell_of (word_record ws s)
  unfolding records_in cell_of sort_of
  cell_at s l =
      get_or-map cell_of (records_in n ws) s (record_of 1 0 0 0 0 0) ∙ ap cell_of (tabulate-at (word_record ws) n (record_of 1 0 0 0 0 0) s l)

  pub cell-past : (s : ℕ) → n ≤ s → cell_in (map cell_of (records_in n ws)) s ≡ Input 0
  cell-past s l = get_or-eq_default (map cell_of (records_in n ws)) (Input 0) (omega (arith, cells-length))

-- one kind alone is an input, one an output
pub input-kind : (r : Record) → is_input (cell_of r) ≡ eqb r.kind (number_of sort.Input)
unfolding cell_of rows_agree
input-kind r =
    sym (by_row (λ k. eqb k (number_of sort.Input)) (λ s. is_input (cell_by s r)) tt (λ k l. past_one (number_of sort.Input) k (omega arith) l) r.kind)

pub output-kind : (r : Record) → is_output (cell_of r) ≡ eqb r.kind (number_of sort.Output)
unfolding cell_of rows_agree
output-kind r =
    sym (by_row (λ k. eqb k (number_of sort.Output)) (λ s. is_output (cell_by s r)) tt (λ k l. past_one (number_of sort.Output) k (omega arith) l) r.kind)

-- both have effects, and nothing else does
pub effects-of : (c : Cell) → ((l : ℕ) × (c ≡ Input l)) ⊎ ((a : Net) × (l : ℕ) × (c ≡ Output a l)) → true ≡ has_effects c
unfolding has_effects
effects-of c = ⊎_elim (λ p. sym (ap has_effects p.1)) (λ p. sym (ap has_effects p.2))

pub no-effects : (c : Cell) → ((l : ℕ) → c ≡ Input l → ⊥) → ((a : Net) (l : ℕ) → c ≡ Output a l → ⊥) → false ≡ has_effects c
unfolding has_effects
no-effects (Input l) i o = absurd (i l refl)
no-effects (Output a l) i o = absurd (o a l refl)
no-effects (Buf a) i o = refl
no-effects (Not a) i o = refl
no-effects (And a b) i o = refl
no-effects (Or a b) i o = refl
no-effects (Xor a b) i o = refl
no-effects (Mux a b c) i o = refl
no-effects (Aig p q) i o = refl

-- sources
source-sort : (s : Option Sort) (r : Record) → is_source (cell_by s r) ≡ is_source_sort s
source-sort None r = refl
source-sort (Some sort.Input) r = refl
source-sort (Some sort.Output) r = refl
source-sort (Some sort.Buf) r = refl
source-sort (Some sort.Not) r = refl
source-sort (Some sort.And) r = refl
source-sort (Some sort.Or) r = refl
source-sort (Some sort.Xor) r = refl
source-sort (Some sort.Mux) r = refl
source-sort (Some sort.Aig) r = refl

pub source-kind : (r : Record) → is_source (cell_of r) ≡ is_source_sort (sort_of r.kind)
unfolding cell_of
source-kind r = source-sort (sort_of r.kind) r

-- an output and a source by the record of a slot
pub output-slot : (ws : List ℕ) (s : ℕ) (r : Record) → r ≡ word_record ws s → eqb r.kind 2 ≡ is_output (cell_of (word_record ws s))
output-slot ws s r e = ap (λ (y : Record). eqb y.kind 2) e ∙ sym (output-kind (word_record ws s))

pub source-slot : (ws : List ℕ) (s : ℕ) (r : Record) → r ≡ word_record ws s → is_source_sort (sort_of r.kind) ≡ is_source (cell_of (word_record ws s))
source-slot ws s r e = ap (λ (y : Record). is_source_sort (sort_of y.kind)) e ∙ sym (source-kind (word_record ws s))
