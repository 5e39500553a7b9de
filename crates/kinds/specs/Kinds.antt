-- The kind table (paper, "The ticket", "When a ticket is turned away"): the one place that knows a kind by its number, and what it says of a
-- record. Assumes nothing: these are definitions.
use Rattle.std.specs.Prelude.{Bool, true, false, cond, List, [], ◌∷◌, ℕ, eqb, get_or, ◌≡◌, ◌≤◌, Option, Some, None, is_some, Result, MatchResult}
use Rattle.kinds.specs.declared.Use.{Use}
use Rattle.kinds.specs.declared.Use.TheVariants.{Unused, Label, Operand}
use Rattle.kinds.specs.declared.Sort.{Sort}
use Rattle.kinds.specs.declared.Sort.TheVariants.{Input, Output, Buf, Not, And, Or, Xor, Mux, Aig}
use Rattle.kinds.specs.declared.Field.{Field}
use Rattle.kinds.specs.declared.Field.TheVariants.{A, B, C}
use Rattle.kinds.specs.declared.NoField.{NoField}
use Rattle.kinds.specs.declared.NoSort.{NoSort}
use Rattle.kinds.specs.declared.Kind.{Kind}

-- the sorts of cells by kind number, from 0 on, and back; no other number is a kind
abbrev pub sorts : List (Option Sort)
sorts = None ∷ Some Input ∷ Some Output ∷ Some Buf ∷ Some Not ∷ Some And ∷ Some Or ∷ Some Xor ∷ Some Mux ∷ Some Aig ∷ []

unfoldable pub sort_of : ℕ → Option Sort
sort_of k = get_or sorts k None

-- a number decodes to its sort, or is told as what is no kind
abbrev pub DecodesSort : ℕ → Result Sort NoSort → Type 0
DecodesSort n r = MatchResult r (λ s. sort_of n ≡ Some s) (λ e. (e.0 ≡ n) × (sort_of n ≡ None))

abbrev pub is_known : ℕ → Bool
is_known k = is_some (sort_of k)

abbrev pub number_of : Sort → ℕ
number_of Input = 1
number_of Output = 2
number_of Buf = 3
number_of Not = 4
number_of And = 5
number_of Or = 6
number_of Xor = 7
number_of Mux = 8
number_of Aig = 9

-- a row of the table: what fields a, b and c hold, the largest flags byte (the flags in use are the lowest bits, so another is set
-- exactly if the byte is larger), whether a cell has one bit only, whether field a is the same in all bits of a cell, and what a record
-- adds to the gate count (request 2026-03: and, or, xor, mux and and-inverter 1, all others 0)
abbrev pub row_of : Use → Use → Use → ℕ → Bool → Bool → ℕ → Kind
row_of a b c flags one-bit common-a gates =
    record { a = a; b = b; c = c; flags = flags; one_bit = one-bit; common_a = common-a; gates = gates }

abbrev pub kind_table : Sort → Kind
kind_table Input = row_of Label Unused Unused 0 false true 0
kind_table Output = row_of Operand Label Unused 0 true false 0
kind_table Buf = row_of Operand Unused Unused 0 false false 0
kind_table Not = row_of Operand Unused Unused 0 false false 0
kind_table And = row_of Operand Operand Unused 0 false false 1
kind_table Or = row_of Operand Operand Unused 0 false false 1
kind_table Xor = row_of Operand Operand Unused 0 false false 1
kind_table Mux = row_of Operand Operand Operand 0 false true 1
kind_table Aig = row_of Operand Operand Unused 3 true false 1

-- what is no kind uses nothing
abbrev pub kind_by : Option Sort → Kind
kind_by None = row_of Unused Unused Unused 0 false false 0
kind_by (Some s) = kind_table s

unfoldable pub kind_of : ℕ → Kind
kind_of k = kind_by (sort_of k)

-- the fields by number, and the use of one
abbrev pub field_number : Field → ℕ
field_number A = 1
field_number B = 2
field_number C = 3

-- a number decodes to the field that has it; of the numbers up to 3 only 0 names none
abbrev pub DecodesField : ℕ → Result Field NoField → Type 0
DecodesField n r = MatchResult r (λ f. field_number f ≡ n) (λ e. (e.0 ≡ n) × (n ≤ 3 → n ≡ 0))

unfoldable pub use_of : Kind → ℕ → Use
use_of k f = cond (eqb f 1) k.a (cond (eqb f 2) k.b (cond (eqb f 3) k.c Unused))

abbrev pub is_operand_use : Use → Bool
is_operand_use Unused = false
is_operand_use Label = false
is_operand_use Operand = true

abbrev pub is_used : Use → Bool
is_used Unused = false
is_used Label = true
is_used Operand = true

-- operands a and b may be exchanged (merge.rs, `commutative_bitwise_binary`, and the arm of `Cell::Aig`, whose flags go with them)
abbrev pub commutes : Option Sort → Bool
commutes None = false
commutes (Some Input) = false
commutes (Some Output) = false
commutes (Some Buf) = false
commutes (Some Not) = false
commutes (Some And) = true
commutes (Some Or) = true
commutes (Some Xor) = true
commutes (Some Mux) = false
commutes (Some Aig) = true

-- a source: its level is given, and nothing that it reads decides it (design.rs, `is_comb_edge`)
abbrev pub is_source_sort : Option Sort → Bool
is_source_sort None = false
is_source_sort (Some Input) = true
is_source_sort (Some Output) = false
is_source_sort (Some Buf) = false
is_source_sort (Some Not) = false
is_source_sort (Some And) = false
is_source_sort (Some Or) = false
is_source_sort (Some Xor) = false
is_source_sort (Some Mux) = false
is_source_sort (Some Aig) = false
