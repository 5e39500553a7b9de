-- The answers of the public calls, and the paper's number and values for each case ("When a ticket is turned away").
-- Assumes nothing: these are definitions.
use Rattle.std.specs.Prelude.{Bool, cond, List, [], ◌∷◌, ℕ, Ok, Err, Result}
use Rattle.refusals.specs.declared.Refusal.{Refusal}
use Rattle.refusals.specs.Refusals.{figures, Verdict}
use Rattle.calls.specs.declared.Counts.{Counts}
use Rattle.calls.specs.declared.Merged.{Merged}

-- what checking and merging tell of an accepted ticket; the other calls tell the byte count alone
abbrev pub counts_of : ℕ → ℕ → Counts
counts_of records gates = record { records = records; gates = gates }

abbrev pub merged_of : ℕ → Bool → Merged
merged_of bytes changed = record { bytes = bytes; changed = changed }

-- the answer of a call: what its verdict and what is told of an accepted ticket are together
abbrev pub answer_by : {A : Type 0} → Verdict → A → Result A Refusal
answer_by (Ok u) told = Ok told
answer_by (Err r) told = Err r

-- number, place, count, the gate count of checking or the changed flag of merging, and the field of refusal 7 (request 2026-06)
pub record Told : Type 0 where
  pub number : ℕ
  pub place : ℕ
  pub count : ℕ
  pub extra : ℕ
  pub field : ℕ

-- an accepted ticket has number, place and field 0; a refusal has all but number and place 0, and 7 has its field besides (request 2026-06)
abbrev pub accepted : ℕ → ℕ → Told
accepted count extra = record { number = 0; place = 0; count = count; extra = extra; field = 0 }

abbrev pub refused : Refusal → Told
refused r = record { number = (figures r).number; place = (figures r).place; count = 0; extra = 0; field = (figures r).field }

-- what is told of an answer: what `told` says of an accepted ticket, or the refusal
abbrev pub told_as : {A : Type 0} → (A → Told) → Result A Refusal → Told
told_as told (Ok a) = told a
told_as told (Err r) = refused r

abbrev pub check_figures : Result Counts Refusal → Told
check_figures = told_as (λ c. accepted c.records c.gates)

abbrev pub written_figures : Result ℕ Refusal → Told
written_figures = told_as (λ bytes. accepted bytes 0)

abbrev pub merged_figures : Result Merged Refusal → Told
merged_figures = told_as (λ m. accepted m.bytes (cond m.changed 1 0))

-- the eight answer words of include/cabbagetier.h; the number is what the function returns
abbrev pub words_of : Told → List ℕ
words_of told = told.place ∷ told.count ∷ told.extra ∷ told.field ∷ 0 ∷ 0 ∷ 0 ∷ 0 ∷ []
