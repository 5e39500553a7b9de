-- Which field refusal 7 names, and that every call tells it (request 2026-06). Assumes nothing: these are definitions.
use Rattle.std.specs.Prelude.{◌≡◌, true, false, ◌↔◌, List, ℕ, ◌<◌, length, Ok}
use Rattle.cell.specs.Records.{records_of, record_in}
use Rattle.refusals.specs.Refusals.{first_of}
use Rattle.checking.specs.Checking.{unknown_kind, reserved_field, bit_out_of_sequence, undriven_field, record_stages, size_group}
use Rattle.rewrite.specs.Rewriter.{Lookup}
use Rattle.calls.specs.Answers.{Told, check_figures, written_figures, merged_figures}
use Rattle.calls.specs.Calls.{check_answer, level_answer, compact_answer, merge_answer, rewrite_answer}

-- with so many work words a ticket passes 1 to 3, its records below s pass 4 to 7, that of s passes 4, 5 and 6, and f is the first of its
-- fields that fails 7, 1 for a, 2 for b, 3 for c; no other fails (`failing-field`, `checking/proofs/Groups.antt`)
pub record UndrivenAt (words : ℕ) (t : List ℕ) (s f : ℕ) : Type 0 where
  pub sizes : first_of (size_group words t) ≡ Ok tt
  pub there : s < length (records_of t)
  pub lower : (i : ℕ) → i < s → first_of (record_stages (records_of t) i) ≡ Ok tt
  pub kind : unknown_kind (record_in (records_of t) s) ≡ false  -- 4
  pub reserved : reserved_field (record_in (records_of t) s) ≡ false  -- 5
  pub bit : bit_out_of_sequence (records_of t) s ≡ false  -- 6
  pub fails : undriven_field (records_of t) (record_in (records_of t) s) f ≡ true
  pub least : (g : ℕ) → g < f → undriven_field (records_of t) (record_in (records_of t) s) g ≡ false

-- a call tells 7 with place s and field f exactly where `UndrivenAt` holds of s and f; for every other answer, refused or accepted, the field is 0
pub record TellsField (words : ℕ) (t : List ℕ) (told : Told) : Type 0 where
  pub exactly : (s f : ℕ) → ((told.number ≡ 7) × (told.place ≡ s) × (told.field ≡ f)) ↔ UndrivenAt words t s f
  pub elsewhere : (told.number ≡ 7 → ⊥) → told.field ≡ 0

-- every call does, whatever else it is lent, rewriting with any look-up
pub record CallsTell (words : ℕ) (t : List ℕ) : Type 0 where
  pub check : TellsField words t (check_figures (check_answer words t))
  pub levels : (stimulus reply : List ℕ) → TellsField words t (written_figures (level_answer words t stimulus reply))
  pub compact : (reply : List ℕ) → TellsField words t (written_figures (compact_answer words t reply))
  pub merge : (reply : List ℕ) → TellsField words t (merged_figures (merge_answer words t reply))
  pub rewrite : (look : Lookup) (reply : List ℕ) → TellsField words t (written_figures (rewrite_answer look words t reply))
