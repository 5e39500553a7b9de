-- The stimulus (10, 11): tested byte by byte. Assumes nothing.
use mathlib.Core.Path.{◌≡◌, sym, ap, ◌∙◌}
use mathlib.Core.Bool.{not}
use mathlib.Core.List.{List, [], ◌∷◌}
use Prim.Native.Nat.{ℕ, ◌<◌, ◌≤◌}
use lib.Dec.{eqb, ltb}
use lib.ListN.{length, get_or}
use borrow.Author.Tests.{lt-ltb, le-ltb, eq-eqb, ne_eqb}
use Rattle.std.specs.Prelude.{Ok, Err}
use Rattle.netlist.specs.inner.Areas.{records_in}
use Rattle.levels.specs.Evaluate.{input_slots}
use Rattle.levels.specs.Fold.{cells_in, of_kind}
use Rattle.levels.proofs.Slots.{input-slots}
use Rattle.refusals.specs.declared.Refusal.TheVariants.{LevelCount, LevelValue}
use Rattle.refusals.specs.Refusals.{Stage, first_of, slot_by_slot}
use Rattle.refusals.proofs.Stages.{first-refuses, first_passes, no-stage, slots-exactly, slots-refused}
use Rattle.calls.specs.Calls.{stimulus_stages}

-- the stage of one byte
abbrev byte_stages : List ℕ → ℕ → List Stage
byte_stages bs i = (ltb 2 (get_or bs i 0), LevelValue i) ∷ []

module _ (n : ℕ) (ws bs : List ℕ) (count : ℕ) (e : count ≡ length (of_kind 1 (records_in n ws))) where
  inputs_are : length (input_slots (cells_in n ws)) ≡ count
  inputs_are = ap length (input-slots n ws) ∙ sym e

  pub wrong-count : (length bs ≡ count → ⊥) → Err LevelCount ≡ first_of (stimulus_stages (cells_in n ws) bs)
  unfolding stimulus_stages
  wrong-count h = sym (first-refuses (not (eqb (length bs) (length (input_slots (cells_in n ws)))), LevelCount) _ (rw inputs_are (ap not (ne_eqb (length bs) count h))))

  past-count : length bs ≡ count → first_of (stimulus_stages (cells_in n ws) bs) ≡ first_of (slot_by_slot (byte_stages bs) (length bs))
  unfolding stimulus_stages
  past-count h = first_passes (not (eqb (length bs) (length (input_slots (cells_in n ws)))), LevelCount) _ (rw inputs_are (ap not (eq-eqb (length bs) count h)))

  module _ (same : length bs ≡ count) where
    level-passes : (i : ℕ) → get_or bs i 0 ≤ 2 → first_of (byte_stages bs i) ≡ Ok tt
    level-passes i h = first_passes (ltb 2 (get_or bs i 0), LevelValue i) [] (le-ltb 2 (get_or bs i 0) h) ∙ no-stage

    pub no-level : (i : ℕ) → i < length bs → 2 < get_or bs i 0 → ((k : ℕ) → k < i → get_or bs k 0 ≤ 2) → Err (LevelValue i) ≡ first_of (stimulus_stages (cells_in n ws) bs)
    no-level i l h below =
        slots-refused (byte_stages bs) (length bs) i (LevelValue i) l (sym ((slots-exactly (byte_stages bs) i).1 (λ k m. level-passes k (below k m))))
        (sym (first-refuses (ltb 2 (get_or bs i 0), LevelValue i) [] (lt-ltb 2 (get_or bs i 0) h)))
        ∙ sym (past-count same)

    pub tested : ((k : ℕ) → k < length bs → get_or bs k 0 ≤ 2) → Ok tt ≡ first_of (stimulus_stages (cells_in n ws) bs)
    tested all = sym (past-count same ∙ (slots-exactly (byte_stages bs) (length bs)).1 (λ k m. level-passes k (all k m)))
