-- What include/cabbagetier.h says of a reply that is long enough: the call does not return 12, whatever the ticket and the work slice.
-- Assumes nothing: these are definitions.
use Rattle.std.specs.Prelude.{◌≡◌, List, ℕ, ◌≤◌, length}
use Rattle.design.specs.Queue.{find_new_cell}
use Rattle.calls.specs.Answers.{Told, written_figures, merged_figures}
use Rattle.calls.specs.Calls.{level_answer, compact_answer, merge_answer, rewrite_answer}

-- what a call tells is not refusal 12
abbrev pub NotShort : Told → Type 0
NotShort told = told.number ≡ 12 → ⊥

-- compact and merge: as long as the ticket, or 8,192 bytes; rewrite: 16,384 bytes; levels: 512 bytes
pub record ReplyHolds (words : ℕ) (t reply : List ℕ) : Type 0 where
  pub compact : length t ≤ length reply → NotShort (written_figures (compact_answer words t reply))
  pub compact_any : 8192 ≤ length reply → NotShort (written_figures (compact_answer words t reply))
  pub merge : length t ≤ length reply → NotShort (merged_figures (merge_answer words t reply))
  pub merge_any : 8192 ≤ length reply → NotShort (merged_figures (merge_answer words t reply))
  pub rewrite : 16384 ≤ length reply → NotShort (written_figures (rewrite_answer find_new_cell words t reply))
  pub levels : (stimulus : List ℕ) → 512 ≤ length reply → NotShort (written_figures (level_answer words t stimulus reply))
