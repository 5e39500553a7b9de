-- ONE REWRITING IS ENOUGH (paper, demand 3), over the answers and replies of the calls. Assumes nothing: these are definitions.
use Rattle.std.specs.Prelude.{◌≡◌, Bool, false, List, [], ◌∷◌, ℕ, eqb, length, take, Ok}
use Rattle.kinds.specs.declared.Sort.TheVariants as sort
use Rattle.kinds.specs.Kinds.{number_of}
use Rattle.cell.specs.Records.{records_of}
use Rattle.refusals.specs.Refusals.{first_of, Verdict}
use Rattle.checking.specs.Checking.{work_stage, size_stage}
use Rattle.basics.specs.Lists.{any_of}
use Rattle.design.specs.Queue.{find_new_cell}
use Rattle.calls.specs.Answers.{answer_by, merged_of}
use Rattle.calls.specs.Calls.{decoded, room, merge_answer, merge_reply, rewrite_answer, rewrite_reply}
use Rattle.normal.specs.Paired.{Paired}
use Rattle.repeat.specs.Pairing.{RecordsPaired}

-- no record of the ticket is an and-inverter
abbrev pub NoAndInverter : List ℕ → Type 0
NoAndInverter t = any_of (λ r. eqb r.kind (number_of sort.Aig)) (records_of t) ≡ false

-- an accepted call that rewrites the ticket t, with a work slice of any length and any reply slice; its result u is the reply at return up
-- to the byte count
pub record Rewriting (t u : List ℕ) : Type 0 where
  pub words : ℕ
  pub reply : List ℕ
  pub count : ℕ
  pub accepted : rewrite_answer find_new_cell words t reply ≡ Ok count
  pub result : take count (rewrite_reply find_new_cell words t reply) ≡ u

-- an accepted call that merges it, likewise
pub record Merging (t u : List ℕ) : Type 0 where
  pub words : ℕ
  pub reply : List ℕ
  pub count : ℕ
  pub changed : Bool
  pub accepted : merge_answer words t reply ≡ Ok (merged_of count changed)
  pub result : take count (merge_reply words t reply) ≡ u

-- 1, 3 and 12 alone, 12 where the reply is shorter than the ticket t itself
abbrev pub later_verdict : ℕ → List ℕ → List ℕ → Verdict
later_verdict words t reply = first_of (work_stage words ∷ size_stage t ∷ room reply t ∷ [])

-- merging changes no byte of the ticket t: the byte count is its length, and the reply up to there equals it. It is refused by 1, 3 and 12
-- alone, and otherwise answers that nothing was changed
pub record MergingKeeps (t : List ℕ) : Type 0 where
  pub long : (u : List ℕ) (call : Merging t u) → call.count ≡ length t
  pub same : (u : List ℕ) → Merging t u → u ≡ t
  pub answers : (words : ℕ) (reply : List ℕ) → merge_answer words t reply ≡ answer_by (later_verdict words t reply) (merged_of (length t) false)

-- for every first run, on t with result u, and every second run, on u with result v: the records of v are those of u up to renumbering and
-- the exchange of operands, as records and as the cells read from them; merging changes no byte of u, and none of v. A second run is refused
-- by 1, 3 and 12 alone, and otherwise its result is as long as u
pub record OneIsEnough (t : List ℕ) : Type 0 where
  pub again : (u v : List ℕ) → Rewriting t u → Rewriting u v → RecordsPaired (records_of v) (records_of u)
  pub again_read : (u v : List ℕ) → Rewriting t u → Rewriting u v → Paired (decoded v) (decoded u)
  pub merging_first : (u : List ℕ) → Rewriting t u → MergingKeeps u
  pub merging_second : (u v : List ℕ) → Rewriting t u → Rewriting u v → MergingKeeps v
  pub answers_again : (u : List ℕ) → Rewriting t u → (words : ℕ) (reply : List ℕ)
      → rewrite_answer find_new_cell words u reply ≡ answer_by (later_verdict words u reply) (length u)
