-- What rewriting keeps (paper, demand 2): output levels that were 0 or 1. Assumes nothing: these are definitions.
use Rattle.std.specs.Prelude.{◌≡◌, List, ℕ, ◌/◌, ◌<◌, ◌≤◌, length, get_or, take, drop, Ok}
use Rattle.calls.specs.Calls.{level_bytes, level_answer, level_reply}

-- the bytes cs in place of bs: as many, and where one of bs is 0 or 1 it stands in its place in cs. One that is 2, undefined, may become any
pub record Definite (bs cs : List ℕ) : Type 0 where
  pub long : length cs ≡ length bs
  pub same : (k : ℕ) → get_or bs k 2 < 2 → get_or cs k 2 ≡ get_or bs k 2

-- the ticket u in place of t: it has as many outputs, and for every stimulus each output that had level 0 or 1 has it still. If u has at most 512
-- records, the call `levels` takes the same stimuli and reply slices for u as for t, with the same answer; where that counts n bytes, it writes
-- such levels there, and the reply's later bytes are the same
pub record KeptDefinite (words : ℕ) (t u : List ℕ) : Type 0 where
  pub levels : (stimulus : List ℕ) → Definite (level_bytes t stimulus) (level_bytes u stimulus)
  pub answers : length u / 16 ≤ 512 → (stimulus reply : List ℕ) → level_answer words u stimulus reply ≡ level_answer words t stimulus reply
  pub replies : length u / 16 ≤ 512 → (stimulus reply : List ℕ) (n : ℕ) → level_answer words t stimulus reply ≡ Ok n
      → Definite (take n (level_reply words t stimulus reply)) (take n (level_reply words u stimulus reply))
  pub later : length u / 16 ≤ 512 → (stimulus reply : List ℕ) (n : ℕ) → level_answer words t stimulus reply ≡ Ok n
      → drop n (level_reply words u stimulus reply) ≡ drop n (level_reply words t stimulus reply)
