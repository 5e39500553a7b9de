-- What a call that gives a ticket for a ticket keeps (paper, demand 2). Assumes nothing: these are definitions.
use Rattle.std.specs.Prelude.{◌≡◌, List, ℕ, ◌<◌, ◌≤◌, length, get_or, Ok}
use Rattle.calls.specs.Calls.{check_verdict, level_bytes, level_answer, level_reply}

-- each element is a byte
abbrev pub Bytes : List ℕ → Type 0
Bytes t = (k : ℕ) → get_or t k 0 < 256

-- the ticket u in place of t: it passes checking and is not longer; for every stimulus each output of u has the level of the output of t
-- in the same place, undefined included; and the call `levels` answers and replies as for t, whatever stimulus and reply slice it is given
pub record Kept (words : ℕ) (t u : List ℕ) : Type 0 where
  pub passes : check_verdict words u ≡ Ok tt
  pub shorter : length u ≤ length t
  pub levels : (stimulus : List ℕ) → level_bytes u stimulus ≡ level_bytes t stimulus
  pub answers : (stimulus reply : List ℕ) → level_answer words u stimulus reply ≡ level_answer words t stimulus reply
  pub replies : (stimulus reply : List ℕ) → level_reply words u stimulus reply ≡ level_reply words t stimulus reply
