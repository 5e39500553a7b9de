-- What the lister prints for a ticket (paper, "Tickets to try"). Assumes nothing: these are definitions.
use Rattle.refusals.specs.Refusals.{Verdict}
use Rattle.std.specs.Prelude.{◌≡◌, ◌≤◌, List, ℕ, length, take, Ok, Err}
use Rattle.design.specs.Queue.{find_new_cell}
use Rattle.calls.specs.Calls.{rewrite_verdict, rewrite_bytes}
use Rattle.lines.specs.Lines.{lines_of, refusal_line}

-- the first n elements are there, and are n
abbrev pub IsPrefixLen : ℕ → List ℕ → Type 0
IsPrefixLen n xs = (n ≤ length xs) × (n ≡ length (take n xs))

-- what is printed by a verdict and the bytes of an accepted ticket's result
abbrev pub printed_by : Verdict → List ℕ → List ℕ
printed_by (Ok u) bytes = lines_of bytes
printed_by (Err x) bytes = refusal_line x

-- what the lister prints for a ticket: the lines of the rewritten ticket, or the refusal
unfoldable pub printed : ℕ → List ℕ → List ℕ → List ℕ
printed words t reply = printed_by (rewrite_verdict find_new_cell words t reply) (rewrite_bytes find_new_cell t)
