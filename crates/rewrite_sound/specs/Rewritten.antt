-- What the result of rewriting a ticket is. Assumes nothing: these are definitions.
use Rattle.std.specs.Prelude.{◌≡◌, List, ◌∷◌, ℕ, ◌/◌, ◌%◌, ◌≤◌, length, Ok}
use Rattle.cell.specs.Records.{records_of}
use Rattle.refusals.specs.Refusals.{Stage, first_of}
use Rattle.checking.specs.Checking.{work_stage, length_stage, netlist_stages}
use Rattle.rewrite.specs.Rewriter.{Lookup}
use Rattle.rewrite.specs.Rewrite.{slots_of, rewrite}
use Rattle.calls.specs.Calls.{decoded, check_verdict, rewrite_run}
use Rattle.kept.specs.Kept.{Bytes}

-- the stages of checking but 3, the number of records: what is rewritten can have more of them than the ticket
unfoldable pub stages_but_size : ℕ → List ℕ → List Stage
stages_but_size words t = work_stage words ∷ length_stage t ∷ netlist_stages (records_of t)

-- u is the result of rewriting t as a ticket: whole records, no more than the slots taken, which pass all stages of checking but 3, and 3 too where
-- they are at most 512; and read back they are the rewritten netlist
pub record Rewritten (look : Lookup) (words : ℕ) (t u : List ℕ) : Type 0 where
  pub bytes : Bytes u
  pub whole : length u % 16 ≡ 0
  pub fewer : length u / 16 ≤ slots_of (rewrite_run look t)
  pub passes : first_of (stages_but_size words u) ≡ Ok tt
  pub accepted : length u / 16 ≤ 512 → check_verdict words u ≡ Ok tt
  pub back : decoded u ≡ rewrite look (decoded t)
