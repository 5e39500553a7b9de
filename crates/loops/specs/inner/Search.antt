-- What the search for loops asks and answers (paper, refusal 8). Assumes nothing: these are definitions.
use Rattle.std.specs.Prelude.{◌≡◌, Bool, cond, List, ℕ, zero, suc, ◌<◌, ◌≤◌, Option, Some, None, length, drop}
use Rattle.std.specs.Option.{option_or}
use Rattle.value.specs.declared.Slot.{Slot}
use Rattle.value.specs.Value.{slot_at}
use Rattle.cell.specs.declared.Record.{Record}
use Rattle.cell.specs.Limits.{work_words, max_records}
use Rattle.cell.specs.Operands.{edge_at}
use Rattle.cell.specs.Records.{record_in}
use Rattle.loops.specs.Reach.{on_loop}

-- what it asks of the words, the records and their number n
pub record Searchable (rs : List Record) (n : ℕ) (ws : List ℕ) : Type 0 where
  pub long : work_words ≤ length ws
  pub count : length rs ≡ n
  pub few : n ≤ max_records
  pub inside : (s f : ℕ) (x : Slot) → edge_at (record_in rs s) f ≡ Some x → x.0 < n

-- the lowest of the first n slots that has the property p
unfoldable pub lowest : (ℕ → Bool) → ℕ → Option Slot
lowest p zero = None
lowest p (suc n) = let below = lowest p n in option_or below (cond (p n) (Some (slot_at n)) None)

unfoldable pub lowest_on_loop : List Record → Option Slot
lowest_on_loop rs = lowest (on_loop rs) (length rs)

-- the answer: the lowest slot on a loop, or that there is none. The words past the work area are as they were
pub record Finds (rs : List Record) (ws ws' : List ℕ) (r : Option Slot) : Type 0 where
  pub found : r ≡ lowest_on_loop rs
  pub rest : drop work_words ws' ≡ drop work_words ws
