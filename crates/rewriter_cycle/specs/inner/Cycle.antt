-- The cycle of rules and adder in the words of the work slice. Assumes nothing: these are definitions.
use Rattle.std.specs.Prelude.{◌≡◌, List, ℕ, ◌<◌, length, None, Some, Result, Ok, Err}
use Rattle.value.specs.declared.Net.{Net}
use Rattle.cell.specs.declared.Cell.{Cell}
use Rattle.netlist.specs.inner.Areas.{Within, keys_from}
use Rattle.normalize.specs.Outcomes.{Outcome}
use Rattle.normalize.specs.declared.Change.TheVariants.{Value, Form, Add, NotOf, AddNotOf}
use Rattle.design.specs.Queue.{find_new_cell}
use Rattle.aig.specs.Aig.{simple_aig_opt}
use Rattle.rewrite.specs.Rewriter.{Rewriter, weight, find_cell}
use Rattle.rewrite.specs.Rewrite as rewriting
use Rattle.aig_laws.specs.Reads.{GateOf}
use Rattle.rewrite_laws.specs.Stamps.{Lighter}
use Rattle.rewrite_laws.specs.State.{Settled, State}
use Rattle.rewriter_state.specs.declared.Extent.{Extent}
use Rattle.rewriter_state.specs.declared.Full.{Full}
use Rattle.rewriter_cycle.specs.declared.Processed.{Processed}
use Rattle.rewriter_cycle.specs.declared.Processed.TheVariants as processed
use Rattle.rewriter_state.specs.inner.Words.{rewriter_in, Held, Changes, Onward}

-- the outcome of `SimpleAigOpt`, and of all rules, over what is looked up in the words
abbrev pub opted : Extent → List ℕ → Cell → Outcome
opted x ws c = simple_aig_opt (find_cell find_new_cell (rewriter_in x ws)) c

abbrev pub ruled : Extent → List ℕ → Cell → Outcome
ruled x ws c = rewriting.rules find_new_cell (rewriter_in x ws) c

-- what an outcome leaves that adds no cell
abbrev pub unadded_of : Outcome → Processed
unadded_of None = processed.None
unadded_of (Some (Value n)) = processed.Value n
unadded_of (Some (Form c)) = processed.Cell c
unadded_of (Some (Add c)) = processed.None
unadded_of (Some (NotOf c)) = processed.None
unadded_of (Some (AddNotOf c)) = processed.None

-- the slots that the definition has taken in the end
abbrev pub slots_after : rewriting.Result → ℕ
slots_after (rewriting.none r) = length r.design.cells
slots_after (rewriting.cell c r) = length r.design.cells
slots_after (rewriting.value n r) = length r.design.cells
slots_after (rewriting.spent r) = length r.design.cells

abbrev pub slots_added : rewriting.Added → ℕ
slots_added (rewriting.at n r) = length r.design.cells
slots_added (rewriting.unadded r) = length r.design.cells

-- the words after a step
pub record Left (x x' : Extent) (ws ws' : List ℕ) : Type 0 where
  pub held : Held x' ws'
  pub onward : Onward x x'
  pub changes : Changes x ws ws'

-- what the code's answer stands for, with the rewriter after it
abbrev pub result_of : Processed → Rewriter → rewriting.Result
result_of processed.None r = rewriting.none r
result_of (processed.Cell c) r = rewriting.cell c r
result_of (processed.Value n) r = rewriting.value n r

-- the code's answer, with the words that it left, is the definition's; or no slot was left, and the definition takes more than there are
abbrev pub Answers : Extent → Extent → List ℕ → List ℕ → Result Processed Full → rewriting.Result → Type 0
Answers x x' ws ws' (Ok p) y = (y ≡ result_of p (rewriter_in x' ws')) × Left x x' ws ws'
Answers x x' ws ws' (Err e) y = (1024 < slots_after y) × Within 0 keys_from ws ws'

abbrev pub AnswersAdd : Extent → Extent → List ℕ → List ℕ → Result Net Full → rewriting.Added → Type 0
AnswersAdd x x' ws ws' (Ok n) y = (y ≡ rewriting.at n (rewriter_in x' ws')) × Left x x' ws ws'
AnswersAdd x x' ws ws' (Err e) y = (1024 < slots_added y) × Within 0 keys_from ws ws'

-- the state of a run over the cells of a ticket, after some of its items; each member of the cycle asks for it, and for settled operands
pub record Running (x : Extent) (ws : List ℕ) : Type 0 where
  pub held : Held x ws
  pub ticket : List Cell
  pub before : List ℕ
  pub state : State ticket before (rewriter_in x ws)

abbrev pub SettledIn : (x : Extent) (ws : List ℕ) → Running x ws → Net → Type 0
SettledIn x ws r n = Settled r.ticket (rewriter_in x ws).stamps n

pub record Ready (x : Extent) (ws : List ℕ) (c : Cell) : Type 0 where
  pub running : Running x ws
  pub gate : GateOf (SettledIn x ws running) c

-- the contracts: with any bound above the weight
pub record Performs (x x' : Extent) (ws ws' : List ℕ) (o : Outcome) (p : Result Processed Full) : Type 0 where
  pub said : (k : ℕ) → Lighter (rewriter_in x ws).stamps k o
      → Answers x x' ws ws' p (rewriting.perform (λ r c. rewriting.enter c (rewriting.process k find_new_cell r c)) (rewriter_in x ws) o)

pub record Processes (x x' : Extent) (ws ws' : List ℕ) (c : Cell) (p : Result Processed Full) : Type 0 where
  pub said : (k : ℕ) → weight (rewriter_in x ws).stamps c < k → Answers x x' ws ws' p (rewriting.process k find_new_cell (rewriter_in x ws) c)

pub record Adds (x x' : Extent) (ws ws' : List ℕ) (c : Cell) (a : Result Net Full) : Type 0 where
  pub said : (k : ℕ) → weight (rewriter_in x ws).stamps c < k
      → AnswersAdd x x' ws ws' a (rewriting.enter c (rewriting.process k find_new_cell (rewriter_in x ws) c))
