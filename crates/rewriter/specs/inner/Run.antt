-- The run over the items of the bit order in the words of the work slice. Assumes nothing: these are definitions.
use Rattle.std.specs.Prelude.{◌≡◌, true, false, List, [], ℕ, ◌+◌, ◌≤◌, ◌<◌, length, get_or, Result, Ok, Err}
use Rattle.cell.specs.declared.Cell.{Cell}
use Rattle.netlist.specs.inner.Areas.{word_record, words_in, order_at, replaced_at, Within, keys_from, visited_at}
use Rattle.netlist.specs.Shape.{visit}
use Rattle.netlist.specs.Netlist.{cell_in}
use Rattle.order.specs.Orders.{bit_deps, topo_sort}
use Rattle.design.specs.Queue.{applied, find_new_cell}
use Rattle.compact.specs.Compact.{compact}
use Rattle.design.specs.inner.Words.{netlist_in}
use Rattle.rewrite.specs.Rewriter.{begun}
use Rattle.rewrite.specs.Rewrite.{Run, ran, add_cell, process_cell, bit_done, cell_done, run, run_item, run_items, slots_of, rewrite}
use Rattle.basics.specs.Lists.{has, All}
use Rattle.order_laws.specs.Ordered.{OnceAfter, FedAfter}
use Rattle.order_laws.specs.Members.{Wired}
use Rattle.rewrite_laws.specs.State.{State}
use Rattle.rewriter_state.specs.declared.Extent.{Extent}
use Rattle.rewriter_state.specs.declared.Full.{Full}
use Rattle.rewriter_state.specs.inner.Words.{stamps_at, rewriter_in, Held, ReadySlot}
use Rattle.rewriter_cycle.specs.inner.Cycle.{Running, Ready}

-- what items leave alone: the ticket's bit numbers, the order
pub record Between (x x' : Extent) (ws ws' : List ℕ) : Type 0 where
  pub held : Held x' ws'
  pub tickets : x'.tickets ≡ x.tickets
  pub slots : x.slots ≤ x'.slots
  pub bits : (i : ℕ) → i < x.tickets → (word_record ws' i).bit ≡ (word_record ws i).bit
  pub between : (i : ℕ) → visited_at ≤ i → i < replaced_at → get_or ws' i 0 ≡ get_or ws i 0
  pub after : (i : ℕ) → keys_from ≤ i → get_or ws' i 0 ≡ get_or ws i 0
  pub same : length ws' ≡ length ws

-- the definition's run goes on, or takes more slots than there are. At most one stamp is given for a ticket's slot
pub record Went (k : ℕ) (x x' : Extent) (ws ws' : List ℕ) (y : Run) : Type 0 where
  pub now : y ≡ ran (rewriter_in x' ws')
  pub left : Between x x' ws ws'
  pub clock : x'.clock + x.slots ≤ x.clock + x'.slots + k

-- an item of the bit order is done, or no slot is left
abbrev pub Step : Type 0
Step = Result (Unit {0}) Full

abbrev pub Goes : ℕ → Extent → Extent → List ℕ → List ℕ → Run → Step → Type 0
Goes k x x' ws ws' y (Ok u) = Went k x x' ws ws' y
Goes k x x' ws ws' y (Err e) = (1024 < slots_of y) × Within 0 keys_from ws ws'

-- what is asked: of a slot with its mapped cell; of an item, which comes after what it depends on; and of the first k items of the order,
-- before which nothing was done, with room for a stamp each
pub record ReadyCell (x : Extent) (s : ℕ) (ws : List ℕ) (c : Cell) : Type 0 where
  pub ready : Ready x ws c
  pub slot : ReadySlot x s ws

abbrev pub WiredAll : List Cell → Type 0
WiredAll cs = (i : ℕ) → i < length cs → All (Wired cs) (visit (cell_in cs i))

pub record ReadyItem (x : Extent) (s : ℕ) (ws : List ℕ) : Type 0 where
  pub running : Running x ws
  pub wired : WiredAll running.ticket
  pub slot : ReadySlot x s ws
  pub new : has s running.before ≡ false
  pub fed : (d : ℕ) → has d (bit_deps running.ticket s) ≡ true → d < length running.ticket → has d running.before ≡ true

pub record ReadyItems (x : Extent) (k : ℕ) (ws : List ℕ) : Type 0 where
  pub held : Held x ws
  pub ticket : List Cell
  pub wired : WiredAll ticket
  pub state : State ticket [] (rewriter_in x ws)
  pub once : OnceAfter [] (words_in order_at k ws)
  pub fed : FedAfter (length ticket) (bit_deps ticket) [] (words_in order_at k ws)
  pub small : (s : ℕ) → has s (words_in order_at k ws) ≡ true → s < length ticket
  pub few : k ≤ 1024
  pub room : x.clock + k ≤ x.slots

-- what is told: a bit of a gate and an and-inverter, one item, and the first k items of the order
pub record RunsBit (x x' : Extent) (s : ℕ) (ws ws' : List ℕ) (c : Cell) (r : Step) : Type 0 where
  pub said : Goes 1 x x' ws ws' (bit_done s (add_cell find_new_cell (rewriter_in x ws) c)) r

pub record RunsCell (x x' : Extent) (s : ℕ) (ws ws' : List ℕ) (c : Cell) (r : Step) : Type 0 where
  pub said : Goes 1 x x' ws ws' (cell_done s c (process_cell find_new_cell (rewriter_in x ws) c)) r

pub record RunsItem (x x' : Extent) (s : ℕ) (ws ws' : List ℕ) (r : Step) : Type 0 where
  pub said : Goes 1 x x' ws ws' (run_item find_new_cell s (rewriter_in x ws)) r

pub record RunsItems (x x' : Extent) (k : ℕ) (ws ws' : List ℕ) (r : Step) : Type 0 where
  pub said : Goes k x x' ws ws' (run_items find_new_cell (words_in order_at k ws) (rewriter_in x ws)) r

-- before the first item: the ticket's slots are all, and nothing is cached
abbrev pub first : ℕ → Extent
first n = record { tickets = n; slots = n; entries = 0; clock = 0 }

pub record Begins (n : ℕ) (ws ws' : List ℕ) (r : ℕ) : Type 0 where
  pub all : r ≡ n
  pub order : words_in order_at r ws' ≡ topo_sort (netlist_in n ws).cells
  pub state : rewriter_in (first n) ws' ≡ begun (netlist_in n ws).cells
  pub bits : (i : ℕ) → i < n → (word_record ws' i).bit ≡ (word_record ws i).bit
  pub frame : Within 0 keys_from ws ws'

-- the changes are applied
pub record AppliesAll (x : Extent) (ws ws' : List ℕ) : Type 0 where
  pub cells : (netlist_in x.slots ws').cells ≡ applied (rewriter_in x ws).design
  pub bits : (netlist_in x.slots ws').bits ≡ (netlist_in x.slots ws).bits
  pub frame : Within 0 stamps_at ws ws'

-- `Design::rewrite` up to `compact`
pub record RewritesTo (n m : ℕ) (ws ws' : List ℕ) : Type 0 where
  pub taken : slots_of (run find_new_cell (netlist_in n ws).cells) ≡ m
  pub fit : m ≤ 1024
  pub result : compact (netlist_in m ws') ≡ rewrite find_new_cell (netlist_in n ws)
  pub frame : Within 0 keys_from ws ws'

abbrev pub Rewrites : ℕ → List ℕ → List ℕ → Result ℕ Full → Type 0
Rewrites n ws ws' (Ok m) = RewritesTo n m ws ws'
Rewrites n ws ws' (Err e) = (1024 < slots_of (run find_new_cell (netlist_in n ws).cells)) × Within 0 keys_from ws ws'
