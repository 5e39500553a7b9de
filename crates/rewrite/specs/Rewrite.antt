-- Rewriting (netlist/src/rewrite.rs). Assumes nothing: these are definitions.
use Rattle.std.specs.Prelude.{cond, List, [], ◌∷◌, ◌++◌, ℕ, zero, suc, ◌-◌, length, replicate, None, Some}
use Rattle.value.specs.declared.Net.{Net}
use Rattle.cell.specs.declared.Cell.{Cell}
use Rattle.cell.specs.declared.Cell.TheVariants.{Not}
use Rattle.netlist.specs.Shape.{visit_mut, has_effects, is_splittable}
use Rattle.netlist.specs.Netlist.{Netlist, cell_in}
use Rattle.order.specs.Orders.{topo_sort}
use Rattle.std.specs.Prelude.{Option, Some}
use Rattle.design.specs.Queue.{net_in, map_net_new, replace_cell, replace_net, applied}
use Rattle.numberer.specs.Numberer.{seek}
use Rattle.compact.specs.Compact.{compact}
use Rattle.normalize.specs.declared.Change.TheVariants.{Value, Form, Add, NotOf, AddNotOf}
use Rattle.normalize.specs.Outcomes.{◌or_else◌, Outcome}
use Rattle.normalize.specs.Normalize.{normalize}
use Rattle.aig.specs.Aig.{simple_aig_opt}
use Rattle.rewrite.specs.Rewriter.{Rewriter, begun, Lookup, find_cell, entered, finished, weight}

-- one pass over the rules, `Normalize` first
unfoldable pub rules : Lookup → Rewriter → Cell → Outcome
rules look r c = normalize c or_else simple_aig_opt (find_cell look r) c

-- `RewriteResult`, with the rewriter after it; and the steps ran out, which no answer of the code stands for
pub data Result : Type 0 where
  none : Rewriter → Result
  cell : Cell → Rewriter → Result
  value : Net → Rewriter → Result
  spent : Rewriter → Result

-- what adding a cell gives
pub data Added : Type 0 where
  at : Net → Rewriter → Added
  unadded : Rewriter → Added

-- an outcome carried out: `rewriter.add_cell` of the rules
abbrev pub as_value : Added → Result
as_value (at n r) = value n r
as_value (unadded r) = spent r

abbrev pub as_not : Added → Result
as_not (at n r) = cell (Not n) r
as_not (unadded r) = spent r

abbrev pub add_not : (Rewriter → Cell → Added) → Added → Result
add_not adder (at n r) = as_value (adder r (Not n))
add_not adder (unadded r) = spent r

abbrev pub perform : (Rewriter → Cell → Added) → Rewriter → Outcome → Result
perform adder r None = none r
perform adder r (Some (Value n)) = value n r
perform adder r (Some (Form c)) = cell c r
perform adder r (Some (Add c)) = as_value (adder r c)
perform adder r (Some (NotOf c)) = as_not (adder r c)
perform adder r (Some (AddNotOf c)) = add_not adder (adder r c)

-- `Rewriter::add_cell_meta_output` after `process_cell`: its cells are gates, so they are cached
abbrev pub entry : Rewriter → Cell → Added
entry r c = let n = net_in (length r.design.cells) in at n (entered r c n)

abbrev pub enter : Cell → Result → Added
enter c (none r) = entry r c
enter c (cell d r) = entry r d
enter c (value n r) = at n r
enter c (spent r) = unadded r

-- `Rewriter::process_cell` after its loop: the cache is asked
abbrev pub asked : Rewriter → Option Net → Result
asked r (Some n) = value n r
asked r None = none r

-- what is left of a replacement cell is that cell
abbrev pub replacing : Cell → Result → Result
replacing d (none r) = cell d r
replacing d (cell e r) = cell e r
replacing d (value n r) = value n r
replacing d (spent r) = spent r

-- a form goes round again
abbrev pub go_on : (Rewriter → Cell → Result) → Cell → Result → Result
go_on again c (none r) = asked r (seek r.cache c)
go_on again c (cell d r) = replacing d (again r d)
go_on again c (value n r) = value n r
go_on again c (spent r) = spent r

abbrev pub turn : (Rewriter → Cell → Result) → Lookup → Rewriter → Cell → Result
turn again look r c = go_on again c (perform (λ r c. enter c (again r c)) r (rules look r c))

-- `Rewriter::process_cell`. The first argument bounds the passes and the cells added one inside the other: above the cell's weight it
-- changes nothing
unfoldable pub process : ℕ → Lookup → Rewriter → Cell → Result
process zero look r c = spent r
process (suc k) look r c = turn (process k look) look r c

unfoldable pub process_cell : Lookup → Rewriter → Cell → Result
process_cell look r c = process (suc (weight r.stamps c)) look r c

-- `Rewriter::add_cell`
unfoldable pub add_cell : Lookup → Rewriter → Cell → Added
add_cell look r c = enter c (process_cell look r c)

-- `Rewriter::run`
pub data Run : Type 0 where
  ran : Rewriter → Run
  stuck : Rewriter → Run

-- arm `TopoSortItem::CellBit`
abbrev pub bit_done : ℕ → Added → Run
bit_done s (at n r) = ran (finished r s (replace_net r.design s n) r.cache)
bit_done s (unadded r) = stuck r

-- arm `TopoSortItem::Cell`; c is the cell with its operands mapped. Before it caches a new form the Rust asks `has_effects` once more: no rule
-- applies to a cell with effects, and none makes one of a gate (rewrite_laws, `rules-effect` and `rules-read`), so every form is cached
abbrev pub cell_done : ℕ → Cell → Result → Run
cell_done s c (none r) = ran (cond (has_effects c) r (finished r s r.design (r.cache ++ ((c, net_in s) ∷ []))))
cell_done s c (cell d r) = ran (finished r s (replace_cell r.design s d) (r.cache ++ ((d, net_in s) ∷ [])))
cell_done s c (value n r) = ran (finished r s (replace_net r.design s n) r.cache)
cell_done s c (spent r) = stuck r

unfoldable pub run_item : Lookup → ℕ → Rewriter → Run
run_item look s r =
    let c = visit_mut (map_net_new r.design.replaced) (cell_in r.design.cells s) in
    cond (is_splittable c) (bit_done s (add_cell look r c)) (cell_done s c (process_cell look r c))

abbrev pub and_then : (Rewriter → Run) → Run → Run
and_then next (ran r) = next r
and_then next (stuck r) = stuck r

unfoldable pub run_items : Lookup → List ℕ → Rewriter → Run
run_items look [] r = ran r
run_items look (s ∷ ss) r = and_then (run_items look ss) (run_item look s r)

unfoldable pub run : Lookup → List Cell → Run
run look cs = run_items look (topo_sort cs) (begun cs)

-- the slots taken, and the netlist left, by `Design::rewrite`: `compact` begins with `apply`. Added cells have one bit.
-- A run with `find_new_cell` over an accepted ticket is stuck only above 1,024 slots, where 9 is given (accepted_laws, `accepted-ran`);
-- another look-up needs that law before this says anything of it
abbrev pub slots_of : Run → ℕ
slots_of (ran r) = length r.design.cells
slots_of (stuck r) = length r.design.cells

abbrev pub compacted : List ℕ → Run → Netlist
compacted bits (ran r) =
    let cs = applied r.design in
    compact (record { cells = cs; bits = bits ++ replicate (length cs - length bits) 0 })
compacted bits (stuck r) = record { cells = []; bits = [] }

unfoldable pub rewrite : Lookup → Netlist → Netlist
rewrite look d = compacted d.bits (run look d.cells)
