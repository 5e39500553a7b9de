-- The change queue (netlist/src/design.rs, `Design` with its `ChangeQueue`). Assumes nothing: these are definitions.
use Rattle.std.specs.Prelude.{Bool, cond, not, ◌&&◌, List, [], ◌∷◌, ◌++◌, map, ℕ, zero, suc, eqb, length, get_or, set, Option, None, Some}
use Rattle.value.specs.declared.Net.{Net}
use Rattle.value.specs.declared.Driver.{Driver}
use Rattle.value.specs.declared.Driver.TheVariants as driven
use Rattle.value.specs.Value.{slot_at, net_of, eq_net, driver}
use Rattle.cell.specs.declared.Record.{Record}
use Rattle.cell.specs.declared.Cell.{Cell}
use Rattle.cell.specs.Records.{cell_record}
use Rattle.basics.specs.Lists.{tabulate, any_of}
use Rattle.netlist.specs.Shape.{visit, visit_mut}
use Rattle.netlist.specs.Netlist.{cell_in}

-- `cells`, with `replaced_cells` written into their slots and `added_cells` behind the last slot; and `replaced_nets` by slot, where a net
-- that is not replaced stands for itself. `unalived_cells` need no mark: nothing names a replaced net after `apply`, and `compact` drops its slot
pub record Design : Type 0 where
  pub cells : List Cell
  pub replaced : List Net

-- the net of a slot
abbrev pub net_in : ℕ → Net
net_in s = net_of (slot_at s)

-- what the rules see of a net: the cell that it comes from, none for an opaque net. A constant is opaque too: the Rust's look-up shows it, and no
-- rule tells it from an opaque net
abbrev pub Source : Type 0
Source = Option Cell

-- nothing is replaced yet
unfoldable pub unchanged : List Cell → Design
unchanged cs = record { cells = cs; replaced = tabulate net_in (length cs) }

-- `Design::map_net_new`: replacements are followed to the end. The first argument bounds the steps, and the number of slots is enough wherever
-- an accepted ticket is merged or rewritten: `merging-ends` (crate kept), `rewriting-ends` and `look-ups-end` (crate accepted_laws). There any
-- more steps change nothing (crate order_laws, `more-steps`)
abbrev pub driven_to : List Net → Net → Driver → Net
driven_to rs n (driven.Const t) = n
driven_to rs n (driven.Cell s) = get_or rs s.0 n

unfoldable pub followed : ℕ → List Net → Net → Net
followed zero rs n = n
followed (suc k) rs n = let m = driven_to rs n (driver n) in let rest = followed k rs m in cond (eq_net m n) n rest

unfoldable pub map_net_new : List Net → Net → Net
map_net_new rs n = followed (length rs) rs n

-- `Design::find_new_cell`. A cell in a slot that was not rewritten has the ticket's operands
abbrev pub source_in : List Cell → Driver → Source
source_in cs (driven.Const t) = None
source_in cs (driven.Cell s) = Some (cell_in cs s.0)

unfoldable pub find_new_cell : Design → Net → Source
find_new_cell d n = source_in d.cells (driver (map_net_new d.replaced n))

-- `Design::add_cell_with_metadata_index` of a cell of one bit: it is in slot `length cells`. Its `cell_cache` never answers in the rewriter,
-- whose own cache is asked first
abbrev pub add_cell : Design → Cell → Design
add_cell d c = record { cells = d.cells ++ (c ∷ []); replaced = d.replaced }

-- `CellRef::replace`
abbrev pub replace_cell : Design → ℕ → Cell → Design
replace_cell d s c = record { cells = set d.cells s c; replaced = d.replaced }

-- `Design::replace_net` of a slot's net; by itself it changes nothing
abbrev pub replace_net : Design → ℕ → Net → Design
replace_net d s n = record { cells = d.cells; replaced = set d.replaced s n }

-- `Design::apply`: the operands that replacements lead to, and whether there was one to replace. The flag is asked for in merging only,
-- where the queue holds replaced nets and nothing else
unfoldable pub applied : Design → List Cell
applied d = map (visit_mut (map_net_new d.replaced)) d.cells

unfoldable pub did_change : Design → Bool
did_change d = any_of (λ c. any_of (λ n. not (eq_net (map_net_new d.replaced n) n)) (visit c)) d.cells

-- `PartialEq for Cell`, by the fields of the records
unfoldable pub eq_record : Record → Record → Bool
eq_record x y = eqb x.kind y.kind && eqb x.flags y.flags && eqb x.a y.a && eqb x.b y.b && eqb x.c y.c

unfoldable pub eq_cell : Cell → Cell → Bool
eq_cell c d = eq_record (cell_record 0 c) (cell_record 0 d)
