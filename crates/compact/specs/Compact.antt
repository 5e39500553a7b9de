-- Compacting (netlist/src/design.rs, `Design::compact` after `apply`). Assumes nothing: these are definitions.
use Rattle.std.specs.Prelude.{Bool, false, List, map, ℕ, length, get_or}
use Rattle.value.specs.declared.Net.{Net}
use Rattle.value.specs.declared.Driver.{Driver}
use Rattle.value.specs.declared.Driver.TheVariants as driven
use Rattle.value.specs.Value.{driver}
use Rattle.netlist.specs.Shape.{visit_mut, has_effects}
use Rattle.netlist.specs.Netlist.{Netlist, cell_in, start_of, iter_cells, cell_deps}
use Rattle.basics.specs.Lists.{slots, those}
use Rattle.order.specs.Walk.{walk_from, fresh}
use Rattle.design.specs.Queue.{net_in}

-- `keep`, by the start of a cell: inputs, outputs and the cells that they reach. The Rust's queue gives the lowest first, which does not matter
unfoldable pub keep : Netlist → List Bool
keep d =
    let roots = those (λ s. has_effects (cell_in d.cells s)) (iter_cells d.bits) in
    (walk_from (length d.cells) (cell_deps d) roots (fresh (length d.cells))).visited

-- a cell is kept with all its bits
abbrev pub is_kept : List ℕ → List Bool → ℕ → Bool
is_kept bits marks s = get_or marks (start_of bits s) false

-- the slots that are kept, and a kept slot's new place: how many before it are kept
unfoldable pub kept_slots : List ℕ → List Bool → ℕ → List ℕ
kept_slots bits marks n = those (is_kept bits marks) (slots n)

unfoldable pub count_kept : List ℕ → List Bool → ℕ → ℕ
count_kept bits marks s = length (kept_slots bits marks s)

-- `net_map`
abbrev pub renumbered : List ℕ → List Bool → Net → Driver → Net
renumbered bits marks n (driven.Const t) = n
renumbered bits marks n (driven.Cell s) = net_in (count_kept bits marks s.0)

unfoldable pub net_map : List ℕ → List Bool → Net → Net
net_map bits marks n = renumbered bits marks n (driver n)

-- `Design::compact` without `apply`
unfoldable pub compact : Netlist → Netlist
compact d =
    let marks = keep d in
    let kept = kept_slots d.bits marks (length d.cells) in
    record {
      cells = map (λ s. visit_mut (net_map d.bits marks) (cell_in d.cells s)) kept;
      bits = map (λ s. get_or d.bits s 0) kept;
    }
