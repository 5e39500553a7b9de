-- The two orders of netlist/src/design.rs. Assumes nothing: these are definitions.
use Rattle.std.specs.Prelude.{not, List, ◌++◌, reverse, ℕ, length}
use Rattle.cell.specs.declared.Cell.{Cell}
use Rattle.netlist.specs.Shape.{visit, is_source, is_output}
use Rattle.netlist.specs.Netlist.{Netlist, cell_in, sources, iter_cells, cell_deps}
use Rattle.basics.specs.Lists.{slots, those}
use Rattle.order.specs.Walk.{Walk, mark, push, each, walk_from, fresh}

-- `get_deps` of `Design::topo_sort`, with `is_comb_edge`: the bits that a bit reads, sources left out, in the order of the fields. The order
-- is cut at the driver, and goes down into what every bit reads
unfoldable pub bit_deps : List Cell → ℕ → List ℕ
bit_deps cs s = those (λ x. not (is_source (cell_in cs x))) (sources (visit (cell_in cs s)))

-- `Design::topo_sort`: dependencies are taken from the end (`deps.pop()`). Every bit is an item here; in the Rust a wide input is one item
-- of its own, with which nothing is done
unfoldable pub topo_sort : List Cell → List ℕ
topo_sort cs = (walk_from (length cs) (λ s. reverse (bit_deps cs s)) (slots (length cs)) (fresh (length cs))).result

-- `Design::iter_cells_topo`: sources first
abbrev pub emit : ℕ → Walk → Walk
emit s w = push s (mark s w)

-- then cells as they stand, each after its unvisited dependencies, of which the lowest comes first; outputs last
unfoldable pub iter_cells_topo : Netlist → List ℕ
iter_cells_topo d =
    let all = iter_cells d.bits in
    let firsts = those (λ s. is_source (cell_in d.cells s)) all in
    let others = those (λ s. not (is_output (cell_in d.cells s))) all in
    let outputs = those (λ s. is_output (cell_in d.cells s)) all in
    (walk_from (length d.cells) (cell_deps d) others (each emit firsts (fresh (length d.cells)))).result ++ outputs
