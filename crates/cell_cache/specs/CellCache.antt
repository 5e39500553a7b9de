-- The design's `cell_cache` (netlist/src/design.rs, `ChangeQueue`), which the definition of rewriting leaves out, and adding a cell as the Rust
-- does it, which asks that cache. Metadata is left out, so the key is the cell. Assumes nothing: these are definitions.
use Rattle.std.specs.Prelude.{cond, not, List, [], ◌∷◌, ◌++◌, ℕ, suc, ◌+◌, ◌-◌, length}
use Rattle.value.specs.declared.Net.{Net}
use Rattle.cell.specs.declared.Cell.{Cell}
use Rattle.basics.specs.Lists.{tabulate, those}
use Rattle.netlist.specs.Shape.{has_effects}
use Rattle.netlist.specs.Netlist.{cell_in}
use Rattle.std.specs.Prelude.{Option, Some, None}
use Rattle.numberer.specs.Numberer.{Entry, seek}
use Rattle.design.specs.Queue.{net_in, add_cell}
use Rattle.rewrite.specs.Rewriter.{Rewriter}
use Rattle.rewrite.specs.Rewrite.{Added, at}

-- `insert`, of the cell cache and of the rewriter's own: a cell with effects is not put in
abbrev pub inserted : Cell → Net → List Entry → List Entry
inserted c m es = cond (has_effects c) es (es ++ ((c, m) ∷ []))

-- `cell_cache`: the cells added so far, each with its net. n is the number of slots that the design had before; the added cells stand behind
-- them and stay as they are. So it is empty at first, an added cell is put in, and nothing else changes it (`cache-begins`, `cache-inserts`, `cache-stays`)
abbrev pub added_at : ℕ → List Cell → ℕ → Entry
added_at n cs i = (cell_in cs (n + i), net_in (n + i))

abbrev pub without_effects : List Entry → List Entry
without_effects es = those (λ (e : Entry). not (has_effects e.0)) es

unfoldable pub cell_cache : ℕ → List Cell → List Entry
cell_cache n cs = without_effects (tabulate (added_at n cs) (length cs - n))

-- `Design::add_cell_with_metadata_index` of a cell of one bit, by what the cell cache has for it. After it, in `Rewriter::add_cell_meta_output`,
-- `processed.insert`, which changes nothing for the net of a cell that was added before, and `cache.insert`
abbrev pub added_by : Rewriter → Cell → Option Net → Added
added_by r c (Some m) = at m (record { design = r.design; cache = inserted c m r.cache; stamps = r.stamps; clock = r.clock })
added_by r c None =
    let m = net_in (length r.design.cells) in
    at m (record {
      design = add_cell r.design c;
      cache = inserted c m r.cache;
      stamps = r.stamps ++ (suc r.clock ∷ []);
      clock = suc r.clock;
    })

-- the cell cache is asked first
unfoldable pub add_cell_with_metadata_index : ℕ → Rewriter → Cell → Added
add_cell_with_metadata_index n r c = added_by r c (seek (cell_cache n r.design.cells) c)
