-- What the walks and the bit order ask and tell of the words of the work slice. Assumes nothing: these are definitions.
use Rattle.std.specs.Prelude.{◌≡◌, Bool, true, false, List, map, reverse, ℕ, ◌+◌, ◌≤◌, length, get_or, replicate}
use Rattle.cell.specs.declared.Record.{Record}
use Rattle.cell.specs.Records.{cell_of}
use Rattle.netlist.specs.inner.Areas.{records_in, words_in, marks_in, Within, visited_at, order_at, replaced_at}
use Rattle.order.specs.Walk.{Walk, each, walk, count_false}
use Rattle.order.specs.Orders.{bit_deps, topo_sort}

-- a walk over n items in the words: marks, and the items so far in their order
unfoldable pub walk_of : ℕ → ℕ → List ℕ → Walk
walk_of n count ws = record { visited = marks_in visited_at n ws; result = words_in order_at count ws }

-- whether an item was visited, and how many were not
unfoldable pub visited_in : ℕ → List ℕ → ℕ → Bool
visited_in n ws s = get_or (marks_in visited_at n ws) s true

unfoldable pub unvisited_in : ℕ → List ℕ → ℕ
unvisited_in n ws = count_false (marks_in visited_at n ws)

-- what a bit depends on, in the order of the walk
unfoldable pub bits_by : List Record → ℕ → List ℕ
bits_by rs s = reverse (bit_deps (map cell_of rs) s)

-- what the walks ask
pub record Ready (n count : ℕ) (ws : List ℕ) : Type 0 where
  pub long : 16384 ≤ length ws
  pub few : n ≤ 1024
  pub room : count + unvisited_in n ws ≤ 1024

-- items were walked to one after another, as the definition does it with any depth that is enough
pub record Walks (by : List Record → ℕ → List ℕ) (items : List ℕ) (n count : ℕ) (ws ws' : List ℕ) (r : ℕ) : Type 0 where
  pub said : (k : ℕ) → unvisited_in n ws ≤ k → walk_of n r ws' ≡ each (walk k (by (records_in n ws))) items (walk_of n count ws)
  pub frame : Within visited_at replaced_at ws ws'

-- no item was visited
pub record Clears (n : ℕ) (ws ws' : List ℕ) : Type 0 where
  pub blank : marks_in visited_at n ws' ≡ replicate n false
  pub frame : Within visited_at order_at ws ws'

-- the bits in order
pub record Sorts (n : ℕ) (ws ws' : List ℕ) (r : ℕ) : Type 0 where
  pub order : words_in order_at r ws' ≡ topo_sort (map cell_of (records_in n ws))
  pub all : r ≡ n
  pub frame : Within visited_at replaced_at ws ws'
