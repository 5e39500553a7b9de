-- The walk that both orders and `compact` take: down from each item to those that it depends on, each item once.
-- After the stacks of netlist/src/design.rs, which hold the items on the way down. Assumes nothing: these are definitions.
use Rattle.std.specs.Prelude.{Bool, true, false, cond, List, [], ◌∷◌, ◌++◌, ℕ, zero, suc, get_or, set, replicate}

-- `visited` by item, and `result`
pub record Walk : Type 0 where
  pub visited : List Bool
  pub result : List ℕ

-- items from n on count as visited
abbrev pub is_visited : Walk → ℕ → Bool
is_visited w s = get_or w.visited s true

-- `visited.insert(item)`
abbrev pub mark : ℕ → Walk → Walk
mark s w = record { visited = set w.visited s true; result = w.result }

-- `result.push(item)`
abbrev pub push : ℕ → Walk → Walk
push s w = record { visited = w.visited; result = w.result ++ (s ∷ []) }

-- one item after another
unfoldable pub each : (ℕ → Walk → Walk) → List ℕ → Walk → Walk
each go [] w = w
each go (s ∷ ss) w = each go ss (go s w)

-- an item on the way down: marked, then what it depends on, then itself
unfoldable pub down : (ℕ → Walk → Walk) → (ℕ → List ℕ) → ℕ → Walk → Walk
down go deps s w = push s (each go (deps s) (mark s w))

abbrev pub enter : (ℕ → Walk → Walk) → (ℕ → List ℕ) → ℕ → Walk → Walk
enter go deps s w = cond (is_visited w s) w (down go deps s w)

-- the first argument bounds the depth. Each descent marks one item more, so the number of unvisited items is enough
unfoldable pub walk : ℕ → (ℕ → List ℕ) → ℕ → Walk → Walk
walk zero deps s w = w
walk (suc k) deps s w = enter (walk k deps) deps s w

-- the number of unvisited items
unfoldable pub count_false : List Bool → ℕ
count_false [] = 0
count_false (true ∷ bs) = count_false bs
count_false (false ∷ bs) = suc (count_false bs)

abbrev pub unvisited : Walk → ℕ
unvisited w = count_false w.visited

-- a walk from each of these roots over n items
abbrev pub fresh : ℕ → Walk
fresh n = record { visited = replicate n false; result = [] }

unfoldable pub walk_from : ℕ → (ℕ → List ℕ) → List ℕ → Walk → Walk
walk_from n deps roots w = each (walk n deps) roots w
