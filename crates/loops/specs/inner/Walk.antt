-- What the functions of the walk ask and tell each other of its marks; no public contract cites this. Assumes nothing: these are definitions.
use Rattle.std.specs.Prelude.{◌≡◌, Bool, true, false, List, ◌⊎◌, ℕ, ◌+◌, ◌<◌, ◌≤◌, eqb, Option, Some, None, length, get_or, drop}
use Rattle.value.specs.declared.Slot.{Slot}
use Rattle.cell.specs.declared.Record.{Record}
use Rattle.cell.specs.Operands.{edge_at}
use Rattle.cell.specs.Records.{record_in}
use Rattle.loops.specs.Reach.{Reaches, OnLoop, on_loop}
use Rattle.loops.specs.inner.Search.{Searchable}
use Rattle.loops.specs.inner.Counted.{counted}

-- the mark of a slot: 0 not visited, 1 open, and from 2 on the stamp at which it was finished
abbrev pub mark : List ℕ → ℕ → ℕ
mark ws s = get_or ws s 0

unfoldable pub unvisited : ℕ → List ℕ → ℕ
unvisited n ws = counted (λ s. eqb (mark ws s) 0) n

-- whether the walk ends where it meets the slot x open
unfoldable pub stops_at : Option Slot → ℕ → Bool
stops_at None x = true
stops_at (Some t) x = eqb t.0 x

-- what a walk that was stopped tells
unfoldable pub Stopped : List Record → Option Slot → Type 0
Stopped rs None = Unit {0}
Stopped rs (Some t) = OnLoop rs t.0

-- the walk from t comes to slot s along edges
unfoldable pub Reached : List Record → Option Slot → ℕ → Type 0
Reached rs None s = Unit {0}
Reached rs (Some t) s = Reaches rs t.0 s

-- or it begins there
unfoldable pub Within : List Record → Option Slot → ℕ → Type 0
Within rs None s = Unit {0}
Within rs (Some t) s = (s ≡ t.0) ⊎ Reaches rs t.0 s

-- x was visited; and if the walk ends at an open x, then x was finished, with a stamp below m
pub record Before (stop : Option Slot) (ws : List ℕ) (m x : ℕ) : Type 0 where
  pub met : mark ws x ≡ 0 → ⊥
  pub finished : stops_at stop x ≡ true → 2 ≤ mark ws x
  pub earlier : stops_at stop x ≡ true → mark ws x < m

-- the marks while the walk goes on: every stamp is below the clock, and the edges of a finished slot lead to what was before it
pub record Walking (rs : List Record) (stop : Option Slot) (clock : ℕ) (ws : List ℕ) : Type 0 where
  pub begun : 2 ≤ clock
  pub stamps : (u : ℕ) → u < length rs → mark ws u < clock
  pub before : (u f : ℕ) (x : Slot) → 2 ≤ mark ws u → edge_at (record_in rs u) f ≡ Some x → Before stop ws (mark ws u) x.0
  pub room : clock + unvisited (length rs) ws ≤ length rs + 2

-- the walk stands at slot s, whose mark is m
pub record Ready (rs : List Record) (stop : Option Slot) (clock : ℕ) (ws : List ℕ) (s m : ℕ) : Type 0 where
  pub fits : Searchable rs (length rs) ws
  pub walking : Walking rs stop clock ws
  pub below : s < length rs
  pub within : Within rs stop s
  pub marked : mark ws s ≡ m

-- the walk comes to slot x
pub record Coming (rs : List Record) (stop : Option Slot) (clock : ℕ) (ws : List ℕ) (x : ℕ) : Type 0 where
  pub fits : Searchable rs (length rs) ws
  pub walking : Walking rs stop clock ws
  pub below : x < length rs
  pub reached : Reached rs stop x

-- what a part of the walk leaves: what was visited keeps its mark, and nothing is left open
pub record Leaves (rs : List Record) (stop : Option Slot) (clock next : ℕ) (ws ws' : List ℕ) : Type 0 where
  pub walking : Walking rs stop next ws'
  pub later : clock ≤ next
  pub kept : (u : ℕ) → (mark ws u ≡ 0 → ⊥) → mark ws' u ≡ mark ws u
  pub opened : (u : ℕ) → mark ws' u ≡ 1 → mark ws u ≡ 1
  pub rising : next + unvisited (length rs) ws' ≤ clock + unvisited (length rs) ws

-- the answer of a part of the walk: 0 if it met an open slot that ends it, else the next stamp
pub record Walked (rs : List Record) (stop : Option Slot) (clock : ℕ) (ws ws' : List ℕ) (next : ℕ) : Type 0 where
  pub looped : next ≡ 0 → Stopped rs stop
  pub done : (next ≡ 0 → ⊥) → Leaves rs stop clock next ws ws'
  pub rest : drop 16384 ws' ≡ drop 16384 ws

-- slot s was visited: it has the last stamp
pub record Visits (rs : List Record) (stop : Option Slot) (clock : ℕ) (ws ws' : List ℕ) (s next : ℕ) : Type 0 where
  pub walked : Walked rs stop clock ws ws' next
  pub stamped : (next ≡ 0 → ⊥) → (2 ≤ mark ws' s) × (mark ws' s + 1 ≡ next)

-- slot x was met
pub record Meets (rs : List Record) (stop : Option Slot) (clock : ℕ) (ws ws' : List ℕ) (x next : ℕ) : Type 0 where
  pub walked : Walked rs stop clock ws ws' next
  pub before : (next ≡ 0 → ⊥) → Before stop ws' next x

-- the edges of slot s by the fields from low to high were followed
pub record Follows (rs : List Record) (stop : Option Slot) (clock : ℕ) (ws ws' : List ℕ) (s low high next : ℕ) : Type 0 where
  pub walked : Walked rs stop clock ws ws' next
  pub before : (next ≡ 0 → ⊥) → (f : ℕ) (x : Slot) → low ≤ f → f ≤ high → edge_at (record_in rs s) f ≡ Some x → Before stop ws' next x.0

-- the first n slots are not visited
pub record Cleared (n : ℕ) (ws ws' : List ℕ) : Type 0 where
  pub blank : (u : ℕ) → u < n → mark ws' u ≡ 0
  pub rest : drop 16384 ws' ≡ drop 16384 ws

-- the answer true: there is no loop
pub record Frees (rs : List Record) (ws ws' : List ℕ) (r : Bool) : Type 0 where
  pub free : r ≡ true → (i : ℕ) → on_loop rs i ≡ false
  pub rest : drop 16384 ws' ≡ drop 16384 ws

-- the answer: whether slot s is on a loop
pub record Tells (rs : List Record) (ws ws' : List ℕ) (s : ℕ) (r : Bool) : Type 0 where
  pub told : r ≡ on_loop rs s
  pub rest : drop 16384 ws' ≡ drop 16384 ws
