-- How the walk goes down from a cell. Assumes nothing: these are definitions.
use Rattle.std.specs.Prelude.{◌≡◌, true, false, ◌&&◌, List, ◌++◌, map, ℕ, suc, ◌+◌, ◌<◌, ◌≤◌, eqb, leb, length, drop, Option, Some, None}
use Rattle.value.specs.declared.Net.{Net}
use Rattle.value.specs.declared.Slot.{Slot}
use Rattle.value.specs.Value.{driver}
use Rattle.cell.specs.declared.Record.{Record}
use Rattle.cell.specs.Records.{cell_of}
use Rattle.basics.specs.Lists.{tabulate, slots, those, any_of, joined}
use Rattle.netlist.specs.Shape.{visit}
use Rattle.netlist.specs.Netlist.{netlist_of, cell_in, driven_by, sources, start_of, run}
use Rattle.order.specs.inner.Code.{visited_in}

-- the bit numbers of the records
unfoldable pub bits_in : List Record → List ℕ
bits_in rs = (netlist_of rs).bits

-- the starts of the cells that a net, a bit, and the first m bits of a cell lead to
unfoldable pub starts_of : List Record → Net → List ℕ
starts_of rs x = map (start_of (bits_in rs)) (driven_by (driver x))

unfoldable pub bit_reads : List Record → ℕ → List ℕ
bit_reads rs i = map (start_of (bits_in rs)) (sources (visit (cell_in (map cell_of rs) i)))

unfoldable pub read_up_to : List Record → ℕ → ℕ → List ℕ
read_up_to rs s m = map (start_of (bits_in rs)) (joined (map (λ i. sources (visit (cell_in (map cell_of rs) i))) (tabulate (λ i. s + i) m)))

unfoldable pub read_by : List Record → ℕ → List ℕ
read_by rs s = read_up_to rs s (suc (run (drop (s + 1) (bits_in rs))))

-- the cells from a slot on that a cell reads
unfoldable pub deps_from : List Record → ℕ → ℕ → List ℕ
deps_from rs s from = those (λ x. leb from x && any_of (eqb x) (read_by rs s)) (slots (length (map cell_of rs)))

-- the lowest item of a list from a number on that was not visited; n if there is none
pub record Lowest (n : ℕ) (ws : List ℕ) (from : ℕ) (xs : List ℕ) (r : ℕ) : Type 0 where
  pub upto : r ≤ n
  pub found : r < n → (from ≤ r) × (any_of (eqb r) xs ≡ true) × (visited_in n ws r ≡ false)
  pub lowest : (y : ℕ) → from ≤ y → y < r → any_of (eqb y) xs ≡ true → visited_in n ws y ≡ true

-- the same as a slot, or none
pub record LowestSlot (n : ℕ) (ws : List ℕ) (from : ℕ) (xs : List ℕ) (r : Option Slot) : Type 0 where
  pub none : r ≡ None → Lowest n ws from xs n
  pub found : (s : Slot) → r ≡ Some s → (s.0 < n) × Lowest n ws from xs s.0

-- the lowest, found from the lowest item of some others
pub record Lowers (n : ℕ) (ws : List ℕ) (from : ℕ) (xs : List ℕ) (best r : ℕ) : Type 0 where
  pub lowers : (ys : List ℕ) → Lowest n ws from ys best → Lowest n ws from (ys ++ xs) r
