-- The state of a run over a ticket's cells: settled nets, and what holds after each item. Assumes nothing: these are definitions.
use Rattle.std.specs.Prelude.{◌≡◌, true, false, List, ◌⊎◌, ℕ, ◌≤◌, ◌<◌, length, get_or}
use Rattle.basics.specs.Lists.{All, has}
use Rattle.value.specs.declared.Net.{Net}
use Rattle.cell.specs.declared.Cell.{Cell}
use Rattle.netlist.specs.Shape.{visit, is_source, has_effects}
use Rattle.netlist.specs.Netlist.{cell_in}
use Rattle.std.specs.Prelude.{Some}
use Rattle.design.specs.Queue.{net_in}
use Rattle.numberer.specs.Numberer.{seek}
use Rattle.rewrite.specs.Rewriter.{Rewriter, stamp}
use Rattle.order_laws.specs.Members.{Drives}

module _ (cs₀ : List Cell) where
  -- how many slots the ticket has
  abbrev pub tickets : ℕ
  tickets = length cs₀

  -- a source, or a slot that is finished, and a net that one drives, or a constant
  abbrev pub SettledSlot : List ℕ → ℕ → Type 0
  SettledSlot ts s = ((s < tickets) × (is_source (cell_in cs₀ s) ≡ true)) ⊎ (0 < get_or ts s 0)

  unfoldable pub Settled : List ℕ → Net → Type 0
  Settled ts = Drives (SettledSlot ts)

  abbrev pub Under : List ℕ → ℕ → Net → Type 0
  Under ts b m = Settled ts m × (stamp ts m < b)

  -- the net that stands for slot i
  abbrev pub StandsFor : List ℕ → ℕ → Net → Type 0
  StandsFor ts i m = (m ≡ net_in i) ⊎ ((0 < get_or ts i 0) × Settled ts m × (stamp ts m < get_or ts i 0))

  pub record Inv (r : Rewriter) : Type 0 where
    pub sizes : length r.stamps ≡ length r.design.cells
    pub many : tickets ≤ length r.design.cells
    pub wide : length r.design.replaced ≡ tickets
    pub clocked : (i : ℕ) → get_or r.stamps i 0 ≤ r.clock
    pub sources : (i : ℕ) → i < tickets → is_source (cell_in cs₀ i) ≡ true → get_or r.stamps i 0 ≡ 0
    pub untouched : (i : ℕ) → i < tickets → get_or r.stamps i 0 ≡ 0 → cell_in r.design.cells i ≡ cell_in cs₀ i
    pub fed : (i : ℕ) → 0 < get_or r.stamps i 0 → All (Under r.stamps (get_or r.stamps i 0)) (visit (cell_in r.design.cells i))
    pub stands : (i : ℕ) (d : Net) → i < tickets → StandsFor r.stamps i (get_or r.design.replaced i d)

  -- the state after the items `before`
  pub record State (before : List ℕ) (r : Rewriter) : Type 0 where
    pub inv : Inv r
    pub known : (c : Cell) (m : Net) → seek r.cache c ≡ Some m → Settled r.stamps m × (has_effects c ≡ false)
    pub done : (i : ℕ) → i < tickets → has i before ≡ true → has_effects (cell_in cs₀ i) ≡ false → 0 < get_or r.stamps i 0
    pub waiting : (i : ℕ) → i < tickets → has i before ≡ false → get_or r.stamps i 0 ≡ 0
