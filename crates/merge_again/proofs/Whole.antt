-- Compacting a netlist of which every slot is kept leaves it as it is; so compacting twice is compacting once. Assumes nothing.
use mathlib.Core.Path.{◌≡◌, refl, sym, ap, ap₂, ◌∙◌}
use mathlib.Core.Bool.{Bool, true, false, not}
use mathlib.Core.List.{List, map}
use Prim.Native.Nat.{ℕ, ◌≤◌, ◌<◌}
use native.Mathlib.Omega.{arith}
use lib.ListN.{length, get_or}
use Rattle.value.specs.declared.Net.{Net}
use Rattle.value.specs.declared.Driver.{Driver}
use Rattle.value.specs.declared.Driver.TheVariants as driven
use Rattle.value.specs.Value.{eq_net, driver}
use Rattle.value.proofs.Laws.{net-test, cell-driver}
use Rattle.cell.specs.declared.Cell.{Cell}
use Rattle.cell.specs.declared.Cell.TheVariants.{Input}
use Rattle.basics.proofs.Tables.{tabulate-length}
use Rattle.netlist.specs.Shape.{visit, visit_mut}
use Rattle.netlist.specs.Netlist.{Netlist, cell_in}
use Rattle.basics.specs.Lists.{slots, any_of, All}
use Rattle.design.specs.Queue.{net_in}
use Rattle.compact.specs.Compact.{keep, is_kept, kept_slots, count_kept, renumbered, net_map, compact}
use Rattle.basics.proofs.Members.{all-imp, all-tabulate, any_none, those-every}
use Rattle.basics.proofs.Indices.{map_same, map-slots}
use Rattle.kept.proofs.Sound.{Inside, Sound}
use Rattle.kept.proofs.Compact.{compact-sound}
use Rattle.normal.proofs.Alike.{visit-stays}
use Rattle.merge_again.proofs.Reached.{compact-reached}

-- a function that leaves each operand changes none
pub none-changed : (f : Net → Net) (c : Cell) → All (λ n. f n ≡ n) (visit c) → any_of (λ n. not (eq_net (f n) n)) (visit c) ≡ false
none-changed f c fixed =
    any_none (λ n. not (eq_net (f n) n)) (visit c)
    (all-imp (λ n. f n ≡ n) (λ n. not (eq_net (f n) n) ≡ false) (λ n e. ap not (net-test.is_true (f n) n e)) (visit c) fixed)

module _ (d : Netlist) (rank : ℕ → ℕ) (sound : Sound d rank) (whole : (s : ℕ) → s < length d.cells → is_kept d.bits (keep d) s ≡ true) where
  abbrev total : ℕ
  total = length d.cells

  slots_kept : (n : ℕ) → n ≤ total → kept_slots d.bits (keep d) n ≡ slots n
  unfolding kept_slots
  slots_kept n h =
      let kept : ℕ → Bool = is_kept d.bits (keep d) in
      those-every kept (slots n) (all-tabulate (λ s. kept s ≡ true) (λ s. s) n (λ s l. whole s (omega arith)))

  place_same : (s : ℕ) → s ≤ total → count_kept d.bits (keep d) s ≡ s
  unfolding count_kept
  place_same s h = ap length (slots_kept s h) ∙ tabulate-length (λ i. i) s

  net-same : (m : Net) → Inside d.cells m → net_map d.bits (keep d) m ≡ m
  unfolding net_map
  net-same m b = go (driver m) refl
    where
      go : (r : Driver) → driver m ≡ r → renumbered d.bits (keep d) m r ≡ m
      go (driven.Const t) e = refl
      go (driven.Cell x) e = ap net_in (place_same x.0 (let l : x.0 < total = b x e in omega arith)) ∙ sym (cell-driver m x e)

  cell_same : (s : ℕ) → s < total → visit_mut (net_map d.bits (keep d)) (cell_in d.cells s) ≡ cell_in d.cells s
  cell_same s l =
      let f : Net → Net = net_map d.bits (keep d) in
      let c : Cell = cell_in d.cells s in
      visit-stays f c (all-imp (Inside d.cells) (λ n. f n ≡ n) net-same (visit c) (sound.inside s l))

  pub compact-whole : compact d ≡ d
  unfolding compact
  compact-whole =
      let cell : ℕ → Cell = λ s. visit_mut (net_map d.bits (keep d)) (cell_in d.cells s) in
      let bit : ℕ → ℕ = λ s. get_or d.bits s 0 in
      let all : kept_slots d.bits (keep d) total ≡ slots total = slots_kept total (omega arith) in
      ap₂ (λ (cs : List Cell) (bs : List ℕ). record { cells = cs; bits = bs })
      (ap (map cell) all
      ∙ map_same cell (cell_in d.cells) (slots total) (all-tabulate (λ s. cell s ≡ cell_in d.cells s) (λ s. s) total cell_same)
      ∙ map-slots (Input 0) d.cells)
      (ap (map bit) all ∙ ap (λ (k : ℕ). map bit (slots k)) (sym sound.wide) ∙ map-slots 0 d.bits)

pub compact-again : (d : Netlist) (rank : ℕ → ℕ) → Sound d rank → compact (compact d) ≡ compact d
compact-again d rank sound = compact-whole (compact d) _ (compact-sound d rank sound) (compact-reached d rank sound)
