-- The result of rewriting a sound netlist, compacted, is sound. Inputs keep their number, and outputs have the levels that they have before
-- compacting. Assumes nothing.
use mathlib.Core.Path.{◌≡◌, refl, sym, ap, ◌∙◌, subst}
use mathlib.Core.List.{List}
use Prim.Native.Nat.{ℕ, ◌≤◌, ◌<◌}
use native.Mathlib.Omega.{arith}
use lib.ListN.{length}
use Rattle.cell.specs.declared.Cell.{Cell}
use Rattle.netlist.specs.Shape.{visit}
use Rattle.netlist.specs.Netlist.{Netlist, cell_in}
use Rattle.order.specs.Orders.{topo_sort}
use Rattle.design.specs.Queue.{applied}
use Rattle.compact.specs.Compact.{compact}
use Rattle.rewrite.specs.Rewriter.{Rewriter, Lookup}
use Rattle.rewrite.specs.Rewrite.{Run, ran, stuck, run, slots_of, compacted, rewrite}
use Rattle.levels.specs.Evaluate.{input_slots, output_levels}
use Rattle.basics.specs.Lists.{All}
use Rattle.order_laws.specs.Members.{Wired}
use Rattle.order_laws.proofs.Queue.{applied-length}
use Rattle.rewrite_laws.proofs.Running.{RunOk}
use Rattle.kept.proofs.Sound.{Sound}
use Rattle.kept.proofs.Compact.{old, compact-each, compact-shorter, compact-sound}
use Rattle.kept.proofs.Outputs.{compact-inputs, compact-keeps-levels}
use Rattle.kept.proofs.Bytes.{label_of, label_kept, Labelled}
use Rattle.rewrite_sound.proofs.Shaped.{ShapedRun, run-shaped}
use Rattle.rewrite_sound.proofs.Operands.{Ended, rank as rank-of}
use Rattle.rewrite_sound.proofs.Ports.{inputs-stay}
use Rattle.rewrite_sound.proofs.Applied.{applied_netlist, applied-sound, applied-labelled}

-- a run that ended within 1,024 slots
pub record Ran (look : Lookup) (cs₀ : List Cell) : Type 0 where
  pub last : Rewriter
  pub is : run look cs₀ ≡ ran last
  pub ended : Ended cs₀ last
  pub few : length last.design.cells ≤ 1024

-- for every look-up whose run keeps what is known of settled nets
pub ran-by : (look : Lookup) (cs₀ : List Cell) → ((s : ℕ) → s < length cs₀ → All (Wired cs₀) (visit (cell_in cs₀ s))) → RunOk cs₀ (topo_sort cs₀) (run look cs₀)
    → slots_of (run look cs₀) ≤ 1024 → Ran look cs₀
ran-by look cs₀ wired ok few = go (run look cs₀) refl ok (run-shaped cs₀ look) few
  where
    go : (x : Run) → run look cs₀ ≡ x → RunOk cs₀ (topo_sort cs₀) x → ShapedRun cs₀ look x → slots_of x ≤ 1024 → Ran look cs₀
    go (ran r) e k h l = record { last = r; is = e; ended = record { wired = wired; state = k (omega arith); shaped = h; few = omega arith }; few = l }
    go (stuck r) e k h l = absurd (k (omega arith))

module _ (look : Lookup) (d : Netlist) (rank : ℕ → ℕ) (sound : Sound d rank) (x : Ran look d.cells) where
  abbrev r : Rewriter
  r = x.last

  small : length r.design.cells ≤ 65536
  small = let l : length r.design.cells ≤ 1024 = x.few in omega arith

  abbrev before : Netlist
  before = applied_netlist d.bits r

  pub before-sound : Sound (applied_netlist d.bits x.last) (rank-of x.last)
  before-sound = applied-sound d rank sound r x.ended small

  pub rewrite-is : rewrite look d ≡ compact (applied_netlist d.bits x.last)
  unfolding rewrite
  rewrite-is = ap (compacted d.bits) x.is

  -- its slots have the ranks of those that they come from
  abbrev pub rewrite-ranks : ℕ → ℕ
  rewrite-ranks j = rank-of x.last (old (applied_netlist d.bits x.last) (rank-of x.last) before-sound j)

  pub rewrite-sound : Sound (rewrite look d) rewrite-ranks
  rewrite-sound = subst (λ (y : Netlist). Sound y rewrite-ranks) (sym rewrite-is) (compact-sound before (rank-of r) before-sound)

  pub rewrite-shorter : length (rewrite look d).cells ≤ length r.design.cells
  rewrite-shorter =
      let l : length (compact before).cells ≤ length (applied r.design) = compact-shorter before (rank-of r) before-sound in
      omega (arith, ap (λ (y : Netlist). length y.cells) rewrite-is, applied-length r.design)

  pub rewrite-labelled : Labelled d → Labelled (rewrite look d)
  rewrite-labelled h =
      subst Labelled (sym rewrite-is)
      (compact-each before (rank-of r) before-sound (λ c. label_of c < 4294967296) (λ f c l. subst (λ (k : ℕ). k < 4294967296) (sym (label_kept f c)) l)
      (applied-labelled d rank sound r x.ended small h))

  pub rewrite-inputs : length (input_slots (rewrite look d).cells) ≡ length (input_slots d.cells)
  rewrite-inputs =
      ap (λ (y : Netlist). length (input_slots y.cells)) rewrite-is ∙ compact-inputs before (rank-of r) before-sound
      ∙ ap length (inputs-stay d.cells r x.ended)

  pub rewrite-levels : (stimulus : List ℕ) → output_levels (rewrite look d).cells stimulus ≡ output_levels (applied r.design) stimulus
  rewrite-levels stimulus = ap (λ (y : Netlist). output_levels y.cells stimulus) rewrite-is ∙ compact-keeps-levels before (rank-of r) before-sound stimulus
