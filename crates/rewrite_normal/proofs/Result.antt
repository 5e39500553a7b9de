-- Rewriting a sound netlist without and-inverters gives a normal one. Assumes nothing.
use mathlib.Core.Path.{sym, subst}
use Prim.Native.Nat.{ℕ, ◌≤◌}
use Rattle.netlist.specs.Netlist.{Netlist}
use Rattle.order.specs.Orders.{topo_sort}
use Rattle.design.specs.Queue.{find_new_cell}
use Rattle.compact.specs.Compact.{compact}
use Rattle.rewrite.specs.Rewriter.{Rewriter}
use Rattle.rewrite.specs.Rewrite.{run, slots_of, rewrite}
use Rattle.rewrite_laws.proofs.Running.{run_ok}
use Rattle.order_laws.proofs.Bits.{sources_last}
use Rattle.levels_laws.proofs.Ranks.{ranked-falls}
use Rattle.kept.proofs.Sound.{Sound, sound-wired}
use Rattle.kept.proofs.Compact.{compact-sound}
use Rattle.rewrite_sound.proofs.Operands.{rank as rank-of}
use Rattle.rewrite_sound.proofs.Applied.{applied_netlist}
use Rattle.rewrite_sound.proofs.Result.{Ran, ran-by, before-sound, rewrite-is, rewrite-ranks}
use Rattle.normal.proofs.Normal.{Normal}
use Rattle.merge_again.proofs.Reached.{compact-reached}
use Rattle.rewrite_normal.specs.Plain.{Plain}
use Rattle.rewrite_normal.proofs.Fresh.{State}
use Rattle.rewrite_normal.proofs.Run.{RunState, run-state}
use Rattle.rewrite_normal.proofs.Compacted.{compacted-still, compacted-distinct, compacted-single}
use Rattle.rewrite_normal.proofs.Left.{After}

-- the run over a sound netlist ends, within 1,024 slots
module _ (d : Netlist) (rank : ℕ → ℕ) (sound : Sound d rank) where
  pub sound-ran : slots_of (run find_new_cell d.cells) ≤ 1024 → Ran find_new_cell d.cells
  sound-ran few =
      ran-by find_new_cell d.cells (sound-wired d rank sound) (run_ok d.cells (sound-wired d rank sound) (sources_last d.cells rank) (ranked-falls d.cells rank sound.ranked)) few

-- the law
module _ (d : Netlist) (rank : ℕ → ℕ) (sound : Sound d rank) (plain : Plain d.cells) (x : Ran find_new_cell d.cells) where
  abbrev r : Rewriter
  r = x.last

  abbrev left : Netlist
  left = applied_netlist d.bits r

  last-state : State d.cells (topo_sort d.cells) r
  last-state =
      subst (RunState d.cells (topo_sort d.cells)) x.is (run-state d.cells rank sound.ranked (sound-wired d rank sound) plain) x.ended.few

  after : After
  after = record {
    ticket = d;
    rank₀ = rank;
    sound₀ = sound;
    plain = plain;
    last = r;
    state = last-state;
    rank = rank-of r;
    sound = before-sound find_new_cell d rank sound x;
  }

  compacted-normal : Normal (compact left) (rewrite-ranks find_new_cell d rank sound x)
  unfolding after
  compacted-normal = record {
    sound = compact-sound left (rank-of r) after.sound;
    single = compacted-single after;
    still = compacted-still after;
    distinct = compacted-distinct after;
    reached = compact-reached left (rank-of r) after.sound;
  }

  pub rewrite-normal : Normal (rewrite find_new_cell d) (rewrite-ranks find_new_cell d rank sound x)
  rewrite-normal =
      subst (λ (e : Netlist). Normal e (rewrite-ranks find_new_cell d rank sound x)) (sym (rewrite-is find_new_cell d rank sound x)) compacted-normal
