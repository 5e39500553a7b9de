-- The whole run over a normal netlist: it is not stuck, and takes at most twice as many slots. Assumes nothing.
use mathlib.Core.Path.{◌≡◌, refl, sym, ap, ◌∙◌}
use mathlib.Core.Bool.{false≢true}
use mathlib.Core.List.{List, []}
use mathlib.Core.Logic.{inl}
use Prim.Native.Nat.{ℕ, ◌+◌, ◌≤◌, ◌<◌}
use native.Mathlib.Omega.{arith}
use lib.ListN.{length}
use Rattle.cell.specs.declared.Cell.{Cell}
use Rattle.basics.proofs.Tables.{tabulate-length, tabulate-at}
use Rattle.netlist.specs.Shape.{visit, visit_mut}
use Rattle.netlist.specs.Netlist.{Netlist, cell_in}
use Rattle.basics.specs.Lists.{those, has, All}
use Rattle.order.specs.Orders.{topo_sort}
use Rattle.design.specs.Queue.{net_in, unchanged, find_new_cell}
use Rattle.rewrite.specs.Rewriter.{begun}
use Rattle.rewrite.specs.Rewrite.{Run, ran, stuck, run, slots_of}
use Rattle.order_laws.proofs.Bits.{topo_sort-fed, sources_last}
use Rattle.basics.proofs.Members.{all-imp}
use Rattle.rewrite_laws.proofs.Items.{run_along}
use Rattle.levels_laws.proofs.Ranks.{ranked-falls}
use Rattle.kept.proofs.Sound.{Inside}
use Rattle.normal.proofs.Normal.{Normal}
use Rattle.normal.proofs.Alike.{visit-stays}
use Rattle.rewrite_again.proofs.Origin.{origin-old, back-old}
use Rattle.rewrite_again.proofs.State.{g, few, made-few}
use Rattle.rewrite_again.proofs.Item.{St, Ran, item_ok}

module _ (d : Netlist) (rank : ℕ → ℕ) (normal : Normal d rank) where
  abbrev C : List Cell
  C = d.cells

  -- the netlist's own cells by its own slots
  own-cell : (s : ℕ) → s < length C → visit_mut (g d rank normal) (cell_in C s) ≡ cell_in C s
  own-cell s l =
      visit-stays (g d rank normal) (cell_in C s)
      (all-imp (Inside C) (λ n. g d rank normal n ≡ n) (λ n h. back-old C (few d rank normal) n h) (visit (cell_in C s)) (normal.sound.inside s l))

  begun-state : St d rank normal [] (begun C)
  unfolding unchanged those has All
  begun-state = record {
    size = omega arith;
    wide = tabulate-length net_in (length C);
    stands = λ i x l. record {
      slot = i;
      is = tabulate-at net_in (length C) x i l;
      from = origin-old C i l;
      moved = λ e h. absurd (false≢true h);
      stays = λ e. refl;
    };
    added = λ m h l. absurd (omega (arith, h, l));
    likes = λ m l. inl (own-cell m l ∙ ap (cell_in C) (sym (origin-old C m l)));
    known = tt;
  }

  pub run_ok : Ran d rank normal (topo_sort C) (run find_new_cell C)
  run_ok =
      run_along C (St d rank normal) (λ r. ⊥) find_new_cell (topo_sort-fed C (sources_last C rank) (ranked-falls C rank normal.sound.ranked))
      (λ before s n r st. item_ok d rank normal before s n.small n.new r st n.later n.is) begun-state

  -- so refusal 9 cannot come for at most 512 records
  pub run-slots : slots_of (run find_new_cell C) ≤ length C + length C
  run-slots = go (run find_new_cell C) run_ok
    where
      go : (x : Run) → Ran d rank normal (topo_sort C) x → slots_of x ≤ length C + length C
      go (ran r) st = omega (arith, st.size, made-few d rank normal)
      go (stuck r) st = absurd st
