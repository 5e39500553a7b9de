-- The bits of records that pass refusals 4 to 8 are ordered, and rewriting them never runs out of steps. Assumes nothing.
use mathlib.Core.Path.{◌≡◌, refl}
use mathlib.Core.Bool.{true}
use mathlib.Core.List.{List, [], ◌++◌, map}
use Prim.Native.Nat.{ℕ, ◌≤◌, ◌<◌}
use native.Mathlib.Omega.{arith}
use lib.ListN.{length, length-map}
use Rattle.std.specs.Prelude.{Ok}
use Rattle.cell.specs.declared.Record.{Record}
use Rattle.cell.specs.declared.Cell.{Cell}
use Rattle.cell.specs.Records.{cell_of}
use Rattle.loops.proofs.Rank.{rank}
use Rattle.refusals.specs.Refusals.{first_of}
use Rattle.checking.specs.Checking.{netlist_stages}
use Rattle.netlist.specs.Shape.{visit, comb_reads}
use Rattle.netlist.specs.Netlist.{cell_in}
use Rattle.order.specs.Orders.{bit_deps, topo_sort}
use Rattle.design.specs.Queue.{find_new_cell}
use Rattle.rewrite.specs.Rewriter.{Rewriter, begun}
use Rattle.rewrite.specs.Rewrite.{Run, ran, stuck, run_items, run, slots_of}
use Rattle.basics.specs.Lists.{has, All}
use Rattle.order_laws.specs.Ordered.{FedAfter, Each}
use Rattle.order_laws.specs.Members.{Drives, Wired}
use Rattle.order_laws.proofs.Bits.{topo_sort-each, topo_sort-fed, sources_last, deps-fall}
use Rattle.order_laws.proofs.Accepted.{passed-ranked, passed-wired}
use Rattle.basics.proofs.Members.{all-imp}
use Rattle.rewrite_laws.proofs.Running.{RunOk, part-ok, run_ok}

module _ (rs : List Record) (accepted : first_of (netlist_stages rs) ≡ Ok tt) where
  abbrev cs : List Cell
  cs = map cell_of rs

  inside : (s : ℕ) → s < length cs → s < length rs
  inside s l = omega (arith, l, length-map rs cell_of)

  pub accepted-wired : (s : ℕ) → s < length cs → All (Wired cs) (visit (cell_in cs s))
  accepted-wired s l = passed-wired rs accepted s (inside s l)

  abbrev ranks : ℕ → ℕ
  ranks = sources_last cs (rank rs)

  falls : (s d : ℕ) → has d (bit_deps cs s) ≡ true → ranks d < ranks s
  falls =
      deps-fall cs (rank rs) (λ s l.
      all-imp _ (Drives (λ d. rank rs d < rank rs s)) (λ m b x e. (b x e).1) (comb_reads (cell_in cs s)) (passed-ranked rs accepted s (inside s l)))

  -- the bit order of accepted records: each bit once, operands before readers
  pub accepted-each : Each (length cs) (topo_sort cs)
  accepted-each = topo_sort-each cs

  pub accepted-fed : FedAfter (length cs) (bit_deps cs) [] (topo_sort cs)
  accepted-fed = topo_sort-fed cs ranks falls

  -- rewriting accepted records: as long as every slot has a net of its own, the run is not stuck, and what is known of settled nets holds
  pub accepted-run : RunOk cs (topo_sort cs) (run find_new_cell cs)
  accepted-run = run_ok cs accepted-wired ranks falls

  pub accepted-part : (before rest : List ℕ) → topo_sort cs ≡ before ++ rest → RunOk cs before (run_items find_new_cell before (begun cs))
  accepted-part = part-ok cs accepted-wired ranks falls

  pub accepted-ran : slots_of (run find_new_cell cs) ≤ 1024 → (r : Rewriter) × (run find_new_cell cs ≡ ran r)
  accepted-ran few = go (run find_new_cell cs) refl accepted-run few
    where
      go : (x : Run) → run find_new_cell cs ≡ x → RunOk cs (topo_sort cs) x → slots_of x ≤ 1024 → (r : Rewriter) × (run find_new_cell cs ≡ ran r)
      go (ran r) e k l = (r, e)
      go (stuck r) e k l = absurd (k (omega (arith, l)))
