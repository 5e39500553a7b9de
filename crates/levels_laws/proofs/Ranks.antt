-- A rank that falls along what is read within a tick can be had below the number of slots. Assumes nothing.
use mathlib.Core.Path.{◌≡◌, refl, sym, ap, ◌∙◌}
use mathlib.Core.Bool.{true}
use mathlib.Core.List.{List, map}
use Prim.Native.Nat.{ℕ, ◌-◌, ◌<◌, ◌≤◌}
use native.Mathlib.Omega.{arith}
use lib.ListN.{length, length-map}
use Rattle.cell.specs.declared.Record.{Record}
use Rattle.cell.specs.declared.Cell.{Cell}
use Rattle.cell.specs.declared.Cell.TheVariants.{Input}
use Rattle.cell.specs.Operands.{edge_at}
use Rattle.cell.specs.Records.{record_of, record_in, cell_record}
use Rattle.loops.specs.Reach.{OnLoop, reaches, on_loop}
use Rattle.loops.specs.inner.Counted.{counted}
use Rattle.loops.proofs.Counting.{counted-le, counted-less}
use Rattle.loops.proofs.Edges.{edge-below}
use Rattle.loops.proofs.Reach.{on_loop-false}
use Rattle.loops.proofs.Rank.{rank, rank_falls, falls-no-loop}
use Rattle.netlist.specs.Netlist.{cell_in}
use Rattle.netlist.specs.Shape.{comb_reads}
use Rattle.order.specs.Orders.{bit_deps}
use Rattle.basics.specs.Lists.{has}
use Rattle.order_laws.specs.Members.{Drives}
use Rattle.basics.proofs.Indices.{get_d-mapped}
use Rattle.order_laws.proofs.Edges.{edges-have, have-edges}
use Rattle.basics.proofs.Members.{all-imp}
use Rattle.order_laws.proofs.Bits.{sources_last, deps-fall}
use Rattle.levels_laws.specs.Algebra.{Ranked, Before}

-- such a rank, with the sources last, falls along the bits that a bit depends on
pub ranked-falls : (cs : List Cell) (rank : ℕ → ℕ) → Ranked cs rank → (s d : ℕ) → has d (bit_deps cs s) ≡ true → sources_last cs rank d < sources_last cs rank s
unfolding Ranked
ranked-falls cs rank ranked =
    deps-fall cs rank (λ s l. all-imp (Before cs rank s) (Drives (λ d. rank d < rank s)) (λ n b x e. (b x e).1) (comb_reads (cell_in cs s)) (ranked s l))

-- records of cells, whatever their bits, have no loop where there is such a rank
pub ranked-no-loop : (cs : List Cell) (rank : ℕ → ℕ) → Ranked cs rank → (rs : List Record) (bit : ℕ → ℕ) → length rs ≡ length cs
    → ((s : ℕ) → s < length cs → record_in rs s ≡ cell_record (bit s) (cell_in cs s)) → (s : ℕ) → OnLoop rs s → ⊥
unfolding Ranked
ranked-no-loop cs rank ranked rs bit long is =
    falls-no-loop rs rank λ s f x e.
    let l : s < length cs = omega (arith, long, edge-below rs s f x e) in
    (edges-have (λ y. (y < length cs) × (rank y < rank s)) (bit s) (cell_in cs s) (ranked s l) f x (ap (λ (r : Record). edge_at r f) (sym (is s l)) ∙ e)).1

module _ (cs : List Cell) where
  abbrev records : List Record
  records = map (cell_record 0) cs

  records-in : (s : ℕ) → s < length cs → record_in records s ≡ cell_record 0 (cell_in cs s)
  records-in s l = get_d-mapped (cell_record 0) cs s (Input 0) (record_of 0 0 0 0 0 0) l

  -- how many slots do not reach s, without s itself
  unfoldable pub rank_in : ℕ → ℕ
  rank_in s = rank records s - 1

  pub rank-low : (s : ℕ) → s < length cs → rank_in s < length cs
  unfolding rank_in rank
  rank-low s l = let e : length records ≡ length cs = length-map cs (cell_record 0) in omega arith

  module _ (g : ℕ → ℕ) (ranked : Ranked cs g) where
    no_loop : (s : ℕ) → OnLoop records s → ⊥
    no_loop = ranked-no-loop cs g ranked records (λ s. 0) (length-map cs (cell_record 0)) records-in

    rank-above : (s : ℕ) → s < length cs → 1 ≤ rank records s
    unfolding rank on_loop
    rank-above s l =
        let e : length records ≡ length cs = length-map cs (cell_record 0) in
        let h : counted (λ i. reaches records i s) (length records) < counted (λ i. true) (length records) =
        counted-less (λ i. reaches records i s) (λ i. true) (length records) (λ i k t. refl) s (omega arith) (on_loop-false records s (no_loop s)) refl in
        omega (arith, counted-le (λ i. true) (length records))

    -- a netlist with a rank has one below the number of its slots
    pub rank_in-ranked : Ranked cs rank_in
    unfolding Ranked rank_in
    rank_in-ranked s l =
        have-edges (λ y. (y < length cs) × (rank_in y < rank_in s)) 0 (cell_in cs s) λ f x e.
        let inside : x.0 < length cs = (edges-have (λ y. (y < length cs) × (g y < g s)) 0 (cell_in cs s) (ranked s l) f x e).0 in
        let falls : rank records x.0 < rank records s =
        rank_falls records no_loop s f x (ap (λ (r : Record). edge_at r f) (records-in s l) ∙ e) in
        let above : 1 ≤ rank records x.0 = rank-above x.0 inside in
        (inside, omega arith)
