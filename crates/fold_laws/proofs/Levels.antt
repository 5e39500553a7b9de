-- Levels folded in the bit order are the levels of the netlist, where a rank falls along what is read within a tick. Assumes nothing.
use mathlib.Core.Path.{◌≡◌, refl, sym, ap, ◌∙◌}
use mathlib.Core.Bool.{true}
use mathlib.Core.Logic.{◌⊎◌, inl, inr}
use mathlib.Core.List.{List, [], map}
use Prim.Native.Nat.{ℕ, zero, suc, ◌<◌}
use native.Mathlib.Omega.{arith}
use lib.ListN.{length, get_or, length-replicate}
use lib.Seq.{ext_get_or}
use Rattle.logic.specs.declared.Trit.{Trit}
use Rattle.logic.specs.declared.Trit.TheVariants.{Undef}
use Rattle.value.specs.declared.Net.{Net}
use Rattle.cell.specs.declared.Cell.{Cell}
use Rattle.basics.proofs.Tables.{tabulate-length}
use Rattle.netlist.specs.Shape.{is_source, comb_reads}
use Rattle.netlist.specs.Netlist.{cell_in}
use Rattle.order.specs.Orders.{bit_deps, topo_sort}
use Rattle.levels.specs.Evaluate.{net_level, cell_level, round_of, levels_in, levels, given_levels, output_slots, output_levels}
use Rattle.levels.specs.Fold.{slot_level, bit_levels, bit_outputs}
use Rattle.levels.proofs.Given.{given-length}
use Rattle.basics.specs.Lists.{has, All}
use Rattle.order_laws.specs.Members.{Drives}
use Rattle.order_laws.proofs.Bits.{topo_sort-each, topo_sort-fed, reads-deps, sources_last}
use Rattle.basics.proofs.Truth.{either}
use Rattle.basics.proofs.Members.{all-imp, all_both}
use Rattle.order_laws.proofs.Operands.{comb-all}
use Rattle.levels_laws.specs.Algebra.{Ranked}
use Rattle.levels_laws.specs.Instances.{kleene, LevelsFit}
use Rattle.levels_laws.proofs.Operands.{value_same, cell_same, source-own}
use Rattle.levels_laws.proofs.Levels.{net-level, cell-level, levels-only}
use Rattle.levels_laws.proofs.Ranks.{ranked-falls}
use Rattle.fold_laws.proofs.Fold.{fold-length, solved}

-- a source keeps its level, and a cell's level follows from those of the slots that it reads within a tick
level-own : (v : Net → Trit) (own : Trit) (c : Cell) → is_source c ≡ true → cell_level v own c ≡ own
level-own v own c e = cell-level v v (λ n. refl) own c ∙ source-own kleene v own c e

level-same : (u v : Net → Trit) (own : Trit) (c : Cell) → All (λ n. u n ≡ v n) (comb_reads c) → cell_level u own c ≡ cell_level v own c
level-same u v own c h = cell-level u u (λ n. refl) own c ∙ cell_same kleene u v own c h ∙ sym (cell-level v v (λ n. refl) own c)

net-same : (vs ws : List Trit) (n : Net) → Drives (λ x. get_or vs x Undef ≡ get_or ws x Undef) n → net_level vs n ≡ net_level ws n
net-same vs ws n h = net-level vs n ∙ value_same kleene (λ s. get_or vs s Undef) (λ s. get_or ws s Undef) n h ∙ sym (net-level ws n)

in-length : (k : ℕ) (cs : List Cell) (given : List Trit) → length (levels_in k cs given) ≡ length cs
unfolding levels_in round_of
in-length zero cs given = length-replicate (length cs) Undef
in-length (suc k) cs given = tabulate-length (λ s. cell_level (net_level (levels_in k cs given)) (get_or given s Undef) (cell_in cs s)) (length cs)

levels-length : (cs : List Cell) (given : List Trit) → length (levels cs given) ≡ length cs
unfolding levels
levels-length cs given = in-length (length cs) cs given

module _ (cs : List Cell) (rank : ℕ → ℕ) (ranked : Ranked cs rank) where
  abbrev level_from : Trit → List Trit → ℕ → Trit
  level_from own ls s = cell_level (net_level ls) own (cell_in cs s)

  local : (own : Trit) (vs ws : List Trit) (s : ℕ) → s < length cs
      → ((x : ℕ) → x < length cs → (has x (bit_deps cs s) ≡ true) ⊎ (is_source (cell_in cs x) ≡ true) → get_or vs x Undef ≡ get_or ws x Undef)
      → level_from own vs s ≡ level_from own ws s
  unfolding Ranked
  local own vs ws s l h =
      level-same (net_level vs) (net_level ws) own (cell_in cs s)
      (all-imp _ (λ n. net_level vs n ≡ net_level ws n)
      (λ n b. net-same vs ws n (λ x e. h x.0 (b.0 x e).0 (either (is_source (cell_in cs x.0)) inr (λ i. inl (b.1 x e i)))))
      (comb_reads (cell_in cs s)) (all_both _ _ (comb_reads (cell_in cs s)) (ranked s l) (comb-all _ (cell_in cs s) (reads-deps cs s))))

  module _ (given : List Trit) (wide : length given ≡ length cs) where
    bits_fit : LevelsFit cs given (bit_levels cs given)
    unfolding LevelsFit bit_levels slot_level
    bits_fit s l =
        solved Undef level_from (length cs) (bit_deps cs) (λ x. is_source (cell_in cs x)) (λ own vs x e. level-own (net_level vs) own (cell_in cs x) e) local
        [] (topo_sort cs) given (topo_sort-each cs).once (topo_sort-fed cs (sources_last cs rank) (ranked-falls cs rank ranked)) wide s l ((topo_sort-each cs).all s l)

    bits-length : length (bit_levels cs given) ≡ length cs
    unfolding bit_levels slot_level
    bits-length =
        fold-length Undef level_from (length cs) (bit_deps cs) (λ x. is_source (cell_in cs x)) (λ own vs x e. level-own (net_level vs) own (cell_in cs x) e) local
        (topo_sort cs) given ∙ wide

    pub bit-levels : bit_levels cs given ≡ levels cs given
    bit-levels =
        ext_get_or Undef (bit_levels cs given) (levels cs given) (bits-length ∙ sym (levels-length cs given))
        (λ s h. levels-only cs rank ranked given (bit_levels cs given) bits_fit s (let e : length (bit_levels cs given) ≡ length cs = bits-length in omega arith))

  pub bit-outputs : (bs : List ℕ) → bit_outputs cs bs ≡ output_levels cs bs
  unfolding bit_outputs output_levels
  bit-outputs bs = ap (λ (ls : List Trit). map (λ s. get_or ls s Undef) (output_slots cs)) (bit-levels (given_levels cs bs) (given-length cs bs))
