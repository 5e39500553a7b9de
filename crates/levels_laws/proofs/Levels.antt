-- `levels` is the one valuation by Kleene's tables; and a netlist with a rank has sizes, which are a rank. Assumes nothing.
use mathlib.Core.Path.{◌≡◌, refl, sym, ap, ap₂, ◌∙◌}
use mathlib.Core.List.{List}
use Prim.Native.Nat.{ℕ, suc, ◌<◌, ◌≤◌}
use native.Mathlib.Omega.{arith}
use lib.ListN.{length, get_or}
use Rattle.logic.specs.declared.Trit.{Trit}
use Rattle.logic.specs.declared.Trit.TheVariants.{Undef}
use Rattle.value.specs.declared.Net.{Net}
use Rattle.value.specs.declared.ControlNet.{ControlNet}
use Rattle.value.specs.declared.ControlNet.TheVariants.{Pos, Neg}
use Rattle.value.specs.declared.Driver.{Driver}
use Rattle.value.specs.declared.Driver.TheVariants as driven
use Rattle.value.specs.Value.{driver, net}
use Rattle.cell.specs.declared.Cell.{Cell}
use Rattle.cell.specs.declared.Cell.TheVariants.{Input, Output, Buf, Not, And, Or, Xor, Mux, Aig}
use Rattle.basics.proofs.Tables.{tabulate-at}
use Rattle.netlist.specs.Shape.{visit, comb_reads}
use Rattle.netlist.specs.Netlist.{cell_in}
use Rattle.levels.specs.Evaluate.{net_level, driven_level, control_level, cell_level, round_of, levels_in, levels}
use Rattle.basics.specs.Lists.{All}
use Rattle.levels_laws.specs.Algebra.{net_value, driven_value, control_value, cell_value, Fits, Ranked}
use Rattle.levels_laws.specs.Instances.{kleene, size, sizes_in, LevelsFit}
use Rattle.levels_laws.proofs.Valuations.{unique, rounds-fit}
use Rattle.levels_laws.proofs.Ranks.{rank_in, rank-low, rank_in-ranked}

-- levels by the tables are values in the algebra of levels
driven-level : (ls : List Trit) (d : Driver) → driven_level ls d ≡ driven_value kleene (λ s. get_or ls s Undef) d
driven-level ls (driven.Const t) = refl
driven-level ls (driven.Cell s) = refl

pub net-level : (ls : List Trit) (n : Net) → net_level ls n ≡ net_value kleene (λ s. get_or ls s Undef) n
unfolding net_level net_value
net-level ls n = driven-level ls (driver n)

control-level : (u v : Net → Trit) → ((n : Net) → u n ≡ v n) → (p : ControlNet) → control_level u p ≡ control_value kleene v p
control-level u v h (Pos n) = h n
control-level u v h (Neg n) = ap kleene.not (h n)

pub cell-level : (u v : Net → Trit) → ((n : Net) → u n ≡ v n) → (own : Trit) (c : Cell) → cell_level u own c ≡ cell_value kleene v own c
unfolding cell_level cell_value
cell-level u v h own (Input l) = refl
cell-level u v h own (Output a l) = h a
cell-level u v h own (Buf a) = h a
cell-level u v h own (Not a) = ap kleene.not (h a)
cell-level u v h own (And a b) = ap₂ kleene.and (h a) (h b)
cell-level u v h own (Or a b) = ap₂ kleene.or (h a) (h b)
cell-level u v h own (Xor a b) = ap₂ kleene.xor (h a) (h b)
cell-level u v h own (Mux a b c) = ap₂ (λ (x y : Trit). kleene.mux x y (u c)) (h a) (h b) ∙ ap (kleene.mux (v a) (v b)) (h c)
cell-level u v h own (Aig p q) = ap₂ kleene.and (control-level u v h p) (control-level u v h q)

module _ (cs : List Cell) (rank : ℕ → ℕ) (ranked : Ranked cs rank) where
  module _ (given : List Trit) where
    level-steps : (k s : ℕ) → s < length cs
        → get_or (levels_in (suc k) cs given) s Undef
        ≡ cell_value kleene (net_value kleene (λ x. get_or (levels_in k cs given) x Undef)) (get_or given s Undef) (cell_in cs s)
    unfolding levels_in round_of
    level-steps k s l =
        let ls = levels_in k cs given in
        tabulate-at (λ x. cell_level (net_level ls) (get_or given x Undef) (cell_in cs x)) (length cs) Undef s l
        ∙ cell-level (net_level ls) (net_value kleene (λ x. get_or ls x Undef)) (net-level ls) (get_or given s Undef) (cell_in cs s)

    pub levels-fit : Fits kleene (λ s. get_or given s Undef) cs (λ s. get_or (levels cs given) s Undef)
    unfolding levels
    levels-fit =
        rounds-fit kleene cs (rank_in cs) (rank_in-ranked cs rank ranked) (λ s. get_or given s Undef) (λ k s. get_or (levels_in k cs given) s Undef)
        level-steps (length cs) (rank-low cs)

    -- the same in the words of the definition; and no other levels fit
    pub levels-are : LevelsFit cs given (levels cs given)
    unfolding LevelsFit Fits
    levels-are s l =
        levels-fit s l
        ∙ sym (cell-level (net_level (levels cs given)) _ (net-level (levels cs given)) (get_or given s Undef) (cell_in cs s))

    pub levels-only : (ls : List Trit) → LevelsFit cs given ls → (s : ℕ) → s < length cs → get_or ls s Undef ≡ get_or (levels cs given) s Undef
    unfolding LevelsFit Fits
    levels-only ls fit =
        unique kleene cs rank ranked (λ s. get_or given s Undef) (λ s. get_or ls s Undef) (λ s. get_or (levels cs given) s Undef)
        (λ s l. fit s l ∙ cell-level (net_level ls) _ (net-level ls) (get_or given s Undef) (cell_in cs s)) levels-fit

  -- sizes
  pub sizes-fit : Fits size (λ s. 0) cs (sizes_in (length cs) cs)
  unfolding sizes_in
  sizes-fit = rounds-fit size cs (rank_in cs) (rank_in-ranked cs rank ranked) (λ s. 0) (λ k. sizes_in k cs) (λ k s l. refl) (length cs) (rank-low cs)

control-grows : (v : Net → ℕ) (p : ControlNet) → v (net p) ≤ control_value size v p
control-grows v (Pos n) = omega arith
control-grows v (Neg n) = omega arith

-- a cell's size is above those of the nets that it reads within a tick
pub size-grows : (v : Net → ℕ) (own : ℕ) (c : Cell) → All (λ n. v n < cell_value size v own c) (comb_reads c)
unfolding All visit comb_reads cell_value
size-grows v own (Input l) = tt
size-grows v own (Output a l) = (omega arith, tt)
size-grows v own (Buf a) = (omega arith, tt)
size-grows v own (Not a) = (omega arith, tt)
size-grows v own (And a b) = (omega arith, (omega arith, tt))
size-grows v own (Or a b) = (omega arith, (omega arith, tt))
size-grows v own (Xor a b) = (omega arith, (omega arith, tt))
size-grows v own (Mux a b c) = (omega arith, (omega arith, (omega arith, tt)))
size-grows v own (Aig p q) = (omega (arith, control-grows v p), (omega (arith, control-grows v q), tt))
