-- THE ONE VALUATION: where a rank falls along what is read within a tick, at most one valuation fits all cells, and rounds lead to it. Assumes nothing.
use mathlib.Core.Path.{◌≡◌, sym, ap, ◌∙◌}
use mathlib.Core.List.{List}
use Prim.Native.Nat.{ℕ, zero, suc, ◌<◌}
use native.Mathlib.Omega.{arith}
use lib.ListN.{length}
use Rattle.cell.specs.declared.Cell.{Cell}
use Rattle.netlist.specs.Shape.{comb_reads}
use Rattle.netlist.specs.Netlist.{cell_in}
use Rattle.basics.proofs.Members.{all-imp}
use Rattle.levels_laws.specs.Algebra.{Algebra, net_value, cell_value, Fits, Before, Ranked}
use Rattle.levels_laws.proofs.Operands.{value_same, cell_same}

module _ {A : Type 0} (alg : Algebra A) (cs : List Cell) (rank : ℕ → ℕ) (ranked : Ranked cs rank) where
  -- two valuations give a cell one value if they agree on the slots of lower rank
  pub cell-agrees : (u v : ℕ → A) (own : A) (s : ℕ) → s < length cs
      → ((x : ℕ) → x < length cs → rank x < rank s → u x ≡ v x)
      → cell_value alg (net_value alg u) own (cell_in cs s) ≡ cell_value alg (net_value alg v) own (cell_in cs s)
  unfolding Ranked
  cell-agrees u v own s l h =
      cell_same alg (net_value alg u) (net_value alg v) own (cell_in cs s)
      (all-imp (Before cs rank s) (λ n. net_value alg u n ≡ net_value alg v n)
      (λ n b. value_same alg u v n (λ x e. h x.0 (b x e).0 (b x e).1)) (comb_reads (cell_in cs s)) (ranked s l))

  module _ (own : ℕ → A) where
    same-below : (u v : ℕ → A) → Fits alg own cs u → Fits alg own cs v → (k s : ℕ) → rank s < k → s < length cs → u s ≡ v s
    unfolding Fits
    same-below u v f g zero s h l = absurd (omega arith)
    same-below u v f g (suc k) s h l =
        f s l ∙ cell-agrees u v (own s) s l (λ x m r. same-below u v f g k x (omega arith) m) ∙ sym (g s l)

    pub unique : (u v : ℕ → A) → Fits alg own cs u → Fits alg own cs v → (s : ℕ) → s < length cs → u s ≡ v s
    unique u v f g s l = same-below u v f g (suc (rank s)) s (omega arith) l

    -- valuations, each computed from the one before. After k rounds the slots of rank below k have their value
    module _ (w : ℕ → ℕ → A) (steps : (k s : ℕ) → s < length cs → w (suc k) s ≡ cell_value alg (net_value alg (w k)) (own s) (cell_in cs s)) where
      pub settled : (k s : ℕ) → rank s < k → s < length cs → w k s ≡ w (suc k) s
      settled zero s h l = absurd (omega arith)
      settled (suc k) s h l =
          steps k s l ∙ cell-agrees (w k) (w (suc k)) (own s) s l (λ x m r. settled k x (omega arith) m) ∙ sym (steps (suc k) s l)

      pub rounds-fit : (k : ℕ) → ((s : ℕ) → s < length cs → rank s < k) → Fits alg own cs (w k)
      unfolding Fits
      rounds-fit k low s l = settled k s (low s l) l ∙ steps k s l

-- the sources' values may be given in another way
pub fits-own : {A : Type 0} (alg : Algebra A) (cs : List Cell) (own own' v : ℕ → A) → ((s : ℕ) → s < length cs → own s ≡ own' s)
    → Fits alg own cs v → Fits alg own' cs v
unfolding Fits
fits-own alg cs own own' v h f s l = f s l ∙ ap (λ o. cell_value alg (net_value alg v) o (cell_in cs s)) (h s l)
