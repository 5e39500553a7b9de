-- Levels of a netlist against levels of its nets: where each slot's net has the level of its cell, or any if that is undefined, it has the slot's level
-- so too. By Kleene's tables, which are monotone, along the rank. Assumes nothing.
use mathlib.Core.Path.{◌≡◌, refl, sym, subst}
use mathlib.Core.List.{List}
use Prim.Native.Nat.{ℕ, zero, suc, ◌<◌}
use native.Mathlib.Omega.{arith}
use lib.ListN.{length}
use Rattle.logic.specs.declared.Trit.{Trit}
use Rattle.logic.specs.Levels.{Refines}
use Rattle.logic.proofs.Laws.{refines-refl, refines-trans, not-monotone, and-monotone, or-monotone, xor-monotone, mux-monotone}
use Rattle.value.specs.declared.Net.{Net}
use Rattle.value.specs.declared.Slot.{Slot}
use Rattle.value.specs.declared.ControlNet.{ControlNet}
use Rattle.value.specs.declared.ControlNet.TheVariants.{Pos, Neg}
use Rattle.value.specs.declared.Driver.{Driver}
use Rattle.value.specs.declared.Driver.TheVariants as driven
use Rattle.value.specs.Value.{driver, net}
use Rattle.value.proofs.Laws.{cell-driver}
use Rattle.cell.specs.declared.Cell.{Cell}
use Rattle.cell.specs.declared.Cell.TheVariants.{Input, Output, Buf, Not, And, Or, Xor, Mux, Aig}
use Rattle.netlist.specs.Shape.{visit, comb_reads}
use Rattle.netlist.specs.Netlist.{cell_in}
use Rattle.design.specs.Queue.{net_in}
use Rattle.basics.specs.Lists.{All}
use Rattle.basics.proofs.Members.{all-imp}
use Rattle.levels_laws.specs.Algebra.{net_value, control_value, cell_value, Fits, Before, Ranked}
use Rattle.levels_laws.specs.Instances.{kleene}
use Rattle.levels_laws.proofs.Operands.{value-const, value-slot}
use Rattle.rewrite_kept.specs.Outcomes.{Constants}

-- a cell's level is monotone in those of the nets that it reads within a tick
module _ (u w : Net → Trit) where
  control-monotone : (p : ControlNet) → Refines (w (net p)) (u (net p)) → Refines (control_value kleene w p) (control_value kleene u p)
  control-monotone (Pos n) h = h
  control-monotone (Neg n) h = not-monotone (u n) (w n) h

  pub cell-monotone : (own : Trit) (c : Cell) → All (λ n. Refines (w n) (u n)) (comb_reads c) → Refines (cell_value kleene w own c) (cell_value kleene u own c)
  unfolding All visit comb_reads cell_value
  cell-monotone own (Input l) h = refines-refl own
  cell-monotone own (Output a l) h = h.0
  cell-monotone own (Buf a) h = h.0
  cell-monotone own (Not a) h = not-monotone (u a) (w a) h.0
  cell-monotone own (And a b) h = and-monotone (u a) (w a) (u b) (w b) h.0 h.1.0
  cell-monotone own (Or a b) h = or-monotone (u a) (w a) (u b) (w b) h.0 h.1.0
  cell-monotone own (Xor a b) h = xor-monotone (u a) (w a) (u b) (w b) h.0 h.1.0
  cell-monotone own (Mux a b c) h = mux-monotone (u a) (w a) (u b) (w b) (u c) (w c) h.0 h.1.0 h.1.1.0
  cell-monotone own (Aig p q) h =
      and-monotone (control_value kleene u p) (control_value kleene w p) (control_value kleene u q) (control_value kleene w q) (control-monotone p h.0) (control-monotone q h.1.0)

module _ (cs : List Cell) (rank : ℕ → ℕ) (ranked : Ranked cs rank) (v : Net → Trit) (consts : Constants v) (own ls : ℕ → Trit) (fits : Fits kleene own cs ls)
    (each : (s : ℕ) → s < length cs → Refines (v (net_in s)) (cell_value kleene v (own s) (cell_in cs s))) where
  net-refined : (n : Net) → ((x : Slot) → driver n ≡ driven.Cell x → Refines (v (net_in x.0)) (ls x.0)) → Refines (v n) (net_value kleene ls n)
  net-refined n h = go (driver n) refl
    where
      go : (d : Driver) → driver n ≡ d → Refines (v n) (net_value kleene ls n)
      go (driven.Const t) e = rw (consts n t e, value-const kleene ls n t e) (refines-refl t)
      go (driven.Cell x) e = rw (value-slot kleene ls n x e) (subst (λ (m : Net). Refines (v m) (ls x.0)) (sym (cell-driver n x e)) (h x e))

  below : (k s : ℕ) → rank s < k → s < length cs → Refines (v (net_in s)) (ls s)
  unfolding Ranked Fits
  below zero s h l = absurd (omega arith)
  below (suc k) s h l =
      let c : Cell = cell_in cs s in
      subst (Refines (v (net_in s))) (sym (fits s l))
      (refines-trans (cell_value kleene (net_value kleene ls) (own s) c) (cell_value kleene v (own s) c) (v (net_in s))
      (cell-monotone (net_value kleene ls) v (own s) c
      (all-imp (Before cs rank s) (λ n. Refines (v n) (net_value kleene ls n))
      (λ n b. net-refined n (λ x e. let a : (x.0 < length cs) × (rank x.0 < rank s) = b x e in below k x.0 (omega arith) a.0))
      (comb_reads c) (ranked s l)))
      (each s l))

  pub slots-refined : (s : ℕ) → s < length cs → Refines (v (net_in s)) (ls s)
  slots-refined s l = below (suc (rank s)) s (omega arith) l
