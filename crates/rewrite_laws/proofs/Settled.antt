-- Settled nets: constants, sources, and nets that are finished. Their stamps change no more, and a look-up of one gives settled operands with
-- lower stamps. So the Rust's look-up is one that the falling number falls for. Assumes nothing.
use mathlib.Core.Path.{◌≡◌, refl, sym, ap, ◌∙◌, subst}
use mathlib.Core.Bool.{Bool, true, false, cond}
use mathlib.Core.List.{List}
use mathlib.Core.Logic.{inl, inr}
use Prim.Native.Nat.{ℕ, ◌≤◌, ◌<◌}
use native.Mathlib.Omega.{arith}
use lib.Dec.{eqb, ltb}
use lib.ListN.{length, get_or, get_or-eq_default}
use borrow.Author.Tests.{eqb-false, ltb-true, ltb-false}
use Rattle.logic.specs.declared.Trit.{Trit}
use Rattle.logic.specs.declared.Trit.TheVariants.{Undef, Zero, One}
use Rattle.value.specs.declared.Net.{Net}
use Rattle.value.specs.declared.Slot.{Slot}
use Rattle.value.specs.declared.Driver.{Driver}
use Rattle.value.specs.declared.Driver.TheVariants as driven
use Rattle.value.specs.Value.{driver, UNDEF, ZERO, ONE, from_trit}
use Rattle.value.proofs.Laws.{cell-driver, driver-const}
use Rattle.cell.specs.declared.Cell.{Cell}
use Rattle.netlist.specs.Shape.{visit}
use Rattle.netlist.specs.Netlist.{cell_in}
use Rattle.netlist.proofs.Sources.{source-reads-nothing}
use Rattle.std.specs.Prelude.{None, Some}
use Rattle.design.specs.Queue.{driven_to, map_net_new, source_in, find_new_cell, Source}
use Rattle.rewrite.specs.Rewriter.{Rewriter, stamp_in, stamp, find_cell}
use Rattle.basics.specs.Lists.{All}
use Rattle.order_laws.specs.Members.{Drives}
use Rattle.basics.proofs.Truth.{either}
use Rattle.basics.proofs.Members.{all-imp}
use Rattle.order_laws.proofs.Operands.{drives-none, none_read}
use Rattle.order_laws.proofs.Queue.{mapped-keeps, replacement}
use Rattle.basics.proofs.Indices.{get_d-inside}
use Rattle.aig_laws.specs.Reads.{SourceNets}
use Rattle.rewrite_laws.specs.Stamps.{SourceBefore, Stamped}
use Rattle.rewrite_laws.specs.State.{SettledSlot, Settled, Under, StandsFor, Inv}

-- the number of slots up to which each has a net of its own
abbrev pub limit : ℕ
limit = 4294967293

pub stamped-inside : (ts : List ℕ) (i : ℕ) → 0 < get_or ts i 0 → i < length ts
stamped-inside ts i h = get_d-inside ts i 0 (λ e. omega (arith, h, e))

-- a net's stamp is that of the slot that drives it
pub stamp-driven : (ts : List ℕ) (m : Net) (s : Slot) → driver m ≡ driven.Cell s → stamp ts m ≡ get_or ts s.0 0
unfolding stamp
stamp-driven ts m s e = ap (stamp_in ts) e

module _ (cs₀ : List Cell) where
  pub settled-constants : (ts : List ℕ) → Settled cs₀ ts UNDEF × Settled cs₀ ts ZERO × Settled cs₀ ts ONE
  unfolding Settled
  settled-constants ts =
      let none : (t : Trit) → Drives (SettledSlot cs₀ ts) (from_trit t) = λ t. drives-none (SettledSlot cs₀ ts) (from_trit t) t (driver-const t) in
      (none Undef, none Zero, none One)

  module _ (r : Rewriter) (inv : Inv cs₀ r) where
    abbrev ts : List ℕ
    ts = r.stamps

    abbrev rs : List Net
    rs = r.design.replaced

    -- one replacement, and all of them
    abbrev Follows : Net → Net → Type 0
    Follows m m' = Settled cs₀ ts m' × (stamp ts m' ≤ stamp ts m)

    one-step : (m : Net) → Settled cs₀ ts m → Follows m (replacement rs m)
    one-step m h = go (driver m) refl
      where
        same : (m' : Net) → m' ≡ m → Follows m m'
        same m' q = subst (Follows m) (sym q) (h, omega arith)

        slot : (s : Slot) → driver m ≡ driven.Cell s → StandsFor cs₀ ts s.0 (get_or rs s.0 m) → Follows m (get_or rs s.0 m)
        slot s e (inl f) = same (get_or rs s.0 m) (f ∙ sym (cell-driver m s e))
        slot s e (inr f) = (f.1, omega (arith, f.2, stamp-driven ts m s e))

        go : (x : Driver) → driver m ≡ x → Follows m (driven_to rs m x)
        go (driven.Const t) e = same m refl
        go (driven.Cell s) e = either (ltb s.0 (length cs₀))
            (λ l. slot s e (inv.stands s.0 m (ltb-true s.0 (length cs₀) l)))
            (λ l. same (get_or rs s.0 m) (get_or-eq_default rs m {n = s.0} (omega (arith, inv.wide, ltb-false s.0 (length cs₀) l))))

    follows : (m : Net) → Settled cs₀ ts m → Follows m (map_net_new rs m)
    follows m h =
        mapped-keeps rs (Follows m) (λ n f. let g : Follows n (replacement rs n) = one-step n f.0 in (g.0, omega (arith, f.1, g.1))) m (h, omega arith)

    pub map-settled : (m : Net) → Settled cs₀ ts m → Settled cs₀ ts (map_net_new rs m)
    map-settled m h = (follows m h).0

    pub map-lower : (m : Net) → Settled cs₀ ts m → stamp ts (map_net_new rs m) ≤ stamp ts m
    map-lower m h = (follows m h).1

    -- what a look-up of a settled net gives
    pub look-good : (m : Net) → Settled cs₀ ts m → SourceNets (Under cs₀ ts (stamp ts m)) (find_new_cell r.design m)
    unfolding find_new_cell Settled
    look-good m h = by (map_net_new rs m) (follows m h) (driver (map_net_new rs m)) refl
      where
        slot : (s : ℕ) → get_or ts s 0 ≤ stamp ts m → SettledSlot cs₀ ts s → All (Under cs₀ ts (stamp ts m)) (visit (cell_in r.design.cells s))
        slot s l (inl i) =
            rw (inv.untouched s i.0 (inv.sources s i.0 i.1)) (none_read (Under cs₀ ts (stamp ts m)) (cell_in cs₀ s) (source-reads-nothing (cell_in cs₀ s) i.1))
        slot s l (inr p) =
            all-imp (Under cs₀ ts (get_or ts s 0)) (Under cs₀ ts (stamp ts m)) (λ o u. (u.0, omega (arith, u.1, l))) (visit (cell_in r.design.cells s)) (inv.fed s p)

        by : (y : Net) → Follows m y → (x : Driver) → driver y ≡ x → SourceNets (Under cs₀ ts (stamp ts m)) (source_in r.design.cells x)
        by y f (driven.Const t) e = tt
        by y f (driven.Cell s) e = slot s.0 (omega (arith, f.1, stamp-driven ts y s e)) (f.0 s e)

    -- a net with a stamp is settled
    pub stamped-settled : (m : Net) → 0 < stamp ts m → Settled cs₀ ts m
    unfolding Settled
    stamped-settled m h s e = inr (omega (arith, h, stamp-driven ts m s e))

    source-map : (P Q : Net → Type 0) → ((n : Net) → P n → Q n) → (src : Source) → SourceNets P src → SourceNets Q src
    source-map P Q f None h = tt
    source-map P Q f (Some c) h = all-imp P Q f (visit c) h

    -- the law: the Rust's look-up gives operands stamped below the net
    pub stamped : Stamped find_new_cell r
    unfolding find_cell
    stamped m = go (eqb (stamp ts m) 0) refl
      where
        go : (b : Bool) → eqb (stamp ts m) 0 ≡ b → SourceBefore ts (stamp ts m) (cond b None (find_new_cell r.design m))
        go true e = tt
        go false e =
            source-map (Under cs₀ ts (stamp ts m)) (λ n. stamp ts n < stamp ts m) (λ n u. u.1) (find_new_cell r.design m)
            (look-good m (stamped-settled m (omega (arith, eqb-false (stamp ts m) 0 e))))

    pub found-settled : (m : Net) → Settled cs₀ ts m → SourceNets (Settled cs₀ ts) (find_cell find_new_cell r m)
    unfolding find_cell
    found-settled m h = go (eqb (stamp ts m) 0)
      where
        go : (b : Bool) → SourceNets (Settled cs₀ ts) (cond b None (find_new_cell r.design m))
        go true = tt
        go false = source-map (Under cs₀ ts (stamp ts m)) (Settled cs₀ ts) (λ n u. u.0) (find_new_cell r.design m) (look-good m h)
