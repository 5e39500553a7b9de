-- At the end of a run, after the change queue is applied: every operand of every slot is a net that no replacement leads on from, and is stamped
-- below the slot. Assumes nothing.
use mathlib.Core.Path.{◌≡◌, sym, ap, ◌∙◌, subst}
use mathlib.Core.Bool.{Bool, true, false, cond}
use mathlib.Core.List.{List}
use mathlib.Core.Logic.{inl, inr}
use Prim.Native.Nat.{ℕ, suc, ◌≤◌, ◌<◌}
use native.Mathlib.Omega.{arith}
use lib.Dec.{ltb}
use lib.ListN.{length, get_or}
use borrow.Author.Tests.{ltb-true, ltb-false}
use Rattle.value.specs.declared.Net.{Net}
use Rattle.value.specs.declared.Slot.{Slot}
use Rattle.value.specs.declared.Driver.TheVariants as driven
use Rattle.value.specs.Value.{driver}
use Rattle.cell.specs.declared.Cell.{Cell}
use Rattle.netlist.specs.Shape.{visit, is_input, is_source, is_output, has_effects}
use Rattle.netlist.specs.Netlist.{cell_in}
use Rattle.order.specs.Orders.{topo_sort}
use Rattle.design.specs.Queue.{map_net_new, applied}
use Rattle.rewrite.specs.Rewriter.{Rewriter, stamp}
use Rattle.basics.specs.Lists.{All}
use Rattle.order_laws.specs.Members.{Wired}
use Rattle.order_laws.specs.Ends.{Final}
use Rattle.order_laws.proofs.Bits.{topo_sort-each}
use Rattle.basics.proofs.Truth.{either, never}
use Rattle.basics.proofs.Members.{all-imp}
use Rattle.order_laws.proofs.Operands.{input-reads, visited-all}
use Rattle.order_laws.proofs.Sorts.{gate-by, gate-parts, other-gate, source-effects, source-no-output}
use Rattle.order_laws.proofs.Queue.{applied-at, applied-length}
use Rattle.rewrite_laws.proofs.Settled.{limit, stamped-inside, map-settled, map-lower, stamp-driven}
use Rattle.rewrite_laws.specs.State.{SettledSlot, Settled, Under, Inv, State}
use Rattle.rewrite_laws.proofs.Steps.{stamp-clocked}
use Rattle.accepted_laws.proofs.Final.{map_net_new-final}
use Rattle.rewrite_sound.proofs.Shaped.{Holds, holds-effects, Shaped}

-- the state at the end of a run over a ticket whose operands name slots other than outputs
pub record Ended (cs₀ : List Cell) (r : Rewriter) : Type 0 where
  pub wired : (s : ℕ) → s < length cs₀ → All (Wired cs₀) (visit (cell_in cs₀ s))
  pub state : State cs₀ (topo_sort cs₀) r
  pub shaped : Shaped cs₀ r
  pub few : length r.design.cells ≤ limit

-- the netlist of a run
module _ (r : Rewriter) where
  -- the cell in a slot before the queue is applied, and where an operand leads
  abbrev pub was : ℕ → Cell
  was s = cell_in r.design.cells s

  abbrev pub follow : Net → Net
  follow = map_net_new r.design.replaced

  -- the stamp of a slot, and for an output, which has none, one above all
  abbrev pub rank : ℕ → ℕ
  rank s = cond (is_output (was s)) (suc r.clock) (get_or r.stamps s 0)

  pub rank-other : (s : ℕ) → is_output (was s) ≡ false → rank s ≡ get_or r.stamps s 0
  rank-other s e = ap (λ (b : Bool). cond b (suc r.clock) (get_or r.stamps s 0)) e

  pub rank-output : (s : ℕ) → is_output (was s) ≡ true → rank s ≡ suc r.clock
  rank-output s e = ap (λ (b : Bool). cond b (suc r.clock) (get_or r.stamps s 0)) e

module _ (cs₀ : List Cell) (r : Rewriter) (end : Ended cs₀ r) where
  abbrev inv : Inv cs₀ r
  inv = end.state.inv

  abbrev ts : List ℕ
  ts = r.stamps

  abbrev total : ℕ
  total = length r.design.cells

  -- an input or output of the ticket stands in its slot
  pub port-stays : (s : ℕ) → s < length cs₀ → has_effects (cell_in cs₀ s) ≡ true → was r s ≡ cell_in cs₀ s
  port-stays s l e = go (end.shaped.olds s l)
    where
      go : Holds (cell_in cs₀ s) (was r s) → was r s ≡ cell_in cs₀ s
      go (inl q) = q
      go (inr h) = never e h.0.1

  -- a settled slot is one of the netlist, and no output
  pub settled-slot : (s : ℕ) → SettledSlot cs₀ ts s → (s < total) × (is_output (was r s) ≡ false)
  settled-slot s (inl i) = (
    let m : length cs₀ ≤ total = inv.many in let l : s < length cs₀ = i.0 in omega arith,
    ap is_output (port-stays s i.0 (source-effects (cell_in cs₀ s) i.1)) ∙ source-no-output (cell_in cs₀ s) i.1,
  )
  settled-slot s (inr p) = (inside, (gate-parts (was r s) gate).1)
    where
      inside : s < total
      inside = omega (arith, stamped-inside ts s p, inv.sizes)

      gate : has_effects (was r s) ≡ false
      gate = either (ltb s (length cs₀))
          (λ e. let l : s < length cs₀ = ltb-true s (length cs₀) e in
          holds-effects (cell_in cs₀ s) (was r s) (end.shaped.olds s l)
          ∙ either (has_effects (cell_in cs₀ s)) (λ h. absurd (omega (arith, p, end.shaped.ports s l h))) (λ h. h))
          (λ e. (end.shaped.adds s (ltb-false s (length cs₀) e) inside).0)

  -- all of the ticket's operands are settled
  wired-settled : (m : Net) → Wired cs₀ m → Settled cs₀ ts m
  unfolding Settled
  wired-settled m w x e =
      let k = w x e in
      either (is_source (cell_in cs₀ x.0)) (λ i. inl (k.0, i))
      (λ i. inr (end.state.done x.0 k.0 ((topo_sort-each cs₀).all x.0 k.0) (other-gate (cell_in cs₀ x.0) i k.1)))

  -- the operands of a slot before the queue is applied
  abbrev Lower : ℕ → Net → Type 0
  Lower s m = Settled cs₀ ts m × (stamp ts m < rank r s)

  stamped-lower : (s : ℕ) → 0 < get_or ts s 0 → All (Lower s) (visit (was r s))
  stamped-lower s p =
      let q : rank r s ≡ get_or ts s 0 = rank-other r s (settled-slot s (inr p)).1 in
      all-imp (Under cs₀ ts (get_or ts s 0)) (Lower s) (λ m u. (u.0, subst (λ (k : ℕ). stamp ts m < k) (sym q) u.1)) (visit (was r s)) (inv.fed s p)

  port-lower : (s : ℕ) → s < length cs₀ → has_effects (cell_in cs₀ s) ≡ true → All (Lower s) (visit (was r s))
  port-lower s l e = subst (λ (c : Cell). All (Lower s) (visit c)) (sym (port-stays s l e))
      (either (is_input (cell_in cs₀ s)) (λ i. input-reads (Lower s) (cell_in cs₀ s) i)
      (λ i. all-imp (Wired cs₀) (Lower s) (λ m w. (wired-settled m w, output m (output-by i))) (visit (cell_in cs₀ s)) (end.wired s l)))
    where
      output-by : is_input (cell_in cs₀ s) ≡ false → is_output (was r s) ≡ true
      output-by i = either (is_output (cell_in cs₀ s)) (λ o. ap is_output (port-stays s l e) ∙ o) (λ o. never e (gate-by (cell_in cs₀ s) i o))

      output : (m : Net) → is_output (was r s) ≡ true → stamp ts m < rank r s
      output m o = let k : stamp ts m ≤ r.clock = stamp-clocked cs₀ r inv m in let q : rank r s ≡ suc r.clock = rank-output r s o in omega arith

  operands-lower : (s : ℕ) → s < total → All (Lower s) (visit (was r s))
  operands-lower s l = either (ltb s (length cs₀))
      (λ e. let k : s < length cs₀ = ltb-true s (length cs₀) e in
      either (has_effects (cell_in cs₀ s)) (port-lower s k) (λ g. stamped-lower s (end.state.done s k ((topo_sort-each cs₀).all s k) g)))
      (λ e. stamped-lower s (end.shaped.adds s (ltb-false s (length cs₀) e) l).1)

  -- the law: an operand of a slot after the queue is applied is settled and final, and stamped below the slot
  pub record Operand (s : ℕ) (m : Net) : Type 0 where
    pub settled : Settled cs₀ ts m
    pub final : Final r.design.replaced m
    pub below : stamp ts m < rank r s

  followed-operand : (s : ℕ) (m : Net) → Lower s m → Operand s (follow r m)
  followed-operand s m k = record {
    settled = map-settled cs₀ r inv m k.0;
    final = map_net_new-final cs₀ r inv m;
    below = let a : stamp ts (follow r m) ≤ stamp ts m = map-lower cs₀ r inv m k.0 in let b : stamp ts m < rank r s = k.1 in omega arith;
  }

  pub operands-below : (s : ℕ) → s < length (applied r.design) → All (Operand s) (visit (cell_in (applied r.design) s))
  operands-below s l =
      let k : s < total = omega (arith, applied-length r.design) in
      subst (λ (c : Cell). All (Operand s) (visit c)) (sym (applied-at r.design s k))
      (visited-all (Operand s) (follow r) (was r s) (all-imp (Lower s) (λ m. Operand s (follow r m)) (followed-operand s) (visit (was r s)) (operands-lower s k)))

  -- the same by the slot that drives the operand: the rank falls
  pub record Below (s x : ℕ) : Type 0 where
    pub inside : x < total
    pub other : is_output (was r x) ≡ false
    pub falls : rank r x < rank r s

  pub operand-slot : (s : ℕ) (m : Net) → Operand s m → (x : Slot) → driver m ≡ driven.Cell x → Below s x.0
  unfolding Settled
  operand-slot s m k x e =
      let a : (x.0 < total) × (is_output (was r x.0) ≡ false) = settled-slot x.0 (k.settled x e) in
      let b : stamp ts m ≡ get_or ts x.0 0 = stamp-driven ts m x e in
      let c : rank r x.0 ≡ get_or ts x.0 0 = rank-other r x.0 a.1 in
      let d : stamp ts m < rank r s = k.below in
      record { inside = a.0; other = a.1; falls = omega arith }
