-- Compacting after the run over a normal netlist keeps the slots of whole cells (inputs, outputs, and-inverters) and the added slots, which are
-- one for each slot of the netlist. Assumes nothing.
use mathlib.Core.Path.{◌≡◌, refl, sym, ap, ◌∙◌, subst}
use mathlib.Core.Bool.{Bool, true, false, not}
use mathlib.Core.List.{List}
use Prim.Native.Nat.{ℕ, ◌+◌, ◌≤◌, ◌<◌}
use native.Mathlib.Omega.{arith}
use lib.Dec.{ltb}
use lib.ListN.{length, get_or, get_or-eq_default}
use borrow.Author.Tests.{ltb-true, ltb-false}
use Rattle.value.specs.declared.Net.{Net}
use Rattle.value.specs.declared.Slot.{Slot}
use Rattle.value.specs.declared.Driver.{Driver}
use Rattle.value.specs.declared.Driver.TheVariants as driven
use Rattle.value.specs.Value.{ZERO, slot_at, driver}
use Rattle.value.proofs.Laws.{driver-cell}
use Rattle.cell.specs.declared.Cell.{Cell}
use Rattle.cell.specs.declared.Cell.TheVariants.{Input}
use Rattle.netlist.specs.Shape.{visit, visit_mut, is_splittable, has_effects}
use Rattle.netlist.specs.Netlist.{cell_in}
use Rattle.order.specs.Orders.{topo_sort}
use Rattle.design.specs.Queue.{net_in, driven_to, map_net_new, applied}
use Rattle.compact.specs.Compact.{keep, is_kept}
use Rattle.basics.specs.Lists.{All}
use Rattle.order_laws.specs.Members.{Drives}
use Rattle.order_laws.proofs.Bits.{topo_sort-each}
use Rattle.basics.proofs.Truth.{either, never}
use Rattle.basics.proofs.Members.{all-imp, all_both, all-every}
use Rattle.order_laws.proofs.Sorts.{splittable-gate, effects-by}
use Rattle.order_laws.proofs.Queue.{mapped-once, applied-at, mapped-final}
use Rattle.order_laws.proofs.Operands.{visited-all}
use Rattle.kept.proofs.Sound.{Inside}
use Rattle.kept.proofs.Keep.{KeptNet, effects-kept, reads_kept}
use Rattle.kept.proofs.Chosen.{count}
use Rattle.normal.specs.Paired.{Alike}
use Rattle.normal.proofs.Alike.{image-reads, renumber-const, image-sort}
use Rattle.merge_again.proofs.Single.{kept-has}
use Rattle.rewrite_again.proofs.Counts.{count_same, count-not, count-rest, each-count}
use Rattle.rewrite_again.proofs.Origin.{splits, made, origin-old, origin-inside, inside-origin, origin-splits, back-driven}
use Rattle.rewrite_again.proofs.State.{Stands, few, slot-few}
use Rattle.rewrite_again.proofs.Applied.{Ended, C, G, rs, O, A, len, E, rank_e, sound_e, long, alike, single-bits}

module _ (u : Ended) where
  open u use {netlist, rank, normal, last, state}

  abbrev pub kept : ℕ → Bool
  kept = is_kept (E u).bits (keep (E u))

  -- past the netlist's last slot nothing is cut into bits
  past-whole : (m : ℕ) → length (C u) ≤ m → splits (C u) m ≡ false
  past-whole m l = ap is_splittable (get_or-eq_default (C u) (Input 0) {n = m} l)

  abbrev Stand : ℕ → Net → Type 0
  Stand = Stands netlist rank normal (topo_sort (C u))

  -- what a slot's net is replaced by is the net of a whole cell, and final
  stands-whole : (i : ℕ) (n : Net) (l : i < length (C u)) → splits (C u) (state.stands i n l).slot ≡ false
  stands-whole i n l =
      let s : Stand i (get_or (rs u) i n) = state.stands i n l in
      either (splits (C u) i) (λ e. past-whole s.slot (s.moved e ((topo_sort-each (C u)).all i l))) (λ e. ap (splits (C u)) (s.stays e) ∙ e)

  stands-driven : (i : ℕ) (n : Net) (l : i < length (C u)) → driver (get_or (rs u) i n) ≡ driven.Cell (slot_at (state.stands i n l).slot)
  stands-driven i n l =
      let s : Stand i (get_or (rs u) i n) = state.stands i n l in
      ap driver s.is ∙ driver-cell (slot_at s.slot) (slot-few netlist rank normal (topo_sort (C u)) last state s.slot i s.from l)

  stands-final : (i : ℕ) (n : Net) → i < length (C u) → driven_to (rs u) (get_or (rs u) i n) (driver (get_or (rs u) i n)) ≡ get_or (rs u) i n
  stands-final i n l =
      let m : Net = get_or (rs u) i n in
      let s : Stand i m = state.stands i n l in
      ap (driven_to (rs u) m) (stands-driven i n l)
      ∙ either (splits (C u) i)
      (λ e. get_or-eq_default (rs u) m {n = s.slot} (omega (arith, state.wide, s.moved e ((topo_sort-each (C u)).all i l))))
      (λ e. let s' : Stand i (get_or (rs u) i m) = state.stands i m l in
      ap (λ (j : ℕ). get_or (rs u) j m) (s.stays e) ∙ s'.is ∙ ap net_in (s'.stays e ∙ sym (s.stays e)) ∙ sym s.is)

  mapped-slot : (n : Net) (y : Slot) → driver n ≡ driven.Cell y → y.0 < length (C u) → map_net_new (rs u) n ≡ get_or (rs u) y.0 n
  mapped-slot n y e l = mapped-once (rs u) n (get_or (rs u) y.0 n) (omega (arith, state.wide, l)) (ap (driven_to (rs u) n) e) (stands-final y.0 n l)

  -- so every operand is one
  operand-whole : (n : Net) → Drives (λ x. splits (C u) x ≡ false) (map_net_new (rs u) n)
  operand-whole n x e = go (driver n) refl
    where
      go : (y : Driver) → driver n ≡ y → splits (C u) x.0 ≡ false
      go (driven.Const t) q =
          let z : driven.Const t ≡ driven.Cell x = sym q ∙ ap driver (sym (mapped-final (rs u) n (ap (driven_to (rs u) n) q))) ∙ e in
          let w : ◌≡◌ {A = ℕ} 0 1 = cc in absurd (omega arith)
      go (driven.Cell y) q = either (ltb y.0 (length (C u)))
          (λ b. let l : y.0 < length (C u) = ltb-true y.0 (length (C u)) b in
          let z : driven.Cell (slot_at (state.stands y.0 n l).slot) ≡ driven.Cell x = sym (stands-driven y.0 n l) ∙ ap driver (sym (mapped-slot n y q l)) ∙ e in
          let w : slot_at (state.stands y.0 n l).slot ≡ x = cc in
          ap (λ (k : Slot). splits (C u) k.0) (sym w) ∙ stands-whole y.0 n l)
          (λ b. let l : length (C u) ≤ y.0 = ltb-false y.0 (length (C u)) b in
          let z : driven.Cell y ≡ driven.Cell x =
          sym q ∙ ap driver (sym (mapped-final (rs u) n (ap (driven_to (rs u) n) q ∙ get_or-eq_default (rs u) n {n = y.0} (omega (arith, state.wide, l))))) ∙ e in
          let w : y ≡ x = cc in
          ap (λ (k : Slot). splits (C u) k.0) (sym w) ∙ past-whole y.0 l)

  operands-whole : (m : ℕ) → m < len u → All (Drives (λ x. splits (C u) x ≡ false)) (visit (cell_in (A u) m))
  unfolding applied
  operands-whole m l =
      let c : Cell = cell_in last.design.cells m in
      subst (λ (y : Cell). All (Drives (λ x. splits (C u) x ≡ false)) (visit y)) (sym (applied-at last.design m (omega (arith, l, state.size))))
      (visited-all (Drives (λ x. splits (C u) x ≡ false)) (map_net_new (rs u)) c (all-every (λ n. Drives (λ x. splits (C u) x ≡ false) (map_net_new (rs u) n)) operand-whole (visit c)))

  -- whole (A u) that stand for one slot are one
  pub one-whole : (m m' : ℕ) → m < len u → m' < len u → splits (C u) m ≡ false → splits (C u) m' ≡ false → O u m ≡ O u m' → m ≡ m'
  one-whole m m' l l' w w' e = either (ltb m (length (C u)))
      (λ b. let k : m < length (C u) = ltb-true m (length (C u)) b in
      either (ltb m' (length (C u)))
      (λ b'. sym (origin-old (C u) m k) ∙ e ∙ origin-old (C u) m' (ltb-true m' (length (C u)) b'))
      (λ b'. never (origin-splits (C u) m' (ltb-false m' (length (C u)) b') l') (ap (splits (C u)) (sym e ∙ origin-old (C u) m k) ∙ w)))
      (λ b. let k : length (C u) ≤ m = ltb-false m (length (C u)) b in
      either (ltb m' (length (C u)))
      (λ b'. never (origin-splits (C u) m k l) (ap (splits (C u)) (e ∙ origin-old (C u) m' (ltb-true m' (length (C u)) b')) ∙ w'))
      (λ b'. let n : net_in m ≡ net_in m' =
      sym ((state.added m k (omega (arith, l, state.size))).leads ZERO) ∙ ap (λ (i : ℕ). get_or (rs u) i ZERO) e ∙ (state.added m' (ltb-false m' (length (C u)) b') (omega (arith, l', state.size))).leads ZERO in
      omega (arith, ap (λ (x : Net). x.0) n)))

  -- what is kept is whole
  effects-whole : (m : ℕ) → m < len u → has_effects (cell_in (A u) m) ≡ true → splits (C u) m ≡ false
  effects-whole m l h = either (ltb m (length (C u)))
      (λ b. either (splits (C u) m)
      (λ e. never (sym (image-sort effects-by (G u) (cell_in (A u) m) (cell_in (C u) (O u m)) (alike u m l)) ∙ h)
      (ap (λ (i : ℕ). has_effects (cell_in (C u) i)) (origin-old (C u) m (ltb-true m (length (C u)) b)) ∙ splittable-gate (cell_in (C u) m) e))
      (λ e. e))
      (λ b. past-whole m (ltb-false m (length (C u)) b))

  kept_whole : (m : ℕ) → m < len u → kept m ≡ true → splits (C u) m ≡ false
  kept_whole m l =
      kept-has (E u) (rank_e u) (sound_e u) (single-bits u) (λ x. splits (C u) x ≡ false)
      (λ s k. effects-whole s (omega (arith, k, long u)))
      (λ s k p. operands-whole s (omega (arith, k, long u))) m (omega (arith, l, long u))

  -- and what is whole is kept, since what it stands for is reached
  abbrev KeptAs : ℕ → Type 0
  KeptAs i = (m : ℕ) → m < len u → splits (C u) m ≡ false → O u m ≡ i → kept m ≡ true

  inside : (m : ℕ) → m < len u → m < length (A u)
  inside m l = omega (arith, l, long u)

  roots_kept : (i : ℕ) → i < length (C u) → has_effects (cell_in (C u) i) ≡ true → KeptAs i
  roots_kept i k h m l w e =
      effects-kept (E u) (rank_e u) (sound_e u) m (inside m l)
      (image-sort effects-by (G u) (cell_in (A u) m) (cell_in (C u) (O u m)) (alike u m l) ∙ ap (λ (j : ℕ). has_effects (cell_in (C u) j)) e ∙ h)

  -- an operand of a kept cell
  pub record Read (n : Net) : Type 0 where
    pub within : Inside (A u) n
    pub marked : KeptNet (E u) (rank_e u) (sound_e u) n
    pub whole : Drives (λ x. splits (C u) x ≡ false) n

  pub reads : (m : ℕ) → m < len u → kept m ≡ true → All Read (visit (cell_in (A u) m))
  reads m l k =
      let B : Net → Type 0 = Inside (A u) in
      let K : Net → Type 0 = KeptNet (E u) (rank_e u) (sound_e u) in
      let W : Net → Type 0 = Drives (λ x. splits (C u) x ≡ false) in
      let ns : List Net = visit (cell_in (A u) m) in
      all-imp (λ n. B n × (K n × W n)) Read (λ n h. record { within = h.0; marked = h.1.0; whole = h.1.1 }) ns
      (all_both B (λ n. K n × W n) ns ((sound_e u).inside m (inside m l))
      (all_both K W ns (reads_kept (E u) (rank_e u) (sound_e u) m (inside m l) k) (operands-whole m l)))

  read_kept : (n : Net) → Read n → Drives KeptAs (G u n)
  read_kept n h y e = go (driver n) refl
    where
      go : (z : Driver) → driver n ≡ z → KeptAs y.0
      go (driven.Const t) q =
          let k : driven.Const t ≡ driven.Cell y = sym q ∙ ap driver (sym (renumber-const (O u) n t q)) ∙ e in
          let w : ◌≡◌ {A = ℕ} 0 1 = cc in absurd (omega arith)
      go (driven.Cell x) q =
          let k : driven.Cell (slot_at (O u x.0)) ≡ driven.Cell y = sym (back-driven (C u) (few netlist rank normal) n x q) ∙ e in
          let j : slot_at (O u x.0) ≡ y = cc in
          λ m' l w o.
          ap kept (one-whole m' x.0 l (omega (arith, h.within x q, long u)) w (h.whole x q) (o ∙ ap (λ (i : Slot). i.0) (sym j)))
          ∙ h.marked x q

  reads-kept-as : (i : ℕ) → i < length (C u) → KeptAs i → All (Drives KeptAs) (visit (cell_in (C u) i))
  reads-kept-as i k h =
      let s : Stand i (get_or (rs u) i ZERO) = state.stands i ZERO k in
      let m : ℕ = s.slot in
      let l : m < len u = inside-origin (C u) m (subst (λ (x : ℕ). x < length (C u)) (sym s.from) k) in
      image-reads (Drives KeptAs) (G u) (cell_in (A u) m) (cell_in (C u) i)
      (subst (λ (x : ℕ). Alike (visit_mut (G u) (cell_in (A u) m)) (cell_in (C u) x)) s.from (alike u m l))
      (all-imp Read (λ n. Drives KeptAs (G u n)) read_kept (visit (cell_in (A u) m)) (reads m l (h m l (stands-whole i ZERO k) s.from)))

  whole-kept : (m : ℕ) → m < len u → splits (C u) m ≡ false → kept m ≡ true
  whole-kept m l w =
      let i : O u m < length (C u) = origin-inside (C u) m l in
      kept-has netlist rank normal.sound normal.single KeptAs roots_kept reads-kept-as (O u m) i (normal.reached (O u m) i) m l w refl

  pub kept-is : (m : ℕ) → m < len u → kept m ≡ not (splits (C u) m)
  kept-is m l = either (splits (C u) m)
      (λ e. either (kept m) (λ k. never e (kept_whole m l k)) (λ k. k ∙ ap not (sym e)))
      (λ e. whole-kept m l e ∙ ap not (sym e))

  -- they are as many as the netlist's slots
  pub kept-many : count kept (len u) ≡ length (C u)
  kept-many =
      let n : ℕ = length (C u) in
      let whole : ℕ → Bool = λ m. not (splits (C u) m) in
      let a : count kept (len u) ≡ count whole (len u) = count_same kept whole (len u) kept-is in
      let b : count whole (len u) ≡ count whole n + length (made (C u)) = count-rest whole n (length (made (C u))) (λ m h l. ap not (past-whole m h)) in
      let c : length (made (C u)) ≡ count (splits (C u)) n = each-count (splits (C u)) n (topo_sort (C u)) (topo_sort-each (C u)) in
      a ∙ b ∙ omega (arith, c, count-not (splits (C u)) n)
