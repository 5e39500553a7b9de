-- The slots of the run of the rewriter over a normal netlist, and the slots of the netlist that they stand for: a slot of the netlist for
-- itself, and an added one for the slot whose cell is added there. Assumes nothing.
use mathlib.Core.Path.{◌≡◌, sym, ap, ◌∙◌, subst}
use mathlib.Core.Bool.{Bool, true, cond}
use mathlib.Core.List.{List, ◌∷◌, ◌++◌}
use Prim.Native.Nat.{ℕ, ◌+◌, ◌-◌, ◌≤◌, ◌<◌}
use native.Mathlib.Omega.{arith}
use lib.Dec.{ltb}
use lib.ListN.{length, get_or, get_or-eq_default}
use lib.Seq.{get_or-append_seam}
use borrow.Author.Tests.{ltb-true, ltb-false, lt-ltb, le-ltb}
use Rattle.value.specs.declared.Net.{Net}
use Rattle.value.specs.declared.Slot.{Slot}
use Rattle.value.specs.declared.Driver.TheVariants as driven
use Rattle.value.specs.Value.{slot_at, driver}
use Rattle.value.proofs.Laws.{driver-cell}
use Rattle.cell.specs.declared.Cell.{Cell}
use Rattle.netlist.specs.Shape.{is_splittable}
use Rattle.netlist.specs.Netlist.{cell_in}
use Rattle.basics.specs.Lists.{those, All}
use Rattle.order.specs.Orders.{topo_sort}
use Rattle.basics.proofs.Those.{those-append}
use Rattle.design.specs.Queue.{net_in}
use Rattle.order_laws.specs.Members.{Drives}
use Rattle.order_laws.proofs.Bits.{topo_sort-each}
use Rattle.basics.proofs.Truth.{either}
use Rattle.basics.proofs.Members.{those-pass, all-those, all-at, all-has}
use Rattle.normal.specs.Paired.{renumber}
use Rattle.normal.proofs.Rules.{Fixes}
use Rattle.normal.proofs.Alike.{renumber-slot, renumber-fixes, renumber-stays}

module _ (cs : List Cell) where
  abbrev pub total : ℕ
  total = length cs

  -- cells that are cut into bits are added anew
  abbrev pub splits : ℕ → Bool
  splits s = is_splittable (cell_in cs s)

  -- the slots whose cells are added, in the order of the run
  abbrev pub made : List ℕ
  made = those splits (topo_sort cs)

  unfoldable pub origin : ℕ → ℕ
  origin m = cond (ltb m total) m (get_or made (m - total) total)

  pub origin-old : (m : ℕ) → m < total → origin m ≡ m
  unfolding origin
  origin-old m l = rw (lt-ltb m total l)

  pub origin-new : (m : ℕ) → total ≤ m → origin m ≡ get_or made (m - total) total
  unfolding origin
  origin-new m l = rw (le-ltb m total l)

  -- the slot that comes next
  pub origin-next : (before after : List ℕ) (s : ℕ) → topo_sort cs ≡ before ++ (s ∷ after) → splits s ≡ true → origin (total + length (those splits before)) ≡ s
  unfolding those
  origin-next before after s e h =
      let k : ℕ = length (those splits before) in
      let split : made ≡ those splits before ++ (s ∷ those splits after) =
      ap (those splits) e ∙ those-append splits before (s ∷ after) ∙ ap (λ (b : Bool). those splits before ++ cond b (s ∷ those splits after) (those splits after)) h in
      origin-new (total + k) (omega arith)
      ∙ ap (λ (i : ℕ). get_or made i total) (let q : total + k - total ≡ k = omega arith in q)
      ∙ ap (λ (l : List ℕ). get_or l k total) split
      ∙ get_or-append_seam (those splits before) s (those splits after) total

  made-small : All (λ s. s < total) made
  made-small = all-those splits (λ s. s < total) (topo_sort cs) (all-has (λ s. s < total) (topo_sort cs) (topo_sort-each cs).small)

  -- it is one of the netlist's, and past the last added slot none
  pub origin-inside : (m : ℕ) → m < total + length made → origin m < total
  origin-inside m l = either (ltb m total)
      (λ e. subst (λ (x : ℕ). x < total) (sym (origin-old m (ltb-true m total e))) (ltb-true m total e))
      (λ e. let h : total ≤ m = ltb-false m total e in
      subst (λ (x : ℕ). x < total) (sym (origin-new m h)) (all-at (λ s. s < total) made (m - total) total made-small (omega arith)))

  pub origin-outside : (m : ℕ) → total + length made ≤ m → origin m ≡ total
  origin-outside m l = origin-new m (omega arith) ∙ get_or-eq_default made total {n = m - total} (omega arith)

  pub inside-origin : (m : ℕ) → origin m < total → m < total + length made
  inside-origin m l = either (ltb m (total + length made)) (λ e. ltb-true m (total + length made) e)
      (λ e. absurd (omega (arith, l, origin-outside m (ltb-false m (total + length made) e))))

  pub origin-most : (m : ℕ) → origin m ≤ total
  origin-most m = either (ltb m (total + length made))
      (λ e. let h : origin m < total = origin-inside m (ltb-true m (total + length made) e) in omega arith)
      (λ e. omega (arith, origin-outside m (ltb-false m (total + length made) e)))

  -- and an added slot's cell is cut into bits
  pub origin-splits : (m : ℕ) → total ≤ m → m < total + length made → splits (origin m) ≡ true
  origin-splits m h l = ap splits (origin-new m h) ∙ all-at (λ s. splits s ≡ true) made (m - total) total (those-pass splits (topo_sort cs)) (omega arith)

  -- a net of the run by the netlist's slots
  abbrev pub back : Net → Net
  back = renumber origin

  module _ (few : total ≤ 65536) where
    pub back-driven : (n : Net) (x : Slot) → driver n ≡ driven.Cell x → driver (back n) ≡ driven.Cell (slot_at (origin x.0))
    back-driven n x e = ap driver (renumber-slot origin n x e) ∙ driver-cell (slot_at (origin x.0)) (omega (arith, origin-most x.0))

    pub back_in : (m : ℕ) → m ≤ 4294967292 → back (net_in m) ≡ net_in (origin m)
    back_in m h = renumber-slot origin (net_in m) (slot_at m) (driver-cell (slot_at m) h)

    -- the netlist's nets stay
    pub back-old : (n : Net) → Drives (λ x. x < total) n → back n ≡ n
    back-old n h = renumber-stays origin n (λ x e. origin-old x.0 (h x e))

    pub back-fixes : Fixes back
    back-fixes = renumber-fixes origin (λ s. omega (arith, few, origin-most s))
