-- What compacting leaves is all reached: compacting again would keep every slot. Assumes nothing.
use mathlib.Core.Path.{◌≡◌, refl, sym, ap, ◌∙◌, subst}
use mathlib.Core.Bool.{Bool, true, false}
use mathlib.Core.List.{List}
use Prim.Native.Nat.{ℕ, zero, suc, ◌+◌, ◌-◌, ◌≤◌, ◌<◌}
use native.Mathlib.Omega.{arith}
use lib.ListN.{length, get_or}
use Rattle.value.specs.declared.Net.{Net}
use Rattle.value.specs.Value.{slot_at}
use Rattle.cell.specs.declared.Cell.{Cell}
use Rattle.netlist.specs.Shape.{visit, visit_mut, has_effects}
use Rattle.netlist.specs.Netlist.{Netlist, cell_in, start_of, output_of}
use Rattle.compact.specs.Compact.{keep, is_kept, net_map, compact}
use Rattle.basics.specs.Lists.{All}
use Rattle.order_laws.specs.Members.{Drives}
use Rattle.basics.proofs.Members.{all-imp, all_both}
use Rattle.order_laws.proofs.Operands.{all-visited}
use Rattle.order_laws.proofs.Sorts.{effects-mapped}
use Rattle.kept.proofs.Chosen.{count, count_yes, PlaceOf, place_of, SlotAt, slot-at}
use Rattle.kept.proofs.Sound.{Inside, Sound, Inner, inner, Bit, output-bits, bits-start, start-inside, start-zero}
use Rattle.kept.proofs.Keep.{KeptNet, effects-kept, reads_kept, marked-has}
use Rattle.kept.proofs.Compact.{old, cell_at, compact-length, compact-sound, bit_at, mapped-slot}

module _ (d : Netlist) (rank : ℕ → ℕ) (sound : Sound d rank) where
  abbrev total : ℕ
  total = length d.cells

  abbrev kept : ℕ → Bool
  kept = is_kept d.bits (keep d)

  -- a kept slot's new place, and whether the slot at a new place is kept again
  abbrev place : ℕ → ℕ
  place = count kept

  abbrev again : ℕ → Bool
  again = is_kept (compact d).bits (keep (compact d))

  rank' : ℕ → ℕ
  rank' j = rank (old d rank sound j)

  sound' : Sound (compact d) rank'
  unfolding rank'
  sound' = compact-sound d rank sound

  module _ (x : ℕ) (l : x < total) (k : kept x ≡ true) where
    at_place : PlaceOf kept total x
    at_place = place_of kept total x l k

    place_inside : place x < length (compact d).cells
    place_inside = let e : length (compact d).cells ≡ count kept total = compact-length d rank sound in omega (arith, at_place.below)

    cell-placed : cell_in (compact d).cells (place x) ≡ visit_mut (net_map d.bits (keep d)) (cell_in d.cells x)
    cell-placed =
        cell_at d rank sound (place x) at_place.below
        ∙ ap (λ (i : ℕ). visit_mut (net_map d.bits (keep d)) (cell_in d.cells i)) at_place.at

    bit-placed : get_or (compact d).bits (place x) 0 ≡ get_or d.bits x 0
    bit-placed = bit_at d rank sound (place x) at_place.below ∙ ap (λ (i : ℕ). get_or d.bits i 0) at_place.at

  -- the bits of a kept cell stay together
  place-back : (b x : ℕ) → x < total → get_or d.bits x 0 ≡ b → kept x ≡ true → place x ≡ place (x - b) + b
  place-back zero x l e k = ap place (let q : x ≡ x - 0 = omega arith in q) ∙ omega arith
  place-back (suc b) x l e k =
      let i : Inner d rank sound x = inner d rank sound x l (λ z. omega arith) in
      let one : 1 ≤ x = i.later in
      let bit : get_or d.bits (x - 1) 0 + 1 ≡ get_or d.bits x 0 = i.bit in
      let before : kept (x - 1) ≡ true = ap (λ (st : ℕ). get_or (keep d) st false) (omega arith) ∙ k in
      let next : suc (x - 1) ≡ x = omega arith in
      let last : place x ≡ suc (place (x - 1)) = ap place (sym next) ∙ count_yes kept (x - 1) before in
      let rest : place (x - 1) ≡ place (x - 1 - b) + b = place-back b (x - 1) (omega arith) (omega arith) before in
      let q : place (x - 1 - b) ≡ place (x - suc b) = ap place (omega arith) in
      omega arith

  place-start : (x : ℕ) → x < total → kept x ≡ true → start_of (compact d).bits (place x) ≡ place (start_of d.bits x)
  place-start x l k =
      let b : get_or (compact d).bits (place x) 0 ≡ get_or d.bits x 0 = bit-placed x l k in
      let p : place x ≡ place (start_of d.bits x) + get_or d.bits x 0 = place-back (get_or d.bits x 0) x l refl k in
      omega arith

  again-placed : (x : ℕ) → x < total → kept x ≡ true → again (place x) ≡ get_or (keep (compact d)) (place (start_of d.bits x)) false
  again-placed x l k = ap (λ (j : ℕ). get_or (keep (compact d)) j false) (place-start x l k)

  -- the start of a cell that is kept, and kept again in its new place
  record Again (s : ℕ) : Type 0 where
    inside : s < total
    first : get_or d.bits s 0 ≡ 0
    once : get_or (keep d) s false ≡ true
    twice : get_or (keep (compact d)) (place s) false ≡ true

  -- the start of a slot's cell, if the slot is kept and kept again
  start-again : (x : ℕ) → x < total → kept x ≡ true → again (place x) ≡ true → Again (start_of d.bits x)
  start-again x l k a = record {
    inside = start-inside d rank sound x l;
    first = start-zero d rank sound x l;
    once = k;
    twice = sym (again-placed x l k) ∙ a;
  }

  root-again : (s : ℕ) → s < total → get_or d.bits s 0 ≡ 0 → has_effects (cell_in d.cells s) ≡ true → Again s
  root-again s l z e =
      let k : kept s ≡ true = effects-kept d rank sound s l e in
      subst Again (let q : start_of d.bits s ≡ s = omega arith in q)
      (start-again s l k (effects-kept (compact d) rank' sound' (place s) (place_inside s l k)
      (ap has_effects (cell-placed s l k) ∙ effects-mapped (net_map d.bits (keep d)) (cell_in d.cells s) ∙ e)))

  -- what a slot reads that is kept, and kept again
  reads-again : (i : ℕ) → i < total → kept i ≡ true → again (place i) ≡ true → All (Drives (λ x. Again (start_of d.bits x))) (visit (cell_in d.cells i))
  reads-again i l k a =
      let f : Net → Net = net_map d.bits (keep d) in
      let ms : List Net = visit (cell_in d.cells i) in
      let New : Net → Type 0 = λ m. KeptNet (compact d) rank' sound' (f m) in
      let Old : Net → Type 0 = λ m. Inside d.cells m × KeptNet d rank sound m in
      all-imp (λ m. Old m × New m) (Drives (λ x. Again (start_of d.bits x)))
      (λ m h x e. start-again x.0 (h.0.0 x e) (h.0.1 x e) (h.1 (slot_at (place x.0)) (mapped-slot d rank sound m x e (h.0.0 x e)))) ms
      (all_both Old New ms
      (all_both (Inside d.cells) (KeptNet d rank sound) ms (sound.inside i l) (reads_kept d rank sound i l k))
      (all-visited (KeptNet (compact d) rank' sound') f (cell_in d.cells i)
      (subst (λ (c : Cell). All (KeptNet (compact d) rank' sound') (visit c)) (cell-placed i l k)
      (reads_kept (compact d) rank' sound' (place i) (place_inside i l k) a))))

  deps-again : (s : ℕ) → Again s → All (λ i. All (Drives (λ x. Again (start_of d.bits x))) (visit (cell_in d.cells i))) (output_of d.bits s)
  deps-again s h =
      let Here : ℕ → Type 0 = λ i. Bit d rank sound s i × (start_of d.bits i ≡ s) in
      all-imp Here (λ i. All (Drives (λ x. Again (start_of d.bits x))) (visit (cell_in d.cells i)))
      (λ i b.
      let k : kept i ≡ true = ap (λ (j : ℕ). get_or (keep d) j false) b.1 ∙ h.once in
      reads-again i b.0.inside k
      (again-placed i b.0.inside k ∙ ap (λ (j : ℕ). get_or (keep (compact d)) (place j) false) b.1 ∙ h.twice))
      (output_of d.bits s)
      (all_both (Bit d rank sound s) (λ i. start_of d.bits i ≡ s) (output_of d.bits s) (output-bits d rank sound s h.inside) (bits-start d rank sound s h.first))

  marked-again : (s : ℕ) → get_or (keep d) s false ≡ true → Again s
  marked-again = marked-has d Again (λ s l z e. root-again s (omega (arith, l, sound.wide)) z e) deps-again

  pub compact-reached : (j : ℕ) → j < length (compact d).cells → is_kept (compact d).bits (keep (compact d)) j ≡ true
  compact-reached j l =
      let e : length (compact d).cells ≡ count kept total = compact-length d rank sound in
      let s : SlotAt kept total j = slot-at kept total j (omega arith) in
      let x : ℕ = old d rank sound j in
      ap again (sym s.place) ∙ again-placed x s.small s.passes ∙ (marked-again (start_of d.bits x) s.passes).twice
