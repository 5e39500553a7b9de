-- What a run leaves of a netlist without and-inverters, compacted: no rule applies to a cell, no two gates are alike, all but inputs have one bit.
-- Assumes nothing.
use mathlib.Core.Path.{◌≡◌, refl, sym, ap, ◌∙◌, subst}
use mathlib.Core.Bool.{Bool, true, false, cond, true≢false, false≢true}
use mathlib.Core.Logic.{◌⊎◌, inl, inr}
use Prim.Native.Nat.{ℕ, ◌≤◌, ◌<◌}
use native.Mathlib.Omega.{arith}
use native.Mathlib.Decide.{dec_lt}
use lib.Dec.{eqb, ltb}
use lib.ListN.{length, get_or, get_or-eq_default}
use borrow.Author.Tests.{eqb-true, eqb-false, ltb-true, leb-true, ne_eqb}
use Rattle.value.specs.declared.Net.{Net}
use Rattle.value.specs.declared.Driver.{Driver}
use Rattle.value.specs.declared.Driver.TheVariants as driven
use Rattle.value.specs.Value.{driver, slot_at}
use Rattle.value.proofs.Laws.{cell-driver, driver-cell}
use Rattle.cell.specs.declared.Cell.{Cell}
use Rattle.cell.specs.declared.Cell.TheVariants.{Input, Output, Buf, Not, And, Or, Xor, Mux, Aig}
use Rattle.kinds.specs.Kinds.{kind_of, sort_of}
use Rattle.cell.specs.Records.{cell_record}
use Rattle.netlist.specs.Shape.{visit, visit_mut, is_input, has_effects, is_output}
use Rattle.netlist.specs.Netlist.{cell_in}
use Rattle.std.specs.Prelude.{None, Some}
use Rattle.design.specs.Queue.{net_in, Source}
use Rattle.numberer.specs.Numberer.{seek}
use Rattle.compact.specs.Compact.{keep, is_kept, kept_slots, count_kept, renumbered, net_map, compact}
use Rattle.normalize.specs.Normalize.{normalize}
use Rattle.aig.specs.Aig.{simple_aig_opt}
use Rattle.order_laws.specs.Members.{Drives}
use Rattle.basics.proofs.Truth.{either, never, or-none}
use Rattle.basics.proofs.Members.{all-imp, all_both}
use Rattle.order_laws.proofs.Sorts.{kind_in, ByKind, effects-by, effects-kind, inputs-by, output-kind, same-sort, sort-kept}
use Rattle.kept.proofs.Chosen.{chosen, count, count-le, place_of, SlotAt, slot-at}
use Rattle.kept.proofs.Sound.{Inside, bit-continues}
use Rattle.kept.proofs.Keep.{KeptNet, reads_kept}
use Rattle.kept.proofs.Compact.{old, cell_at, compact-length, bit_at}
use Rattle.normal.specs.Paired.{Alike, renumber}
use Rattle.normal.proofs.Normal.{fires, look_in, is_buf, Still}
use Rattle.normal.proofs.Rules.{is_ruled, Leads, Follows, still-follows}
use Rattle.normal.proofs.Alike.{visit-back, alike-kind, alike-visit, renumber-const, renumber-slot, renumber-in, renumber-fixes, buf-kind, bufs-by}
use Rattle.normal.proofs.Pairs.{FoundAt, found_at}
use Rattle.rewrite_normal.proofs.Cells.{sorted-alike}
use Rattle.rewrite_normal.proofs.Fresh.{seen_by, seen, Lasting}
use Rattle.rewrite_normal.proofs.Left.{tickets, cs₀, total, was, now, added-same, added-bit, Stays, kept-stays, After, left, same_length}

-- no rule is for a cell with effects
effects-still : (look : Net → Source) (c : Cell) → has_effects c ≡ true → fires (simple_aig_opt look c) ≡ false
unfolding has_effects simple_aig_opt
effects-still look (Input l) e = refl
effects-still look (Output a l) e = refl
effects-still look (Buf a) e = absurd (false≢true e)
effects-still look (Not a) e = absurd (false≢true e)
effects-still look (And a b) e = absurd (false≢true e)
effects-still look (Or a b) e = absurd (false≢true e)
effects-still look (Xor a b) e = absurd (false≢true e)
effects-still look (Mux a b c) e = absurd (false≢true e)
effects-still look (Aig p q) e = absurd (false≢true e)

effects-unbuffered : (c : Cell) → has_effects c ≡ true → is_buf c ≡ false
effects-unbuffered c e = buf-kind 0 c ∙ ne_eqb (kind_in c) 3 (λ q. omega (arith, q, leb-true (kind_in c) 2 (sym (effects-kind 0 c) ∙ e)))

sorted-unbuffered : (c : Cell) → normalize c ≡ None → is_buf c ≡ false
unfolding normalize
sorted-unbuffered (Input l) e = refl
sorted-unbuffered (Output a l) e = refl
sorted-unbuffered (Buf a) e = let z : ◌≡◌ {A = ℕ} 0 1 = cc in absurd (omega arith)
sorted-unbuffered (Not a) e = refl
sorted-unbuffered (And a b) e = refl
sorted-unbuffered (Or a b) e = refl
sorted-unbuffered (Xor a b) e = refl
sorted-unbuffered (Mux a b c) e = refl
sorted-unbuffered (Aig p q) e = refl

ruled-gate : (c : Cell) → is_ruled c ≡ true → has_effects c ≡ false
unfolding has_effects
ruled-gate (Input l) e = absurd (false≢true e)
ruled-gate (Output a l) e = absurd (false≢true e)
ruled-gate (Buf a) e = refl
ruled-gate (Not a) e = refl
ruled-gate (And a b) e = refl
ruled-gate (Or a b) e = refl
ruled-gate (Xor a b) e = refl
ruled-gate (Mux a b c) e = refl
ruled-gate (Aig p q) e = refl

-- an input may have more bits than one, an output not
input-or-one-bit : (bit : ℕ) (c : Cell) → has_effects c ≡ true → is_input c ≡ false → (kind_of (cell_record bit c).kind).one_bit ≡ true
unfolding has_effects kind_of sort_of
input-or-one-bit bit c e i =
    let two : (cell_record bit c).kind ≡ 2 = eqb-true (cell_record bit c).kind 2 (sym (output-kind bit c) ∙ sym (or-none (is_input c) (is_output c) i) ∙ e) in
    subst (λ (k : ℕ). (kind_of k).one_bit ≡ true) (sym two) refl

module _ (end : After) where
  open end use {rank, sound}

  abbrev kept : ℕ → Bool
  kept = is_kept (left end).bits (keep (left end))

  abbrev mapped : Net → Net
  mapped = net_map (left end).bits (keep (left end))

  -- the compacted netlist, and the slot that a new one comes from
  abbrev cell : ℕ → Cell
  cell j = cell_in (compact (left end)).cells j

  abbrev from : ℕ → ℕ
  from j = old (left end) rank sound j

  few : total end ≤ 65536
  few = let f : length (left end).cells ≤ 65536 = sound.few in omega (arith, same_length end)

  module _ (j : ℕ) (l : j < length (compact (left end)).cells) where
    in_count : j < count kept (length (left end).cells)
    in_count = let e : length (compact (left end)).cells ≡ count kept (length (left end).cells) = compact-length (left end) rank sound in omega arith

    slot : SlotAt kept (length (left end).cells) j
    slot = slot-at kept (length (left end).cells) j in_count

    from-inside : from j < length (left end).cells
    from-inside = slot.small

    from-stays : Stays end (from j)
    from-stays = kept-stays end (from j) (let i : from j < length (left end).cells = from-inside in omega (arith, same_length end)) slot.passes

    cell-from : cell j ≡ visit_mut mapped (now end (from j))
    cell-from = cell_at (left end) rank sound j in_count

    sort-from : {sort : Cell → Bool} → ByKind sort → sort (cell j) ≡ sort (now end (from j))
    sort-from {sort} by = ap sort cell-from ∙ sort-kept by mapped (now end (from j))

    bit-from : get_or (compact (left end)).bits j 0 ≡ get_or (left end).bits (from j) 0
    bit-from = bit_at (left end) rank sound j in_count

  from-small : (j : ℕ) → from j ≤ 65536
  from-small j = go (dec_lt j (count kept (length (left end).cells)))
    where
      go : Dec (j < count kept (length (left end).cells)) → from j ≤ 65536
      go (yes l) = let s : from j < length (left end).cells = (slot-at kept (length (left end).cells) j l).small in let f : total end ≤ 65536 = few in omega (arith, same_length end)
      go (no l) = let z : from j ≡ 0 = get_or-eq_default (chosen kept (length (left end).cells)) 0 {n = j} (omega arith) in omega arith

  -- back from the compacted netlist
  abbrev back : Net → Net
  back = renumber from

  back-mapped : (m : Net) → Drives (λ x. (x < length (left end).cells) × (kept x ≡ true)) m → back (mapped m) ≡ m
  unfolding net_map count_kept kept_slots chosen
  back-mapped m h = go (driver m) refl
    where
      go : (x : Driver) → driver m ≡ x → renumber from (renumbered (left end).bits (keep (left end)) m (driver m)) ≡ m
      go (driven.Const t) e = ap (λ (x : Driver). renumber from (renumbered (left end).bits (keep (left end)) m x)) e ∙ renumber-const from m t e
      go (driven.Cell x) e =
          let i : x.0 < length (left end).cells = (h x e).0 in
          ap (λ (y : Driver). renumber from (renumbered (left end).bits (keep (left end)) m y)) e
          ∙ renumber-in from (count kept x.0) (let f : total end ≤ 65536 = few in let c : count kept x.0 ≤ x.0 = count-le kept x.0 in omega (arith, same_length end))
          ∙ ap net_in (place_of kept (length (left end).cells) x.0 i (h x e).1).at
          ∙ sym (cell-driver m x e)

  back-cell : (j : ℕ) → j < length (compact (left end)).cells → visit_mut back (cell j) ≡ now end (from j)
  back-cell j l =
      ap (visit_mut back) (cell-from j l)
      ∙ visit-back back mapped (now end (from j))
      (all-imp (λ m. Inside (left end).cells m × KeptNet (left end) rank sound m) (λ m. back (mapped m) ≡ m)
      (λ m o. back-mapped m (λ x e. (o.0 x e, o.1 x e))) (visit (now end (from j)))
      (all_both (Inside (left end).cells) (KeptNet (left end) rank sound) (visit (now end (from j)))
      (sound.inside (from j) (from-inside j l)) (reads_kept (left end) rank sound (from j) (from-inside j l) (slot j l).passes)))

  -- a gate of the compacted netlist comes from an added cell
  record Added (j : ℕ) : Type 0 where
    late : tickets end ≤ from j
    inside : from j < total end
    is : visit_mut back (cell j) ≡ was end (from j)

  gate-added : (j : ℕ) → j < length (compact (left end)).cells → has_effects (cell j) ≡ false → Added j
  gate-added j l g = go (from-stays j l).sort
    where
      go : (has_effects (now end (from j)) ≡ true) ⊎ (tickets end ≤ from j) → Added j
      go (inl e) = never e (sym (sort-from j l effects-by) ∙ g)
      go (inr k) = record {
        late = k;
        inside = (from-stays j l).inside;
        is = back-cell j l ∙ added-same end (from j) k (from-stays j l).inside;
      }

  lasting : (j : ℕ) → Added j → Lasting (cs₀ end) end.last.design.cells (from j) (was end (from j))
  lasting j a = end.state.adds (from j) a.late a.inside

  -- a net's cell in the compacted netlist was end seen where it comes from
  seen-added : (s : ℕ) → tickets end ≤ s → s < total end → seen (cs₀ end) end.last.design.cells (net_in s) ≡ Some (was end s)
  unfolding seen
  seen-added s l k =
      ap (seen_by (cs₀ end) end.last.design.cells) (driver-cell (slot_at s) (omega (arith, few)))
      ∙ either (ltb s (tickets end)) (λ e. absurd (omega (arith, ltb-true s (tickets end) e))) (λ e. ap (λ (b : Bool). cond b None (Some (was end s))) e)

  follows : Follows back (look_in (compact (left end)).cells) (seen (cs₀ end) end.last.design.cells)
  follows = record { fixes = renumber-fixes from from-small; known = leads }
    where
      leads : (n : Net) → Leads back (look_in (compact (left end)).cells n) (seen (cs₀ end) end.last.design.cells (back n))
      leads n c f ruled =
          let at : FoundAt (compact (left end)).cells n c = found_at (compact (left end)).cells n c f ruled in
          let j : ℕ = at.slot.0 in
          let a : Added j = gate-added j at.inside (ap has_effects at.is ∙ ruled-gate c ruled) in
          record {
            cell = was end (from j);
            found = ap (seen (cs₀ end) end.last.design.cells) (renumber-slot from n at.slot at.drives) ∙ seen-added (from j) a.late a.inside;
            alike = inl (ap (visit_mut back) (sym at.is) ∙ a.is);
          }

  pub compacted-still : (j : ℕ) → j < length (compact (left end)).cells → Still (compact (left end)).cells (cell j)
  compacted-still j l = either (has_effects (cell j))
      (λ e. record { unbuffered = effects-unbuffered (cell j) e; still = effects-still (look_in (compact (left end)).cells) (cell j) e })
      (λ e. let a : Added j = gate-added j l e in record {
        unbuffered = sym (sort-kept bufs-by back (cell j)) ∙ ap is_buf a.is ∙ sorted-unbuffered (was end (from j)) (lasting j a).sorted;
        still = still-follows back (look_in (compact (left end)).cells) (seen (cs₀ end) end.last.design.cells) follows (cell j) (was end (from j)) (inl a.is) (ap fires (lasting j a).still);
      })

  -- two added cells that are alike are in the cache under one net
  added-distinct : (j i : ℕ) → Added j → Added i → Alike (was end (from j)) (was end (from i)) → from j ≡ from i
  added-distinct j i a b h =
      let e : was end (from j) ≡ was end (from i) = sorted-alike (was end (from j)) (was end (from i)) (lasting j a).sorted (lasting i b).sorted h in
      let f : Some (net_in (from j)) ≡ Some (net_in (from i)) =
      sym (end.state.found (from j) a.late a.inside) ∙ ap (seek end.last.cache) e ∙ end.state.found (from i) b.late b.inside in
      let g : net_in (from j) ≡ net_in (from i) = cc in
      omega (arith, ap (λ (n : Net). n.0) g)

  pub compacted-distinct : (j i : ℕ) → j < length (compact (left end)).cells → i < length (compact (left end)).cells → has_effects (cell j) ≡ false
      → Alike (cell j) (cell i) → j ≡ i
  compacted-distinct j i l k g h =
      let a : Added j = gate-added j l g in
      let b : Added i = gate-added i k (sym (same-sort effects-by 0 0 (cell j) (cell i) (alike-kind (cell j) (cell i) h)) ∙ g) in
      let e : from j ≡ from i = added-distinct j i a b (subst (λ (c : Cell). Alike c (was end (from i))) a.is
      (subst (Alike (visit_mut back (cell j))) b.is (alike-visit back (cell j) (cell i) h))) in
      sym (slot j l).place ∙ ap (count kept) e ∙ (slot i k).place

  pub compacted-single : (j : ℕ) → j < length (compact (left end)).cells → is_input (cell j) ≡ false → get_or (compact (left end)).bits j 0 ≡ 0
  compacted-single j l i = bit-from j l ∙ go (from-stays j l).sort
    where
      one_bit : has_effects (now end (from j)) ≡ true → (get_or (left end).bits (from j) 0 ≡ 0 → ⊥) → ⊥
      one_bit e h =
          let c = bit-continues (left end) rank sound (from j) (from-inside j l) h in
          true≢false (sym (input-or-one-bit (get_or (left end).bits (from j) 0) (now end (from j)) e
          (sym (sort-from j l inputs-by) ∙ i)) ∙ c.wide)

      go : (has_effects (now end (from j)) ≡ true) ⊎ (tickets end ≤ from j) → get_or (left end).bits (from j) 0 ≡ 0
      go (inl e) = either (eqb (get_or (left end).bits (from j) 0) 0) (λ q. eqb-true (get_or (left end).bits (from j) 0) 0 q)
          (λ q. absurd (one_bit e (eqb-false (get_or (left end).bits (from j) 0) 0 q)))
      go (inr k) = added-bit end (from j) k
