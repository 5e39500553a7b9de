-- Rewriting a normal netlist gives one that pairs off with it, and is normal. Assumes nothing.
use mathlib.Core.Path.{◌≡◌, refl, sym, ap, ◌∙◌, subst}
use mathlib.Core.Bool.{Bool, true, false}
use mathlib.Core.List.{map-id, List, map, map-map}
use Prim.Native.Nat.{ℕ, ◌+◌, ◌≤◌, ◌<◌}
use native.Mathlib.Omega.{arith}
use lib.ListN.{length, get_or}
use borrow.Author.Tests.{not-true}
use Rattle.value.specs.declared.Net.{Net}
use Rattle.value.specs.declared.Driver.{Driver}
use Rattle.value.specs.declared.Driver.TheVariants as driven
use Rattle.value.specs.Value.{driver}
use Rattle.cell.specs.declared.Cell.{Cell}
use Rattle.netlist.specs.Shape.{visit, visit_mut, is_input, is_output, has_effects}
use Rattle.netlist.specs.Netlist.{Netlist, cell_in}
use Rattle.basics.specs.Lists.{slots, those}
use Rattle.order.specs.Orders.{topo_sort}
use Rattle.design.specs.Queue.{net_in, find_new_cell}
use Rattle.compact.specs.Compact.{keep, kept_slots, count_kept, renumbered, net_map, compact}
use Rattle.rewrite.specs.Rewriter.{Rewriter}
use Rattle.rewrite.specs.Rewrite.{Run, ran, stuck, run, compacted, rewrite}
use Rattle.levels.specs.Evaluate.{input_slots, output_slots}
use Rattle.basics.proofs.Truth.{either, never}
use Rattle.basics.proofs.Members.{all-imp, all-tabulate, all-those, those-same}
use Rattle.basics.proofs.Indices.{map_same}
use Rattle.order_laws.proofs.Sorts.{splittable-gate, input-effects, inputs-by, output-effects, outputs-by}
use Rattle.kept.proofs.Chosen.{chosen, count, count-le, place_of, SlotAt, slot-at, chosen-rest}
use Rattle.kept.proofs.Compact.{old, compact-length, cell_at, bit_at, compact-sound}
use Rattle.kept.proofs.Outputs.{inputs-kept, outputs-kept}
use Rattle.normal.specs.Paired.{Alike, renumber, PairedBy, Paired}
use Rattle.normal.proofs.Normal.{Normal}
use Rattle.normal.proofs.Alike.{visit-visit, visit-same, renumber-const, renumber-slot, renumber-in, image-sort}
use Rattle.normal.proofs.Pairs.{paired-normal}
use Rattle.merge_again.proofs.Reached.{compact-reached}
use Rattle.rewrite_again.proofs.Origin.{splits, made, origin-old, origin-inside, origin-splits}
use Rattle.rewrite_again.proofs.Item.{St, Ran}
use Rattle.rewrite_again.proofs.Run.{run_ok}
use Rattle.rewrite_again.proofs.Applied.{Ended, C, G, O, A, len, E, rank_e, sound_e, long, alike, bit-same}
use Rattle.rewrite_again.proofs.Whole.{kept, one-whole, Read, reads, kept-is, kept-many}

module _ (u : Ended) where
  open u use {netlist, rank, normal}

  -- the slot that a slot of the result stands for
  abbrev from : ℕ → ℕ
  from = old (E u) (rank_e u) (sound_e u)

  abbrev pairing : ℕ → ℕ
  pairing j = O u (from j)

  many : length (compact (E u)).cells ≡ length (C u)
  many =
      compact-length (E u) (rank_e u) (sound_e u)
      ∙ ap (count (kept u)) (long u) ∙ kept-many u

  -- a slot of the result
  module _ (j : ℕ) (l : j < length (compact (E u)).cells) where
    new-inside : j < count (kept u) (length (A u))
    new-inside = omega (arith, l, compact-length (E u) (rank_e u) (sound_e u))

    at : SlotAt (kept u) (length (A u)) j
    at = slot-at (kept u) (length (A u)) j new-inside

    from-inside : from j < len u
    from-inside = omega (arith, at.small, long u)

    from-whole : splits (C u) (from j) ≡ false
    from-whole = not-true (splits (C u) (from j)) (sym (kept-is u (from j) from-inside) ∙ at.passes)

    inside : pairing j < length (C u)
    inside = origin-inside (C u) (from j) from-inside

    bits : get_or (compact (E u)).bits j 0 ≡ get_or netlist.bits (pairing j) 0
    bits = bit_at (E u) (rank_e u) (sound_e u) j new-inside ∙ bit-same u (from j) from-inside

  single : (j j' : ℕ) → j < length (compact (E u)).cells → j' < length (compact (E u)).cells → pairing j ≡ pairing j' → j ≡ j'
  single j j' l l' e =
      sym (at j l).place
      ∙ ap (count (kept u)) (one-whole u (from j) (from j') (from-inside j l) (from-inside j' l') (from-whole j l) (from-whole j' l') e)
      ∙ (at j' l').place

  -- Operands
  abbrev mapped : Net → Net
  mapped = net_map (E u).bits (keep (E u))

  operand : (n : Net) → Read u n → renumber pairing (mapped n) ≡ G u n
  unfolding net_map count_kept kept_slots chosen
  operand n h = go (driver n) refl
    where
      go : (y : Driver) → driver n ≡ y → renumber pairing (mapped n) ≡ G u n
      go (driven.Const t) e =
          ap (λ y. renumber pairing (renumbered (E u).bits (keep (E u)) n y)) e ∙ renumber-const pairing n t e ∙ sym (renumber-const (O u) n t e)
      go (driven.Cell x) e =
          let l : x.0 < length (A u) = h.within x e in
          let few : count (kept u) x.0 ≤ 65536 = omega (arith, count-le (kept u) x.0, l, (sound_e u).few) in
          ap (λ y. renumber pairing (renumbered (E u).bits (keep (E u)) n y)) e
          ∙ renumber-in pairing (count (kept u) x.0) few
          ∙ ap (λ (i : ℕ). net_in (O u i)) (place_of (kept u) (length (A u)) x.0 l (h.marked x e)).at
          ∙ sym (renumber-slot (O u) n x e)

  cells-alike : (j : ℕ) → j < length (compact (E u)).cells → Alike (visit_mut (renumber pairing) (cell_in (compact (E u)).cells j)) (cell_in (C u) (pairing j))
  cells-alike j l =
      let m : ℕ = from j in
      let c : Cell = cell_in (A u) m in
      subst (λ (x : Cell). Alike x (cell_in (C u) (pairing j)))
      (sym (ap (visit_mut (renumber pairing)) (cell_at (E u) (rank_e u) (sound_e u) j (new-inside j l))
      ∙ visit-visit (renumber pairing) mapped c
      ∙ visit-same (λ n. renumber pairing (mapped n)) (G u) c
      (all-imp (Read u) (λ n. renumber pairing (mapped n) ≡ G u n) operand (visit c)
      (reads u m (from-inside j l) (at j l).passes))))
      (alike u m (from-inside j l))

  -- Inputs and outputs
  module _ (sort : Cell → Bool) (same : (m : ℕ) → m < len u → sort (cell_in (A u) m) ≡ sort (cell_in (C u) (O u m))) (effects : (c : Cell) → sort c ≡ true → has_effects c ≡ true) where
    abbrev is : ℕ → Bool
    is s = sort (cell_in (C u) s)

    none-added : (m : ℕ) → length (C u) ≤ m → m < length (C u) + length (made (C u)) → sort (cell_in (A u) m) ≡ false
    none-added m h l = same m l ∙ either (is (O u m))
        (λ e. never (effects (cell_in (C u) (O u m)) e) (splittable-gate (cell_in (C u) (O u m)) (origin-splits (C u) m h l)))
        (λ e. e)

    old-ones : those (λ m. sort (cell_in (A u) m)) (slots (length (A u))) ≡ those is (slots (length (C u)))
    unfolding chosen
    old-ones =
        ap (λ (k : ℕ). those (λ m. sort (cell_in (A u) m)) (slots k)) (long u)
        ∙ chosen-rest (λ m. sort (cell_in (A u) m)) (length (C u)) (length (made (C u))) none-added
        ∙ those-same (λ m. sort (cell_in (A u) m)) is (slots (length (C u)))
        (all-tabulate (λ m. sort (cell_in (A u) m) ≡ is m) (λ m. m) (length (C u)) (λ m l. same m (omega (arith, l)) ∙ ap is (origin-old (C u) m l)))

    stay : map (O u) (those is (slots (length (C u)))) ≡ those is (slots (length (C u)))
    stay =
        map_same (O u) (λ s. s) (those is (slots (length (C u))))
        (all-those is (λ s. O u s ≡ s) (slots (length (C u))) (all-tabulate (λ s. O u s ≡ s) (λ s. s) (length (C u)) (origin-old (C u))))
        ∙ map-id (those is (slots (length (C u))))

    paired-slots : (js : List ℕ) → map from js ≡ those (λ m. sort (cell_in (A u) m)) (slots (length (A u))) → map pairing js ≡ those is (slots (length (C u)))
    paired-slots js e = sym (map-map (O u) from js) ∙ ap (map (O u)) (e ∙ old-ones) ∙ stay

  inputs : map pairing (input_slots (compact (E u)).cells) ≡ input_slots (C u)
  unfolding input_slots
  inputs =
      paired-slots is_input (λ m l. image-sort inputs-by (G u) (cell_in (A u) m) (cell_in (C u) (O u m)) (alike u m l))
      input-effects (input_slots (compact (E u)).cells) (inputs-kept (E u) (rank_e u) (sound_e u))

  outputs : map pairing (output_slots (compact (E u)).cells) ≡ output_slots (C u)
  unfolding output_slots
  outputs =
      paired-slots is_output (λ m l. image-sort outputs-by (G u) (cell_in (A u) m) (cell_in (C u) (O u m)) (alike u m l))
      output-effects (output_slots (compact (E u)).cells) (outputs-kept (E u) (rank_e u) (sound_e u))

  paired_by : PairedBy pairing (compact (E u)) netlist
  paired_by = record {
    many = many;
    inside = inside;
    single = single;
    inputs = inputs;
    outputs = outputs;
    bits = bits;
    cells = cells-alike;
  }

  abbrev rank' : ℕ → ℕ
  rank' j = rank_e u (from j)

  stays-normal : Normal (compact (E u)) rank'
  stays-normal =
      paired-normal pairing (compact (E u)) netlist rank rank' paired_by normal (compact-sound (E u) (rank_e u) (sound_e u))
      (compact-reached (E u) (rank_e u) (sound_e u))

module _ (d : Netlist) (rank : ℕ → ℕ) (normal : Normal d rank) (small : length d.cells ≤ 32768) where
  abbrev over : (r : Rewriter) → St d rank normal (topo_sort d.cells) r → Ended
  over r st = record { netlist = d; rank = rank; normal = normal; small = small; last = r; state = st }

  -- the law: the result pairs off with the netlist
  pub rewrite-paired : Paired (rewrite find_new_cell d) d
  unfolding rewrite
  rewrite-paired = go (run find_new_cell d.cells) (run_ok d rank normal)
    where
      go : (x : Run) → Ran d rank normal (topo_sort d.cells) x → Paired (compacted d.bits x) d
      go (ran r) st = record { pairing = pairing (over r st); paired = paired_by (over r st) }
      go (stuck r) st = absurd st

  -- and is normal
  pub rewrite-normal : (rank' : ℕ → ℕ) × Normal (rewrite find_new_cell d) rank'
  unfolding rewrite
  rewrite-normal = go (run find_new_cell d.cells) (run_ok d rank normal)
    where
      go : (x : Run) → Ran d rank normal (topo_sort d.cells) x → (rank' : ℕ → ℕ) × Normal (compacted d.bits x) rank'
      go (ran r) st = (rank' (over r st), stays-normal (over r st))
      go (stuck r) st = absurd st
