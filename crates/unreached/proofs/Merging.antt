-- None stops the Rust in merging: at each bit the net found is that of a slot, and the bit's own net is replaced for the first time.
-- Assumes nothing.
use mathlib.Core.Path.{◌≡◌, refl}
use mathlib.Core.List.{List, [], ◌∷◌, ◌++◌, map}
use Prim.Native.Nat.{ℕ, ◌<◌}
use lib.ListN.{length}
use Rattle.value.specs.declared.Net.{Net}
use Rattle.cell.specs.declared.Cell.{Cell}
use Rattle.netlist.specs.Shape.{visit_mut}
use Rattle.netlist.specs.Netlist.{Netlist, cell_in, output_of}
use Rattle.std.proofs.Common.{Option, Some, None}
use Rattle.design.specs.Queue.{net_in, map_net_new}
use Rattle.numberer.specs.Numberer.{seek}
use Rattle.merge.specs.Merge.{key_of, Merging, find_or_insert, merge_cell}
use Rattle.order_laws.specs.Ordered.{OnceAfter}
use Rattle.basics.specs.Lists.{All}
use Rattle.order_laws.proofs.Queue.{seek_finds}
use Rattle.levels_laws.specs.Instances.{sizes_in}
use Rattle.kept.proofs.Sound.{Sound}
use Rattle.kept.proofs.Merged.{rewired, rewired-sound}
use Rattle.kept.proofs.Ends.{gates, begun, Root, Chains, numbered-chains, Merged, Start, cell-inside, cell-fresh, cell-merged, begun-merged, gates-once, gates-start}
use Rattle.unreached.specs.Steps.{canon, EachBit, EachCell}
use Rattle.unreached.specs.Stops.{SlotNet, BitGoes, MergeGoes}
use Rattle.unreached.proofs.Complete.{sound-complete}

module _ (d : Netlist) (rank : ℕ → ℕ) (sound : Sound d rank) where
  abbrev total : ℕ
  total = length d.cells

  abbrev Goes : Merging → ℕ → Net → Type 0
  Goes m = BitGoes total m.design

  -- the numberer has nets of slots only
  there : (done : List ℕ) (m : Merging) (key : Cell) (i : ℕ) → i < total → Chains d rank sound done m → (f : Option Net) → seek m.numberer key ≡ f → SlotNet total (canon i f)
  there done m key i l c (Some n) e =
      let r : Root d rank sound done m.design.replaced n =
      seek_finds (λ k y. Root d rank sound done m.design.replaced y) m.numberer key n c.known e in
      record { slot = r.slot; below = r.small; is = r.is }
  there done m key i l c None e = record { slot = i; below = l; is = refl }

  each-bit : (key : ℕ → Cell) (is done : List ℕ) (m : Merging) → All (λ i. i < total) is → OnceAfter done is → Chains d rank sound done m
      → EachBit Goes m (map (λ i. (key i, i)) is)
  unfolding EachBit OnceAfter All
  each-bit key [] done m l o c = tt
  each-bit key (i ∷ is) done m l o c =
      let f : Option Net = seek m.numberer (key i) in (
        record { there = there done m (key i) i l.0 c f refl; once = c.waits i (net_in i) l.0 o.0 },
        each-bit key is (done ++ (i ∷ [])) (find_or_insert m (key i) i f) l.1 o.1 (numbered-chains d rank sound done i l.0 o.0 m (key i) f refl c),
      )

  each-cell : (ss cells : List ℕ) (m : Merging) → OnceAfter cells ss → All (Start d rank sound) ss → Merged d rank sound cells m → EachCell Goes d m ss
  unfolding EachCell OnceAfter All
  each-cell [] cells m o h g = tt
  each-cell (s ∷ ss) cells m o h g = (
    each-bit (λ i. key_of (visit_mut (map_net_new m.design.replaced) (cell_in d.cells i))) (output_of d.bits s) g.done m
        (cell-inside d rank sound s h.0) (cell-fresh d rank sound cells s m h.0 o.0 g) g.chains,
    each-cell ss (cells ++ (s ∷ [])) (merge_cell d m s) o.1 h.1 (cell-merged d rank sound cells s m h.0 o.0 g),
  )

  -- the law
  pub merge-goes : MergeGoes d
  merge-goes = record {
    cells = each-cell (gates d) [] (begun d) (gates-once d rank sound) (gates-start d rank sound) (begun-merged d rank sound);
    complete = sound-complete (rewired d rank sound) (sizes_in total d.cells) (rewired-sound d rank sound);
  }
