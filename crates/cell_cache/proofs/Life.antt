-- The cell cache through a run: empty at first, an added cell is put in, and nothing else changes it. Assumes nothing.
use mathlib.Core.Path.{◌≡◌, refl, ap, ◌∙◌}
use mathlib.Core.Bool.{Bool, true, false, cond, not}
use mathlib.Core.List.{List, [], ◌∷◌, ◌++◌, append-nil}
use Prim.Native.Nat.{ℕ, suc, ◌+◌, ◌-◌, ◌≤◌, ◌<◌}
use native.Mathlib.Omega.{arith}
use lib.ListN.{length, set, length-append, length-set, get_or-append}
use lib.Seq.{get_or-set_other, get_or-append_seam}
use Rattle.cell.specs.declared.Cell.{Cell}
use Rattle.basics.specs.Lists.{tabulate, those}
use Rattle.netlist.specs.Shape.{has_effects}
use Rattle.netlist.specs.Netlist.{cell_in}
use Rattle.netlist.proofs.Frames.{tabulate-same}
use Rattle.basics.proofs.Those.{those-append}
use Rattle.numberer.specs.Numberer.{Entry}
use Rattle.design.specs.Queue.{net_in}
use Rattle.cell_cache.specs.CellCache.{inserted, added_at, without_effects, cell_cache}

pub cache-begins : (cs : List Cell) → cell_cache (length cs) cs ≡ []
unfolding cell_cache tabulate those
cache-begins cs =
    let e : length cs - length cs ≡ 0 = omega arith in
    ap (λ (k : ℕ). without_effects (tabulate (added_at (length cs) cs) k)) e

pub cache-stays : (n : ℕ) (cs : List Cell) (s : ℕ) (d : Cell) → s < n → cell_cache n (set cs s d) ≡ cell_cache n cs
unfolding cell_cache
cache-stays n cs s d l =
    rw (length-set cs s d)
    (ap without_effects (tabulate-same (added_at n (set cs s d)) (added_at n cs) (length cs - n)
    (λ i k. ap (λ (c : Cell). (c, net_in (n + i))) (get_or-set_other cs s (n + i) d _ (λ e. omega (arith, e, l))))))

-- one more cell at the end
module _ (n : ℕ) (cs : List Cell) (c : Cell) (l : n ≤ length cs) where
  abbrev cs' : List Cell
  cs' = cs ++ (c ∷ [])

  abbrev added : ℕ
  added = length cs - n

  abbrev new : Entry
  new = (c, net_in (length cs))

  one_more : length cs' - n ≡ suc added
  one_more = omega (arith, length-append cs (c ∷ []), l)

  before : tabulate (added_at n cs') added ≡ tabulate (added_at n cs) added
  before =
      tabulate-same (added_at n cs') (added_at n cs) added
      (λ i h. ap (λ (d : Cell). (d, net_in (n + i))) (get_or-append cs (c ∷ []) _ (n + i) (omega (arith, h, l))))

  last : added_at n cs' added ≡ new
  last =
      let e : n + added ≡ length cs = omega (arith, l) in
      ap (λ (s : ℕ). (cell_in cs' s, net_in s)) e ∙ ap (λ (d : Cell). (d, net_in (length cs))) (get_or-append_seam cs c [] _)

  put : (b : Bool) (es : List Entry) → es ++ cond (not b) (new ∷ []) [] ≡ cond b es (es ++ (new ∷ []))
  put true es = append-nil es
  put false es = refl

  pub cache-inserts : cell_cache n cs' ≡ inserted c (net_in (length cs)) (cell_cache n cs)
  unfolding cell_cache tabulate those
  cache-inserts =
      ap (λ (k : ℕ). without_effects (tabulate (added_at n cs') k)) one_more
      ∙ (λ i. without_effects (before i ++ (last i ∷ [])))
      ∙ those-append _ (tabulate (added_at n cs) added) (new ∷ [])
      ∙ put (has_effects c) (without_effects (tabulate (added_at n cs) added))
