-- A sound netlist is complete. Assumes nothing.
use mathlib.Core.Path.{◌≡◌, refl, sym, ap, ◌∙◌}
use mathlib.Core.Bool.{Bool, true, false, cond}
use mathlib.Core.List.{List, [], ◌∷◌}
use Prim.Native.Nat.{ℕ, suc, ◌+◌}
use native.Mathlib.Omega.{arith}
use lib.Dec.{eqb}
use lib.ListN.{length, get_or, drop}
use lib.Seq.{get_or-drop}
use borrow.Author.Tests.{eqb-true}
use Rattle.basics.proofs.Tables.{tabulate-length}
use Rattle.netlist.specs.Netlist.{Netlist, run, output_of}
use Rattle.kept.proofs.Sound.{Sound, start-inside, start-zero, start_has, sound-wired}
use Rattle.kept.proofs.Keep.{reads_kept}
use Rattle.unreached.specs.Stops.{Complete}

-- a run of bits above 0 ends at a 0, or at the end
run_ends : (l : List ℕ) → get_or l (run l) 0 ≡ 0
unfolding run
run_ends [] = refl
run_ends (b ∷ l) = go (eqb b 0) refl (run_ends l)
  where
    go : (c : Bool) → eqb b 0 ≡ c → get_or l (run l) 0 ≡ 0 → get_or (b ∷ l) (cond c 0 (suc (run l))) 0 ≡ 0
    go true e h = eqb-true b 0 e
    go false e h = h

next_start : (bits : List ℕ) (s : ℕ) → get_or bits (s + length (output_of bits s)) 0 ≡ 0
unfolding output_of
next_start bits s =
    let k : ℕ = run (drop (s + 1) bits) in
    let e : s + length (output_of bits s) ≡ s + 1 + k = ap (λ (i : ℕ). s + i) (tabulate-length (λ i. s + i) (suc k)) ∙ omega arith in
    ap (λ (i : ℕ). get_or bits i 0) e ∙ sym (get_or-drop (s + 1) bits k 0) ∙ run_ends (drop (s + 1) bits)

-- the law
pub sound-complete : (d : Netlist) (rank : ℕ → ℕ) → Sound d rank → Complete d
sound-complete d rank sound = record {
  wired = sound-wired d rank sound;
  start = start-inside d rank sound;
  first = start-zero d rank sound;
  bit = start_has d rank sound;
  next = next_start d.bits;
  kept = reads_kept d rank sound;
}
