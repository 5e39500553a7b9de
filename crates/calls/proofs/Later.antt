-- The numbers that the stages behind those of checking give: 10 and 11, 9 and 12, and 12. Assumes nothing.
use mathlib.Core.List.{List, [], ◌∷◌}
use Prim.Native.Nat.{ℕ}
use native.Mathlib.Omega.{arith}
use lib.ListN.{length}
use Rattle.cell.specs.declared.Cell.{Cell}
use Rattle.refusals.proofs.Stages.{EachGives, slots-give, Within}
use Rattle.rewrite.specs.Rewriter.{Lookup}
use Rattle.calls.specs.Calls.{room, rewrite_stages, stimulus_stages}

pub stimulus-gives : (cs : List Cell) (stimulus : List ℕ) → EachGives (Within 10 11) (stimulus_stages cs stimulus)
unfolding stimulus_stages
stimulus-gives cs stimulus = (omega arith, slots-give (Within 10 11) _ (λ i. (omega arith, tt)) (length stimulus))

pub rewrite-gives : (look : Lookup) (t reply : List ℕ) → EachGives (Within 9 12) (rewrite_stages look t reply)
unfolding rewrite_stages
rewrite-gives look t reply = (omega arith, (omega arith, tt))

pub room-gives : (reply bytes : List ℕ) → EachGives (Within 12 12) (room reply bytes ∷ [])
room-gives reply bytes = (omega arith, tt)
