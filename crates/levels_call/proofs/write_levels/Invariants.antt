-- `levels_call::write_levels` meets its contract. Assumes nothing.
use Rattle.levels_call.proofs.Outputs.{Writing}
use Rattle.levels_call.proofs.write_levels.Given as goal

abbrev pub invariant-loop-s : goal.invariant-loop-s
invariant-loop-s l = Writing l.n l.work l.initial.reply l.reply l.s l.k
