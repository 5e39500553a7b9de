use Rattle.text.proofs.Text.{Spacing}
use Rattle.text.proofs.put_fields.Given as goal

abbrev pub invariant-loop-x : goal.invariant-loop-x
invariant-loop-x l = Spacing l.numbers l.initial.text l.text l.at l.n l.x-index
