use Rattle.std.proofs.Common.{◌≡◌, ◌≤◌, length}
use Rattle.case_file.proofs.read.Given as goal

abbrev pub invariant-loop-line : goal.invariant-loop-line
invariant-loop-line l =
    (goal.iterator-loop-line).can_next l.line-iterator
    × (goal.iterator-loop-line).is_finite l.line-iterator
    × (l.case.bytes ≤ length l.ticket)
    × (l.case.expected.spare ≡ 0)
