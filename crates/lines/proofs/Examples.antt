-- The definitions of the lines give what the paper prints: the result of T2, and the refusal of T9; and what request 2026-06 does. Assumes nothing.
use mathlib.Core.Path.{◌≡◌, refl}
use mathlib.Core.List.{[], ◌∷◌}
use Rattle.value.specs.Value.{slot_at}
use Rattle.cell.specs.Bytes.{word16, word32, bytes16, bytes32}
use Rattle.cell.specs.Records.{record_of, record_at, bytes_of}
use Rattle.basics.specs.Lists.{joined}
use Rattle.netlist.specs.Netlist.{ticket_of}
use Rattle.refusals.specs.declared.Refusal.TheVariants.{UndrivenOperand, Loop}
use Rattle.lines.specs.Ascii.{ascii}
use Rattle.lines.specs.Decimal.{digits_in, decimal}
use Rattle.lines.specs.Lines.{spaced, record_line, lines_to, lines_of, refusal_line}

lines-printed :
    lines_of (ticket_of (record_of 1 0 0 1 0 0 ∷ record_of 1 0 0 2 0 0 ∷ record_of 2 0 0 5 9 0 ∷ record_of 9 0 0 2 3 0 ∷ []))
    ≡ ascii "0 1 0 0 1 0 0\n1 1 0 0 2 0 0\n2 2 0 0 5 9 0\n3 9 0 0 2 3 0\n"
unfolding lines_of lines_to record_line spaced decimal digits_in record_at word16 word32 bytes_of bytes16 bytes32 joined ticket_of
lines-printed = refl

-- each field in its place
fields-printed : record_line 7 (record_of 8 3 1 20 300 4000) ≡ ascii "7 8 3 1 20 300 4000\n"
unfolding record_line spaced decimal digits_in
fields-printed = refl

refusal-printed : refusal_line (Loop (slot_at 0)) ≡ ascii "refused 8 0\n"
unfolding refusal_line spaced decimal digits_in
refusal-printed = refl

-- request 2026-06: after a 7 its field stands third
undriven-printed : refusal_line (UndrivenOperand (slot_at 37) 2) ≡ ascii "refused 7 37 2\n"
unfolding refusal_line spaced decimal digits_in
undriven-printed = refl
