use mathlib.Core.Path.{◌≡◌}
use Prim.Native.Nat.{◌+◌, ◌*◌}
use native.Mathlib.Omega.{arith}
use Rattle.cell.specs.Bytes.{store16}
use Rattle.cell.proofs.Laws.{store_record, store_record-is}
use Rattle.cell.proofs.write_record.Goals as goal

pub returns : goal.returns
unfolding store_record store16
returns c =
    let a = c.args in
    let i = a.s.0 * 16 in
    let three : i + 2 + 1 ≡ i + 3 = omega arith in
    rw (c.set32-3.ensures, c.set32-2.ensures, c.set32.ensures, c.to_le_bytes.ensures, ← three) (store_record-is a.reply.now i a.r)
