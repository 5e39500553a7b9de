-- The bytes of records, one after another. Assumes nothing.
use mathlib.Core.Path.{◌≡◌, refl, ap, ◌∙◌}
use mathlib.Core.List.{List, [], ◌∷◌, ◌++◌, map}
use Prim.Native.Nat.{◌*◌}
use native.Mathlib.Omega.{arith}
use lib.ListN.{length, length-append}
use Rattle.cell.specs.declared.Record.{Record}
use Rattle.cell.specs.Bytes.{bytes16, bytes32}
use Rattle.cell.specs.Records.{bytes_of}
use Rattle.basics.specs.Lists.{joined}
use Rattle.basics.proofs.Tables.{map-append, joined-append}
use Rattle.netlist.specs.Netlist.{ticket_of}

pub ticket-append : (xs ys : List Record) → ticket_of (xs ++ ys) ≡ ticket_of xs ++ ticket_of ys
unfolding ticket_of
ticket-append xs ys = ap joined (map-append bytes_of xs ys) ∙ joined-append (map bytes_of xs) (map bytes_of ys)

bytes-length : (r : Record) → length (bytes_of r) ≡ 16
unfolding bytes_of bytes16 bytes32
bytes-length r = refl

pub ticket-length : (rs : List Record) → length (ticket_of rs) ≡ length rs * 16
unfolding ticket_of joined
ticket-length [] = refl
ticket-length (r ∷ rs) = length-append (bytes_of r) (ticket_of rs) ∙ omega (arith, bytes-length r, ticket-length rs)
