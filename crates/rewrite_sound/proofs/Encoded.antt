-- What is encoded is bytes. Assumes nothing.
use mathlib.Core.List.{List, [], ◌∷◌}
use Prim.Native.Nat.{ℕ, zero, suc, ◌<◌}
use native.Mathlib.Omega.{arith}
use lib.ListN.{length, get_or}
use Rattle.value.specs.declared.ControlNet.TheVariants.{Pos, Neg}
use Rattle.cell.specs.declared.Record.{Record}
use Rattle.cell.specs.declared.Cell.{Cell}
use Rattle.cell.specs.declared.Cell.TheVariants.{Input, Output, Buf, Not, And, Or, Xor, Mux, Aig}
use Rattle.cell.specs.Bytes.{bytes16, bytes32}
use Rattle.cell.specs.Records.{bytes_of, cell_record}
use Rattle.netlist.specs.Netlist.{Netlist, encode, ticket_of}
use Rattle.basics.specs.Lists.{joined, All}
use Rattle.calls.specs.Calls.{encoded}
use Rattle.basics.proofs.Members.{all_append, all-tabulate}
use Rattle.kept.specs.Kept.{Bytes}
use Rattle.kept.proofs.Sound.{record_in}

abbrev Byte : ℕ → Type 0
Byte x = x < 256

-- kind and flags of a cell's record
head_bytes : (bit : ℕ) (c : Cell) → Byte (cell_record bit c).kind × Byte (cell_record bit c).flags
unfolding cell_record
head_bytes bit (Input l) = (omega arith, omega arith)
head_bytes bit (Output a l) = (omega arith, omega arith)
head_bytes bit (Buf a) = (omega arith, omega arith)
head_bytes bit (Not a) = (omega arith, omega arith)
head_bytes bit (And a b) = (omega arith, omega arith)
head_bytes bit (Or a b) = (omega arith, omega arith)
head_bytes bit (Xor a b) = (omega arith, omega arith)
head_bytes bit (Mux a b c) = (omega arith, omega arith)
head_bytes bit (Aig (Pos a) (Pos b)) = (omega arith, omega arith)
head_bytes bit (Aig (Pos a) (Neg b)) = (omega arith, omega arith)
head_bytes bit (Aig (Neg a) (Pos b)) = (omega arith, omega arith)
head_bytes bit (Aig (Neg a) (Neg b)) = (omega arith, omega arith)

word_bytes : (v : ℕ) → All Byte (bytes32 v)
unfolding bytes32 All
word_bytes v = (omega arith, (omega arith, (omega arith, (omega arith, tt))))

record-bytes : (r : Record) → Byte r.kind → Byte r.flags → All Byte (bytes_of r)
unfolding bytes_of bytes16 All
record-bytes r k f = (
  k,
  (
    f,
    (
      omega arith,
      (
        omega arith,
        all_append Byte (bytes32 r.a) _ (word_bytes r.a) (all_append Byte (bytes32 r.b) _ (word_bytes r.b) (word_bytes r.c)),
      ),
    ),
  ),
)

ticket-bytes : (rs : List Record) → All (λ r. All Byte (bytes_of r)) rs → All Byte (ticket_of rs)
unfolding ticket_of joined All
ticket-bytes [] h = tt
ticket-bytes (r ∷ rs) h = all_append Byte (bytes_of r) (ticket_of rs) h.0 (ticket-bytes rs h.1)

byte_at : (l : List ℕ) → All Byte l → Bytes l
unfolding All
byte_at [] h k = omega arith
byte_at (x ∷ l) h zero = h.0
byte_at (x ∷ l) h (suc k) = byte_at l h.1 k

pub encoded-bytes : (d : Netlist) → Bytes (encoded d)
unfolding encode
encoded-bytes d =
    byte_at (encoded d) (ticket-bytes (encode d) (all-tabulate (λ r. All Byte (bytes_of r)) (record_in d) (length d.cells)
    (λ s l. let h = head_bytes (get_or d.bits s 0) (get_or d.cells s (Input 0)) in record-bytes (record_in d s) h.0 h.1)))
