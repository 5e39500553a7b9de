-- Records as 16 bytes and as cells (paper, "The ticket"; cell.rs, `Cell`). Assumes nothing: these are definitions.
use Rattle.std.specs.Prelude.{cond, List, ◌∷◌, ◌++◌, ℕ, ◌+◌, ◌*◌, ◌/◌, ◌%◌, eqb, length, get_or, Option, Some, None}
use Rattle.value.specs.declared.ControlNet.{ControlNet}
use Rattle.value.specs.Value.{ZERO, net_at, from_net_invert, net, is_negative}
use Rattle.kinds.specs.declared.Sort.{Sort}
use Rattle.kinds.specs.declared.Sort.TheVariants as sort
use Rattle.kinds.specs.Kinds.{sort_of, number_of}
use Rattle.cell.specs.declared.Record.{Record}
use Rattle.cell.specs.declared.Cell.{Cell}
use Rattle.cell.specs.declared.Cell.TheVariants.{Input, Output, Buf, Not, And, Or, Xor, Mux, Aig}
use Rattle.cell.specs.Bytes.{word16, word32, bytes16, bytes32}
use Rattle.basics.specs.Lists.{tabulate}

abbrev pub record_of : ℕ → ℕ → ℕ → ℕ → ℕ → ℕ → Record
record_of kind flags bit a b c = record { kind = kind; flags = flags; bit = bit; a = a; b = b; c = c }

-- the record of a slot: byte 0 kind, byte 1 flags, bytes 2 and 3 bit, bytes 4 to 7 a, 8 to 11 b, 12 to 15 c
unfoldable pub record_at : List ℕ → ℕ → Record
record_at t s =
    record_of (get_or t (s * 16) 0) (get_or t (s * 16 + 1) 0) (word16 t (s * 16 + 2))
    (word32 t (s * 16 + 4)) (word32 t (s * 16 + 8)) (word32 t (s * 16 + 12))

-- the records of a ticket, slot by slot
unfoldable pub records_of : List ℕ → List Record
records_of t = tabulate (record_at t) (length t / 16)

-- the record of a slot in such a list; past its end a record of kind 0, which has no operands
abbrev pub record_in : List Record → ℕ → Record
record_in rs s = get_or rs s (record_of 0 0 0 0 0 0)

-- the 16 bytes of a record
unfoldable pub bytes_of : Record → List ℕ
bytes_of r = r.kind ∷ r.flags ∷ (bytes16 r.bit ++ (bytes32 r.a ++ (bytes32 r.b ++ bytes32 r.c)))

-- flag 1 inverts a, flag 2 inverts b
abbrev pub flags_of : ControlNet → ControlNet → ℕ
flags_of p q = cond (is_negative p) 1 0 + cond (is_negative q) 2 0

-- the cell of a record, by its sort. No record of an unknown kind gets here; as a buffer of a constant it would read no slot
abbrev pub cell_by : Option Sort → Record → Cell
cell_by None r = Buf ZERO
cell_by (Some sort.Input) r = Input r.a
cell_by (Some sort.Output) r = Output (net_at r.a) r.b
cell_by (Some sort.Buf) r = Buf (net_at r.a)
cell_by (Some sort.Not) r = Not (net_at r.a)
cell_by (Some sort.And) r = And (net_at r.a) (net_at r.b)
cell_by (Some sort.Or) r = Or (net_at r.a) (net_at r.b)
cell_by (Some sort.Xor) r = Xor (net_at r.a) (net_at r.b)
cell_by (Some sort.Mux) r = Mux (net_at r.a) (net_at r.b) (net_at r.c)
cell_by (Some sort.Aig) r = Aig (from_net_invert (net_at r.a) (eqb (r.flags % 2) 1)) (from_net_invert (net_at r.b) (eqb (r.flags / 2 % 2) 1))

unfoldable pub cell_of : Record → Cell
cell_of r = cell_by (sort_of r.kind) r

-- the record of a cell that is bit number `bit` of its cell
unfoldable pub cell_record : ℕ → Cell → Record
cell_record bit (Input l) = record_of (number_of sort.Input) 0 bit l 0 0
cell_record bit (Output a l) = record_of (number_of sort.Output) 0 bit a.0 l 0
cell_record bit (Buf a) = record_of (number_of sort.Buf) 0 bit a.0 0 0
cell_record bit (Not a) = record_of (number_of sort.Not) 0 bit a.0 0 0
cell_record bit (And a b) = record_of (number_of sort.And) 0 bit a.0 b.0 0
cell_record bit (Or a b) = record_of (number_of sort.Or) 0 bit a.0 b.0 0
cell_record bit (Xor a b) = record_of (number_of sort.Xor) 0 bit a.0 b.0 0
cell_record bit (Mux a b c) = record_of (number_of sort.Mux) 0 bit a.0 b.0 c.0
cell_record bit (Aig p q) = record_of (number_of sort.Aig) (flags_of p q) bit (net p).0 (net q).0 0
