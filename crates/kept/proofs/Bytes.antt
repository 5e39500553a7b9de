-- A sound netlist goes through bytes and comes back. Assumes nothing.
use mathlib.Core.Path.{◌≡◌, refl, sym, ap, ap₂, ◌∙◌, subst}
use mathlib.Core.List.{List, [], ◌∷◌, ◌++◌, map}
use mathlib.Core.Bool.{false, true≢false, not}
use Prim.Native.Nat.{ℕ, zero, suc, ◌+◌, ◌*◌, ◌/◌, ◌≤◌, ◌<◌, ◌%◌}
use native.Mathlib.Omega.{arith}
use lib.ListN.{length, get_or, length-map}
use lib.Seq.{get_or-append-add, ext_get_or}
use lib.Dec.{ltb}
use borrow.Author.Tests.{eq-eqb, le-ltb}
use Rattle.std.specs.Prelude.{Ok}
use Rattle.logic.specs.declared.Trit.{Trit}
use Rattle.logic.specs.declared.Trit.TheVariants.{Zero, One, Undef}
use Rattle.value.specs.declared.Net.{Net}
use Rattle.value.specs.declared.Slot.{Slot}
use Rattle.value.specs.declared.Driver.{Driver}
use Rattle.value.specs.declared.Driver.TheVariants as driven
use Rattle.value.specs.Value.{driver, from_trit}
use Rattle.value.proofs.Laws.{const-driver, cell-driver}
use Rattle.cell.specs.declared.Record.{Record}
use Rattle.cell.specs.declared.Cell.{Cell}
use Rattle.cell.specs.declared.Cell.TheVariants.{Input, Output, Buf, Not, And, Or, Xor, Mux, Aig}
use Rattle.cell.specs.Bytes.{word16, word32, bytes16, bytes32}
use Rattle.cell.specs.Records.{record_of, record_at, records_of, record_in, bytes_of, cell_of, cell_record}
use Rattle.cell.proofs.Lists.{records-length, records-at}
use Rattle.cell.proofs.RoundTrips.{cell-back, Ranged, bytes_back}
use Rattle.refusals.specs.Refusals.{first_of}
use Rattle.checking.specs.Checking.{netlist_stages}
use Rattle.checking.proofs.Groups.{SizesPass, sizes-exactly, check-exactly}
use Rattle.netlist.specs.Shape.{visit, visit_mut, has_effects}
use Rattle.netlist.specs.Netlist.{Netlist, netlist_of, cell_in, encode, ticket_of}
use Rattle.basics.specs.Lists.{joined, All}
use Rattle.compact.proofs.Lists.{ticket-length}
use Rattle.calls.specs.Calls.{encoded, check_verdict}
use Rattle.basics.proofs.Members.{all-imp}
use Rattle.basics.proofs.Indices.{get_d-mapped}
use Rattle.order_laws.proofs.Sorts.{record-bit}
use Rattle.kept.proofs.Sound as sound
use Rattle.kept.proofs.Sound.{Inside, Sound, bit-small}
use Rattle.kept.proofs.Passing.{encode-length, encode-at, sound-passes}

-- records -> bytes -> records
record-first : (r : Record) (t : List ℕ) → record_at (bytes_of r ++ t) 0 ≡ record_at (bytes_of r) 0
unfolding record_at bytes_of word16 word32 bytes16 bytes32
record-first r t = refl

-- a record later in the ticket
module _ (xs t : List ℕ) (e : length xs ≡ 16) where
  shift : (i j : ℕ) → j ≡ 16 + i → get_or (xs ++ t) j 0 ≡ get_or t i 0
  shift i j q = ap (λ (k : ℕ). get_or (xs ++ t) k 0) (let r : j ≡ length xs + i = omega arith in r) ∙ get_or-append-add xs t i 0

  shift16 : (i j : ℕ) → j ≡ 16 + i → word16 (xs ++ t) j ≡ word16 t i
  unfolding word16
  shift16 i j q = ap₂ (λ (a b : ℕ). a + 256 * b) (shift i j q) (shift (i + 1) (j + 1) (omega arith))

  shift32 : (i j : ℕ) → j ≡ 16 + i → word32 (xs ++ t) j ≡ word32 t i
  unfolding word32
  shift32 i j q =
      rw (shift i j q, shift (i + 1) (j + 1) (omega arith), shift (i + 2) (j + 2) (omega arith), shift (i + 3) (j + 3) (omega arith))

  record-later : (s : ℕ) → record_at (xs ++ t) (suc s) ≡ record_at t s
  unfolding record_at
  record-later s =
      let m : suc s * 16 ≡ 16 + s * 16 = omega arith in
      rw (
        shift (s * 16) (suc s * 16) (omega arith),
        shift (s * 16 + 1) (suc s * 16 + 1) (omega arith),
        shift16 (s * 16 + 2) (suc s * 16 + 2) (omega arith),
        shift32 (s * 16 + 4) (suc s * 16 + 4) (omega arith),
        shift32 (s * 16 + 8) (suc s * 16 + 8) (omega arith),
        shift32 (s * 16 + 12) (suc s * 16 + 12) (omega arith),
      )

ticket-at : (rs : List Record) (s : ℕ) → s < length rs → Ranged (record_in rs s) → record_at (ticket_of rs) s ≡ record_in rs s
unfolding ticket_of joined bytes_of bytes16 bytes32
ticket-at [] s l w = absurd (omega arith)
ticket-at (r ∷ rs) zero l w = record-first r (ticket_of rs) ∙ bytes_back r w
ticket-at (r ∷ rs) (suc s) l w = record-later (bytes_of r) (ticket_of rs) refl s ∙ ticket-at rs s (omega arith) w

pub ticket-records : (rs : List Record) → length (ticket_of rs) / 16 ≡ length rs
ticket-records rs = omega (arith, ticket-length rs)

pub ticket-back : (rs : List Record) → ((s : ℕ) → s < length rs → Ranged (record_in rs s)) → records_of (ticket_of rs) ≡ rs
ticket-back rs w =
    ext_get_or (record_of 0 0 0 0 0 0) (records_of (ticket_of rs)) rs (records-length (ticket_of rs) ∙ ticket-records rs)
    (λ s h. let l : s < length rs = omega (arith, records-length (ticket_of rs), ticket-records rs) in
    records-at (ticket_of rs) s (omega (arith, ticket-records rs)) ∙ ticket-at rs s l (w s l))

-- the fields of a cell's record: nets, and the label of an input or output
pub label_of : Cell → ℕ
label_of (Input l) = l
label_of (Output a l) = l
label_of (Buf a) = 0
label_of (Not a) = 0
label_of (And a b) = 0
label_of (Or a b) = 0
label_of (Xor a b) = 0
label_of (Mux a b c) = 0
label_of (Aig p q) = 0

labels : (f : Net → Net) (c : Cell) → (label_of (visit_mut f c) ≡ label_of c) × (has_effects c ≡ false → label_of c ≡ 0)
unfolding label_of visit_mut has_effects
labels f (Input l) = (refl, λ e. absurd (true≢false e))
labels f (Output a l) = (refl, λ e. absurd (true≢false e))
labels f (Buf a) = (refl, λ e. refl)
labels f (Not a) = (refl, λ e. refl)
labels f (And a b) = (refl, λ e. refl)
labels f (Or a b) = (refl, λ e. refl)
labels f (Xor a b) = (refl, λ e. refl)
labels f (Mux a b c) = (refl, λ e. refl)
labels f (Aig p q) = (refl, λ e. refl)

pub label_kept : (f : Net → Net) (c : Cell) → label_of (visit_mut f c) ≡ label_of c
label_kept f c = (labels f c).0

pub gate-label : (c : Cell) → has_effects c ≡ false → label_of c ≡ 0
gate-label c = (labels (λ n. n) c).1

pub label_small : (bit : ℕ) (c : Cell) → (cell_record bit c).a < 4294967296 → (cell_record bit c).b < 4294967296 → label_of c < 4294967296
unfolding cell_record label_of
label_small bit (Input l) a b = a
label_small bit (Output n l) a b = b
label_small bit (Buf n) a b = omega arith
label_small bit (Not n) a b = omega arith
label_small bit (And n m) a b = omega arith
label_small bit (Or n m) a b = omega arith
label_small bit (Xor n m) a b = omega arith
label_small bit (Mux n m k) a b = omega arith
label_small bit (Aig p q) a b = omega arith

abbrev Small : ℕ → Type 0
Small x = x < 4294967296

zero-small : Small 0
zero-small = omega arith

cell-ranged : (bit : ℕ) (c : Cell) → bit < 65536 → Small (label_of c) → All (λ n. Small n.0) (visit c) → Ranged (cell_record bit c)
unfolding All visit label_of cell_record
cell-ranged bit (Input l) b h w = record { bit = b; a = h; b = zero-small; c = zero-small }
cell-ranged bit (Output a l) b h w = record { bit = b; a = w.0; b = h; c = zero-small }
cell-ranged bit (Buf a) b h w = record { bit = b; a = w.0; b = zero-small; c = zero-small }
cell-ranged bit (Not a) b h w = record { bit = b; a = w.0; b = zero-small; c = zero-small }
cell-ranged bit (And a a₂) b h w = record { bit = b; a = w.0; b = w.1.0; c = zero-small }
cell-ranged bit (Or a a₂) b h w = record { bit = b; a = w.0; b = w.1.0; c = zero-small }
cell-ranged bit (Xor a a₂) b h w = record { bit = b; a = w.0; b = w.1.0; c = zero-small }
cell-ranged bit (Mux a a₂ a₃) b h w = record { bit = b; a = w.0; b = w.1.0; c = w.1.1.0 }
cell-ranged bit (Aig p q) b h w = record { bit = b; a = w.0; b = w.1.0; c = zero-small }

const-small : (t : Trit) → Small (from_trit t).0
const-small Undef = omega arith
const-small Zero = omega arith
const-small One = omega arith

net-small : (n : Net) → ((x : Slot) → driver n ≡ driven.Cell x → x.0 < 65536) → Small n.0
net-small n h = go (driver n) refl
  where
    go : (r : Driver) → driver n ≡ r → Small n.0
    go (driven.Const t) e = subst (λ (m : Net). Small m.0) (sym (const-driver n t e)) (const-small t)
    go (driven.Cell x) e =
        let q : n.0 ≡ x.0 + 2 = ap (λ (m : Net). m.0) (cell-driver n x e) in
        let l : x.0 < 65536 = h x e in omega arith

-- a sound netlist whose labels have 32 bits
abbrev pub Labelled : Netlist → Type 0
Labelled d = (s : ℕ) → s < length d.cells → label_of (cell_in d.cells s) < 4294967296

module _ (d : Netlist) (rank : ℕ → ℕ) (good : Sound d rank) (labelled : Labelled d) where
  slot-ranged : (s : ℕ) → s < length d.cells → Ranged (sound.record_in d s)
  slot-ranged s l =
      let f : length d.cells ≤ 65536 = good.few in
      cell-ranged (get_or d.bits s 0) (cell_in d.cells s) (let b : get_or d.bits s 0 ≤ s = bit-small d rank good s l in omega arith) (labelled s l)
      (all-imp (Inside d.cells) (λ n. Small n.0) (λ n o. net-small n (λ x e. let i : x.0 < length d.cells = o x e in omega arith))
      (visit (cell_in d.cells s)) (good.inside s l))

  pub records-back : records_of (ticket_of (encode d)) ≡ encode d
  records-back =
      ticket-back (encode d)
      (λ s h. let l : s < length d.cells = let e : length (encode d) ≡ length d.cells = encode-length d rank good in omega arith in
      subst Ranged (sym (encode-at d rank good s l)) (slot-ranged s l))

  -- what each record gives, read off the records
  read_back : {A : Type 0} (g : Record → A) (l : List A) (z : A) → length l ≡ length d.cells
      → ((s : ℕ) → s < length d.cells → g (sound.record_in d s) ≡ get_or l s z) → map g (encode d) ≡ l
  read_back g l z w h =
      let e : length (encode d) ≡ length d.cells = encode-length d rank good in
      let m : length (map g (encode d)) ≡ length (encode d) = length-map (encode d) g in
      ext_get_or z (map g (encode d)) l (m ∙ e ∙ sym w)
      (λ s k. get_d-mapped g (encode d) s (record_of 0 0 0 0 0 0) z (omega arith) ∙ ap g (encode-at d rank good s (omega arith)) ∙ h s (omega arith))

  cells-back : map cell_of (encode d) ≡ d.cells
  cells-back = read_back cell_of d.cells (Input 0) refl (λ s l. cell-back (get_or d.bits s 0) (cell_in d.cells s))

  bits_back : map (λ r. r.bit) (encode d) ≡ d.bits
  bits_back = read_back (λ r. r.bit) d.bits 0 good.wide (λ s l. record-bit (get_or d.bits s 0) (cell_in d.cells s))

  -- netlist -> bytes -> netlist
  pub netlist-back : netlist_of (records_of (ticket_of (encode d))) ≡ d
  unfolding netlist_of
  netlist-back =
      ap netlist_of records-back ∙ ap₂ (λ (cs : List Cell) (bs : List ℕ). record { cells = cs; bits = bs }) cells-back bits_back

  -- as a ticket it has whole records, one for each slot, and they pass
  pub encoded-whole : length (encoded d) % 16 ≡ 0
  encoded-whole = omega (arith, ticket-length (encode d))

  pub encoded-count : length (encoded d) / 16 ≡ length d.cells
  encoded-count = ticket-records (encode d) ∙ encode-length d rank good

  pub encoded-records : first_of (netlist_stages (records_of (encoded d))) ≡ Ok tt
  encoded-records = ap (λ (rs : List Record). first_of (netlist_stages rs)) records-back ∙ sound-passes d rank good

  -- so checking passes it, where they are not too many
  pub encoded-passes : (words : ℕ) → ltb words 16384 ≡ false → length (encoded d) / 16 ≤ 512 → check_verdict words (encoded d) ≡ Ok tt
  unfolding check_verdict
  encoded-passes words enough l =
      let sizes : SizesPass words (encoded d) = record {
        work = enough;
        whole = ap not (eq-eqb (length (encoded d) % 16) 0 encoded-whole);
        few = le-ltb 512 (length (encoded d) / 16) l;
      } in
      (check-exactly words (encoded d)).1 (record { sizes = (sizes-exactly words (encoded d)).1 sizes; netlist = encoded-records })
