-- A cell, its record and the record's bytes: each way and back. Assumes nothing.
use Rattle.std.specs.Prelude.{Option, Some, None, is_some}
use mathlib.Core.Path.{◌≡◌, refl, sym, ap, ◌∙◌, subst}
use mathlib.Core.Bool.{true, false≢true}
use mathlib.Core.List.{List, [], ◌∷◌}
use Prim.Native.Nat.{ℕ, zero, suc, ◌+◌, ◌*◌, ◌/◌, ◌%◌, ◌<◌, ◌≤◌}
use native.Mathlib.Omega.{arith}
use native.Mathlib.Nat.{add_assoc, add-suc, div-div-eq-div-mul, mod-add-div, mod-eq_of_lt, add-mul-mod_self_left}
use lib.ListN.{length, get_or, take, drop}
use lib.Seq.{drop-cons}
use Rattle.value.specs.declared.ControlNet.TheVariants.{Pos, Neg}
use Rattle.cell.specs.declared.Record.{Record}
use Rattle.kinds.specs.declared.Use.{Use}
use Rattle.kinds.specs.declared.Use.TheVariants.{Unused, Label, Operand}
use Rattle.cell.specs.declared.Cell.{Cell}
use Rattle.cell.specs.declared.Cell.TheVariants.{Input, Output, Buf, Not, And, Or, Xor, Mux, Aig}
use Rattle.cell.specs.Bytes.{word16, word32, bytes16, bytes32}
use Rattle.kinds.specs.declared.Sort.{Sort}
use Rattle.kinds.specs.declared.Sort.TheVariants as sort
use Rattle.kinds.specs.Kinds.{sort_of, is_known, number_of, kind_by, kind_of}
use Rattle.kinds.proofs.Laws.{number-back}
use Rattle.cell.specs.Records.{record_of, record_at, bytes_of, cell_by, cell_of, cell_record}

-- cell -> record -> cell
pub cell-back : (bit : ℕ) (c : Cell) → cell_of (cell_record bit c) ≡ c
unfolding cell_of cell_record sort_of
cell-back bit (Input l) = refl
cell-back bit (Output a l) = refl
cell-back bit (Buf a) = refl
cell-back bit (Not a) = refl
cell-back bit (And a b) = refl
cell-back bit (Or a b) = refl
cell-back bit (Xor a b) = refl
cell-back bit (Mux a b c) = refl
cell-back bit (Aig (Pos a) (Pos b)) = refl
cell-back bit (Aig (Pos a) (Neg b)) = refl
cell-back bit (Aig (Neg a) (Pos b)) = refl
cell-back bit (Aig (Neg a) (Neg b)) = refl

-- record -> cell -> record, where the kind is known and unused fields and flags are 0
abbrev pub ZeroIf : Use → ℕ → Type 0
ZeroIf Unused x = x ≡ 0
ZeroIf Label x = Unit {0}
ZeroIf Operand x = Unit {0}

record WellFormedAs (o : Option Sort) (r : Record) : Type 0 where
  b : ZeroIf (kind_by o).b r.b
  c : ZeroIf (kind_by o).c r.c
  flags : r.flags ≤ (kind_by o).flags

pub record WellFormed (r : Record) : Type 0 where
  pub known : is_known r.kind ≡ true
  pub a : ZeroIf (kind_of r.kind).a r.a
  pub b : ZeroIf (kind_of r.kind).b r.b
  pub c : ZeroIf (kind_of r.kind).c r.c
  pub flags : r.flags ≤ (kind_of r.kind).flags

-- by sort, and by flags for an and-inverter
back : (s : Sort) (f bit a b c : ℕ) → WellFormedAs (Some s) (record_of (number_of s) f bit a b c)
    → cell_record bit (cell_by (Some s) (record_of (number_of s) f bit a b c)) ≡ record_of (number_of s) f bit a b c
unfolding cell_record
back sort.Input f bit a b c w = let e : f ≡ 0 = omega (arith, w.flags) in rw (e, w.b, w.c)
back sort.Output f bit a b c w = let e : f ≡ 0 = omega (arith, w.flags) in rw (e, w.c)
back sort.Buf f bit a b c w = let e : f ≡ 0 = omega (arith, w.flags) in rw (e, w.b, w.c)
back sort.Not f bit a b c w = let e : f ≡ 0 = omega (arith, w.flags) in rw (e, w.b, w.c)
back sort.And f bit a b c w = let e : f ≡ 0 = omega (arith, w.flags) in rw (e, w.c)
back sort.Or f bit a b c w = let e : f ≡ 0 = omega (arith, w.flags) in rw (e, w.c)
back sort.Xor f bit a b c w = let e : f ≡ 0 = omega (arith, w.flags) in rw (e, w.c)
back sort.Mux f bit a b c w = let e : f ≡ 0 = omega (arith, w.flags) in rw e
back sort.Aig zero bit a b c w = rw w.c
back sort.Aig (suc zero) bit a b c w = rw w.c
back sort.Aig (suc (suc zero)) bit a b c w = rw w.c
back sort.Aig (suc (suc (suc zero))) bit a b c w = rw w.c
back sort.Aig (suc (suc (suc (suc f)))) bit a b c w = absurd (omega (arith, w.flags))

pub record-back : (r : Record) → WellFormed r → cell_record r.bit (cell_of r) ≡ r
unfolding cell_of kind_of
record-back r w = go (sort_of r.kind) refl
  where
    at : ℕ → Record
    at k = record_of k r.flags r.bit r.a r.b r.c

    go : (o : Option Sort) → sort_of r.kind ≡ o → cell_record r.bit (cell_by (sort_of r.kind) r) ≡ r
    go None e = absurd (false≢true (sym (ap is_some e) ∙ w.known))
    go (Some s) e =
        let w′ : WellFormedAs (Some s) r = subst (λ (o : Option Sort). WellFormedAs o r) e (record { b = w.b; c = w.c; flags = w.flags }) in
        rw e (subst (λ (k : ℕ). cell_record r.bit (cell_by (Some s) (at k)) ≡ at k) (number-back r.kind s e)
        (back s r.flags r.bit r.a r.b r.c (record { b = w′.b; c = w′.c; flags = w′.flags })))

-- record -> bytes -> record, where each field has its range
pub record Ranged (r : Record) : Type 0 where
  pub bit : r.bit < 65536
  pub a : r.a < 4294967296
  pub b : r.b < 4294967296
  pub c : r.c < 4294967296

digit : (v : ℕ) → v % 256 + 256 * (v / 256) ≡ v
digit v = mod-add-div v 256

-- the last digit of a number that has no more
last-digit : (v : ℕ) → v < 256 → v % 256 ≡ v
last-digit v h = mod-eq_of_lt h

digits16 : (v : ℕ) → v < 65536 → v % 256 + 256 * (v / 256 % 256) ≡ v
digits16 v h = rw (last-digit (v / 256) (omega arith)) (digit v)

digits32 : (v : ℕ) → v < 4294967296 → v % 256 + 256 * (v / 256 % 256 + 256 * (v / 65536 % 256 + 256 * (v / 16777216 % 256))) ≡ v
digits32 v h =
    rw (← div-div-eq-div-mul v 65536 256, ← div-div-eq-div-mul v 256 256, last-digit (v / 256 / 256 / 256) (omega arith), digit (v / 256 / 256), digit (v / 256))
    (digit v)

pub bytes_back : (r : Record) → Ranged r → record_at (bytes_of r) 0 ≡ r
unfolding record_at bytes_of word16 word32 bytes16 bytes32
bytes_back r w = rw (digits16 r.bit w.bit, digits32 r.a w.a, digits32 r.b w.b, digits32 r.c w.c)

-- bytes -> record -> bytes
pub low : (w v : ℕ) → w < 256 → (w + 256 * v) % 256 ≡ w
low w v h = add-mul-mod_self_left w 256 v ∙ mod-eq_of_lt h

pub high : (w v : ℕ) → w < 256 → (w + 256 * v) / 256 ≡ v
high w v h = omega (arith, low w v h, digit (w + 256 * v))

module _ (w x : ℕ) (hw : w < 256) (hx : x < 256) where
  bytes-of-two : bytes16 (w + 256 * x) ≡ w ∷ x ∷ []
  unfolding bytes16
  bytes-of-two = rw (low w x hw, high w x hw, last-digit x hx)

module _ (w x y z : ℕ) (hw : w < 256) (hx : x < 256) (hy : y < 256) (hz : z < 256) where
  bytes-of-four : bytes32 (w + 256 * (x + 256 * (y + 256 * z))) ≡ w ∷ x ∷ y ∷ z ∷ []
  unfolding bytes32
  bytes-of-four =
      let v = w + 256 * (x + 256 * (y + 256 * z)) in
      rw (
        ← div-div-eq-div-mul v 65536 256,
        ← div-div-eq-div-mul v 256 256,
        low w (x + 256 * (y + 256 * z)) hw,
        high w (x + 256 * (y + 256 * z)) hw,
        low x (y + 256 * z) hx,
        high x (y + 256 * z) hx,
        low y z hy,
        high y z hy,
        last-digit z hz,
      )

-- the first of k + 1 elements from an index on
next_of : (l : List ℕ) (i j k : ℕ) → i + j < length l → take (suc k) (drop (i + j) l) ≡ get_or l (i + j) 0 ∷ take k (drop (i + suc j) l)
next_of l i j k h = rw (drop-cons l (i + j) 0 h, add-suc i j)

module _ (t : List ℕ) (bytes : (k : ℕ) → get_or t k 0 < 256) (i : ℕ) where
  two_at : (j : ℕ) → bytes16 (word16 t (i + j)) ≡ get_or t (i + j) 0 ∷ get_or t (i + (j + 1)) 0 ∷ []
  unfolding word16
  two_at j = rw (add_assoc i j 1) (bytes-of-two (get_or t (i + j) 0) (get_or t (i + (j + 1)) 0) (bytes (i + j)) (bytes (i + (j + 1))))

  four-at : (j : ℕ) → bytes32 (word32 t (i + j)) ≡ get_or t (i + j) 0 ∷ get_or t (i + (j + 1)) 0 ∷ get_or t (i + (j + 2)) 0 ∷ get_or t (i + (j + 3)) 0 ∷ []
  unfolding word32
  four-at j =
      rw (add_assoc i j 1, add_assoc i j 2, add_assoc i j 3)
      (bytes-of-four (get_or t (i + j) 0) (get_or t (i + (j + 1)) 0) (get_or t (i + (j + 2)) 0) (get_or t (i + (j + 3)) 0) (bytes (i + j))
      (bytes (i + (j + 1))) (bytes (i + (j + 2))) (bytes (i + (j + 3))))

pub bytes-record : (t : List ℕ) (s : ℕ) → ((k : ℕ) → get_or t k 0 < 256) → s * 16 + 16 ≤ length t → bytes_of (record_at t s) ≡ take 16 (drop (s * 16) t)
unfolding bytes_of record_at
bytes-record t s bytes h =
    let i = s * 16 in
    let z : i ≡ i + 0 = omega arith in
    rw (two_at t bytes i 2, four-at t bytes i 4, four-at t bytes i 8, four-at t bytes i 12)
    (sym (ap (λ (k : ℕ). take 16 (drop k t)) z
    ∙ rw (
      next_of t i 0 15 (omega arith),
      next_of t i 1 14 (omega arith),
      next_of t i 2 13 (omega arith),
      next_of t i 3 12 (omega arith),
      next_of t i 4 11 (omega arith),
      next_of t i 5 10 (omega arith),
      next_of t i 6 9 (omega arith),
      next_of t i 7 8 (omega arith),
      next_of t i 8 7 (omega arith),
      next_of t i 9 6 (omega arith),
      next_of t i 10 5 (omega arith),
      next_of t i 11 4 (omega arith),
      next_of t i 12 3 (omega arith),
      next_of t i 13 2 (omega arith),
      next_of t i 14 1 (omega arith),
      next_of t i 15 0 (omega arith),
    )
    (ap (λ (k : ℕ). get_or t k 0 ∷ get_or t (i + 1) 0 ∷ get_or t (i + 2) 0 ∷ get_or t (i + 3) 0 ∷ get_or t (i + 4) 0 ∷ get_or t (i + 5) 0 ∷ get_or t (i + 6) 0 ∷ get_or t (i + 7) 0
    ∷ get_or t (i + 8) 0 ∷ get_or t (i + 9) 0 ∷ get_or t (i + 10) 0 ∷ get_or t (i + 11) 0 ∷ get_or t (i + 12) 0 ∷ get_or t (i + 13) 0 ∷ get_or t (i + 14) 0 ∷ get_or t (i + 15) 0 ∷ []) (sym z))))

-- the two round trips: a cell through its 16 bytes, and the bytes of a well-formed record through its cell
pub cell-through-bytes : (bit : ℕ) (c : Cell) → Ranged (cell_record bit c) → cell_of (record_at (bytes_of (cell_record bit c)) 0) ≡ c
cell-through-bytes bit c w = ap cell_of (bytes_back (cell_record bit c) w) ∙ cell-back bit c

pub bytes-through-cell : (t : List ℕ) (s : ℕ) → ((k : ℕ) → get_or t k 0 < 256) → s * 16 + 16 ≤ length t → WellFormed (record_at t s)
    → bytes_of (cell_record (record_at t s).bit (cell_of (record_at t s))) ≡ take 16 (drop (s * 16) t)
bytes-through-cell t s bytes h w = ap bytes_of (record-back (record_at t s) w) ∙ bytes-record t s bytes h
