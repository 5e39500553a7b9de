-- Laws of stores of bytes, and of numbers of bytes. Assumes nothing.
use mathlib.Core.Path.{◌≡◌, refl, ap, ap₂, ◌∙◌}
use mathlib.Core.List.{List, [], ◌∷◌, ◌++◌}
use Prim.Native.Nat.{ℕ, suc, ◌+◌, ◌*◌}
use native.Mathlib.Omega.{arith}
use native.Mathlib.Numerals.{add-one}
use lib.ListN.{length, set}
use lib.Seq.{sets}
use Rattle.cell.specs.declared.Record.{Record}
use Rattle.cell.specs.Bytes.{bytes16, bytes32, store16, store32}
use Rattle.cell.specs.Records.{bytes_of}

-- a run of stores in two parts
pub sets-append : (l : List ℕ) (i : ℕ) (xs ys : List ℕ) → sets l i (xs ++ ys) ≡ sets (sets l i xs) (i + length xs) ys
sets-append l i [] ys = ap (λ (k : ℕ). sets l k ys) (omega arith)
sets-append l i (x ∷ xs) ys = sets-append (set l i x) (suc i) xs ys ∙ ap (λ (k : ℕ). sets (sets (set l i x) (suc i) xs) k ys) (omega arith)

-- what the writers leave, one store after the other, as a run of stores
pub store16-is : (l : List ℕ) (i v : ℕ) → store16 l i v ≡ sets l i (bytes16 v)
unfolding bytes16 store16
store16-is l i v = rw add-one

pub store32-is : (l : List ℕ) (i v : ℕ) → store32 l i v ≡ sets l i (bytes32 v)
unfolding bytes32 store32
store32-is l i v =
    let two : i + 2 ≡ suc (suc i) = omega arith in
    let three : i + 3 ≡ suc (suc (suc i)) = omega arith in rw (add-one, two, three)

length16 : (v : ℕ) → length (bytes16 v) ≡ 2
unfolding bytes16
length16 v = refl

length32 : (v : ℕ) → length (bytes32 v) ≡ 4
unfolding bytes32
length32 v = refl

-- the same for a record
unfoldable pub store_record : List ℕ → ℕ → Record → List ℕ
store_record l i r =
    store32 (store32 (store32 (store16 (set (set l i r.kind) (i + 1) r.flags) (i + 2) r.bit) (i + 4) r.a) (i + 8) r.b) (i + 12) r.c

store-fields : (m : List ℕ) (i : ℕ) (r : Record)
    → sets (sets (sets (sets m (i + 2) (bytes16 r.bit)) (i + 4) (bytes32 r.a)) (i + 8) (bytes32 r.b)) (i + 12) (bytes32 r.c)
    ≡ sets m (i + 2) (bytes16 r.bit ++ (bytes32 r.a ++ (bytes32 r.b ++ bytes32 r.c)))
store-fields m i r =
    let four : i + 2 + length (bytes16 r.bit) ≡ i + 4 = omega (arith, length16 r.bit) in
    let eight : i + 4 + length (bytes32 r.a) ≡ i + 8 = omega (arith, length32 r.a) in
    let twelve : i + 8 + length (bytes32 r.b) ≡ i + 12 = omega (arith, length32 r.b) in
    rw (sets-append, four, sets-append, eight, sets-append, twelve)

pub store_record-is : (l : List ℕ) (i : ℕ) (r : Record) → store_record l i r ≡ sets l i (bytes_of r)
unfolding store_record bytes_of
store_record-is l i r =
    let two : i + 2 ≡ suc (suc i) = omega arith in
    rw (store32-is, store32-is, store32-is, store16-is)
    (store-fields (set (set l i r.kind) (i + 1) r.flags) i r
    ∙ ap₂ (λ (j k : ℕ). sets (set (set l i r.kind) j r.flags) k (bytes16 r.bit ++ (bytes32 r.a ++ (bytes32 r.b ++ bytes32 r.c)))) (add-one i) two)

-- the numbers of two and of four bytes, as std adds them up
pub digits-of-two : (w x : ℕ) → w + x * 256 ≡ w + 256 * x
digits-of-two w x = omega arith

pub digits-of-four : (w x y z : ℕ) → w + x * 256 + y * 65536 + z * 16777216 ≡ w + 256 * (x + 256 * (y + 256 * z))
digits-of-four w x y z = omega arith

-- what the readers of a record cite
pub ruleset bytes = (digits-of-two, digits-of-four)
