-- The record of a slot, by the bytes from its first on; when a reader has a record: by the number of records. Assumes nothing.
use mathlib.Core.Path.{◌≡◌, ap, ap₂, ◌∙◌}
use mathlib.Core.Bool.{true, false}
use mathlib.Core.List.{List}
use Prim.Native.Nat.{ℕ, ◌+◌, ◌-◌, ◌*◌, ◌/◌, ◌<◌, ◌≤◌}
use native.Mathlib.Omega.{arith}
use lib.ListN.{length, get_or, take, drop, length-drop}
use lib.Seq.{take_all}
use Rattle.std.proofs.lemmas.List.{get_or-drop}
use borrow.Author.Tests.{ltb-true, ltb-false}
use Rattle.cell.specs.Bytes.{word16, word32}
use Rattle.cell.specs.Records.{record_at}
use Rattle.reader.specs.Read.{has_record}

module _ (t : List ℕ) (s : ℕ) where
  pub has-below : has_record t s ≡ true → s < length t / 16
  unfolding has_record
  has-below e = ltb-true s (length t / 16) e

  pub has-none : has_record t s ≡ false → length t / 16 ≤ s
  unfolding has_record
  has-none e = ltb-false s (length t / 16) e

module _ (t : List ℕ) (n : ℕ) where
  at : (i k : ℕ) → n + i ≡ k → get_or (drop n t) i 0 ≡ get_or t k 0
  at i k e = get_or-drop n t i 0 ∙ ap (λ (j : ℕ). get_or t j 0) e

  at16 : (i k : ℕ) → n + i ≡ k → word16 (drop n t) i ≡ word16 t k
  unfolding word16
  at16 i k e = ap₂ (λ (a b : ℕ). a + 256 * b) (at i k e) (at (i + 1) (k + 1) (omega arith))

  at32 : (i k : ℕ) → n + i ≡ k → word32 (drop n t) i ≡ word32 t k
  unfolding word32
  at32 i k e = rw (at i k e, at (i + 1) (k + 1) (omega arith), at (i + 2) (k + 2) (omega arith), at (i + 3) (k + 3) (omega arith))

behind : (t : List ℕ) (s : ℕ) → record_at (drop (s * 16) t) 0 ≡ record_at t s
unfolding record_at
behind t s =
    let n : ℕ = s * 16 in
    rw (
      at t n 0 n (omega arith),
      at t n 1 (n + 1) (omega arith),
      at16 t n 2 (n + 2) (omega arith),
      at32 t n 4 (n + 4) (omega arith),
      at32 t n 8 (n + 8) (omega arith),
      at32 t n 12 (n + 12) (omega arith),
    )

pub record_behind : (t : List ℕ) (s : ℕ) → record_at (take (length t - s * 16) (drop (s * 16) t)) 0 ≡ record_at t s
record_behind t s =
    ap (λ (l : List ℕ). record_at l 0) (take_all (length t - s * 16) (drop (s * 16) t) (omega (arith, length-drop (s * 16) t))) ∙ behind t s
