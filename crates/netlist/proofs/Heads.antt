-- The first word of a slot by its bytes: kind, flags, and the two of the bit. Assumes nothing.
use mathlib.Core.Path.{◌≡◌}
use Prim.Native.Nat.{ℕ, ◌+◌, ◌*◌, ◌/◌, ◌%◌, ◌<◌}
use native.Mathlib.Omega.{arith}

pub bit-of-word : (w : ℕ) → w < 4294967296 → w / 65536 % 256 + w / 16777216 % 256 * 256 ≡ w / 65536
bit-of-word w l = omega (arith, l)

pub word-of-bytes : (k f b : ℕ) → b < 65536 → k + f * 256 + b % 256 * 65536 + b / 256 % 256 * 16777216 ≡ k + 256 * (f + 256 * b)
word-of-bytes k f b l = omega (arith, l)

-- what the reader and the writer of a record cite
pub ruleset head_bytes = (bit-of-word, word-of-bytes)
