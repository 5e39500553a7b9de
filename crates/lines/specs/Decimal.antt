-- A number in decimal, in ASCII (paper, "Tickets to try"). Assumes nothing: these are definitions.
use Rattle.std.specs.Prelude.{cond, List, [], ◌∷◌, ◌++◌, ℕ, zero, suc, ◌+◌, ◌*◌, ◌-◌, ◌/◌, ◌%◌, ◌^◌, ◌<◌, ◌≤◌, ltb}

-- a number below 10
abbrev pub digit : ℕ → ℕ
digit d = 48 + d

-- the last digit behind the others, which are those of a tenth of the number; each digit takes one step
unfoldable pub digits_in : ℕ → ℕ → List ℕ
digits_in zero n = []
digits_in (suc steps) n = cond (ltb n 10) (digit n ∷ []) (digits_in steps (n / 10) ++ (digit (n % 10) ∷ []))

-- n has no more than n + 1 digits
unfoldable pub decimal : ℕ → List ℕ
decimal n = digits_in (n + 1) n

-- the number that digits give when they are read from the left, after those that gave v
unfoldable pub read_from : ℕ → List ℕ → ℕ
read_from v [] = v
read_from v (d ∷ ds) = read_from (10 * v + (d - 48)) ds

-- n is written in so many digits, 0 too in one: it is below ten to that power, and where there are several, one less would not do
abbrev pub IsDigitCount : ℕ → ℕ → Type 0
IsDigitCount n k = (1 ≤ k) × (n < 10 ^ k) × (1 < k → 10 ^ (k - 1) ≤ n)

-- its last k digits
abbrev pub last_digits : ℕ → ℕ → List ℕ
last_digits zero n = []
last_digits (suc k) n = last_digits k (n / 10) ++ (digit (n % 10) ∷ [])
