-- What the laws of the orders say. Assumes nothing: these are definitions.
use Rattle.std.specs.Prelude.{◌≡◌, true, false, List, [], ◌∷◌, ◌++◌, ℕ, ◌<◌}
use Rattle.basics.specs.Lists.{has}

-- each item stands once: it is not among those before it
unfoldable pub OnceAfter : List ℕ → List ℕ → Type 0
OnceAfter before [] = Unit {0}
OnceAfter before (s ∷ ss) = (has s before ≡ false) × OnceAfter (before ++ (s ∷ [])) ss

-- each item stands after what it depends on, as far as that is below n
unfoldable pub FedAfter : ℕ → (ℕ → List ℕ) → List ℕ → List ℕ → Type 0
FedAfter n deps before [] = Unit {0}
FedAfter n deps before (s ∷ ss) =
    ((d : ℕ) → has d (deps s) ≡ true → d < n → has d before ≡ true) × FedAfter n deps (before ++ (s ∷ [])) ss

-- a list of the numbers below n, each once
pub record Each (n : ℕ) (order : List ℕ) : Type 0 where
  pub once : OnceAfter [] order
  pub all : (s : ℕ) → s < n → has s order ≡ true
  pub small : (s : ℕ) → has s order ≡ true → s < n
