-- Stamps and weights. Assumes nothing.
use mathlib.Core.Path.{◌≡◌, ap}
use mathlib.Core.Bool.{Bool, true, false}
use mathlib.Core.List.{List}
use Prim.Native.Nat.{ℕ, ◌+◌, ◌*◌, ◌≤◌, ◌<◌}
use native.Mathlib.Omega.{arith}
use Rattle.value.specs.declared.Net.{Net}
use Rattle.value.specs.declared.ControlNet.{ControlNet}
use Rattle.value.specs.declared.ControlNet.TheVariants.{Pos, Neg}
use Rattle.value.specs.Value.{ZERO, ONE, eq_net, le_net, driver, net, from_net_invert, not_control, le_control}
use Rattle.value.proofs.Laws.{net-of}
use Rattle.cell.specs.declared.Cell.TheVariants.{Not, And, Or, Xor, Aig}
use Rattle.std.specs.Prelude.{None, Some}
use Rattle.normalize.specs.Outcomes.{Outcome}
use Rattle.normalize.specs.declared.Change.TheVariants.{Value, Form, Add, NotOf, AddNotOf}
use Rattle.rewrite.specs.Rewriter.{stamp, weight, rank}
use Rattle.aig_laws.proofs.Reading.{not-net}
use Rattle.rewrite_laws.specs.Stamps.{Lighter}

module _ (ts : List ℕ) where
  -- a negated control net is of the same net, or a constant
  constant-stamp : (m : ℕ) → (stamp ts ZERO ≤ m) × (stamp ts ONE ≤ m)
  unfolding stamp driver eq_net
  constant-stamp m = (omega arith, omega arith)

  pub not-stamp : (x : ControlNet) → stamp ts (net (not_control x)) ≤ stamp ts (net x)
  not-stamp x =
      let m : ℕ = stamp ts (net x) in
      not-net (λ n. stamp ts n ≤ m) (constant-stamp m).0 (constant-stamp m).1 x (omega arith)

  pub invert-stamp : (n : Net) (b : Bool) → stamp ts (net (from_net_invert n b)) ≡ stamp ts n
  invert-stamp n b = ap (stamp ts) (net-of n b)

  -- a weight is twice the stamps and a rank
  rank_below : (b : Bool) (low : ℕ) → rank b low ≤ low + 1
  rank_below true low = omega arith
  rank_below false low = omega arith

  rank-above : (b : Bool) (low : ℕ) → low ≤ rank b low
  rank-above true low = omega arith
  rank-above false low = omega arith

  module _ (m : ℕ) where
    pub aig-lighter : (p q : ControlNet) → stamp ts (net p) + stamp ts (net q) < m → weight ts (Aig p q) < 2 * m + 1
    unfolding weight
    aig-lighter p q h = omega (arith, rank_below (le_control p q) 1)

    pub xor-lighter : (a b : Net) → stamp ts a + stamp ts b < m → weight ts (Xor a b) < 2 * m + 1
    unfolding weight
    xor-lighter a b h = omega (arith, rank_below (le_net a b) 1)

    pub not-lighter : (a : Net) → weight ts (Not a) < 2 * m + 1
    unfolding weight
    not-lighter a = omega arith

  pub weight-aig : (p q : ControlNet) → 2 * (stamp ts (net p) + stamp ts (net q)) + 1 ≤ weight ts (Aig p q)
  unfolding weight
  weight-aig p q = omega (arith, rank-above (le_control p q) 1)

  pub weight-xor : (a b : Net) → 2 * (stamp ts a + stamp ts b) + 1 ≤ weight ts (Xor a b)
  unfolding weight
  weight-xor a b = omega (arith, rank-above (le_net a b) 1)

  pub weight-and : (a b : Net) → weight ts (Aig (Pos a) (Pos b)) < weight ts (And a b)
  unfolding weight
  weight-and a b = omega (arith, rank-above (le_net a b) 3, rank_below (le_control (Pos a) (Pos b)) 1)

  pub weight-or : (a b : Net) → weight ts (Aig (Neg a) (Neg b)) < weight ts (Or a b)
  unfolding weight
  weight-or a b = omega (arith, rank-above (le_net a b) 3, rank_below (le_control (Neg a) (Neg b)) 1)

  -- lighter than less
  pub lighter-more : (m m' : ℕ) (o : Outcome) → m ≤ m' → Lighter ts m o → Lighter ts m' o
  lighter-more m m' None h p = tt
  lighter-more m m' (Some (Value n)) h p = tt
  lighter-more m m' (Some (Form c)) h p = omega arith
  lighter-more m m' (Some (Add c)) h p = omega arith
  lighter-more m m' (Some (NotOf c)) h p = omega arith
  lighter-more m m' (Some (AddNotOf c)) h p = omega arith
