-- What the arms do to levels, tried at every assignment of levels to the nets of their cases. Assumes nothing: these are definitions.
use Rattle.std.specs.Prelude.{◌≡◌, Bool, true, cond, not, ◌&&◌, List, [], ◌∷◌, map, ℕ, zero, suc, get_or, None, Some}
use Rattle.logic.specs.declared.Trit.{Trit}
use Rattle.logic.specs.declared.Trit.TheVariants.{Zero, One, Undef}
use Rattle.logic.specs.Levels.{eq_level, refines}
use Rattle.value.specs.declared.Net.{Net}
use Rattle.value.specs.Value.{eq_net}
use Rattle.basics.specs.Lists.{those, any_of, joined}
use Rattle.design.specs.Queue.{Source}
use Rattle.levels_laws.specs.Algebra.{net_value, cell_value}
use Rattle.levels_laws.specs.Instances.{kleene}
use Rattle.rewrite_kept.specs.Outcomes.{gate_level, outcome_level}
use Rattle.definite_arms.specs.Arms.{Name, makes_definite, a, b, Case, Arm, arms}

-- what is looked up in a case
abbrev pub look : Case → Net → Source
look k n = cond (eq_net n a) k.src_a (cond (eq_net n b) k.src_b None)

-- all lists of n levels
unfoldable pub assignments : ℕ → List (List Trit)
assignments zero = [] ∷ []
assignments (suc n) = let rest = assignments n in joined (map (λ t. map (λ ts. t ∷ ts) rest) (Zero ∷ One ∷ Undef ∷ []))

-- the levels of all nets, given those of the nets 2, 3, ..: constants have their own, and further nets are undefined
abbrev pub levels_by : List Trit → Net → Trit
levels_by ts = net_value kleene (λ s. get_or ts s Undef)

-- a cell that is looked up has the level of its net
abbrev pub source_fits : (Net → Trit) → Net → Source → Bool
source_fits v n None = true
source_fits v n (Some c) = eq_level (v n) (cell_value kleene v (v n) c)

-- the levels before and after pass a test, if the cells of the case fit
abbrev pub tried : (Trit → Trit → Bool) → Case → (Net → Trit) → Bool
tried test k v =
    let before = gate_level v k.cell in
    source_fits v a k.src_a && source_fits v b k.src_b && test before (outcome_level v before k.result)

-- in some case of the arm, at some levels of the five nets
unfoldable pub shows : (Trit → Trit → Bool) → Arm → Bool
shows test r = any_of (λ k. any_of (λ ts. tried test k (levels_by ts)) (assignments 5)) r.cases

-- a level 0 or 1 becomes another
abbrev pub loses : Trit → Trit → Bool
loses before after = not (refines after before)

-- an undefined level becomes 0 or 1
abbrev pub defines : Trit → Trit → Bool
defines before after = eq_level before Undef && not (eq_level after Undef)

-- a level becomes another
abbrev pub differs : Trit → Trit → Bool
differs before after = not (eq_level before after)

abbrev pub arms_that : (Trit → Trit → Bool) → List Name
arms_that test = map (λ r. r.name) (those (shows test) arms)

pub record Decided : Type 0 where
  pub keeps : arms_that loses ≡ []
  pub definite : arms_that defines ≡ makes_definite
  -- all others are exact
  pub exact : arms_that differs ≡ makes_definite
