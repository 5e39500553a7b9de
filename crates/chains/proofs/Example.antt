-- Five items of classes 3, 1, 3, 1, 1, appended in litter of which the heads alone were cleared. Assumes nothing.
use mathlib.Core.Path.{◌≡◌, refl}
use mathlib.Core.Bool.{true}
use mathlib.Core.List.{List, [], ◌∷◌}
use Prim.Native.Nat.{ℕ}
use Rattle.chains.specs.declared.Chains.{Chains}
use Rattle.chains.specs.Chains.{appended, apart, fits, linked, list_in}

-- a word for each of four classes twice, then one for each item
abbrev places : Chains
places = record { heads = record { 0 = 0 }; tails = record { 0 = 4 }; links = record { 0 = 8 }; classes = 4 }

abbrev appended_all : List ℕ → List ℕ
appended_all ws = appended places (appended places (appended places (appended places (appended places ws 0 3) 1 1) 2 3) 3 1) 4 1

-- 9 is litter
abbrev cleared : List ℕ
cleared = 0 ∷ 0 ∷ 0 ∷ 0 ∷ 9 ∷ 9 ∷ 9 ∷ 9 ∷ 9 ∷ 9 ∷ 9 ∷ 9 ∷ 9 ∷ []

-- heads, tails, links: each one more than an item's number
abbrev five : List ℕ
five = 0 ∷ 2 ∷ 0 ∷ 1 ∷ 9 ∷ 5 ∷ 9 ∷ 3 ∷ 3 ∷ 4 ∷ 0 ∷ 5 ∷ 0 ∷ []

pub places-fit : fits places 5 13 ≡ true
unfolding fits apart
places-fit = refl

pub five-appended : appended_all cleared ≡ five
unfolding appended
five-appended = refl

pub five-listed : (list_in places five 5 0 ≡ []) × (list_in places five 5 1 ≡ 1 ∷ 3 ∷ 4 ∷ []) × (list_in places five 5 3 ≡ 0 ∷ 2 ∷ [])
unfolding linked
five-listed = (refl, refl, refl)
