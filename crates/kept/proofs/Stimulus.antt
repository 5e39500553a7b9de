-- The stimulus by the inputs in their order: the same for cells of which some that are no inputs are left out. Assumes nothing.
use mathlib.Core.Path.{◌≡◌, refl, sym, ap, ap₂, ◌∙◌, subst}
use mathlib.Core.Bool.{Bool, true, false, cond, true≢false}
use mathlib.Core.List.{List, [], ◌∷◌, ◌++◌, map, map-append}
use Prim.Native.Nat.{ℕ, zero, suc, ◌+◌, ◌<◌}
use native.Mathlib.Omega.{arith}
use native.Mathlib.Decide.{dec_lt}
use lib.ListN.{length, get_or, drop, length-map, get_or-append}
use lib.Seq.{get_or-drop, get_or_at}
use Rattle.logic.specs.declared.Trit.{Trit}
use Rattle.logic.specs.declared.Trit.TheVariants.{Undef}
use Rattle.logic.specs.Levels.{level_of}
use Rattle.cell.specs.declared.Cell.{Cell}
use Rattle.basics.specs.Lists.{tabulate, slots, those}
use Rattle.basics.proofs.Tables.{tabulate-length}
use Rattle.netlist.specs.Shape.{is_input}
use Rattle.levels.specs.Evaluate.{given_levels}
use Rattle.levels.proofs.Given.{given-length}
use Rattle.basics.proofs.Truth.{either}
use Rattle.kept.proofs.Chosen.{chosen, count, chosen-yes, chosen-no, place_of}

-- how many inputs there are
unfoldable inputs : List Cell → ℕ
inputs [] = 0
inputs (c ∷ cs) = cond (is_input c) (suc (inputs cs)) (inputs cs)

-- the level of one more cell
own_level : Cell → List ℕ → ℕ → Trit
own_level c bs k = cond (is_input c) (level_of (get_or bs k 2)) Undef

given-snoc : (cs : List Cell) (c : Cell) (bs : List ℕ) → given_levels (cs ++ (c ∷ [])) bs ≡ given_levels cs bs ++ (own_level c bs (inputs cs) ∷ [])
unfolding given_levels own_level inputs
given-snoc [] c bs = refl
given-snoc (x ∷ cs) c bs =
    ap (λ (ls : List Trit). cond (is_input x) (level_of (get_or bs 0 2)) Undef ∷ ls)
    (given-snoc cs c (cond (is_input x) (drop 1 bs) bs) ∙ ap (λ (t : Trit). given_levels cs (cond (is_input x) (drop 1 bs) bs) ++ (t ∷ [])) (go (is_input x)))
  where
    go : (b : Bool) → own_level c (cond b (drop 1 bs) bs) (inputs cs) ≡ own_level c bs (cond b (suc (inputs cs)) (inputs cs))
    go true = ap (λ (i : ℕ). cond (is_input c) (level_of i) Undef) (get_or-drop 1 bs (inputs cs) 2 ∙ ap (λ (k : ℕ). get_or bs k 2) (omega arith))
    go false = refl

inputs-snoc : (cs : List Cell) (c : Cell) → inputs (cs ++ (c ∷ [])) ≡ inputs cs + cond (is_input c) 1 0
unfolding inputs
inputs-snoc [] c = go (is_input c)
  where
    go : (b : Bool) → cond b 1 0 ≡ 0 + cond b 1 0
    go true = omega arith
    go false = omega arith
inputs-snoc (x ∷ cs) c = go (is_input x) (inputs-snoc cs c)
  where
    go : (b : Bool) → inputs (cs ++ (c ∷ [])) ≡ inputs cs + cond (is_input c) 1 0
        → cond b (suc (inputs (cs ++ (c ∷ [])))) (inputs (cs ++ (c ∷ []))) ≡ cond b (suc (inputs cs)) (inputs cs) + cond (is_input c) 1 0
    go true e = omega arith
    go false e = e

-- cells c by slot; those that pass the test p in their order, as cells c'
module _ (c c' : ℕ → Cell) (p : ℕ → Bool) (alike : (s : ℕ) → is_input (c' s) ≡ is_input (c s)) (bs : List ℕ) where
  abbrev whole : ℕ → List Cell
  whole m = map c (slots m)

  abbrev part : ℕ → List Cell
  part m = map c' (chosen p m)

  whole-suc : (m : ℕ) → whole (suc m) ≡ whole m ++ (c m ∷ [])
  unfolding tabulate
  whole-suc m = map-append c (slots m) (m ∷ [])

  part-yes : (m : ℕ) → p m ≡ true → part (suc m) ≡ part m ++ (c' m ∷ [])
  part-yes m e = ap (map c') (chosen-yes p m e) ∙ map-append c' (chosen p m) (m ∷ [])

  part_no : (m : ℕ) → p m ≡ false → part (suc m) ≡ part m
  part_no m e = ap (map c') (chosen-no p m e)

  whole_length : (m : ℕ) → length (whole m) ≡ m
  whole_length m = length-map (slots m) c ∙ tabulate-length (λ s. s) m

  part_length : (m : ℕ) → length (part m) ≡ count p m
  part_length m = length-map (chosen p m) c'

  module _ (m : ℕ) (every : (s : ℕ) → s < suc m → is_input (c s) ≡ true → p s ≡ true) where
    left_out : p m ≡ false → is_input (c m) ≡ false
    left_out e = either (is_input (c m)) (λ i. absurd (true≢false (sym (every m (omega arith) i) ∙ e))) (λ i. i)

    inputs-step : inputs (part m) ≡ inputs (whole m) → inputs (part (suc m)) ≡ inputs (whole (suc m))
    inputs-step h =
        either (p m)
        (λ e. ap inputs (part-yes m e) ∙ inputs-snoc (part m) (c' m) ∙ ap₂ (λ (k : ℕ) (b : Bool). k + cond b 1 0) h (alike m)
        ∙ sym (ap inputs (whole-suc m) ∙ inputs-snoc (whole m) (c m)))
        (λ e. ap inputs (part_no m e) ∙ h
        ∙ sym (ap inputs (whole-suc m) ∙ inputs-snoc (whole m) (c m) ∙ ap (λ (b : Bool). inputs (whole m) + cond b 1 0) (left_out e) ∙ omega arith))

  same_inputs : (m : ℕ) → ((s : ℕ) → s < m → is_input (c s) ≡ true → p s ≡ true) → inputs (part m) ≡ inputs (whole m)
  unfolding chosen those tabulate
  same_inputs zero h = refl
  same_inputs (suc m) h = inputs-step m h (same_inputs m (λ s l. h s (omega arith)))

  abbrev Same : ℕ → ℕ → Type 0
  Same m s = get_or (given_levels (part m) bs) (count p s) Undef ≡ get_or (given_levels (whole m) bs) s Undef

  -- one slot more does not change those before
  part-before : (m s : ℕ) → count p s < count p m → get_or (given_levels (part (suc m)) bs) (count p s) Undef ≡ get_or (given_levels (part m) bs) (count p s) Undef
  part-before m s l =
      either (p m)
      (λ e. ap (λ (cs : List Cell). get_or (given_levels cs bs) (count p s) Undef) (part-yes m e)
      ∙ ap (λ (ls : List Trit). get_or ls (count p s) Undef) (given-snoc (part m) (c' m) bs)
      ∙ get_or-append (given_levels (part m) bs) (own_level (c' m) bs (inputs (part m)) ∷ []) Undef (count p s)
      (omega (arith, given-length (part m) bs, part_length m)))
      (λ e. ap (λ (cs : List Cell). get_or (given_levels cs bs) (count p s) Undef) (part_no m e))

  whole_before : (m s : ℕ) → s < m → get_or (given_levels (whole (suc m)) bs) s Undef ≡ get_or (given_levels (whole m) bs) s Undef
  whole_before m s l =
      ap (λ (cs : List Cell). get_or (given_levels cs bs) s Undef) (whole-suc m)
      ∙ ap (λ (ls : List Trit). get_or ls s Undef) (given-snoc (whole m) (c m) bs)
      ∙ get_or-append (given_levels (whole m) bs) (own_level (c m) bs (inputs (whole m)) ∷ []) Undef s (omega (arith, given-length (whole m) bs, whole_length m))

  same-last : (m : ℕ) → p m ≡ true → inputs (part m) ≡ inputs (whole m) → Same (suc m) m
  unfolding own_level
  same-last m e h =
      ap (λ (cs : List Cell). get_or (given_levels cs bs) (count p m) Undef) (part-yes m e)
      ∙ ap (λ (ls : List Trit). get_or ls (count p m) Undef) (given-snoc (part m) (c' m) bs)
      ∙ get_or_at (given_levels (part m) bs) (own_level (c' m) bs (inputs (part m))) [] Undef (count p m) (given-length (part m) bs ∙ part_length m)
      ∙ ap₂ (λ (b : Bool) (k : ℕ). cond b (level_of (get_or bs k 2)) Undef) (alike m) h
      ∙ sym (ap (λ (cs : List Cell). get_or (given_levels cs bs) m Undef) (whole-suc m)
      ∙ ap (λ (ls : List Trit). get_or ls m Undef) (given-snoc (whole m) (c m) bs)
      ∙ get_or_at (given_levels (whole m) bs) (own_level (c m) bs (inputs (whole m))) [] Undef m (given-length (whole m) bs ∙ whole_length m))

  -- a slot that passes has the level that it has among all
  pub same-given : (m : ℕ) → ((s : ℕ) → s < m → is_input (c s) ≡ true → p s ≡ true) → (s : ℕ) → s < m → p s ≡ true → Same m s
  same-given zero h s l e = absurd (omega arith)
  same-given (suc m) h s l e = go (dec_lt s m) (λ k. same-given m (λ i j. h i (omega arith)) s k e)
    where
      go : Dec (s < m) → (s < m → Same m s) → Same (suc m) s
      go (yes k) rec = part-before m s (place_of p m s k e).below ∙ rec k ∙ sym (whole_before m s k)
      go (no k) rec =
          let q : s ≡ m = omega arith in
          subst (Same (suc m)) (sym q) (same-last m (ap p (sym q) ∙ e) (same_inputs m (λ i j. h i (omega arith))))
