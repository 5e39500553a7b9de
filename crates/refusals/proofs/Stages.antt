-- Which refusal is given, for any list of stages. Assumes nothing.
use mathlib.Core.Path.{◌≡◌, refl, sym, ap, ◌∙◌, subst}
use mathlib.Core.Bool.{Bool, true, false}
use mathlib.Core.Logic.{◌↔◌, ◌⊎◌, inl, inr, ⊎_elim}
use mathlib.Core.List.{List, [], ◌∷◌, ◌++◌}
use Prim.Native.Nat.{ℕ, zero, suc, ◌+◌, ◌<◌, ◌≤◌}
use native.Mathlib.Omega.{arith}
use native.Mathlib.Numerals.{add-one}
use native.Mathlib.Decide.{dec_lt}
use lib.ListN.{length, get_or}
use Rattle.std.specs.Prelude.{Ok, Err}
use Rattle.refusals.specs.declared.Refusal.{Refusal}
use Rattle.refusals.specs.declared.Refusal.TheVariants.{ShortWork}
use Rattle.refusals.specs.Refusals.{Stage, figures, first_of, slot_by_slot, Verdict}

-- the first stage decides, or is passed over
pub first-refuses : (st : Stage) (sts : List Stage) → st.0 ≡ true → first_of (st ∷ sts) ≡ Err st.1
unfolding first_of
first-refuses st sts h = rw h

pub first_passes : (st : Stage) (sts : List Stage) → st.0 ≡ false → first_of (st ∷ sts) ≡ first_of sts
unfolding first_of
first_passes st sts h = rw h

pub no-stage : first_of [] ≡ Ok tt
unfolding first_of
no-stage = refl

abbrev pub no_stage : Stage
no_stage = (false, ShortWork)

-- the condition of a stage, by its index in the list
abbrev pub condition : List Stage → ℕ → Bool
condition stages i = (get_or stages i no_stage).0

-- some stage gives r, its condition holds, and no earlier one does
pub record Given (stages : List Stage) (r : Refusal) : Type 0 where
  pub index : ℕ
  pub there : index < length stages
  pub gives : (get_or stages index no_stage).1 ≡ r
  pub holds : condition stages index ≡ true
  pub before : (j : ℕ) → j < index → condition stages j ≡ false

pub passes-not : (r : Refusal) → ◌≡◌ {A = Verdict} (Ok tt) (Err r) → ⊥
passes-not r e = let z : ◌≡◌ {A = ℕ} 0 1 = cc in absurd (omega arith)

module _ (st : Stage) (sts : List Stage) where
  given-here : st.0 ≡ true → Given (st ∷ sts) st.1
  given-here h = record { index = 0; there = omega arith; gives = refl; holds = h; before = λ j l. absurd (omega arith) }

  module _ (r : Refusal) (h : st.0 ≡ false) where
    none_before : (k : ℕ) → ((j : ℕ) → j < k → condition sts j ≡ false) → (j : ℕ) → j < suc k → condition (st ∷ sts) j ≡ false
    none_before k b zero l = h
    none_before k b (suc j) l = b j (omega arith)

    given-there : Given sts r → Given (st ∷ sts) r
    given-there g =
        let t : g.index < length sts = g.there in
        record { index = suc g.index; there = omega arith; gives = g.gives; holds = g.holds; before = none_before g.index g.before }

pub refused-inj : (a b : Refusal) → ◌≡◌ {A = Verdict} (Err a) (Err b) → a ≡ b
refused-inj a b e = cc

given-if : (sts : List Stage) (r : Refusal) → first_of sts ≡ Err r → Given sts r
unfolding first_of
given-if [] r e = absurd (passes-not r e)
given-if (st ∷ sts) r e = go (given-if sts r) st.0 refl
  where
    go : (first_of sts ≡ Err r → Given sts r) → (b : Bool) → st.0 ≡ b → Given (st ∷ sts) r
    go rec true h = subst (Given (st ∷ sts)) (refused-inj st.1 r (sym (first-refuses st sts h) ∙ e)) (given-here st sts h)
    go rec false h = given-there st sts r h (rec (sym (first_passes st sts h) ∙ e))

refused-at : (sts : List Stage) (i : ℕ) → i < length sts → condition sts i ≡ true → ((j : ℕ) → j < i → condition sts j ≡ false) → first_of sts ≡ Err (get_or sts i no_stage).1
refused-at [] i l h b = absurd (omega arith)
refused-at (st ∷ sts) zero l h b = first-refuses st sts h
refused-at (st ∷ sts) (suc i) l h b = first_passes st sts (b 0 (omega arith)) ∙ refused-at sts i (omega arith) h (λ j m. b (suc j) (omega arith))

-- THE RULE of the table: a refusal is given exactly if its condition holds and no earlier one does
pub given-exactly : (sts : List Stage) (r : Refusal) → (first_of sts ≡ Err r) ↔ Given sts r
given-exactly sts r = (given-if sts r, λ g. refused-at sts g.index g.there g.holds g.before ∙ ap Err g.gives)

pass-if : (sts : List Stage) → first_of sts ≡ Ok tt → (j : ℕ) → j < length sts → condition sts j ≡ false
pass-if [] e j l = absurd (omega arith)
pass-if (st ∷ sts) e j l = go (pass-if sts) st.0 refl j l
  where
    go : (first_of sts ≡ Ok tt → (j : ℕ) → j < length sts → condition sts j ≡ false) → (b : Bool) → st.0 ≡ b → (j : ℕ) → j < length (st ∷ sts) → condition (st ∷ sts) j ≡ false
    go rec true h i m = absurd (passes-not st.1 (sym e ∙ first-refuses st sts h))
    go rec false h zero m = h
    go rec false h (suc i) m = rec (sym (first_passes st sts h) ∙ e) i (omega arith)

if-pass : (sts : List Stage) → ((j : ℕ) → j < length sts → condition sts j ≡ false) → first_of sts ≡ Ok tt
unfolding first_of
if-pass [] b = refl
if-pass (st ∷ sts) b = first_passes st sts (b 0 (omega arith)) ∙ if-pass sts (λ j l. b (suc j) (omega arith))

-- and otherwise none is given
pub passed-exactly : (sts : List Stage) → (first_of sts ≡ Ok tt) ↔ ((j : ℕ) → j < length sts → condition sts j ≡ false)
passed-exactly sts = (pass-if sts, if-pass sts)

-- one stage alone
pub one-exactly : (st : Stage) → (first_of (st ∷ []) ≡ Ok tt) ↔ (st.0 ≡ false)
one-exactly st = (λ e. pass-if (st ∷ []) e 0 (omega arith), λ h. first_passes st [] h ∙ no-stage)

-- two lists of stages, one after the other
pub later-decides : (xs ys : List Stage) → first_of xs ≡ Ok tt → first_of (xs ++ ys) ≡ first_of ys
later-decides [] ys e = refl
later-decides (st ∷ xs) ys e = go (later-decides xs ys) st.0 refl
  where
    go : (first_of xs ≡ Ok tt → first_of (xs ++ ys) ≡ first_of ys) → (b : Bool) → st.0 ≡ b → first_of (st ∷ (xs ++ ys)) ≡ first_of ys
    go rec true h = absurd (passes-not st.1 (sym e ∙ first-refuses st xs h))
    go rec false h = first_passes st (xs ++ ys) h ∙ rec (sym (first_passes st xs h) ∙ e)

pub earlier-decides : (xs ys : List Stage) (r : Refusal) → first_of xs ≡ Err r → first_of (xs ++ ys) ≡ Err r
unfolding first_of
earlier-decides [] ys r e = absurd (passes-not r e)
earlier-decides (st ∷ xs) ys r e = go (earlier-decides xs ys r) st.0 refl
  where
    go : (first_of xs ≡ Err r → first_of (xs ++ ys) ≡ Err r) → (b : Bool) → st.0 ≡ b → first_of (st ∷ (xs ++ ys)) ≡ Err r
    go rec true h = first-refuses st (xs ++ ys) h ∙ (sym (first-refuses st xs h) ∙ e)
    go rec false h = first_passes st (xs ++ ys) h ∙ rec (sym (first_passes st xs h) ∙ e)

pub passes-both : (xs ys : List Stage) → first_of (xs ++ ys) ≡ Ok tt → (first_of xs ≡ Ok tt) × (first_of ys ≡ Ok tt)
passes-both xs ys e = go (first_of xs) refl
  where
    go : (v : Verdict) → first_of xs ≡ v → (first_of xs ≡ Ok tt) × (first_of ys ≡ Ok tt)
    go (Ok u) h = (h, sym (later-decides xs ys h) ∙ e)
    go (Err r) h = absurd (passes-not r (sym e ∙ earlier-decides xs ys r h))

-- groups of stages, one after the other: all pass exactly if each group does
pub both-exactly : (xs ys : List Stage) → (first_of (xs ++ ys) ≡ Ok tt) ↔ ((first_of xs ≡ Ok tt) × (first_of ys ≡ Ok tt))
both-exactly xs ys = (passes-both xs ys, λ p. later-decides xs ys p.0 ∙ p.1)

-- a refusal comes from the first group, or from the second where the first passes
pub refused-by : (xs ys : List Stage) (r : Refusal) → first_of (xs ++ ys) ≡ Err r
    → (first_of xs ≡ Err r) ⊎ ((first_of xs ≡ Ok tt) × (first_of ys ≡ Err r))
refused-by xs ys r e = go (first_of xs) refl
  where
    go : (v : Verdict) → first_of xs ≡ v → (first_of xs ≡ Err r) ⊎ ((first_of xs ≡ Ok tt) × (first_of ys ≡ Err r))
    go (Ok u) h = inr (h, sym (later-decides xs ys h) ∙ e)
    go (Err q) h = inl (h ∙ sym (earlier-decides xs ys q h) ∙ e)

-- groups with the same verdicts can stand for each other
pub both-same : (xs xs' ys ys' : List Stage) → first_of xs ≡ first_of xs' → first_of ys ≡ first_of ys' → first_of (xs ++ ys) ≡ first_of (xs' ++ ys')
both-same xs xs' ys ys' e f = go (first_of xs) refl
  where
    go : (v : Verdict) → first_of xs ≡ v → first_of (xs ++ ys) ≡ first_of (xs' ++ ys')
    go (Ok u) h = later-decides xs ys h ∙ f ∙ sym (later-decides xs' ys' (sym e ∙ h))
    go (Err r) h = earlier-decides xs ys r h ∙ sym (earlier-decides xs' ys' r (sym e ∙ h))

-- THE LAW of a group put in or left out: if it passes, at least where all before it pass, the verdict with it is the verdict without it.
-- At the end, and with others behind it
pub last_out : (xs g : List Stage) → (first_of xs ≡ Ok tt → first_of g ≡ Ok tt) → first_of (xs ++ g) ≡ first_of xs
last_out xs g p = go (first_of xs) refl
  where
    go : (v : Verdict) → first_of xs ≡ v → first_of (xs ++ g) ≡ first_of xs
    go (Ok u) h = later-decides xs g h ∙ p h ∙ sym h
    go (Err r) h = earlier-decides xs g r h ∙ sym h

pub group-out : (xs g ys : List Stage) → (first_of xs ≡ Ok tt → first_of g ≡ Ok tt) → first_of (xs ++ g ++ ys) ≡ first_of (xs ++ ys)
group-out xs g ys p = both-same (xs ++ g) xs ys ys (last_out xs g p) refl

-- slot by slot: the lowest refused slot decides
module _ (stages : ℕ → List Stage) where
  pub slots-none : Ok tt ≡ first_of (slot_by_slot stages 0)
  unfolding slot_by_slot first_of
  slots-none = refl

  pub slots-more : (i : ℕ) → Ok tt ≡ first_of (slot_by_slot stages i) → Ok tt ≡ first_of (stages i) → Ok tt ≡ first_of (slot_by_slot stages (i + 1))
  unfolding slot_by_slot
  slots-more i e f = rw (add-one i) (f ∙ sym (later-decides (slot_by_slot stages i) (stages i) (sym e)))

  pub slots-refused : (n i : ℕ) (r : Refusal) → i < n → Ok tt ≡ first_of (slot_by_slot stages i) → Err r ≡ first_of (stages i) → Err r ≡ first_of (slot_by_slot stages n)
  unfolding slot_by_slot
  slots-refused zero i r l e f = absurd (omega arith)
  slots-refused (suc n) i r l e f = go (λ m. slots-refused n i r m e f) (dec_lt i n)
    where
      go : (i < n → Err r ≡ first_of (slot_by_slot stages n)) → Dec (i < n) → Err r ≡ first_of (slot_by_slot stages n ++ stages n)
      go rec (yes m) = sym (earlier-decides (slot_by_slot stages n) (stages n) r (sym (rec m)))
      go rec (no m) =
          let q : i ≡ n = omega arith in
          subst (λ (k : ℕ). Err r ≡ first_of (slot_by_slot stages k ++ stages k)) q (f ∙ sym (later-decides (slot_by_slot stages i) (stages i) (sym e)))

  slots-passed : (n i : ℕ) → first_of (slot_by_slot stages n) ≡ Ok tt → i < n → first_of (stages i) ≡ Ok tt
  unfolding slot_by_slot
  slots-passed zero i e l = absurd (omega arith)
  slots-passed (suc n) i e l = go (λ p m. slots-passed n i p m) (dec_lt i n)
    where
      both-pass : (first_of (slot_by_slot stages n) ≡ Ok tt) × (first_of (stages n) ≡ Ok tt)
      both-pass = passes-both (slot_by_slot stages n) (stages n) e

      go : (first_of (slot_by_slot stages n) ≡ Ok tt → i < n → first_of (stages i) ≡ Ok tt) → Dec (i < n) → first_of (stages i) ≡ Ok tt
      go rec (yes m) = rec both-pass.0 m
      go rec (no m) = subst (λ (k : ℕ). first_of (stages k) ≡ Ok tt) (omega arith) both-pass.1

  slots-pass : (n : ℕ) → ((i : ℕ) → i < n → first_of (stages i) ≡ Ok tt) → first_of (slot_by_slot stages n) ≡ Ok tt
  unfolding slot_by_slot
  slots-pass zero h = no-stage
  slots-pass (suc n) h = later-decides (slot_by_slot stages n) (stages n) (slots-pass n (λ i l. h i (omega arith))) ∙ h n (omega arith)

  -- all slots pass exactly if each does
  pub slots-exactly : (n : ℕ) → (first_of (slot_by_slot stages n) ≡ Ok tt) ↔ ((i : ℕ) → i < n → first_of (stages i) ≡ Ok tt)
  slots-exactly n = (λ e i l. slots-passed n i e l, slots-pass n)

  -- all slots below one pass, and that one is refused
  pub record Lowest (n : ℕ) (r : Refusal) : Type 0 where
    pub slot : ℕ
    pub there : slot < n
    pub lower : (i : ℕ) → i < slot → first_of (stages i) ≡ Ok tt
    pub gives : first_of (stages slot) ≡ Err r

  -- the lowest slot that is refused decides
  pub slots-lowest : (n : ℕ) (r : Refusal) → first_of (slot_by_slot stages n) ≡ Err r → Lowest n r
  unfolding slot_by_slot
  slots-lowest zero r e = absurd (passes-not r (sym no-stage ∙ e))
  slots-lowest (suc n) r e = ⊎_elim (λ f. wider (slots-lowest n r f)) (λ p. last p.0 p.1) (refused-by (slot_by_slot stages n) (stages n) r e)
    where
      wider : Lowest n r → Lowest (suc n) r
      wider low =
          let l : low.slot < n = low.there in
          record { slot = low.slot; there = omega arith; lower = low.lower; gives = low.gives }

      last : first_of (slot_by_slot stages n) ≡ Ok tt → first_of (stages n) ≡ Err r → Lowest (suc n) r
      last p f = record { slot = n; there = omega arith; lower = λ i l. slots-passed n i p l; gives = f }

-- slot by slot: what has the same verdict at each slot has the same verdict
pub slots_same : (xs ys : ℕ → List Stage) (n : ℕ) → ((i : ℕ) → i < n → first_of (xs i) ≡ first_of (ys i)) → first_of (slot_by_slot xs n) ≡ first_of (slot_by_slot ys n)
unfolding slot_by_slot
slots_same xs ys zero h = refl
slots_same xs ys (suc n) h = both-same (slot_by_slot xs n) (slot_by_slot ys n) (xs n) (ys n) (slots_same xs ys n (λ i l. h i (omega arith))) (h n (omega arith))

-- the law of a group put in or left out, where it stands among the stages of each slot
pub slots-group-out : (xs g ys : ℕ → List Stage) (n : ℕ) → ((i : ℕ) → i < n → first_of (xs i) ≡ Ok tt → first_of (g i) ≡ Ok tt)
    → first_of (slot_by_slot (λ i. xs i ++ g i ++ ys i) n) ≡ first_of (slot_by_slot (λ i. xs i ++ ys i) n)
slots-group-out xs g ys n p = slots_same (λ i. xs i ++ g i ++ ys i) (λ i. xs i ++ ys i) n (λ i l. group-out (xs i) (g i) (ys i) (p i l))

-- each stage of a list gives a refusal of which P holds; and then of the one that the list gives, if any
module _ (P : Refusal → Type 0) where
  abbrev pub EachGives : List Stage → Type 0
  EachGives [] = Unit {0}
  EachGives (st ∷ sts) = P st.1 × EachGives sts

  abbrev pub GivesSuch : Verdict → Type 0
  GivesSuch (Ok u) = Unit {0}
  GivesSuch (Err r) = P r

  pub both-give : (xs ys : List Stage) → EachGives xs → EachGives ys → EachGives (xs ++ ys)
  both-give [] ys e f = f
  both-give (st ∷ xs) ys e f = (e.0, both-give xs ys e.1 f)

  pub slots-give : (stages : ℕ → List Stage) → ((s : ℕ) → EachGives (stages s)) → (n : ℕ) → EachGives (slot_by_slot stages n)
  unfolding slot_by_slot
  slots-give stages each zero = tt
  slots-give stages each (suc n) = both-give (slot_by_slot stages n) (stages n) (slots-give stages each n) (each n)

  pub first_gives : (sts : List Stage) → EachGives sts → GivesSuch (first_of sts)
  unfolding first_of
  first_gives [] e = tt
  first_gives (st ∷ sts) e = go (first_gives sts e.1) st.0 refl
    where
      go : GivesSuch (first_of sts) → (b : Bool) → st.0 ≡ b → GivesSuch (first_of (st ∷ sts))
      go rest true h = subst GivesSuch (sym (first-refuses st sts h)) e.0
      go rest false h = subst GivesSuch (sym (first_passes st sts h)) rest

  pub given-such : (sts : List Stage) (r : Refusal) → EachGives sts → first_of sts ≡ Err r → P r
  given-such sts r e f = subst GivesSuch f (first_gives sts e)

-- a refusal's number is in a range, both ends included
abbrev pub Within : ℕ → ℕ → Refusal → Type 0
Within least most r = (least ≤ (figures r).number) × ((figures r).number ≤ most)

pub each-imp : (P Q : Refusal → Type 0) → ((r : Refusal) → P r → Q r) → (sts : List Stage) → EachGives P sts → EachGives Q sts
each-imp P Q f [] e = tt
each-imp P Q f (st ∷ sts) e = (f st.1 e.0, each-imp P Q f sts e.1)
