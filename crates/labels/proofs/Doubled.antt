-- THE DOUBLED LABEL in words: `doubled-exactly`, `none-exactly`, `none-separate`. Assumes nothing.
use Rattle.std.specs.Prelude.{Option, Some, None, option_map, is_some}
use mathlib.Core.Path.{◌≡◌, sym, ap, ◌∙◌, subst}
use mathlib.Core.Bool.{Bool, true, false}
use mathlib.Core.List.{List}
use mathlib.Core.Logic.{⊎_elim, ◌↔◌}
use Prim.Native.Nat.{ℕ, ◌<◌}
use lib.ListN.{length}
use Rattle.basics.specs.Lists.{slots, any_of}
use Rattle.basics.proofs.Truth.{either, never}
use Rattle.value.specs.declared.Slot.{Slot}
use Rattle.value.specs.Value.{slot_at}
use Rattle.cell.specs.declared.Record.{Record}
use Rattle.cell.specs.Records.{record_in}
use Rattle.chains.proofs.Firsts.{First, Nowhere, looked, first-is, first-none, first-any}
use Rattle.labels.specs.Labels.{is_labelled, same_label, doubled_label, first_doubled, Repeats, FirstRepeat}
use Rattle.labels.proofs.Same.{same-parts, same-made}

-- one of the slots passes a test
module _ (p : ℕ → Bool) (k : ℕ) where
  pub any-has : (i : ℕ) → i < k → p i ≡ true → any_of p (slots k) ≡ true
  any-has i l e =
      sym (first-any p (slots k))
      ∙ ⊎_elim (λ (f : (m : ℕ) × First p k m). ap (λ (o : Option ℕ). is_some o) f.1.is) (λ w. never e (w.fails i l)) (looked p k)

  pub any-none : ((i : ℕ) → i < k → p i ≡ false) → any_of p (slots k) ≡ false
  any-none h = sym (first-any p (slots k)) ∙ ap (λ (o : Option ℕ). is_some o) (first-none p k h)

  pub has-any : any_of p (slots k) ≡ true → (i : ℕ) × First p k i
  has-any e = ⊎_elim (λ f. f) (λ w. never e (any-none w.fails)) (looked p k)

module _ (rs : List Record) where
  repeats-doubled : (x s : ℕ) → Repeats rs x s → doubled_label rs s ≡ true
  unfolding doubled_label
  repeats-doubled x s g = any-has (λ i. same_label (record_in rs i) (record_in rs s)) s x g.earlier (same-made (record_in rs x) (record_in rs s) g.same)

  doubled-repeats : (s : ℕ) → doubled_label rs s ≡ true → (x : ℕ) × Repeats rs x s
  unfolding doubled_label
  doubled-repeats s e =
      let f = has-any (λ i. same_label (record_in rs i) (record_in rs s)) s e in
      (f.0, record { earlier = f.1.below; same = same-parts (record_in rs f.0) (record_in rs s) f.1.passes })

  not-doubled : (s : ℕ) → ((x : ℕ) → Repeats rs x s → ⊥) → doubled_label rs s ≡ false
  not-doubled s h = either (doubled_label rs s) (λ e. let g = doubled-repeats s e in absurd (h g.0 g.1)) (λ e. e)

  pub not-labelled : (s : ℕ) → is_labelled (record_in rs s) ≡ false → doubled_label rs s ≡ false
  not-labelled s e = not-doubled s (λ x g. never g.same.labelled.1 e)

  first-repeat : (s : ℕ) → First (doubled_label rs) (length rs) s → FirstRepeat rs s
  first-repeat s f = record {
    there = f.below;
    repeats = doubled-repeats s f.passes;
    lowest = λ i x l g. never (repeats-doubled x i g) (f.before i l);
  }

  -- what is told, by the test of each slot
  pub doubled-is : (s : Slot) → first_doubled rs ≡ Some s → First (doubled_label rs) (length rs) s.0
  unfolding first_doubled
  doubled-is s e = ⊎_elim found lacking (looked (doubled_label rs) (length rs))
    where
      found : ((i : ℕ) × First (doubled_label rs) (length rs) i) → First (doubled_label rs) (length rs) s.0
      found (i, f) =
          let z : Some (slot_at i) ≡ Some s = sym (ap (option_map slot_at) f.is) ∙ e in
          let q : slot_at i ≡ s = cc in
          subst (First (doubled_label rs) (length rs)) (ap (λ (x : Slot). x.0) q) f

      lacking : Nowhere (doubled_label rs) (length rs) → First (doubled_label rs) (length rs) s.0
      lacking w = let z : None ≡ Some s = sym (ap (option_map slot_at) w.is) ∙ e in absurd (cc)

  pub doubled-none : first_doubled rs ≡ None → (i : ℕ) → i < length rs → doubled_label rs i ≡ false
  unfolding first_doubled
  doubled-none e = ⊎_elim found (λ w. w.fails) (looked (doubled_label rs) (length rs))
    where
      found : ((i : ℕ) × First (doubled_label rs) (length rs) i) → (i : ℕ) → i < length rs → doubled_label rs i ≡ false
      found (i, f) = let z : Some (slot_at i) ≡ None = sym (ap (option_map slot_at) f.is) ∙ e in absurd (cc)

  -- the slot that is told is the lowest that repeats the label of an earlier record of its kind
  pub doubled-exactly : (s : ℕ) → (first_doubled rs ≡ Some (slot_at s)) ↔ FirstRepeat rs s
  unfolding first_doubled
  doubled-exactly s = (λ e. first-repeat s (doubled-is (slot_at s) e), told)
    where
      told : FirstRepeat rs s → first_doubled rs ≡ Some (slot_at s)
      told g =
          ap (option_map slot_at)
          (first-is (doubled_label rs) (length rs) s g.there (repeats-doubled g.repeats.0 s g.repeats.1) (λ i l. not-doubled i (λ x q. g.lowest i x l q)))

  -- and none is told where no slot does
  pub none-exactly : (first_doubled rs ≡ None) ↔ ((s x : ℕ) → s < length rs → Repeats rs x s → ⊥)
  unfolding first_doubled
  none-exactly = (λ e s x l g. never (repeats-doubled x s g) (doubled-none e s l), told)
    where
      told : ((s x : ℕ) → s < length rs → Repeats rs x s → ⊥) → first_doubled rs ≡ None
      told h = ap (option_map slot_at) (first-none (doubled_label rs) (length rs) (λ s l. not-doubled s (λ x g. h s x l g)))

  -- so none is where any two slots have different labels
  pub none-separate : (first_doubled rs ≡ None) ↔ ((x s : ℕ) → x < s → s < length rs → same_label (record_in rs x) (record_in rs s) ≡ false)
  none-separate = (
    λ e x s l k.
        either (same_label (record_in rs x) (record_in rs s))
        (λ q. absurd (none-exactly.0 e s x k (record { earlier = l; same = same-parts (record_in rs x) (record_in rs s) q }))) (λ q. q),
    λ h. none-exactly.1 (λ s x l g. never (same-made (record_in rs x) (record_in rs s) g.same) (h x s g.earlier l)),
  )
