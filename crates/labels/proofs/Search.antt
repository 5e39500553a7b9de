-- The search for a doubled label: by the lists, by the ticket alone, and slot by slot. Assumes nothing.
use Rattle.std.specs.Prelude.{Option, Some, None, option_map, is_some}
use mathlib.Core.Path.{◌≡◌, refl, sym, ap, ap₂, ◌∙◌, subst}
use mathlib.Core.Bool.{Bool, true, false}
use mathlib.Core.List.{List}
use Prim.Native.Nat.{ℕ, ◌+◌, ◌/◌, ◌%◌, ◌<◌, ◌≤◌}
use native.Mathlib.Omega.{arith}
use native.Mathlib.Decide.{dec_lt}
use lib.ListN.{length, get_or}
use Rattle.basics.specs.Lists.{slots}
use Rattle.basics.proofs.Truth.{never}
use Rattle.value.specs.Value.{slot_at}
use Rattle.cell.specs.declared.Record.{Record}
use Rattle.cell.specs.Records.{record_at, record_in, records_of}
use Rattle.cell.proofs.Lists.{records-length, records-at}
use Rattle.netlist.specs.inner.Areas.{Within}
use Rattle.netlist.proofs.Frames.{within_none, within-then, within_wider}
use Rattle.chains.specs.Chains.{Searchable, Finds, appended, fits, apart, Only}
use Rattle.chains.proofs.Firsts.{first-is, first-none, first-any}
use Rattle.chains.proofs.Steps.{chained-cleared, chained-skipped, only-within}
use Rattle.chains.proofs.Appending.{chained-appended, appended-only}
use Rattle.chains.proofs.Searching.{found-of-all}
use Rattle.labels.specs.declared.TheConstants.{LABELS}
use Rattle.labels.specs.Labels.{is_labelled, label_of, same_label, doubled_label, first_doubled}
use Rattle.labels.specs.inner.Search.{class_in, Listed, Asked, Steps}
use Rattle.labels.proofs.Doubled.{any-has, any-none, not-labelled}
use Rattle.labels.proofs.Same.{same-parts}

labels-fit : fits LABELS 512 16384 ≡ true
unfolding fits apart
labels-fit = refl

-- ---- of one slot, whose record is labelled
module _ (t : List ℕ) (s : ℕ) (r : Record) (a : Asked t s r) where
  here-is : record_in (records_of t) s ≡ r
  here-is = records-at t s a.inside ∙ sym a.is

  same-at : (x : ℕ) → x < s → same_label (record_in (records_of t) x) (record_in (records_of t) s) ≡ same_label (record_at t x) r
  same-at x l =
      let inside : s < length t / 16 = a.inside in
      ap₂ same_label (records-at t x (omega arith)) here-is

  -- by the ticket alone
  pub before-finds : (x : ℕ) (y : Bool) → x < s → y ≡ same_label (record_at t x) r → y ≡ true → true ≡ doubled_label (records_of t) s
  unfolding doubled_label
  before-finds x y l e q = sym (any-has (λ i. same_label (record_in (records_of t) i) (record_in (records_of t) s)) s x l (same-at x l ∙ sym e ∙ q))

  pub before-ends : (x : ℕ) → s ≤ x → ((i : ℕ) → i < x → same_label (record_at t i) r ≡ false) → false ≡ doubled_label (records_of t) s
  unfolding doubled_label
  before-ends x l h =
      sym (any-none (λ i. same_label (record_in (records_of t) i) (record_in (records_of t) s)) s (λ i m. same-at i m ∙ h i (omega arith)))

  -- by the list of its class
  pub listed-searchable : (pre : ℕ → Type 0) (ws : List ℕ) → Listed t s ws → ((i : ℕ) → i < length t / 16 → pre i) → Searchable pre LABELS ws
  listed-searchable pre ws g may =
      let inside : s < length t / 16 = a.inside in
      let few : length t / 16 ≤ 512 = a.few in
      record { class = class_in (records_of t); items = s; chained = g.chained; few = omega arith; may = λ i l. may i (omega arith) }

  module _ (b : ℕ) (b-is : b ≡ label_of r % 512) where
    own : class_in (records_of t) s ≡ b
    unfolding class_in
    own = rw (here-is, a.labelled) (sym b-is)

    own-same : (x : ℕ) → x < s → same_label (record_in (records_of t) x) (record_in (records_of t) s) ≡ true → class_in (records_of t) x ≡ b
    unfolding class_in
    own-same x l e =
        let g = same-parts (record_in (records_of t) x) (record_in (records_of t) s) e in
        rw g.labelled.0 (ap (λ (n : ℕ). n % 512) (g.label ∙ ap label_of here-is) ∙ sym b-is)

    pub listed-is : (post : ℕ → Bool → Type 0) (ws : List ℕ) (o : Option ℕ) → Listed t s ws → Finds post LABELS ws b o
        → ((i : ℕ) (y : Bool) → i < s → post i y → y ≡ same_label (record_at t i) r) → (y : Bool) → y ≡ is_some o → y ≡ doubled_label (records_of t) s
    unfolding doubled_label
    listed-is post ws o g f agree y e =
        let test = λ (x : ℕ). same_label (record_in (records_of t) x) (record_in (records_of t) s) in
        e
        ∙ ap (λ (m : Option ℕ). is_some m)
        (found-of-all post LABELS ws b o f (class_in (records_of t)) s test g.chained (λ i v l p. agree i v l p ∙ sym (same-at i l)) own-same)
        ∙ first-any test (slots s)

    -- the slot, asked for
    pub step-ends : (ws : List ℕ) (y : Bool) → Listed t s ws → y ≡ doubled_label (records_of t) s → y ≡ true → Steps t s ws ws y
    step-ends ws y g e q = record { told = e; listed = λ n. never q n; frame = within_none 0 1536 ws }

    pub step-lists : (ws ws' : List ℕ) (y : Bool) → Listed t s ws → y ≡ doubled_label (records_of t) s → ws' ≡ appended LABELS ws s b → Steps t s ws ws' y
    step-lists ws ws' y g e put = record {
      told = e;
      listed = λ n. record {
        chained = chained-appended LABELS (class_in (records_of t)) s 512 16384 ws ws' b labels-fit g.long room own small g.chained put;
        long = let long : 16384 ≤ length ws = g.long in let same : length ws' ≡ length ws = frame.same in omega arith;
      };
      frame = frame;
    }
      where
        room : s < 512
        room = let inside : s < length t / 16 = a.inside in let few : length t / 16 ≤ 512 = a.few in omega arith

        small : b < 512
        small = omega arith

        only : Only LABELS 512 ws ws'
        only = appended-only LABELS (class_in (records_of t)) s 512 16384 ws ws' b labels-fit g.long room own small g.chained put

        frame : Within 0 1536 ws ws'
        frame = only-within LABELS 512 ws ws' only 0 1536 (omega arith) (omega arith) (omega arith) (omega arith) (omega arith) (omega arith)

-- ---- slot by slot
pub record Going (t ws₀ ws : List ℕ) (s : ℕ) : Type 0 where
  pub listed : Listed t s ws
  pub frame : Within 0 1536 ws₀ ws
  pub none : (j : ℕ) → j < s → doubled_label (records_of t) j ≡ false

pub going-starts : (t ws₀ ws : List ℕ) → 16384 ≤ length ws₀ → ((b : ℕ) → b < 512 → get_or ws (0 + b) 0 ≡ 0) → Within 0 (0 + 512) ws₀ ws → Going t ws₀ ws 0
going-starts t ws₀ ws long blank w = record {
  listed = record {
    chained = chained-cleared LABELS (class_in (records_of t)) ws blank;
    long = let same : length ws ≡ length ws₀ = w.same in omega arith;
  };
  frame = within_wider 0 (0 + 512) 0 1536 ws₀ ws (omega arith) (omega arith) w;
  none = λ j l. absurd (omega arith);
}

module _ (t ws₀ ws : List ℕ) (s : ℕ) (g : Going t ws₀ ws s) where
  below-more : doubled_label (records_of t) s ≡ false → (j : ℕ) → j < s + 1 → doubled_label (records_of t) j ≡ false
  below-more e j l = go (dec_lt j s)
    where
      go : Dec (j < s) → doubled_label (records_of t) j ≡ false
      go (yes k) = g.none j k
      go (no k) = let q : s ≡ j = omega arith in subst (λ (x : ℕ). doubled_label (records_of t) x ≡ false) q e

  pub going-more : (ws' : List ℕ) (y : Bool) → Steps t s ws ws' y → y ≡ false → Going t ws₀ ws' (s + 1)
  going-more ws' y d e = record {
    listed = d.listed e;
    frame = within-then 0 1536 ws₀ ws ws' g.frame d.frame;
    none = below-more (sym d.told ∙ e);
  }

  pub going-frame : (ws' : List ℕ) (y : Bool) → Steps t s ws ws' y → Within 0 1536 ws₀ ws'
  going-frame ws' y d = within-then 0 1536 ws₀ ws ws' g.frame d.frame

  module _ (n : ℕ) (n-is : n ≡ length t / 16) where
    pub going-finds : (ws' : List ℕ) (y : Bool) → s < n → Steps t s ws ws' y → y ≡ true → Some (slot_at s) ≡ first_doubled (records_of t)
    unfolding first_doubled
    going-finds ws' y l d e =
        let count : length (records_of t) ≡ length t / 16 = records-length t in
        sym (ap (option_map slot_at) (first-is (doubled_label (records_of t)) (length (records_of t)) s (omega arith) (sym d.told ∙ e) g.none))

    pub going-ends : n ≤ s → None ≡ first_doubled (records_of t)
    unfolding first_doubled
    going-ends l =
        let count : length (records_of t) ≡ length t / 16 = records-length t in
        sym (ap (option_map slot_at) (first-none (doubled_label (records_of t)) (length (records_of t)) (λ j m. g.none j (omega arith))))

  -- a slot without a label
  pub going-skips : (r : Record) → s < length t / 16 → r ≡ record_at t s → is_labelled r ≡ false → Going t ws₀ ws (s + 1)
  unfolding class_in
  going-skips r l is e = record {
    listed = record { chained = chained-skipped LABELS (class_in (records_of t)) s ws (rw plain (omega arith)) g.listed.chained; long = g.listed.long };
    frame = g.frame;
    none = below-more (not-labelled (records_of t) s plain);
  }
    where
      plain : is_labelled (record_in (records_of t) s) ≡ false
      plain = ap is_labelled (records-at t s l ∙ sym is) ∙ e
