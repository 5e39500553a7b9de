-- Which slots are kept, and how many before one: the count of the definition, and the tally that is kept while going over the slots. Assumes nothing.
use mathlib.Core.Path.{◌≡◌, refl, sym, ap, ◌∙◌, subst}
use mathlib.Core.Bool.{Bool, true, false, cond, not}
use mathlib.Core.List.{List, [], ◌∷◌, ◌++◌}
use Prim.Native.Nat.{ℕ, zero, suc, ◌+◌, ◌*◌, ◌/◌, ◌<◌, ◌≤◌}
use native.Mathlib.Omega.{arith}
use native.Mathlib.Decide.{dec_lt}
use lib.Dec.{eqb}
use lib.ListN.{length, get_or, length-append, get_or-eq_default}
use Rattle.basics.specs.Lists.{tabulate, slots, those}
use Rattle.basics.proofs.Truth.{at_most_one}
use Rattle.basics.proofs.Tables.{tabulate-at}
use Rattle.basics.proofs.Those.{those-append}
use Rattle.netlist.specs.inner.Areas.{records_in, marks_in, visited_at, order_at}
use Rattle.netlist.specs.Netlist.{start_of}
use Rattle.cell_order.specs.inner.Descent.{bits_in}
use Rattle.order.proofs.Words.{marks-length}
use Rattle.compact.specs.Compact.{is_kept, kept_slots, count_kept}
use Rattle.design.specs.inner.Words.{netlist_in}
use Rattle.compact.specs.inner.Words.{kept_at, kept_in, tally, tally_in, Tallied}
use Rattle.design.proofs.Words.{bits-length}

mark-at : (n : ℕ) (ws : List ℕ) (s : ℕ) → s < n → (base : ℕ) → get_or (marks_in base n ws) s false ≡ not (eqb (get_or ws (base + s) 0) 0)
unfolding marks_in
mark-at n ws s h base = tabulate-at (λ i. not (eqb (get_or ws (base + i) 0) 0)) n false s h

-- a slot's mark, where its cell starts
pub kept-at : (n : ℕ) (ws : List ℕ) (s : ℕ) → s < n → (start : ℕ) → start ≡ start_of (bits_in (records_in n ws)) s → (w : ℕ) → w ≡ get_or ws (visited_at + start) 0
    → not (eqb w 0) ≡ kept_at n ws s
unfolding bits_in
kept-at n ws s h start e w f =
    ap (λ (v : ℕ). not (eqb v 0)) f ∙ sym (mark-at n ws start (omega arith) visited_at) ∙ ap (λ (k : ℕ). get_or (marks_in visited_at n ws) k false) e

-- a slot more
module _ (bits : List ℕ) (marks : List Bool) where
  pub kept_more : (s : ℕ) → kept_slots bits marks (suc s) ≡ kept_slots bits marks s ++ cond (is_kept bits marks s) (s ∷ []) []
  unfolding kept_slots tabulate those
  kept_more s = those-append (is_kept bits marks) (slots s) (s ∷ [])

  one-length : (b : Bool) (s : ℕ) → length (cond b (s ∷ []) []) ≡ cond b 1 0
  one-length true s = refl
  one-length false s = refl

  pub count-more : (s : ℕ) → count_kept bits marks (suc s) ≡ count_kept bits marks s + cond (is_kept bits marks s) 1 0
  unfolding count_kept
  count-more s =
      ap length (kept_more s) ∙ length-append (kept_slots bits marks s) (cond (is_kept bits marks s) (s ∷ []) [])
      ∙ ap (λ (k : ℕ). length (kept_slots bits marks s) + k) (one-length (is_kept bits marks s) s)

  pub count_none : count_kept bits marks 0 ≡ 0
  unfolding count_kept kept_slots tabulate those
  count_none = refl

  -- no slot past the last one is kept
  module _ (n : ℕ) (bits-end : length bits ≤ n) (marks-end : length marks ≤ n) where
    past-kept : (s : ℕ) → n ≤ s → is_kept bits marks s ≡ false
    past-kept s h =
        let z : get_or bits s 0 ≡ 0 = get_or-eq_default bits 0 (omega arith) in
        get_or-eq_default marks false (omega arith)

    pub count_past : (s : ℕ) → n ≤ s → count_kept bits marks s ≡ count_kept bits marks n
    count_past zero h = ap (count_kept bits marks) (let e : 0 ≡ n = omega arith in e)
    count_past (suc s) h = go (λ m. count_past s m) (dec_lt s n)
      where
        go : (n ≤ s → count_kept bits marks s ≡ count_kept bits marks n) → Dec (s < n) → count_kept bits marks (suc s) ≡ count_kept bits marks n
        go rec (yes l) = ap (count_kept bits marks) (let e : suc s ≡ n = omega arith in e)
        go rec (no l) =
            let m : n ≤ s = omega arith in
            count-more s ∙ ap (λ (b : Bool). count_kept bits marks s + cond b 1 0) (past-kept s m) ∙ (let e : count_kept bits marks s + 0 ≡ count_kept bits marks s = omega arith in e) ∙ rec m

  -- request 2026-05: at every slot the tally is the count
  pub tally-is-count : (s : ℕ) → tally bits marks s ≡ count_kept bits marks s
  unfolding tally
  tally-is-count zero = sym count_none
  tally-is-count (suc s) = ap (λ (k : ℕ). k + cond (is_kept bits marks s) 1 0) (tally-is-count s) ∙ sym (count-more s)

-- the same of the words
module _ (n : ℕ) (ws : List ℕ) where
  pub tallied-count : (s : ℕ) → tally_in n ws s ≡ kept_in n ws s
  tallied-count s = tally-is-count (netlist_in n ws).bits (marks_in visited_at n ws) s

  more-in : (s : ℕ) → kept_in n ws (suc s) ≡ kept_in n ws s + cond (kept_at n ws s) 1 0
  more-in s = count-more (netlist_in n ws).bits (marks_in visited_at n ws) s

  pub kept-few : (s : ℕ) → kept_in n ws s ≤ s
  kept-few zero = omega (arith, count_none (netlist_in n ws).bits (marks_in visited_at n ws))
  kept-few (suc s) = omega (arith, kept-few s, more-in s, at_most_one (kept_at n ws s))

  -- what is kept up to a slot, itself among them, is kept before every later one
  pub kept-below : (s m : ℕ) → s < m → kept_in n ws s + cond (kept_at n ws s) 1 0 ≤ kept_in n ws m
  kept-below s zero l = absurd (omega arith)
  kept-below s (suc m) l = go (λ q. kept-below s m q) (dec_lt s m)
    where
      go : (s < m → kept_in n ws s + cond (kept_at n ws s) 1 0 ≤ kept_in n ws m) → Dec (s < m) → kept_in n ws s + cond (kept_at n ws s) 1 0 ≤ kept_in n ws (suc m)
      go rec (yes q) = omega (arith, rec q, more-in m)
      go rec (no q) = subst (λ (k : ℕ). kept_in n ws s + cond (kept_at n ws s) 1 0 ≤ kept_in n ws (suc k)) (let e : s ≡ m = omega arith in e) (omega (arith, more-in s))

-- what is read off the word of a slot
half : (k : ℕ) (b : Bool) → (2 * k + cond b 1 0) / 2 ≡ k
half k true = omega arith
half k false = omega arith

module _ (n total : ℕ) (ws : List ℕ) (g : Tallied n total ws) where
  module _ (s : ℕ) (l : s < n) (w : ℕ) (e : w ≡ get_or ws (order_at + s) 0) where
    pub tally-read : w / 2 ≡ kept_in n ws s
    tally-read = ap (λ (v : ℕ). v / 2) (e ∙ g.each s l) ∙ half (tally_in n ws s) (kept_at n ws s) ∙ tallied-count n ws s

    pub tally-few : w / 2 ≤ n
    tally-few = omega (arith, tally-read, kept-few n ws s)

  pub all-is-count : total ≡ kept_in n ws n
  all-is-count = g.all ∙ tallied-count n ws n

  pub all-few : total ≤ n
  all-few = omega (arith, all-is-count, kept-few n ws n)

  -- from slot n on all kept slots stand before
  pub all_past : (s : ℕ) → n ≤ s → total ≡ kept_in n ws s
  all_past s h =
      all-is-count
      ∙ sym (count_past (netlist_in n ws).bits (marks_in visited_at n ws) n (omega (arith, bits-length n ws)) (omega (arith, marks-length n ws)) s h)
