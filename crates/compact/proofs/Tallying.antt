-- The loop of `tally_kept`, over the words. Assumes nothing.
use mathlib.Core.Path.{◌≡◌, refl, sym, ap, ap₂, ◌∙◌, subst}
use mathlib.Core.Bool.{Bool, true, false, cond}
use mathlib.Core.List.{List}
use mathlib.Core.Logic.{inl}
use Prim.Native.Nat.{ℕ, ◌+◌, ◌*◌, ◌<◌, ◌≤◌}
use native.Mathlib.Omega.{arith}
use native.Mathlib.Numerals.{add-one}
use native.Mathlib.Decide.{dec_lt}
use lib.ListN.{length, get_or, set}
use lib.Seq.{get_or-set_same, get_or-set_other}
use Rattle.std.specs.Int.{from_bool}
use Rattle.cell.specs.declared.Record.{Record}
use Rattle.netlist.specs.inner.Areas.{records_in, marks_in, Within, visited_at, order_at, replaced_at}
use Rattle.netlist.specs.Netlist.{netlist_of}
use Rattle.netlist.proofs.Frames.{within_none, within-then, within_wider, within-set, records-kept, marks-kept}
use Rattle.compact.specs.Compact.{keep, is_kept}
use Rattle.compact.specs.inner.Words.{kept_at, tally, tally_in, tally_word, Marked, Tallies, Keeps}
use Rattle.basics.proofs.Truth.{at_most_one}

-- tallies change neither records nor marks
module _ (n : ℕ) (few : n ≤ 1024) (ws ws' : List ℕ) (frame : Within order_at replaced_at ws ws') where
  same-records : records_in n ws' ≡ records_in n ws
  same-records = records-kept order_at replaced_at ws ws' frame n (omega arith)

  same-marks : marks_in visited_at n ws' ≡ marks_in visited_at n ws
  same-marks = marks-kept order_at replaced_at ws ws' frame visited_at n (inl (omega arith))

  same_kept : (s : ℕ) → kept_at n ws' s ≡ kept_at n ws s
  same_kept s = ap₂ (λ (rs : List Record) (marks : List Bool). is_kept (netlist_of rs).bits marks s) same-records same-marks

  same-tally : (s : ℕ) → tally_in n ws' s ≡ tally_in n ws s
  same-tally s = ap₂ (λ (rs : List Record) (marks : List Bool). tally (netlist_of rs).bits marks s) same-records same-marks

  same_word : (s : ℕ) → tally_word n ws' s ≡ tally_word n ws s
  same_word s = ap₂ (λ (t : ℕ) (b : Bool). 2 * t + cond b 1 0) (same-tally s) (same_kept s)

from-cond : (b : Bool) → from_bool b ≡ cond b 1 0
from-cond true = refl
from-cond false = refl

-- slot after slot
pub record Tallying (n : ℕ) (ws₀ ws : List ℕ) (t s : ℕ) : Type 0 where
  pub few : n ≤ 1024
  pub long : 16384 ≤ length ws₀
  pub number : t ≡ tally_in n ws₀ s
  pub most : t ≤ s
  pub done : (u : ℕ) → u < s → get_or ws (order_at + u) 0 ≡ tally_word n ws₀ u
  pub frame : Within order_at replaced_at ws₀ ws

pub tallying-none : (n : ℕ) (ws : List ℕ) → n ≤ 1024 → 16384 ≤ length ws → Tallying n ws ws 0 0
unfolding tally
tallying-none n ws few long = record {
  few = few;
  long = long;
  number = refl;
  most = omega arith;
  done = λ u l. absurd (omega arith);
  frame = within_none order_at replaced_at ws;
}

module _ (n : ℕ) (ws₀ ws : List ℕ) (t s : ℕ) (g : Tallying n ws₀ ws t s) where
  pub tallying-more : s < n → (b : Bool) → b ≡ kept_at n ws s → (k : ℕ) → k ≡ from_bool b → (ws' : List ℕ) → ws' ≡ set ws (order_at + s) (2 * t + k) → Tallying n ws₀ ws' (t + k) (s + 1)
  unfolding tally
  tallying-more l b e k f ws' h = record {
    few = g.few;
    long = g.long;
    number = rw (add-one s) (ap₂ ◌+◌ g.number kept_here);
    most = omega (arith, g.most, f, from-cond b, at_most_one b);
    done = λ u m. ap (λ (vs : List ℕ). get_or vs (order_at + u) 0) h ∙ go u m (dec_lt u s);
    frame =
        let few : n ≤ 1024 = g.few in
        within-then order_at replaced_at ws₀ ws ws' g.frame
        (subst (λ (vs : List ℕ). Within order_at replaced_at ws vs) (sym h) (within-set order_at replaced_at ws (order_at + s) (2 * t + k) (omega arith) (omega arith)));
  }
    where
      kept_here : k ≡ cond (kept_at n ws₀ s) 1 0
      kept_here = f ∙ from-cond b ∙ ap (λ (c : Bool). cond c 1 0) (e ∙ same_kept n g.few ws₀ ws g.frame s)

      here : get_or (set ws (order_at + s) (2 * t + k)) (order_at + s) 0 ≡ tally_word n ws₀ s
      here =
          let few : n ≤ 1024 = g.few in
          let long : 16384 ≤ length ws₀ = g.long in
          get_or-set_same ws (order_at + s) (2 * t + k) 0 (omega (arith, g.frame.same)) ∙ ap₂ (λ (x y : ℕ). 2 * x + y) g.number kept_here

      go : (u : ℕ) → u < s + 1 → Dec (u < s) → get_or (set ws (order_at + s) (2 * t + k)) (order_at + u) 0 ≡ tally_word n ws₀ u
      go u m (yes q) = get_or-set_other ws (order_at + s) (order_at + u) (2 * t + k) 0 (λ r. absurd (omega arith)) ∙ g.done u q
      go u m (no q) =
          let r : s ≡ u = omega arith in
          subst (λ (v : ℕ). get_or (set ws (order_at + s) (2 * t + k)) (order_at + v) 0 ≡ tally_word n ws₀ v) r here

  pub tallying-all : s ≤ n → n ≤ s → Tallies n t ws₀ ws
  tallying-all m h = record {
    tallied = record {
      long = let long : 16384 ≤ length ws₀ = g.long in omega (arith, g.frame.same);
      few = g.few;
      each = λ u l. g.done u (omega arith) ∙ sym (same_word n g.few ws₀ ws g.frame u);
      all =
          let e : s ≡ n = omega arith in
          g.number ∙ sym (same-tally n g.few ws₀ ws g.frame s) ∙ ap (tally_in n ws) e;
    };
    frame = g.frame;
  }

pub keeps : (n total : ℕ) (ws₀ ws ws' : List ℕ) → Marked n ws₀ ws → Tallies n total ws ws' → Keeps n total ws₀ ws'
keeps n total ws₀ ws ws' m h =
    let few : n ≤ 1024 = h.tallied.few in
    let records : records_in n ws' ≡ records_in n ws = same-records n few ws ws' h.frame in
    record {
      records = records ∙ m.records;
      marks = same-marks n few ws ws' h.frame ∙ m.marks ∙ ap (λ (rs : List Record). keep (netlist_of rs)) (sym records);
      tallied = h.tallied;
      frame = within-then visited_at replaced_at ws₀ ws ws' m.frame (within_wider order_at replaced_at visited_at replaced_at ws ws' (omega arith) (omega arith) h.frame);
    }
