-- Replacements put into the slots. Assumes nothing.
use mathlib.Core.Path.{◌≡◌, refl, sym, ap, ap₂, ◌∙◌, subst}
use mathlib.Core.Bool.{Bool, false, not, ◌||◌}
use mathlib.Core.List.{List, map}
use Prim.Native.Nat.{ℕ, zero, suc, ◌+◌, ◌*◌, ◌<◌, ◌≤◌}
use native.Mathlib.Omega.{arith}
use native.Mathlib.Numerals.{add-one}
use native.Mathlib.Decide.{dec_lt}
use lib.ListN.{length}
use Rattle.value.specs.declared.Net.{Net}
use Rattle.value.specs.declared.ControlNet.TheVariants.{Pos, Neg}
use Rattle.value.specs.Value.{net_at, eq_net, driver}
use Rattle.cell.specs.declared.Record.{Record}
use Rattle.cell.specs.declared.Cell.{Cell}
use Rattle.cell.specs.declared.Cell.TheVariants.{Input, Output, Buf, Not, And, Or, Xor, Mux, Aig}
use Rattle.basics.specs.Lists.{tabulate, slots, any_of}
use Rattle.cell.specs.Records.{record_of, cell_of, cell_record}
use Rattle.cell.proofs.RoundTrips.{cell-back}
use Rattle.netlist.specs.inner.Areas.{word_record, store_words, records_in, Within, visited_at}
use Rattle.netlist.specs.Shape.{visit, visit_mut}
use Rattle.netlist.specs.Netlist.{netlist_of}
use Rattle.netlist.proofs.Frames.{within_none, within-then, within_wider, tabulate-same}
use Rattle.netlist.proofs.Areas.{Sized, store-within, stored_same, stored_other}
use Rattle.design.specs.Queue.{followed, map_net_new, applied, did_change, eq_record, eq_cell}
use Rattle.netlist.specs.inner.Fields.{renamed_fields, renamed_record}
use Rattle.design.specs.inner.Words.{netlist_in, replaced_in, design_in, applied_in, replaced_record, changes_in, Applies}
use Rattle.basics.proofs.Tables.{any-more, any-table, map-table}
use Rattle.design.proofs.Words.{replaced-kept}
use Rattle.design.proofs.Replacing.{changed-is}
use Rattle.netlist.proofs.Operands.{renamed-plain}

-- the record of a cell fits into its words
sized : (bit : ℕ) → bit < 65536 → (c : Cell) → Sized (cell_record bit c)
unfolding cell_record
sized bit h (Input l) = record { kind = omega arith; flags = omega arith; bit = h }
sized bit h (Output a l) = record { kind = omega arith; flags = omega arith; bit = h }
sized bit h (Buf a) = record { kind = omega arith; flags = omega arith; bit = h }
sized bit h (Not a) = record { kind = omega arith; flags = omega arith; bit = h }
sized bit h (And a b) = record { kind = omega arith; flags = omega arith; bit = h }
sized bit h (Or a b) = record { kind = omega arith; flags = omega arith; bit = h }
sized bit h (Xor a b) = record { kind = omega arith; flags = omega arith; bit = h }
sized bit h (Mux a b c) = record { kind = omega arith; flags = omega arith; bit = h }
sized bit h (Aig (Pos a) (Pos b)) = record { kind = omega arith; flags = omega arith; bit = h }
sized bit h (Aig (Pos a) (Neg b)) = record { kind = omega arith; flags = omega arith; bit = h }
sized bit h (Aig (Neg a) (Pos b)) = record { kind = omega arith; flags = omega arith; bit = h }
sized bit h (Aig (Neg a) (Neg b)) = record { kind = omega arith; flags = omega arith; bit = h }

-- the other fields do not depend on the bit
at-bit : (bit : ℕ) (c : Cell) → cell_record bit c ≡ record_of (cell_record 0 c).kind (cell_record 0 c).flags bit (cell_record 0 c).a (cell_record 0 c).b (cell_record 0 c).c
unfolding cell_record
at-bit bit (Input l) = refl
at-bit bit (Output a l) = refl
at-bit bit (Buf a) = refl
at-bit bit (Not a) = refl
at-bit bit (And a b) = refl
at-bit bit (Or a b) = refl
at-bit bit (Xor a b) = refl
at-bit bit (Mux a b c) = refl
at-bit bit (Aig p q) = refl

bit_kept : (bit : ℕ) (c : Cell) → (cell_record bit c).bit ≡ bit
bit_kept bit c = ap (λ (r : Record). r.bit) (at-bit bit c)

same-fields : (bit : ℕ) (c d : Cell) → eq_record (cell_record bit c) (cell_record bit d) ≡ eq_cell c d
unfolding eq_cell eq_record
same-fields bit c d = ap₂ eq_record (at-bit bit c) (at-bit bit d)

-- the constant zero is never replaced
followed-zero : (k : ℕ) (rs : List Net) → followed k rs (net_at 0) ≡ net_at 0
unfolding followed driver eq_net
followed-zero zero rs = refl
followed-zero (suc k) rs = refl

pub replaced-zero : (rs : List Net) → map_net_new rs (net_at 0) ≡ net_at 0
unfolding map_net_new
replaced-zero rs = followed-zero (length rs) rs

-- one slot
module _ (n s : ℕ) (ws ws' : List ℕ) (q : Record) (q-is : q ≡ word_record ws s) (old : Record) (old-is : old ≡ cell_record q.bit (cell_of q))
    (r : Record) (r-is : r ≡ renamed_fields (map_net_new (replaced_in n ws)) old) where
  new-record : r ≡ replaced_record n ws s
  new-record = r-is ∙ renamed-plain (map_net_new (replaced_in n ws)) q old old-is ∙ ap (renamed_record (map_net_new (replaced_in n ws))) q-is

  old_bit : r.bit ≡ (word_record ws s).bit
  unfolding renamed_record
  old_bit = ap (λ (p : Record). p.bit) new-record ∙ bit_kept (word_record ws s).bit _

  pub applies : ws' ≡ store_words ws s r → (b : Bool) → b ≡ eq_record r old → r.bit < 65536 → Applies n s ws ws' (not b)
  unfolding changes_in renamed_record
  applies stored b b-is h = record {
    stored = stored ∙ ap (store_words ws s) new-record;
    bit = omega (arith, old_bit);
    changed =
        let c : Cell = cell_of (word_record ws s) in
        let f : Net → Net = map_net_new (replaced_in n ws) in
        ap not (b-is ∙ ap₂ eq_record new-record (old-is ∙ ap (λ (p : Record). cell_record p.bit (cell_of p)) q-is) ∙ same-fields (word_record ws s).bit (visit_mut f c) c) ∙ sym (changed-is f c);
  }

-- slot after slot
pub record Applying (n : ℕ) (ws₀ ws : List ℕ) (changed : Bool) (s : ℕ) : Type 0 where
  pub few : n ≤ 1024
  pub long : 16384 ≤ length ws₀
  pub done : (u : ℕ) → u < s → word_record ws u ≡ replaced_record n ws₀ u
  pub left : (u : ℕ) → s ≤ u → word_record ws u ≡ word_record ws₀ u
  pub flag : changed ≡ any_of (changes_in n ws₀) (slots s)
  pub frame : Within 0 visited_at ws₀ ws

pub applying-none : (n : ℕ) (ws : List ℕ) → n ≤ 1024 → 16384 ≤ length ws → Applying n ws ws false 0
unfolding tabulate any_of
applying-none n ws few long = record {
  few = few;
  long = long;
  done = λ u l. absurd (omega arith);
  left = λ u l. refl;
  flag = refl;
  frame = within_none 0 visited_at ws;
}

module _ (n : ℕ) (ws₀ ws : List ℕ) (changed : Bool) (s : ℕ) (g : Applying n ws₀ ws changed s) where
  same-record : replaced_record n ws s ≡ replaced_record n ws₀ s
  unfolding renamed_record
  same-record = rw (g.left s (omega arith), replaced-kept n ws₀ ws g.frame)

  same-change : changes_in n ws s ≡ changes_in n ws₀ s
  unfolding changes_in
  same-change = rw (g.left s (omega arith), replaced-kept n ws₀ ws g.frame)

  module _ (ws' : List ℕ) (more : Bool) (a : Applies n s ws ws' more) (l : s < n) where
    stored_here : word_record ws' s ≡ replaced_record n ws₀ s
    unfolding renamed_record
    stored_here =
        let few : n ≤ 1024 = g.few in
        let long : 16384 ≤ length ws₀ = g.long in
        ap (λ (vs : List ℕ). word_record vs s) a.stored
        ∙ stored_same ws s (replaced_record n ws s) (omega (arith, g.frame.same)) (sized (word_record ws s).bit a.bit _) ∙ same-record

    stored_there : (u : ℕ) → (u ≡ s → ⊥) → word_record ws' u ≡ word_record ws u
    stored_there u h = ap (λ (vs : List ℕ). word_record vs u) a.stored ∙ stored_other ws s (replaced_record n ws s) u h

    pub applying-more : (changed' : Bool) → changed' ≡ changed || more → Applying n ws₀ ws' changed' (s + 1)
    unfolding tabulate
    applying-more changed' e = record {
      few = g.few;
      long = g.long;
      done = λ u m. go u m (dec_lt u s);
      left = λ u m. stored_there u (λ q. absurd (omega arith)) ∙ g.left u (omega arith);
      flag = rw (add-one s) (e ∙ ap₂ ◌||◌ g.flag (a.changed ∙ same-change) ∙ sym (any-more (changes_in n ws₀) (slots s) s));
      frame =
          let few : n ≤ 1024 = g.few in
          within-then 0 visited_at ws₀ ws ws' g.frame
          (subst (λ (vs : List ℕ). Within 0 visited_at ws vs) (sym a.stored)
          (within_wider (s * 4) (s * 4 + 4) 0 visited_at ws (store_words ws s (replaced_record n ws s)) (omega arith) (omega arith) (store-within ws s (replaced_record n ws s))));
    }
      where
        go : (u : ℕ) → u < s + 1 → Dec (u < s) → word_record ws' u ≡ replaced_record n ws₀ u
        go u m (yes k) = stored_there u (λ q. absurd (omega arith)) ∙ g.done u k
        go u m (no k) = let q : s ≡ u = omega arith in subst (λ (v : ℕ). word_record ws' v ≡ replaced_record n ws₀ v) q stored_here

  module _ (upto : s ≤ n) (end : n ≤ s) where
    new-cells : map cell_of (records_in n ws) ≡ map (visit_mut (map_net_new (replaced_in n ws₀))) (map cell_of (records_in n ws₀))
    unfolding records_in renamed_record
    new-cells =
        let f : Cell → Cell = visit_mut (map_net_new (replaced_in n ws₀)) in
        map-table (word_record ws) cell_of n
        ∙ tabulate-same (λ u. cell_of (word_record ws u)) (λ u. f (cell_of (word_record ws₀ u))) n
        (λ u l. ap cell_of (g.done u (omega arith)) ∙ cell-back (word_record ws₀ u).bit _)
        ∙ sym (ap (map f) (map-table (word_record ws₀) cell_of n) ∙ map-table (λ u. cell_of (word_record ws₀ u)) f n)

    old-bits : map (λ (r : Record). r.bit) (records_in n ws) ≡ map (λ (r : Record). r.bit) (records_in n ws₀)
    unfolding records_in renamed_record
    old-bits =
        let b : Record → ℕ = λ r. r.bit in
        map-table (word_record ws) b n
        ∙ tabulate-same (λ u. b (word_record ws u)) (λ u. b (word_record ws₀ u)) n
        (λ u l. ap b (g.done u (omega arith)) ∙ bit_kept (word_record ws₀ u).bit _) ∙ sym (map-table (word_record ws₀) b n)

    pub applied-all : netlist_in n ws ≡ applied_in n ws₀
    unfolding netlist_of applied_in applied design_in
    applied-all = ap₂ (λ (cs : List Cell) (bs : List ℕ). record { cells = cs; bits = bs }) new-cells old-bits

    pub applied-flag : changed ≡ did_change (design_in n ws₀)
    unfolding changes_in did_change design_in netlist_of records_in
    applied-flag =
        let p : Cell → Bool = λ c. any_of (λ x. not (eq_net (map_net_new (replaced_in n ws₀) x) x)) (visit c) in
        g.flag ∙ ap (λ (k : ℕ). any_of (changes_in n ws₀) (slots k)) (let e : s ≡ n = omega arith in e)
        ∙ sym (ap (any_of p) (map-table (word_record ws₀) cell_of n) ∙ any-table (λ u. cell_of (word_record ws₀ u)) p n)
