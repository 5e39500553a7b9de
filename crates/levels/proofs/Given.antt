-- The stimulus, put to the inputs slot by slot. Assumes nothing.
use mathlib.Core.Path.{◌≡◌, refl, sym, ap, ap₂, ◌∙◌, subst}
use mathlib.Core.Bool.{Bool, true, false, cond}
use mathlib.Core.Logic.{inl}
use mathlib.Core.List.{List, [], ◌∷◌, map}
use Prim.Native.Nat.{ℕ, zero, suc, ◌+◌, ◌<◌, ◌≤◌}
use native.Mathlib.Omega.{arith}
use native.Mathlib.Numerals.{add-one}
use native.Mathlib.Decide.{dec_lt}
use lib.Dec.{eqb}
use mir.Val.{bool_byte}
use lib.ListN.{length, get_or, set, drop}
use lib.Seq.{get_or-set_same, get_or-set_other, get_or-drop, ext_get_or}
use Rattle.basics.proofs.Truth.{byte-is, at_most_one}
use Rattle.logic.specs.declared.Trit.{Trit}
use Rattle.logic.specs.declared.Trit.TheVariants.{Undef}
use Rattle.logic.specs.Levels.{byte_of, level_of}
use Rattle.logic.proofs.Bytes.{level-byte}
use Rattle.cell.specs.declared.Record.{Record}
use Rattle.cell.specs.declared.Cell.{Cell}
use Rattle.cell.specs.Records.{cell_of}
use Rattle.kinds.proofs.Tests.{is-source-is}
use Rattle.netlist.specs.Shape.{is_input, is_source}
use Rattle.netlist.specs.Netlist.{cell_in}
use Rattle.netlist.specs.inner.Areas.{word_record, words_in, Within, figures_at, mixes_at, order_at, replaced_at, visited_at}
use Rattle.netlist.proofs.Frames.{within_none, within-then, within_wider, record-kept, records-kept, words-kept}
use Rattle.order.specs.Orders.{topo_sort}
use Rattle.order.specs.inner.Code.{Sorts}
use Rattle.levels.specs.Evaluate.{given_levels}
use Rattle.levels.specs.Fold.{cells_in, levels_at, input_at, placed_level, fold_in, slot_level, bit_levels}
use Rattle.netlist.proofs.Cells.{cells-length, cell_at, input-kind, source-kind}
use Rattle.levels.proofs.Levels.{levels-length, level-read, put-within}

-- whether a slot holds an input, by its cell
pub source-at : (ws : List ℕ) (s : ℕ) → is_source (cell_of (word_record ws s)) ≡ input_at ws s
source-at ws s = source-kind (word_record ws s) ∙ is-source-is (word_record ws s).kind

-- one slot, by what it holds
module _ (ws : List ℕ) (s : ℕ) (bs : List ℕ) (k : ℕ) (ws' : List ℕ) where
  pub taken-level : input_at ws s ≡ true → (t : Trit) → t ≡ level_of (get_or bs k 2) → ws' ≡ set ws (figures_at + s) (byte_of t)
      → ws' ≡ set ws (figures_at + s) (byte_of (placed_level ws s bs k))
  taken-level e t f g = rw e (g ∙ ap (λ (x : Trit). set ws (figures_at + s) (byte_of x)) f)

  pub passed-level : input_at ws s ≡ false → ws' ≡ set ws (figures_at + s) (byte_of Undef) → ws' ≡ set ws (figures_at + s) (byte_of (placed_level ws s bs k))
  passed-level e g = rw e g

-- how many inputs stand before a slot
unfoldable pub inputs_before : List Cell → ℕ → ℕ
inputs_before cs zero = 0
inputs_before [] (suc s) = 0
inputs_before (c ∷ cs) (suc s) = cond (is_input c) 1 0 + inputs_before cs s

before_more : (cs : List Cell) (s : ℕ) → s < length cs → inputs_before cs (suc s) ≡ inputs_before cs s + cond (is_input (cell_in cs s)) 1 0
unfolding inputs_before
before_more [] s l = absurd (omega arith)
before_more (c ∷ cs) zero l = omega arith
before_more (c ∷ cs) (suc s) l = ap (λ (k : ℕ). cond (is_input c) 1 0 + k) (before_more cs s (omega arith)) ∙ omega arith

byte-after : (b : Bool) (bs : List ℕ) (k : ℕ) → get_or (cond b (drop 1 bs) bs) k 2 ≡ get_or bs (cond b 1 0 + k) 2
byte-after true bs k = get_or-drop 1 bs k 2
byte-after false bs k = ap (λ (i : ℕ). get_or bs i 2) (omega arith)

given-at : (cs : List Cell) (bs : List ℕ) (s : ℕ) → s < length cs
    → get_or (given_levels cs bs) s Undef ≡ cond (is_input (cell_in cs s)) (level_of (get_or bs (inputs_before cs s) 2)) Undef
unfolding given_levels inputs_before
given-at [] bs s l = absurd (omega arith)
given-at (c ∷ cs) bs zero l = refl
given-at (c ∷ cs) bs (suc s) l =
    given-at cs (cond (is_input c) (drop 1 bs) bs) s (omega arith)
    ∙ ap (λ (b : ℕ). cond (is_input (cell_in cs s)) (level_of b) Undef) (byte-after (is_input c) bs (inputs_before cs s))

pub given-length : (cs : List Cell) (bs : List ℕ) → length (given_levels cs bs) ≡ length cs
unfolding given_levels
given-length [] bs = refl
given-length (c ∷ cs) bs = ap suc (given-length cs (cond (is_input c) (drop 1 bs) bs))

-- the loop that places the stimulus
pub record Placing (n : ℕ) (bs ws₀ ws : List ℕ) (s k : ℕ) : Type 0 where
  pub long : 16384 ≤ length ws₀
  pub small : k ≤ s
  pub counted : k ≡ inputs_before (cells_in n ws₀) s
  pub placed : (u : ℕ) → u < s → level_of (get_or ws (figures_at + u) 0) ≡ get_or (given_levels (cells_in n ws₀) bs) u Undef
  pub frame : Within figures_at mixes_at ws₀ ws

pub placing-none : (n : ℕ) (bs ws : List ℕ) → 16384 ≤ length ws → Placing n bs ws ws 0 0
unfolding inputs_before
placing-none n bs ws h =
    record { long = h; small = omega arith; counted = refl; placed = λ u l. absurd (omega arith); frame = within_none figures_at mixes_at ws }

module _ (n : ℕ) (bs ws₀ ws : List ℕ) (s k : ℕ) (g : Placing n bs ws₀ ws s k) where
  module _ (few : n ≤ 512) (l : s < n) where
    is-input : input_at ws s ≡ is_input (cell_in (cells_in n ws₀) s)
    is-input =
        ap (λ (x : Record). eqb x.kind 1) (record-kept figures_at mixes_at ws₀ ws g.frame s (inl (omega arith)))
        ∙ sym (ap is_input (cell_at n ws₀ s l) ∙ input-kind (word_record ws₀ s))

    is-given : placed_level ws s bs k ≡ get_or (given_levels (cells_in n ws₀) bs) s Undef
    is-given =
        ap₂ (λ (b : Bool) (i : ℕ). cond b (level_of (get_or bs i 2)) Undef) is-input g.counted
        ∙ sym (given-at (cells_in n ws₀) bs s (let q : length (cells_in n ws₀) ≡ n = cells-length n ws₀ in omega arith))

    pub placing-more : (ws' : List ℕ) → ws' ≡ set ws (figures_at + s) (byte_of (placed_level ws s bs k)) → (b : Bool) → b ≡ input_at ws s → (j : ℕ) → j ≡ bool_byte b
        → Placing n bs ws₀ ws' (s + 1) (k + j)
    placing-more ws' h b y j q =
        let one : j ≤ 1 = omega (arith, q, byte-is b, at_most_one b) in
        let t : Trit = placed_level ws s bs k in
        let z : k ≤ s = g.small in
        let long : 16384 ≤ length ws = let m : 16384 ≤ length ws₀ = g.long in omega (arith, g.frame.same) in
        subst (λ (vs : List ℕ). Placing n bs ws₀ vs (s + 1) (k + j)) (sym h) (record {
          long = g.long;
          small = omega arith;
          counted = ap₂ ◌+◌ g.counted (q ∙ byte-is b ∙ ap (λ (x : Bool). cond x 1 0) (y ∙ is-input))
              ∙ sym (before_more (cells_in n ws₀) s (let z : length (cells_in n ws₀) ≡ n = cells-length n ws₀ in omega arith))
              ∙ ap (inputs_before (cells_in n ws₀)) (sym (add-one s));
          placed = λ u m. go u m long (dec_lt u s);
          frame = within-then figures_at mixes_at ws₀ ws (set ws (figures_at + s) (byte_of t)) g.frame (put-within ws s (byte_of t) (omega arith));
        })
      where
        go : (u : ℕ) → u < s + 1 → 16384 ≤ length ws → Dec (u < s)
            → level_of (get_or (set ws (figures_at + s) (byte_of (placed_level ws s bs k))) (figures_at + u) 0) ≡ get_or (given_levels (cells_in n ws₀) bs) u Undef
        go u m long (yes p) =
            ap level_of (get_or-set_other ws (figures_at + s) (figures_at + u) (byte_of (placed_level ws s bs k)) 0 (λ q. absurd (omega arith))) ∙ g.placed u p
        go u m long (no p) =
            let q : s ≡ u = omega arith in
            subst (λ (v : ℕ). level_of (get_or (set ws (figures_at + s) (byte_of (placed_level ws s bs k))) (figures_at + v) 0) ≡ get_or (given_levels (cells_in n ws₀) bs) v Undef) q
            (ap level_of (get_or-set_same ws (figures_at + s) (byte_of (placed_level ws s bs k)) 0 (omega arith)) ∙ level-byte (placed_level ws s bs k) ∙ is-given)

  pub placing-all : n ≤ s → levels_at n ws ≡ given_levels (cells_in n ws₀) bs
  placing-all h =
      ext_get_or Undef (levels_at n ws) (given_levels (cells_in n ws₀) bs)
      (levels-length n ws ∙ sym (given-length (cells_in n ws₀) bs ∙ cells-length n ws₀))
      (λ u m. let l : u < n = let e : length (levels_at n ws) ≡ n = levels-length n ws in omega arith in level-read n ws u l ∙ g.placed u (omega arith))

-- the bit order, then the stimulus, then the fold
module _ (n : ℕ) (ws ws₁ ws₂ ws₃ bs : List ℕ) (count : ℕ) (sorted : Sorts n ws ws₁ count) (placed : Within figures_at mixes_at ws₁ ws₂) where
  cells-placed : n ≤ 512 → cells_in n ws₂ ≡ cells_in n ws
  cells-placed few =
      ap (map cell_of) (records-kept figures_at mixes_at ws₁ ws₂ placed n (omega arith) ∙ records-kept visited_at replaced_at ws ws₁ sorted.frame n (omega arith))

  pub evaluated : n ≤ 512 → levels_at n ws₂ ≡ given_levels (cells_in n ws₁) bs
      → levels_at n ws₃ ≡ fold_in (slot_level (cells_in n ws₂)) (words_in order_at count ws₂) (levels_at n ws₂)
      → levels_at n ws₃ ≡ bit_levels (cells_in n ws) (given_levels (cells_in n ws) bs)
  unfolding bit_levels
  evaluated few e f =
      f ∙ ap₂ (λ (cs : List Cell) (ss : List ℕ). fold_in (slot_level cs) ss (levels_at n ws₂)) (cells-placed few)
      (words-kept figures_at mixes_at ws₁ ws₂ placed order_at count (inl (let q : count ≡ n = sorted.all in omega arith)) ∙ sorted.order)
      ∙ ap (fold_in (slot_level (cells_in n ws)) (topo_sort (cells_in n ws)))
      (e ∙ ap (λ (rs : List Record). given_levels (map cell_of rs) bs) (records-kept visited_at replaced_at ws ws₁ sorted.frame n (omega arith)))

  pub evaluated-within : Within figures_at mixes_at ws₂ ws₃ → Within visited_at mixes_at ws ws₃
  evaluated-within w =
      within-then visited_at mixes_at ws ws₁ ws₃ (within_wider visited_at replaced_at visited_at mixes_at ws ws₁ (omega arith) (omega arith) sorted.frame)
      (within_wider figures_at mixes_at visited_at mixes_at ws₁ ws₃ (omega arith) (omega arith) (within-then figures_at mixes_at ws₁ ws₂ ws₃ placed w))
