-- Levels in the words of the work slice: read, written, and folded along an order. Assumes nothing.
use mathlib.Core.Path.{◌≡◌, refl, sym, ap, ap₂, ◌∙◌, subst}
use mathlib.Core.List.{List, [], ◌∷◌, ◌++◌, map}
use Prim.Native.Nat.{ℕ, ◌+◌, ◌<◌, ◌≤◌}
use native.Mathlib.Omega.{arith}
use native.Mathlib.Numerals.{add-one}
use native.Mathlib.Decide.{ℕ_discrete}
use lib.ListN.{length, get_or, set, length-set}
use lib.Seq.{get_or-set_same, get_or-set_other, set_out, ext_get_or}
use Rattle.logic.specs.declared.Trit.{Trit}
use Rattle.logic.specs.declared.Trit.TheVariants.{Undef}
use Rattle.logic.specs.Levels.{byte_of, level_of}
use Rattle.logic.proofs.Bytes.{level-byte}
use Rattle.cell.specs.declared.Cell.{Cell}
use Rattle.cell.specs.Records.{cell_of}
use Rattle.basics.specs.Lists.{tabulate}
use Rattle.basics.proofs.Tables.{tabulate-length, tabulate-at}
use Rattle.netlist.specs.inner.Areas.{word_record, words_in, Within, figures_at, mixes_at, order_at}
use Rattle.netlist.proofs.Frames.{within_none, within-then, within-set, word-as, records-kept}
use Rattle.levels.specs.Evaluate.{net_level, cell_level}
use Rattle.levels.specs.Fold.{cells_in, levels_at, fold_in, slot_level}
use Rattle.netlist.proofs.Cells.{cell_at}

pub levels-length : (n : ℕ) (ws : List ℕ) → length (levels_at n ws) ≡ n
unfolding levels_at
levels-length n ws = tabulate-length (λ s. level_of (get_or ws (figures_at + s) 0)) n

-- a level that is read
module _ (n : ℕ) (ws : List ℕ) (s : ℕ) where
  pub level-read : s < n → get_or (levels_at n ws) s Undef ≡ level_of (get_or ws (figures_at + s) 0)
  unfolding levels_at
  level-read l = tabulate-at (λ s. level_of (get_or ws (figures_at + s) 0)) n Undef s l

  pub level-word : (w : ℕ) (t : Trit) (d : ℕ) → d ≡ 2 → w ≡ get_or (words_in figures_at n ws) s d → t ≡ level_of w → t ≡ get_or (levels_at n ws) s Undef
  unfolding levels_at level_of
  level-word w t d u e f = f ∙ ap level_of (e ∙ ap (get_or (words_in figures_at n ws) s) u) ∙ sym (word-as figures_at n ws s level_of 2)

-- a level that is written
pub level-set : (n : ℕ) (ws : List ℕ) (s : ℕ) (t : Trit) → s < n → figures_at + n ≤ length ws → levels_at n (set ws (figures_at + s) (byte_of t)) ≡ set (levels_at n ws) s t
level-set n ws s t l long =
    ext_get_or Undef (levels_at n (set ws (figures_at + s) (byte_of t))) (set (levels_at n ws) s t)
    (levels-length n (set ws (figures_at + s) (byte_of t)) ∙ sym (length-set (levels_at n ws) s t ∙ levels-length n ws))
    (λ u h. let m : u < n = let e : length (levels_at n (set ws (figures_at + s) (byte_of t))) ≡ n = levels-length n _ in omega arith in
    level-read n (set ws (figures_at + s) (byte_of t)) u m ∙ go u m (ℕ_discrete u s))
  where
    go : (u : ℕ) → u < n → Dec (u ≡ s) → level_of (get_or (set ws (figures_at + s) (byte_of t)) (figures_at + u) 0) ≡ get_or (set (levels_at n ws) s t) u Undef
    go u m (yes e) =
        subst (λ (v : ℕ). level_of (get_or (set ws (figures_at + s) (byte_of t)) (figures_at + v) 0) ≡ get_or (set (levels_at n ws) s t) v Undef) (sym e)
        (ap level_of (get_or-set_same ws (figures_at + s) (byte_of t) 0 (omega arith)) ∙ level-byte t
        ∙ sym (get_or-set_same (levels_at n ws) s t Undef (let q : length (levels_at n ws) ≡ n = levels-length n ws in omega arith)))
    go u m (no e) =
        ap level_of (get_or-set_other ws (figures_at + s) (figures_at + u) (byte_of t) 0 (λ q. e (omega arith))) ∙ sym (level-read n ws u m)
        ∙ sym (get_or-set_other (levels_at n ws) s u t Undef e)

pub put-within : (ws : List ℕ) (s v : ℕ) → s < 1024 → Within figures_at mixes_at ws (set ws (figures_at + s) v)
put-within ws s v l = within-set figures_at mixes_at ws (figures_at + s) v (omega arith) (omega arith)

-- one slot anew
module _ (n : ℕ) (ws : List ℕ) (s : ℕ) where
  pub updated : s < n → n ≤ 512 → 16384 ≤ length ws → (own : Trit) → own ≡ get_or (levels_at n ws) s Undef → (c : Cell) → c ≡ cell_of (word_record ws s)
      → (t : Trit) → t ≡ cell_level (net_level (levels_at n ws)) own c → (ws' : List ℕ) → ws' ≡ set ws (figures_at + s) (byte_of t)
      → levels_at n ws' ≡ set (levels_at n ws) s (slot_level (cells_in n ws) (levels_at n ws) s)
  unfolding slot_level
  updated l few long own e c f t g ws' h =
      ap (levels_at n) h ∙ level-set n ws s t l (omega arith)
      ∙ ap (set (levels_at n ws) s) (g ∙ ap₂ (cell_level (net_level (levels_at n ws))) e (f ∙ sym (cell_at n ws s l)))

  pub updated-within : s < n → n ≤ 512 → (v : ℕ) (ws' : List ℕ) → ws' ≡ set ws (figures_at + s) v → Within figures_at mixes_at ws ws'
  updated-within l few v ws' h = subst (Within figures_at mixes_at ws) (sym h) (put-within ws s v (omega arith))

  pub not-updated : n ≤ s → (t : Trit) → levels_at n ws ≡ set (levels_at n ws) s t
  not-updated h t = sym (set_out (levels_at n ws) s t (let e : length (levels_at n ws) ≡ n = levels-length n ws in omega arith))

-- one slot more in a fold
pub fold-snoc : {A : Type 0} (f : List A → ℕ → A) (ss : List ℕ) (s : ℕ) (vs : List A) → fold_in f (ss ++ (s ∷ [])) vs ≡ set (fold_in f ss vs) s (f (fold_in f ss vs) s)
unfolding fold_in
fold-snoc f [] s vs = refl
fold-snoc f (u ∷ ss) s vs = fold-snoc f ss s (set vs u (f vs u))

-- the loop that folds
pub record Folding (n count : ℕ) (ws₀ ws : List ℕ) (i : ℕ) : Type 0 where
  pub folded : levels_at n ws ≡ fold_in (slot_level (cells_in n ws₀)) (words_in order_at i ws₀) (levels_at n ws₀)
  pub frame : Within figures_at mixes_at ws₀ ws

pub folding-none : (n count : ℕ) (ws : List ℕ) → Folding n count ws ws 0
unfolding words_in tabulate fold_in
folding-none n count ws = record { folded = refl; frame = within_none figures_at mixes_at ws }

module _ (n count : ℕ) (ws₀ ws : List ℕ) (i : ℕ) (g : Folding n count ws₀ ws i) where
  pub folding-more : n ≤ 512 → count ≤ 1024 → i < count → (s : ℕ) → s ≡ get_or ws (order_at + i) 0 → (ws' : List ℕ)
      → levels_at n ws' ≡ set (levels_at n ws) s (slot_level (cells_in n ws) (levels_at n ws) s) → Within figures_at mixes_at ws ws' → Folding n count ws₀ ws' (i + 1)
  unfolding words_in tabulate
  folding-more few room l s e ws' f w = record {
    folded = f ∙ ap (λ (rs : List _). set (levels_at n ws) s (slot_level (map cell_of rs) (levels_at n ws) s)) (records-kept figures_at mixes_at ws₀ ws g.frame n (omega arith))
        ∙ ap₂ (λ (ls : List Trit) (u : ℕ). set ls u (slot_level (cells_in n ws₀) ls u)) g.folded (e ∙ g.frame.before (order_at + i) (omega arith))
        ∙ sym (fold-snoc (slot_level (cells_in n ws₀)) (words_in order_at i ws₀) (get_or ws₀ (order_at + i) 0) (levels_at n ws₀))
        ∙ ap (λ (k : ℕ). fold_in (slot_level (cells_in n ws₀)) (words_in order_at k ws₀) (levels_at n ws₀)) (sym (add-one i));
    frame = within-then figures_at mixes_at ws₀ ws ws' g.frame w;
  }

  pub folding-all : i ≤ count → count ≤ i → levels_at n ws ≡ fold_in (slot_level (cells_in n ws₀)) (words_in order_at count ws₀) (levels_at n ws₀)
  folding-all m h =
      g.folded ∙ ap (λ (k : ℕ). fold_in (slot_level (cells_in n ws₀)) (words_in order_at k ws₀) (levels_at n ws₀)) (omega arith)
