-- The search for a key among the numberer's entries. Assumes nothing.
use mathlib.Core.Path.{◌≡◌, refl, sym, ap, ◌∙◌, subst}
use mathlib.Core.Bool.{Bool, true, false, cond}
use mathlib.Core.List.{List, [], ◌∷◌, ◌++◌}
use Prim.Native.Nat.{ℕ, zero, suc, ◌+◌, ◌≤◌, ◌<◌}
use native.Mathlib.Omega.{arith}
use native.Mathlib.Numerals.{add-one}
use native.Mathlib.Decide.{dec_lt}
use Rattle.value.specs.declared.Net.{Net}
use Rattle.value.specs.Value.{net_of, slot_at}
use Rattle.cell.specs.declared.Record.{Record}
use Rattle.cell.specs.declared.Cell.{Cell}
use Rattle.cell.specs.Records.{cell_of}
use Rattle.basics.specs.Lists.{tabulate}
use Rattle.netlist.specs.inner.Areas.{word_record, numberer_at}
use Rattle.std.proofs.Common.{Some, None}
use Rattle.numberer.specs.Numberer.{Entry, seek}
use Rattle.design.specs.Queue.{net_in, eq_record, eq_cell}
use Rattle.numberer.specs.inner.Words.{entry_of, numberer_in, IsCell, Entered}
use Rattle.numberer.proofs.Records.{eq-cells}

-- a key among entries, and among more of them
seek-front : (xs ys : List Entry) (c : Cell) (x : Net) → seek xs c ≡ Some x → seek (xs ++ ys) c ≡ Some x
unfolding seek
seek-front [] ys c x e = cc
seek-front (d ∷ xs) ys c x e = go (eq_cell d.0 c) e (seek-front xs ys c x)
  where
    go : (b : Bool) → cond b (Some d.1) (seek xs c) ≡ Some x → (seek xs c ≡ Some x → seek (xs ++ ys) c ≡ Some x) → cond b (Some d.1) (seek (xs ++ ys) c) ≡ Some x
    go true p h = p
    go false p h = h p

seek-past : (xs ys : List Entry) (c : Cell) → seek xs c ≡ None → seek (xs ++ ys) c ≡ seek ys c
unfolding seek
seek-past [] ys c e = refl
seek-past (d ∷ xs) ys c e = go (eq_cell d.0 c) e (seek-past xs ys c)
  where
    go : (b : Bool) → cond b (Some d.1) (seek xs c) ≡ None → (seek xs c ≡ None → seek (xs ++ ys) c ≡ seek ys c)
        → cond b (Some d.1) (seek (xs ++ ys) c) ≡ seek ys c
    go true p h = cc
    go false p h = h p

module _ (ws : List ℕ) (c : Cell) where
  abbrev entry : ℕ → Entry
  entry i = entry_of (word_record ws (numberer_at + i))

  pub one_of : (i : ℕ) → seek (numberer_in i ws) c ≡ None → seek (numberer_in (suc i) ws) c ≡ cond (eq_cell (entry i).0 c) (Some (entry i).1) None
  unfolding numberer_in tabulate seek
  one_of i e = seek-past (numberer_in i ws) (entry i ∷ []) c e

  at_first : (k i : ℕ) → i < k → seek (numberer_in i ws) c ≡ None → eq_cell (entry i).0 c ≡ true → seek (numberer_in k ws) c ≡ Some (entry i).1
  unfolding numberer_in tabulate
  at_first zero i l e t = absurd (omega arith)
  at_first (suc k) i l e t = go (at_first k i) (dec_lt i k)
    where
      go : (i < k → seek (numberer_in i ws) c ≡ None → eq_cell (entry i).0 c ≡ true → seek (numberer_in k ws) c ≡ Some (entry i).1)
          → Dec (i < k) → seek (numberer_in (suc k) ws) c ≡ Some (entry i).1
      go h (yes m) = seek-front (numberer_in k ws) (entry k ∷ []) c (entry i).1 (h m e t)
      go h (no m) =
          let q : i ≡ k = omega arith in
          subst (λ (j : ℕ). seek (numberer_in (suc j) ws) c ≡ Some (entry i).1) q (one_of i e ∙ rw t)

-- the loop of `find`
pub record Seeking (k : ℕ) (ws : List ℕ) (key : Record) (i : ℕ) : Type 0 where
  pub upto : i ≤ k
  pub missed : seek (numberer_in i ws) (cell_of key) ≡ None

pub seeking-none : (k : ℕ) (ws : List ℕ) (key : Record) → Seeking k ws key 0
unfolding numberer_in tabulate seek
seeking-none k ws key = record { upto = omega arith; missed = refl }

module _ (k : ℕ) (ws : List ℕ) (key : Record) (i : ℕ) (g : Seeking k ws key i) where
  pub seeking-end : k ≤ i → None ≡ seek (numberer_in k ws) (cell_of key)
  seeking-end h = let q : i ≡ k = let u : i ≤ k = g.upto in omega arith in sym (subst (λ (j : ℕ). seek (numberer_in j ws) (cell_of key) ≡ None) q g.missed)

  module _ (l : i < k) (en : Entered k ws) (z : IsCell key) (b : Bool) (b-is : b ≡ eq_record (word_record ws (numberer_at + i)) key) where
    tested : b ≡ eq_cell (cell_of (word_record ws (numberer_at + i))) (cell_of key)
    tested = b-is ∙ eq-cells (word_record ws (numberer_at + i)) key (en.each i l) z

    pub seeking-found : b ≡ true → (r : Record) → r ≡ word_record ws (numberer_at + i) → (v : ℕ) → v ≡ r.bit → (x : Net) → x ≡ net_of (slot_at v)
        → Some x ≡ seek (numberer_in k ws) (cell_of key)
    seeking-found t r r-is v v-is x e =
        ap Some (e ∙ ap net_in (v-is ∙ ap (λ (y : Record). y.bit) r-is)) ∙ sym (at_first ws (cell_of key) k i l g.missed (sym tested ∙ t))

    pub seeking-more : b ≡ false → Seeking k ws key (i + 1)
    seeking-more t = record {
      upto = omega arith;
      missed = rw add-one (one_of ws (cell_of key) i g.missed ∙ rw (sym tested ∙ t));
    }
