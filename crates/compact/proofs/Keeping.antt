-- The marks of the cells that are kept. Assumes nothing.
use mathlib.Core.Path.{◌≡◌, sym, ap, ap₂, ◌∙◌, subst}
use mathlib.Core.Bool.{Bool, true, false, ◌&&◌}
use mathlib.Core.Logic.{inl}
use mathlib.Core.List.{List, [], ◌∷◌, ◌++◌}
use Prim.Native.Nat.{ℕ, ◌+◌, ◌<◌, ◌≤◌}
use native.Mathlib.Omega.{arith}
use native.Mathlib.Numerals.{add-one}
use lib.Dec.{eqb}
use lib.ListN.{length, get_or}
use Rattle.cell.specs.declared.Record.{Record}
use Rattle.cell.specs.declared.Cell.{Cell}
use Rattle.basics.specs.Lists.{tabulate, slots, those}
use Rattle.netlist.specs.Shape.{has_effects}
use Rattle.netlist.specs.inner.Areas.{records_in, Within, visited_at, replaced_at}
use Rattle.netlist.specs.Netlist.{Netlist, netlist_of, cell_in, iter_cells, cell_deps}
use Rattle.netlist.proofs.Frames.{record-kept, records-kept}
use Rattle.order.specs.Walk.{Walk, walk_from, fresh}
use Rattle.order.specs.inner.Code.{walk_of, Ready, Walks, Clears}
use Rattle.cell_order.specs.inner.Code.{cells_by}
use Rattle.order.proofs.Walking.{walks-none, walks-ready, walks-then, cleared-ready, cleared-records, cleared-then, cleared-walked}
use Rattle.basics.proofs.Those.{those-append, those-both, slots_same}
use Rattle.compact.specs.Compact.{keep}
use Rattle.design.specs.inner.Words.{netlist_in}
use Rattle.compact.specs.inner.Words.{is_root, root_at, Marked}
use Rattle.design.proofs.Words.{cells-length, bits-length, bit_at, cell_at}

-- the roots of the definition
roots-are : (n : ℕ) (ws : List ℕ)
    → those (λ s. has_effects (cell_in (netlist_in n ws).cells s)) (iter_cells (netlist_in n ws).bits) ≡ those (is_root ws) (slots n)
unfolding iter_cells is_root
roots-are n ws =
    let d : Netlist = netlist_in n ws in
    those-both (λ s. has_effects (cell_in d.cells s)) (λ s. eqb (get_or d.bits s 0) 0) (slots (length d.bits))
    ∙ ap (λ (k : ℕ). those (λ s. eqb (get_or d.bits s 0) 0 && has_effects (cell_in d.cells s)) (slots k)) (bits-length n ws)
    ∙ slots_same _ (is_root ws) n
    (λ s l. ap₂ (λ (b : ℕ) (c : Cell). eqb b 0 && has_effects c) (bit_at n ws s l) (cell_at n ws s l))

keep-is : (n : ℕ) (ws : List ℕ) → keep (netlist_in n ws) ≡ (walk_from n (cells_by (records_in n ws)) (those (is_root ws) (slots n)) (fresh n)).visited
unfolding keep cells_by
keep-is n ws =
    ap₂ (λ (k : ℕ) (xs : List ℕ). (walk_from k (cell_deps (netlist_in n ws)) xs (fresh k)).visited) (cells-length n ws) (roots-are n ws)

-- one slot
module _ (n count : ℕ) (ws : List ℕ) (s : ℕ) (b : Bool) (b-is : b ≡ is_root ws s) where
  pub from-root : b ≡ true → (ws' : List ℕ) (r : ℕ) → Walks cells_by (s ∷ []) n count ws ws' r → Walks cells_by (root_at ws s) n count ws ws' r
  unfolding root_at
  from-root e ws' r v = rw (← b-is, e) v

  pub from-none : b ≡ false → Walks cells_by (root_at ws s) n count ws ws count
  unfolding root_at
  from-none e = rw (← b-is, e) (walks-none cells_by n count ws)

-- slot after slot, from the words with no mark on
pub record Keeping (n : ℕ) (ws₁ ws : List ℕ) (count s : ℕ) : Type 0 where
  pub begun : Ready n 0 ws₁
  pub ready : Ready n count ws
  pub walked : Walks cells_by (those (is_root ws₁) (slots s)) n 0 ws₁ ws count

pub keeping-begins : (n : ℕ) (ws ws₁ : List ℕ) → Clears n ws ws₁ → 16384 ≤ length ws → n ≤ 1024 → Keeping n ws₁ ws₁ 0 0
unfolding tabulate those
keeping-begins n ws ws₁ v l f = record {
  begun = cleared-ready n ws ws₁ v l f;
  ready = cleared-ready n ws ws₁ v l f;
  walked = walks-none cells_by n 0 ws₁;
}

module _ (n : ℕ) (ws₁ ws : List ℕ) (count s : ℕ) (g : Keeping n ws₁ ws count s) where
  same-root : s < n → root_at ws s ≡ root_at ws₁ s
  unfolding root_at is_root
  same-root l = rw (record-kept visited_at replaced_at ws₁ ws g.walked.frame s (inl (let f : n ≤ 1024 = g.ready.few in omega arith)))

  pub keeping-more : s < n → (ws' : List ℕ) (r : ℕ) → Walks cells_by (root_at ws s) n count ws ws' r → Keeping n ws₁ ws' r (s + 1)
  unfolding tabulate those root_at
  keeping-more l ws' r v = record {
    begun = g.begun;
    ready = walks-ready cells_by n (root_at ws s) count ws ws' r v g.ready;
    walked =
        rw (add-one s)
        (subst (λ (xs : List ℕ). Walks cells_by xs n 0 ws₁ ws' r)
        (ap (λ (xs : List ℕ). those (is_root ws₁) (slots s) ++ xs) (same-root l) ∙ sym (those-append (is_root ws₁) (slots s) (s ∷ [])))
        (walks-then cells_by n (those (is_root ws₁) (slots s)) 0 ws₁ ws count g.walked g.begun (root_at ws s) ws' r v));
  }

  pub keeping-ends : s ≤ n → n ≤ s → (ws₀ : List ℕ) → Clears n ws₀ ws₁ → Marked n ws₀ ws
  unfolding walk_of
  keeping-ends m l ws₀ v =
      let few : n ≤ 1024 = g.ready.few in
      let q : s ≡ n = omega arith in
      let w : Walks cells_by (those (is_root ws₁) (slots n)) n 0 ws₁ ws count = subst (λ (k : ℕ). Walks cells_by (those (is_root ws₁) (slots k)) n 0 ws₁ ws count) q g.walked in
      let frame : Within visited_at replaced_at ws₀ ws = cleared-then n ws₀ ws₁ v ws w.frame in
      let same : records_in n ws ≡ records_in n ws₀ = records-kept visited_at replaced_at ws₀ ws frame n (omega arith) in
      record {
        records = same;
        marks =
            ap (λ (x : Walk). x.visited) (cleared-walked n ws₀ ws₁ v cells_by (those (is_root ws₁) (slots n)) ws count few w)
            ∙ ap (λ (rs : List Record). (walk_from n (cells_by rs) (those (is_root ws₁) (slots n)) (fresh n)).visited) (sym (cleared-records n ws₀ ws₁ v few))
            ∙ sym (keep-is n ws₁) ∙ ap (λ (rs : List Record). keep (netlist_of rs)) (cleared-records n ws₀ ws₁ v few ∙ sym same);
        frame = frame;
      }
