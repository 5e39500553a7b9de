-- A cell that the rewriter's cache does not have, the cell cache does not have either: so it is in every state of a run. Assumes nothing.
use mathlib.Core.Path.{◌≡◌, refl, sym, ap, ◌∙◌, subst}
use mathlib.Core.Bool.{Bool, true, false, cond}
use mathlib.Core.List.{List, [], ◌∷◌, ◌++◌}
use Prim.Native.Nat.{ℕ, ◌≤◌, ◌<◌}
use native.Mathlib.Omega.{arith}
use lib.ListN.{length, length-append, length-set}
use Rattle.value.specs.declared.Net.{Net}
use Rattle.cell.specs.declared.Cell.{Cell}
use Rattle.netlist.specs.Shape.{visit, visit_mut, has_effects}
use Rattle.netlist.specs.Netlist.{cell_in}
use Rattle.std.specs.Prelude.{None, Some, Option}
use Rattle.numberer.specs.Numberer.{Entry, seek}
use Rattle.design.specs.Queue.{net_in, unchanged, map_net_new}
use Rattle.rewrite.specs.Rewriter.{Rewriter, begun, Lookup, find_cell, entered, finished}
use Rattle.rewrite.specs.Rewrite.{Result, none, cell, value, spent, Added, at, unadded, entry, asked, process_cell, add_cell, Run, ran, stuck, bit_done, cell_done, run_item}
use Rattle.basics.proofs.Truth.{either}
use Rattle.order_laws.proofs.Queue.{else_found, seek-append}
use Rattle.rewrite_laws.proofs.Kept.{Keeps, rules-read, inverse-reads, Left, KeptResult, KeptAdded, KeptPass, process_cell-kept, add_cell-kept}
use Rattle.rewrite_laws.proofs.Anything.{Any, Gate, any-nets, any-source}
use Rattle.rewrite_laws.proofs.Items.{item_by, rules-effect}
use Rattle.cell_cache.specs.CellCache.{cell_cache}
use Rattle.cell_cache.specs.Exchanged.{process_by, process_cell_by}
use Rattle.cell_cache.proofs.Plain.{process_cell-plain}
use Rattle.cell_cache.proofs.Life.{cache-begins, cache-stays, cache-inserts}

neither : (x y : Option Net) → else_found x y ≡ None → (x ≡ None) × (y ≡ None)
neither (Some m) y e = let z : ◌≡◌ {A = ℕ} 0 1 = cc in absurd (omega arith)
neither None y e = (refl, e)

-- one more entry, in one cache and in both
one_less : (es : List Entry) (e : Entry) (c : Cell) → seek (es ++ (e ∷ [])) c ≡ None → (seek es c ≡ None) × (seek (e ∷ []) c ≡ None)
one_less es e c h = neither (seek es c) (seek (e ∷ []) c) (sym (seek-append es (e ∷ []) c) ∙ h)

both-more : (es fs : List Entry) (e : Entry) (c : Cell) → (seek es c ≡ None → seek fs c ≡ None) → seek (es ++ (e ∷ [])) c ≡ None → seek (fs ++ (e ∷ [])) c ≡ None
both-more es fs e c f h =
    let k : (seek es c ≡ None) × (seek (e ∷ []) c ≡ None) = one_less es e c h in
    seek-append fs (e ∷ []) c ∙ ap (λ (x : Option Net). else_found x (seek (e ∷ []) c)) (f k.0) ∙ k.1

-- n is the number of slots before rewriting
pub record Covered (n : ℕ) (r : Rewriter) : Type 0 where
  pub slots : n ≤ length r.design.cells
  pub covers : (c : Cell) → seek r.cache c ≡ None → seek (cell_cache n r.design.cells) c ≡ None

pub gate : (c : Cell) → has_effects c ≡ false → Gate c
gate c e = (any-nets (visit c), e)

pub begun-covered : (cs : List Cell) → Covered (length cs) (begun cs)
unfolding unchanged seek
begun-covered cs = record { slots = omega arith; covers = λ c h. ap (λ (es : List Entry). seek es c) (cache-begins cs) }

-- to a cell with effects no rule applies, so nothing is added for it
pub port-asked : (adds : Rewriter → Cell → Added) (look : Lookup) (r : Rewriter) (c : Cell) → has_effects c ≡ true
    → process_cell_by adds look r c ≡ asked r (seek r.cache c)
unfolding process_cell_by process_by
port-asked adds look r c e = rw (rules-effect look r c e) refl

module _ (look : Lookup) (n : ℕ) where
  -- a gate that is entered goes into both
  entered-covered : (r : Rewriter) (c : Cell) → Covered n r → has_effects c ≡ false → Covered n (entered r c (net_in (length r.design.cells)))
  unfolding entered
  entered-covered r c p g =
      let cs : List Cell = r.design.cells in
      let new : Entry = (c, net_in (length cs)) in
      let old : List Entry = cell_cache n cs in
      let put : cell_cache n (cs ++ (c ∷ [])) ≡ old ++ (new ∷ []) = cache-inserts n cs c p.slots ∙ ap (λ (b : Bool). cond b old (old ++ (new ∷ []))) g in
      record {
        slots = rw (length-append cs (c ∷ [])) (omega (arith, p.slots));
        covers = λ x h. ap (λ (es : List Entry). seek es x) put ∙ both-more r.cache old new x (p.covers x) h;
      }

  -- what processing keeps: the cells that come up are gates
  pub keeping : Keeps look (Covered n) (λ r. Gate) (λ r. Any)
  keeping = record {
    plan = λ r c p q. rules-read look r Any (tt, tt, tt) (λ m h. any-source (find_cell look r m)) c q;
    inverse = λ r m p v. inverse-reads Any m v;
    cached = λ r c m p q e. tt;
    step = λ r c p q e s. (entered-covered r c p q.1, tt);
  }

  -- what is known of a cell that is left over and of what comes of processing a gate, of one pass over the rules and of adding
  abbrev pub LeftOver : Cell → Rewriter → Type 0
  LeftOver c r = Left look (Covered n) (λ r. Gate) (λ r. Any) keeping c r

  abbrev pub Processed : Cell → Result → Type 0
  Processed c x = KeptResult look (Covered n) (λ r. Gate) (λ r. Any) keeping c x

  abbrev pub Passed : Cell → Result → Type 0
  Passed c x = KeptPass look (Covered n) (λ r. Gate) (λ r. Any) keeping c x

  abbrev pub Entered : Added → Type 0
  Entered y = KeptAdded look (Covered n) (λ r. Gate) (λ r. Any) keeping y

  -- the rewriter in a result
  abbrev CoveredResult : Result → Type 0
  CoveredResult (none r) = Covered n r
  CoveredResult (cell d r) = Covered n r
  CoveredResult (value m r) = Covered n r
  CoveredResult (spent r) = Covered n r

  kept-covered : (c : Cell) (x : Result) → Processed c x → CoveredResult x
  kept-covered c (none r) h = h.kept
  kept-covered c (cell d r) h = h.kept
  kept-covered c (value m r) h = h.0
  kept-covered c (spent r) h = h

  asked-covered : (r : Rewriter) (f : Option Net) → Covered n r → CoveredResult (asked r f)
  asked-covered r (Some m) p = p
  asked-covered r None p = p

  process_cell-covered : (r : Rewriter) (c : Cell) → Covered n r → CoveredResult (process_cell look r c)
  process_cell-covered r c p = either (has_effects c)
      (λ e. subst CoveredResult (sym (port-asked entry look r c e) ∙ process_cell-plain look r c) (asked-covered r (seek r.cache c) p))
      (λ e. kept-covered c (process_cell look r c) (process_cell-kept look (Covered n) _ _ keeping r c p (gate c e)))

  -- the steps of the run
  abbrev pub CoveredRun : Run → Type 0
  CoveredRun (ran r) = Covered n r
  CoveredRun (stuck r) = Unit {0}

  bit-covered : (s : ℕ) (y : Added) → Entered y → CoveredRun (bit_done s y)
  unfolding finished
  bit-covered s (at m r) h = record { slots = h.0.slots; covers = h.0.covers }
  bit-covered s (unadded r) h = tt

  cell-covered : (s : ℕ) → s < n → (c : Cell) (x : Result) → CoveredResult x → CoveredRun (cell_done s c x)
  unfolding finished
  cell-covered s l c (none r) p = go (has_effects c)
    where
      go : (b : Bool) → Covered n (cond b r (finished r s r.design (r.cache ++ ((c, net_in s) ∷ []))))
      go true = p
      go false = record { slots = p.slots; covers = λ x h. p.covers x (one_less r.cache (c, net_in s) x h).0 }
  cell-covered s l c (cell d r) p = record {
    slots = rw (length-set r.design.cells s d) p.slots;
    covers = λ x h. ap (λ (es : List Entry). seek es x) (cache-stays n r.design.cells s d l) ∙ p.covers x (one_less r.cache (d, net_in s) x h).0;
  }
  cell-covered s l c (value m r) p = record { slots = p.slots; covers = p.covers }
  cell-covered s l c (spent r) p = tt

  pub run_item-covered : (s : ℕ) → s < n → (r : Rewriter) → Covered n r → CoveredRun (run_item look s r)
  run_item-covered s l r p =
      let c : Cell = visit_mut (map_net_new r.design.replaced) (cell_in r.design.cells s) in
      let done : CoveredRun (cell_done s c (process_cell look r c)) = cell-covered s l c (process_cell look r c) (process_cell-covered r c p) in
      item_by look s r CoveredRun (λ b e. bit-covered s (add_cell look r c) (add_cell-kept look (Covered n) _ _ keeping r c p (gate c e))) (λ e. done) (λ b e. done)
