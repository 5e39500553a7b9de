-- Replacements applied: nets of added slots that stand for themselves change nothing. Assumes nothing.
use mathlib.Core.Path.{◌≡◌, refl, sym, ap, ◌∙◌, subst}
use mathlib.Core.Bool.{cond}
use mathlib.Core.List.{List, map}
use Prim.Native.Nat.{ℕ, zero, suc, ◌≤◌, ◌<◌}
use native.Mathlib.Omega.{arith}
use native.Mathlib.Decide.{dec_lt}
use lib.ListN.{length, get_or}
use Rattle.value.specs.declared.Net.{Net}
use Rattle.value.specs.declared.Slot.{Slot}
use Rattle.value.specs.declared.Driver.{Driver}
use Rattle.value.specs.declared.Driver.TheVariants as driven
use Rattle.value.specs.Value.{net_at, eq_net, driver}
use Rattle.value.proofs.Laws.{cell-driver}
use Rattle.netlist.specs.inner.Areas.{Within, figures_at, replaced_at, visited_at}
use Rattle.netlist.specs.Shape.{visit_mut}
use Rattle.netlist.specs.Netlist.{Netlist, netlist_of}
use Rattle.netlist.proofs.Frames.{within-then, within_wider, records-kept}
use Rattle.design.specs.Queue.{driven_to, followed, map_net_new, applied}
use Rattle.design.specs.inner.Words.{netlist_in, replaced_in, design_in, applied_in}
use Rattle.design.proofs.Words.{replaced-at, replaced-length, replaced-past}
use Rattle.order_laws.proofs.Queue.{replacement, followed-final, followed-first}
use Rattle.accepted_laws.proofs.Final.{map_net_new-final}
use Rattle.rewriter_state.specs.declared.Extent.{Extent}
use Rattle.rewriter_state.specs.inner.Words.{rewriter_in, Stands}
use Rattle.rewriter_cycle.specs.inner.Cycle.{Running}
use Rattle.rewriter.specs.inner.Run.{AppliesAll}

-- replacements that lead to the same nets are followed to the same ones
module _ (rs rs' : List Net) (same : (m : Net) → replacement rs' m ≡ replacement rs m) where
  followed_same : (k : ℕ) (m : Net) → followed k rs' m ≡ followed k rs m
  unfolding followed
  followed_same zero m = refl
  followed_same (suc k) m =
      ap (λ (z : Net). cond (eq_net z m) m (followed k rs' z)) (same m)
      ∙ ap (λ (z : Net). cond (eq_net (replacement rs m) m) m z) (followed_same k (replacement rs m))

-- more steps change nothing behind a final net
followed-more : (rs : List Net) (k j : ℕ) (m : Net) → j ≤ k → replacement rs (followed j rs m) ≡ followed j rs m → followed k rs m ≡ followed j rs m
unfolding followed
followed-more rs k zero m l e = followed-final rs k m e
followed-more rs zero (suc j) m l e = absurd (omega arith)
followed-more rs (suc k) (suc j) m l e =
    let first : followed (suc j) rs m ≡ followed j rs (replacement rs m) = followed-first rs j m in
    followed-first rs k m ∙ followed-more rs k j (replacement rs m) (omega arith) (subst (λ n. replacement rs n ≡ n) first e) ∙ sym first

module _ (x : Extent) (ws ws₁ : List ℕ) (g : Running x ws) (p : Stands x ws ws₁) where
  abbrev rs : List Net
  rs = replaced_in x.tickets ws

  abbrev rs' : List Net
  rs' = replaced_in x.slots ws₁

  many : x.tickets ≤ x.slots
  many = g.held.many

  steps-same : (m : Net) → replacement rs' m ≡ replacement rs m
  steps-same m = go (driver m) refl
    where
      slot : (s : Slot) → driver m ≡ driven.Cell s → Dec (s.0 < x.tickets) → Dec (s.0 < x.slots) → get_or rs' s.0 m ≡ get_or rs s.0 m
      slot s e (yes l) h =
          replaced-at x.slots ws₁ s.0 (omega (arith, l, many)) m ∙ ap net_at (p.old s.0 l) ∙ sym (replaced-at x.tickets ws s.0 l m)
      slot s e (no l) (yes h) =
          replaced-at x.slots ws₁ s.0 h m ∙ ap net_at (p.own s.0 (omega arith) h) ∙ sym (cell-driver m s e)
          ∙ sym (replaced-past x.tickets ws s.0 m (omega arith))
      slot s e (no l) (no h) = replaced-past x.slots ws₁ s.0 m (omega arith) ∙ sym (replaced-past x.tickets ws s.0 m (omega arith))

      go : (d : Driver) → driver m ≡ d → driven_to rs' m d ≡ driven_to rs m d
      go (driven.Const t) e = refl
      go (driven.Cell s) e = slot s e (dec_lt s.0 x.tickets) (dec_lt s.0 x.slots)

  mapped-same : (m : Net) → map_net_new rs' m ≡ map_net_new rs m
  unfolding map_net_new rewriter_in
  mapped-same m =
      followed_same rs rs' steps-same (length rs') m
      ∙ followed-more rs (length rs') (length rs) m (omega (arith, many, replaced-length x.tickets ws, replaced-length x.slots ws₁))
      (map_net_new-final g.ticket (rewriter_in x ws) g.state.inv m)

  netlist-same : netlist_in x.slots ws₁ ≡ netlist_in x.slots ws
  netlist-same = let fit : x.slots ≤ 1024 = g.held.fit in ap netlist_of (records-kept replaced_at figures_at ws ws₁ p.frame x.slots (omega arith))

  pub applies-all : (ws₂ : List ℕ) → netlist_in x.slots ws₂ ≡ applied_in x.slots ws₁ → Within 0 visited_at ws₁ ws₂ → AppliesAll x ws ws₂
  unfolding applied_in design_in applied rewriter_in
  applies-all ws₂ e f = record {
    cells = ap (λ (y : Netlist). y.cells) e
        ∙ ap (λ (y : Netlist). map (visit_mut (map_net_new rs')) y.cells) netlist-same
        ∙ ap (λ (h : Net → Net). map (visit_mut h) (netlist_in x.slots ws).cells) (λ i m. mapped-same m i);
    bits = ap (λ (y : Netlist). y.bits) e ∙ ap (λ (y : Netlist). y.bits) netlist-same;
    frame = within-then 0 figures_at ws ws₁ ws₂ (within_wider replaced_at figures_at 0 figures_at ws ws₁ (omega arith) (omega arith) p.frame)
        (within_wider 0 visited_at 0 figures_at ws₁ ws₂ (omega arith) (omega arith) f);
  }
