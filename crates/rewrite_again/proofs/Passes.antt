-- A cell to which no rule applies but the exchange of its operands, and which the cache does not know: it stays, or its operands are exchanged.
-- Assumes nothing.
use mathlib.Core.Path.{◌≡◌, refl, ap, ◌∙◌}
use mathlib.Core.Bool.{false, not, true≢false}
use Prim.Native.Nat.{ℕ, zero, suc, ◌<◌}
use native.Mathlib.Omega.{arith}
use Rattle.value.specs.Value.{le_net, le_control}
use Rattle.value.proofs.Order.{net-order, control-order}
use Rattle.cell.specs.declared.Cell.{Cell}
use Rattle.cell.specs.declared.Cell.TheVariants.{Input, Output, Buf, Not, And, Or, Xor, Mux, Aig}
use Rattle.netlist.specs.Shape.{has_effects}
use Rattle.numberer.specs.Numberer.{seek}
use Rattle.normalize.specs.declared.Change.TheVariants.{Form}
use Rattle.std.specs.Prelude.{None, Some}
use Rattle.normalize.specs.Outcomes.{◌or_else◌, first_change, given}
use Rattle.normalize.specs.Normalize.{normalize}
use Rattle.aig.specs.Aig.{simple_aig_opt}
use Rattle.rewrite.specs.Rewriter.{Rewriter, Lookup, find_cell, weight}
use Rattle.rewrite.specs.Rewrite.{rules, Result, none, cell, perform, enter, asked, replacing, go_on, process, process_cell}
use Rattle.basics.proofs.Truth.{either}
use Rattle.normal.specs.Paired.{exchange}
use Rattle.normal.proofs.Normal.{is_buf}
use Rattle.rewrite_again.proofs.State.{g}

-- passes over the rules
module _ (look : Lookup) (r : Rewriter) where
  pass-none : (k : ℕ) (c : Cell) → rules look r c ≡ None → seek r.cache c ≡ None → process (suc k) look r c ≡ none r
  unfolding process
  pass-none k c e f =
      ap (λ o. go_on (process k look) c (perform (λ r c. enter c (process k look r c)) r o)) e ∙ ap (asked r) f

  pass-form : (k : ℕ) (c e : Cell) → rules look r c ≡ Some (Form e) → rules look r e ≡ None → seek r.cache e ≡ None → process (suc (suc k)) look r c ≡ cell e r
  unfolding process
  pass-form k c e q h f =
      ap (λ o. go_on (process (suc k) look) c (perform (λ r c. enter c (process (suc k) look r c)) r o)) q ∙ ap (replacing e) (pass-none k e h f)

  -- a cell stays, or its operands are exchanged
  pub data Processed (c : Cell) (x : Result) : Type 0 where
    untouched : x ≡ none r → Processed c x
    turned : x ≡ cell (exchange c) r → has_effects c ≡ false → Processed c x

  process-same : (c : Cell) → rules look r c ≡ None → seek r.cache c ≡ None → Processed c (process_cell look r c)
  unfolding process_cell
  process-same c e f = untouched (pass-none (weight r.stamps c) c e f)

  process-turned : (c : Cell) → has_effects c ≡ false → rules look r c ≡ Some (Form (exchange c)) → rules look r (exchange c) ≡ None
      → seek r.cache (exchange c) ≡ None → 0 < weight r.stamps c → Processed c (process_cell look r c)
  unfolding process_cell
  process-turned c g e h f l = go (weight r.stamps c) l
    where
      go : (w : ℕ) → 0 < w → Processed c (process (suc w) look r c)
      go zero l = absurd (omega arith)
      go (suc k) l = turned (pass-form k c (exchange c) e h f) g

  -- a cell and its exchange, to which no rule applies and which the cache does not know
  module _ (c : Cell) (quiet : simple_aig_opt (find_cell look r) c ≡ None) (quiet' : simple_aig_opt (find_cell look r) (exchange c) ≡ None)
      (new : seek r.cache c ≡ None) (new' : seek r.cache (exchange c) ≡ None) (unbuffered : is_buf c ≡ false) where
    stays : normalize c ≡ None → Processed c (process_cell look r c)
    unfolding rules first_change
    stays e = process-same c (ap (λ o. o or_else simple_aig_opt (find_cell look r) c) e ∙ quiet) new

    turns : has_effects c ≡ false → normalize c ≡ Some (Form (exchange c)) → normalize (exchange c) ≡ None → 0 < weight r.stamps c → Processed c (process_cell look r c)
    unfolding rules first_change
    turns g e f l =
        process-turned c g (ap (λ o. o or_else simple_aig_opt (find_cell look r) c) e)
        (ap (λ o. o or_else simple_aig_opt (find_cell look r) (exchange c)) f ∙ quiet') new' l

  pub processed : (c : Cell) → simple_aig_opt (find_cell look r) c ≡ None → simple_aig_opt (find_cell look r) (exchange c) ≡ None
      → seek r.cache c ≡ None → seek r.cache (exchange c) ≡ None → is_buf c ≡ false → Processed c (process_cell look r c)
  unfolding normalize exchange simple_aig_opt has_effects weight
  processed (Input l) q q' n n' u = stays (Input l) q q' n n' u refl
  processed (Output a l) q q' n n' u = stays (Output a l) q q' n n' u refl
  processed (Not a) q q' n n' u = stays (Not a) q q' n n' u refl
  processed (Mux a b c) q q' n n' u = stays (Mux a b c) q q' n n' u refl
  processed (Buf a) q q' n n' u = absurd (true≢false u)
  processed (And a b) q q' n n' u = let z : ◌≡◌ {A = ℕ} 0 1 = cc in absurd (omega arith)
  processed (Or a b) q q' n n' u = let z : ◌≡◌ {A = ℕ} 0 1 = cc in absurd (omega arith)
  processed (Xor a b) q q' n n' u = either (le_net a b)
      (λ e. stays (Xor a b) q q' n n' u (ap (λ t. given (not t) (Some (Form (Xor b a)))) e))
      (λ e. turns (Xor a b) q q' n n' u refl (ap (λ t. given (not t) (Some (Form (Xor b a)))) e)
      (ap (λ t. given (not t) (Some (Form (Xor a b)))) (net-order.total a b e)) (rw e (omega arith)))
  processed (Aig a b) q q' n n' u = either (le_control a b)
      (λ e. stays (Aig a b) q q' n n' u (ap (λ t. given (not t) (Some (Form (Aig b a)))) e))
      (λ e. turns (Aig a b) q q' n n' u refl (ap (λ t. given (not t) (Some (Form (Aig b a)))) e)
      (ap (λ t. given (not t) (Some (Form (Aig a b)))) (control-order.total a b e)) (rw e (omega arith)))
