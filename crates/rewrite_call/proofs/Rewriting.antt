-- A ticket loaded and rewritten: 9, and 12 behind it. Assumes nothing.
use mathlib.Core.Path.{◌≡◌, sym, ap, ◌∙◌, subst}
use mathlib.Core.List.{List, [], ◌∷◌}
use Prim.Native.Nat.{ℕ, ◌<◌, ◌≤◌}
use native.Mathlib.Omega.{arith}
use lib.Dec.{ltb}
use lib.ListN.{drop}
use borrow.Author.Tests.{lt-ltb, le-ltb}
use Rattle.refusals.specs.declared.Refusal.{Refusal}
use Rattle.cell.specs.declared.Record.{Record}
use Rattle.cell.specs.Records.{records_of}
use Rattle.netlist.specs.inner.Areas.{records_in, Within, keys_from}
use Rattle.netlist.specs.Netlist.{netlist_of}
use Rattle.netlist.proofs.Frames.{within-drop}
use Rattle.design.specs.Queue.{find_new_cell}
use Rattle.compact.specs.Compact.{compact}
use Rattle.design.specs.inner.Words.{netlist_in}
use Rattle.rewrite.specs.Rewrite.{run, slots_of, rewrite}
use Rattle.std.proofs.Common.{Result}
use Rattle.std.specs.Result.{IsErrAnd}
use Rattle.rewriter.specs.inner.Run.{RewritesTo}
use Rattle.refusals.specs.declared.Refusal.TheVariants.{SlotsExhausted}
use Rattle.refusals.specs.Refusals.{Stage}
use Rattle.refusals.proofs.Stages.{first-refuses, first_passes, no-stage}
use Rattle.calls.specs.Calls.{encoded, rewrite_run, rewrite_bytes, rewrite_stages}
use Rattle.delivery.specs.inner.Delivery.{Delivers}
use Rattle.delivery.proofs.Deciding.{refused-writes, passed-writes}
use Rattle.rewrite_call.specs.inner.Rewrite.{RewritesTicket}

module _ (n : ℕ) (ws ws₁ : List ℕ) (t reply : List ℕ) (loaded : records_in n ws ≡ records_of t) where
  abbrev bytes : List ℕ
  bytes = rewrite_bytes find_new_cell t

  abbrev slots : ℕ
  slots = slots_of (rewrite_run find_new_cell t)

  abbrev slot_stage : Stage
  slot_stage = (ltb 1024 slots, SlotsExhausted)

  same-run : slots_of (run find_new_cell (netlist_in n ws).cells) ≡ slots
  unfolding rewrite_run
  same-run = ap (λ (rs : List Record). slots_of (run find_new_cell (netlist_of rs).cells)) loaded

  behind : Within 0 keys_from ws ws₁ → drop 16384 ws₁ ≡ drop 16384 ws
  behind f = within-drop 0 keys_from 16384 ws ws₁ (omega arith) f

  pub writes-none : (1024 < slots_of (run find_new_cell (netlist_in n ws).cells)) × Within 0 keys_from ws ws₁ → (r : Result ℕ Refusal)
      → IsErrAnd r (λ x. x ≡ SlotsExhausted) → RewritesTicket t ws ws₁ reply reply r
  unfolding rewrite_stages
  writes-none f r e =
      refused-writes (slot_stage ∷ []) bytes ws ws₁ reply (behind f.1) SlotsExhausted
      (sym (first-refuses slot_stage [] (lt-ltb 1024 slots (subst (λ (k : ℕ). 1024 < k) same-run f.0)))) r e

  pub writes-rewritten : (m : ℕ) (ws₂ reply' : List ℕ) (w : Result ℕ Refusal) → RewritesTo n m ws ws₁
      → Delivers (encoded (compact (netlist_in m ws₁))) ws₁ ws₂ reply reply' w
      → RewritesTicket t ws ws₂ reply reply' w
  unfolding rewrite_stages rewrite_bytes
  writes-rewritten m ws₂ reply' w f d =
      passed-writes (slot_stage ∷ []) bytes ws ws₁ reply (behind f.frame)
      (sym (first_passes slot_stage [] (le-ltb 1024 slots (subst (λ (k : ℕ). k ≤ 1024) (sym f.taken ∙ same-run) f.fit)) ∙ no-stage))
      (encoded (compact (netlist_in m ws₁))) ws₂ reply' w (ap encoded (f.result ∙ ap (λ (rs : List Record). rewrite find_new_cell (netlist_of rs)) loaded)) d
