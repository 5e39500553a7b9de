-- A ticket loaded, merged and delivered. Assumes nothing.
use mathlib.Core.Path.{◌≡◌, sym, ap, ◌∙◌}
use mathlib.Core.Bool.{Bool}
use mathlib.Core.List.{List}
use Prim.Native.Nat.{ℕ}
use native.Mathlib.Omega.{arith}
use Rattle.refusals.specs.declared.Refusal.{Refusal}
use Rattle.std.specs.Prelude.{Ok, Err, Result}
use Rattle.std.specs.Result.{IsErrAnd}
use Rattle.std.proofs.lemmas.Result.{err_from_is_err_and}
use Rattle.cell.specs.declared.Record.{Record}
use Rattle.cell.specs.Records.{records_of}
use Rattle.netlist.specs.inner.Areas.{records_in, free_at}
use Rattle.netlist.specs.Netlist.{Netlist, netlist_of}
use Rattle.netlist.proofs.Frames.{within-drop}
use Rattle.compact.specs.Compact.{compact}
use Rattle.design.specs.inner.Words.{netlist_in}
use Rattle.merge.specs.Merge.{merging, merged_netlist, merge}
use Rattle.merge.specs.inner.Words.{Sequenced, MergesNetlist}
use Rattle.calls.specs.declared.Merged.{Merged}
use Rattle.calls.specs.Answers.{merged_of}
use Rattle.calls.specs.Calls.{encoded, merge_bytes}
use Rattle.delivery.specs.inner.Delivery.{Delivers, Loaded}
use Rattle.delivery.proofs.Delivering.{delivers-from}
use Rattle.calls.proofs.Answers.{answered, turned_away}
use Rattle.merge_call.specs.inner.Merge.{LoadsMerged, Merges}
use Rattle.merge_call.proofs.Sequence.{records-sequenced}

pub loaded-sequenced : (n : ℕ) (ws : List ℕ) → Loaded n ws → Sequenced (netlist_in n ws).bits
loaded-sequenced n ws h = records-sequenced (records_in n ws) h.pass

pub merged-loads : (t : List ℕ) (n : ℕ) (ws ws₁ : List ℕ) (r : Bool) → MergesNetlist n ws ws₁ r → records_in n ws ≡ records_of t → LoadsMerged t n ws ws₁ r
merged-loads t n ws ws₁ r m loaded = record {
  result = m.result ∙ ap (λ (rs : List Record). merged_netlist (netlist_of rs) (merging (netlist_of rs))) loaded;
  flag = m.flag ∙ ap (λ (rs : List Record). (merge (netlist_of rs)).1) loaded;
  rest = within-drop 0 free_at 16384 ws ws₁ (omega arith) m.frame;
}

-- the answer is that of the netlist written, with the flag beside it
module _ (t : List ℕ) (n : ℕ) (ws ws₁ : List ℕ) (changed : Bool) (m : LoadsMerged t n ws ws₁ changed) (ws₂ reply reply' : List ℕ) where
  delivered : (w : Result ℕ Refusal) → Delivers (encoded (compact (netlist_in n ws₁))) ws₁ ws₂ reply reply' w → Delivers (merge_bytes t) ws ws₂ reply reply' w
  unfolding merge_bytes merge
  delivered w d =
      delivers-from (encoded (compact (netlist_in n ws₁))) (merge_bytes t) ws ws₁ ws₂ reply reply' w (ap (λ (e : Netlist). encoded (compact e)) m.result) m.rest d

  pub merged-refused : (x : Refusal) → Delivers (encoded (compact (netlist_in n ws₁))) ws₁ ws₂ reply reply' (Err x) → (r : Result Merged Refusal)
      → IsErrAnd r (λ y. y ≡ x) → Merges t ws ws₂ reply reply' r
  merged-refused x d r q =
      let p = err_from_is_err_and r q in
      let e : Delivers (merge_bytes t) ws ws₂ reply reply' (Err x) = delivered (Err x) d in
      record { said = rw (p.1, p.2, turned_away _ _ x (sym e.said)); left = e.left; rest = e.rest }

  pub merged-delivers : (bytes : ℕ) → Delivers (encoded (compact (netlist_in n ws₁))) ws₁ ws₂ reply reply' (Ok bytes) → Merges t ws ws₂ reply reply' (Ok (merged_of bytes changed))
  merged-delivers bytes d =
      let e : Delivers (merge_bytes t) ws ws₂ reply reply' (Ok bytes) = delivered (Ok bytes) d in
      let a = answered _ _ bytes (sym e.said) in
      record { said = rw (a.0, a.1, m.flag); left = e.left; rest = e.rest }
