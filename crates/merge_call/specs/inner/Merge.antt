-- What the parts of the call of merge tell. Public contracts do not cite this file. Assumes nothing: these are definitions.
use Rattle.refusals.specs.declared.Refusal.{Refusal}
use Rattle.std.specs.Prelude.{◌≡◌, Bool, List, [], ◌∷◌, ℕ, length, drop, Result}
use Rattle.cell.specs.Limits.{work_words}
use Rattle.netlist.specs.inner.Areas.{records_in}
use Rattle.netlist.specs.Netlist.{netlist_of}
use Rattle.merge.specs.Merge.{merging, merged_netlist, merge}
use Rattle.calls.specs.declared.Merged.{Merged}
use Rattle.calls.specs.Answers.{merged_of, answer_by}
use Rattle.calls.specs.Calls.{room, decoded, merge_bytes}
use Rattle.delivery.specs.inner.Delivery.{Decides}

-- the records of a ticket were loaded and merged
pub record LoadsMerged (t : List ℕ) (n : ℕ) (ws ws' : List ℕ) (r : Bool) : Type 0 where
  pub result : netlist_of (records_in n ws') ≡ merged_netlist (decoded t) (merging (decoded t))
  pub flag : r ≡ (merge (decoded t)).1
  pub rest : drop work_words ws' ≡ drop work_words ws

-- what is told of an accepted ticket: the byte count of the merged ticket and its flag
abbrev pub merge_told : List ℕ → Merged
merge_told t = merged_of (length (merge_bytes t)) (merge (decoded t)).1

-- 12 alone decided answer and reply
abbrev pub Merges : List ℕ → List ℕ → List ℕ → List ℕ → List ℕ → Result Merged Refusal → Type 0
Merges t ws ws' reply reply' r = Decides (λ v. answer_by v (merge_told t)) (room reply (merge_bytes t) ∷ []) (merge_bytes t) ws ws' reply reply' r
