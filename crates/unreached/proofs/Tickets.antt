-- THE LAWS: nothing stops the Rust where it is given an accepted ticket to compact, to merge or to rewrite within 1,024 slots. Assumes nothing.
use mathlib.Core.Path.{◌≡◌, ◌∙◌, subst}
use mathlib.Core.Bool.{false}
use mathlib.Core.List.{List, []}
use mathlib.Core.Logic.{◌⊎◌, inl, inr}
use Prim.Native.Nat.{ℕ, ◌≤◌}
use Rattle.std.specs.Prelude.{Ok}
use Rattle.cell.specs.declared.Cell.{Cell}
use Rattle.cell.specs.Records.{records_of}
use Rattle.loops.proofs.Rank.{rank}
use Rattle.netlist.specs.Shape.{visit, has_effects, is_splittable}
use Rattle.netlist.specs.Netlist.{netlist_of, cell_in}
use Rattle.order.specs.Orders.{topo_sort}
use Rattle.design.specs.Queue.{find_new_cell, applied}
use Rattle.rewrite.specs.Rewriter.{Rewriter, begun}
use Rattle.rewrite.specs.Rewrite.{ran, run, slots_of}
use Rattle.calls.specs.Calls.{decoded, check_verdict, rewrite_run}
use Rattle.basics.specs.Lists.{has}
use Rattle.order_laws.specs.Members.{Drives}
use Rattle.basics.proofs.Members.{all-imp}
use Rattle.accepted_laws.proofs.Accepted.{accepted-wired, accepted-fed}
use Rattle.kept.proofs.Tickets.{ticket-passes, ticket-sound}
use Rattle.rewrite_sound.proofs.Shaped.{Holds}
use Rattle.rewrite_sound.proofs.Operands.{Ended, Operand, operands-below}
use Rattle.rewrite_sound.proofs.Result.{Ran, before-sound}
use Rattle.rewrite_sound.proofs.Calls.{rust-runs, ticket-ran}
use Rattle.unreached.specs.Steps.{EachItem}
use Rattle.unreached.specs.Stops.{Complete, MergeGoes, PassGoes, ItemGoes, QueueGoes, RewriteGoes}
use Rattle.unreached.proofs.Complete.{sound-complete}
use Rattle.unreached.proofs.Void.{Gone, final-alive}
use Rattle.unreached.proofs.Merging.{merge-goes}
use Rattle.unreached.proofs.Rewriting.{run-goes}

-- the change queue at the end of a run
queue-goes : (cs : List Cell) (r : Rewriter) → Ended cs r → (void : List ℕ) → Gone void r.design → QueueGoes cs void r
queue-goes cs r end void gone = record {
  alive = λ s l. all-imp (Operand cs r end s) (Drives (λ x. has x void ≡ false)) (λ m o. final-alive void r.design m gone o.final)
      (visit (cell_in (applied r.design) s)) (operands-below cs r end s l);
  width = λ s l. go (cell_in cs s) (cell_in r.design.cells s) (end.shaped.olds s l);
}
  where
    go : (c₀ c : Cell) → Holds c₀ c → (c ≡ c₀) ⊎ ((is_splittable c₀ ≡ false) × (has_effects c₀ ≡ false) × (has_effects c ≡ false))
    go c₀ c (inl e) = inl e
    go c₀ c (inr h) = inr (h.0.0, h.0.1, h.1)

module _ (words : ℕ) (t : List ℕ) (pass : check_verdict words t ≡ Ok tt) where
  pub ticket-complete : Complete (decoded t)
  ticket-complete = sound-complete (decoded t) (rank (records_of t)) (ticket-sound words t pass)

  pub ticket-merges : MergeGoes (decoded t)
  ticket-merges = merge-goes (decoded t) (rank (records_of t)) (ticket-sound words t pass)

  -- rewriting within 1,024 slots
  module _ (few : slots_of (rewrite_run find_new_cell t) ≤ 1024) where
    abbrev cs : List Cell
    cs = (decoded t).cells

    ended-run : Ran find_new_cell (decoded t).cells
    ended-run = ticket-ran words t pass find_new_cell (rust-runs words t pass) few

    queue-last : (void : List ℕ) (r : Rewriter) → ran r ≡ run find_new_cell cs → Gone void r.design → QueueGoes cs void r
    queue-last void r e gone =
        let q : ran r ≡ ran ended-run.last = e ∙ ended-run.is in
        let same : ended-run.last ≡ r = cc in
        queue-goes cs r (subst (Ended cs) same ended-run.ended) void gone

    items-go : EachItem find_new_cell PassGoes (ItemGoes cs) (QueueGoes cs) [] (topo_sort cs) (begun cs)
    unfolding netlist_of rewrite_run
    items-go =
        run-goes cs (accepted-wired (records_of t) (ticket-passes words t pass)) (QueueGoes cs) queue-last few
        (accepted-fed (records_of t) (ticket-passes words t pass))

    pub ticket-rewrites : RewriteGoes (decoded t)
    ticket-rewrites = record {
      items = items-go;
      last = ended-run.last;
      ends = ended-run.is;
      complete = sound-complete _ _ (before-sound find_new_cell (decoded t) (rank (records_of t)) (ticket-sound words t pass) ended-run);
    }
