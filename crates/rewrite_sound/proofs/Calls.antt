-- WHAT REWRITING GIVES: for every accepted ticket whose rewriting takes at most 1,024 slots the result passes checking, but perhaps for its number of
-- records, and read back it is the rewritten netlist. Assumes nothing.
use mathlib.Core.Path.{◌≡◌, sym, ap, ◌∙◌, subst}
use mathlib.Core.Bool.{false, not}
use mathlib.Core.List.{List}
use Prim.Native.Nat.{ℕ, ◌%◌, ◌≤◌}
use native.Mathlib.Omega.{arith}
use lib.Dec.{ltb}
use lib.ListN.{length, take}
use borrow.Author.Tests.{ltb-false, eq-eqb}
use Rattle.std.specs.Prelude.{Ok}
use Rattle.cell.specs.Records.{records_of}
use Rattle.loops.proofs.Rank.{rank}
use Rattle.refusals.specs.Refusals.{first_of, Verdict}
use Rattle.checking.specs.Checking.{work_stage, length_stage, check_stages}
use Rattle.refusals.proofs.Stages.{first_passes, passes-both, passed-exactly}
use Rattle.netlist.specs.Netlist.{Netlist, netlist_of}
use Rattle.order.specs.Orders.{topo_sort}
use Rattle.design.specs.Queue.{find_new_cell}
use Rattle.rewrite.specs.Rewriter.{Lookup}
use Rattle.rewrite.specs.Rewrite.{run, slots_of, rewrite}
use Rattle.calls.specs.Calls.{decoded, encoded, check_verdict, rewrite_run, rewrite_bytes, rewrite_stages, rewrite_verdict, rewrite_answer, rewrite_reply}
use Rattle.rewrite_laws.proofs.Running.{RunOk}
use Rattle.accepted_laws.proofs.Accepted.{accepted-wired, accepted-run}
use Rattle.kept.specs.Kept.{Bytes}
use Rattle.kept.proofs.Sound.{Sound}
use Rattle.kept.proofs.Tickets.{ticket-work, ticket-sound, ticket-passes}
use Rattle.kept.proofs.Bytes.{Labelled, netlist-back, encoded-count, encoded-passes, encoded-records, encoded-whole}
use Rattle.kept.proofs.Calls.{ticket-labelled, written-first}
use Rattle.calls.proofs.Answers.{answered}
use Rattle.rewrite_sound.specs.Rewritten.{stages_but_size, Rewritten}
use Rattle.rewrite_sound.proofs.Result.{Ran, ran-by, rewrite-ranks, rewrite-sound, rewrite-shorter, rewrite-labelled}
use Rattle.rewrite_sound.proofs.Encoded.{encoded-bytes}

-- a sound netlist as a ticket
passes-but-size : (words : ℕ) → ltb words 16384 ≡ false → (d : Netlist) (g : ℕ → ℕ) (good : Sound d g) → Labelled d → first_of (stages_but_size words (encoded d)) ≡ Ok tt
unfolding stages_but_size
passes-but-size words enough d g good labelled =
    first_passes (work_stage words) _ enough
    ∙ first_passes (length_stage (encoded d)) _ (ap not (eq-eqb (length (encoded d) % 16) 0 (encoded-whole d g good labelled)))
    ∙ encoded-records d g good labelled

-- a look-up with which the run over a ticket ends, as long as every slot has a net of its own, and keeps what is known of settled nets
abbrev pub RunsOn : Lookup → List ℕ → Type 0
RunsOn look t = RunOk (decoded t).cells (topo_sort (decoded t).cells) (run look (decoded t).cells)

-- an accepted ticket
module _ (words : ℕ) (t : List ℕ) (pass : check_verdict words t ≡ Ok tt) where
  -- the Rust's look-up is one
  pub rust-runs : RunsOn find_new_cell t
  unfolding netlist_of
  rust-runs = accepted-run (records_of t) (ticket-passes words t pass)

  -- the law, for every such look-up
  module _ (look : Lookup) (runs : RunsOn look t) (few : slots_of (rewrite_run look t) ≤ 1024) where
    pub ticket-ran : Ran look (decoded t).cells
    unfolding netlist_of rewrite_run
    ticket-ran = ran-by look (decoded t).cells (accepted-wired (records_of t) (ticket-passes words t pass)) runs few

    pub ticket-rewritten : Bytes t → Rewritten look words t (rewrite_bytes look t)
    unfolding rewrite_bytes rewrite_run
    ticket-rewritten bytes =
        let d : Netlist = decoded t in
        let u : Netlist = rewrite look d in
        let ranks : ℕ → ℕ = rank (records_of t) in
        let sound : Sound d ranks = ticket-sound words t pass in
        let x : Ran look d.cells = ticket-ran in
        let ranks' : ℕ → ℕ = rewrite-ranks look d ranks sound x in
        let good : Sound u ranks' = rewrite-sound look d ranks sound x in
        let labelled : Labelled u = rewrite-labelled look d ranks sound x (ticket-labelled words t pass bytes) in
        let work : ltb words 16384 ≡ false = ticket-work words t pass in
        record {
          bytes = encoded-bytes u;
          whole = encoded-whole u ranks' good labelled;
          fewer = omega (arith, encoded-count u ranks' good labelled, rewrite-shorter look d ranks sound x, ap slots_of x.is);
          passes = passes-but-size words work u ranks' good labelled;
          accepted = λ l. encoded-passes u ranks' good labelled words work (omega arith);
          back = netlist-back u ranks' good labelled;
        }

-- over the definition of the result, with the Rust's look-up
pub rewrite-gives : (words : ℕ) (t : List ℕ) → Bytes t → check_verdict words t ≡ Ok tt → slots_of (rewrite_run find_new_cell t) ≤ 1024
    → Rewritten find_new_cell words t (rewrite_bytes find_new_cell t)
rewrite-gives words t bytes pass few = ticket-rewritten words t pass find_new_cell (rust-runs words t pass) few bytes

-- over the call: where it answers with a count, that many bytes of the reply are such a ticket
module _ (look : Lookup) (words : ℕ) (t reply : List ℕ) (runs : check_verdict words t ≡ Ok tt → RunsOn look t) where
  pub rewrite-call-by : (n : ℕ) → Bytes t → rewrite_answer look words t reply ≡ Ok n → Rewritten look words t (take n (rewrite_reply look words t reply))
  unfolding rewrite_answer rewrite_reply rewrite_verdict rewrite_stages check_verdict
  rewrite-call-by n bytes e =
      let v : Verdict = rewrite_verdict look words t reply in
      let a = answered v (length (rewrite_bytes look t)) n e in
      let stages = passes-both (check_stages words t) (rewrite_stages look t reply) a.0 in
      let few : slots_of (rewrite_run look t) ≤ 1024 = ltb-false 1024 (slots_of (rewrite_run look t)) ((passed-exactly (rewrite_stages look t reply)).0 stages.1 0 (omega arith)) in
      subst (Rewritten look words t) (sym (written-first v reply (rewrite_bytes look t) n a.0 a.1)) (ticket-rewritten words t stages.0 look (runs stages.0) few bytes)

pub rewrite-call : (words : ℕ) (t reply : List ℕ) (n : ℕ) → Bytes t → rewrite_answer find_new_cell words t reply ≡ Ok n
    → Rewritten find_new_cell words t (take n (rewrite_reply find_new_cell words t reply))
rewrite-call words t reply = rewrite-call-by find_new_cell words t reply (rust-runs words t)
