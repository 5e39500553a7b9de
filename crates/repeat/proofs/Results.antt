-- The results of rewriting: tickets of normal netlists. Merging changes no byte of them, rewriting gives another that pairs off. Assumes nothing.
use mathlib.Core.Path.{◌≡◌, sym, ap, ap₂, ◌∙◌, subst}
use mathlib.Core.Bool.{Bool, false}
use mathlib.Core.List.{List, [], ◌∷◌, ◌++◌}
use Prim.Native.Nat.{ℕ, ◌*◌, ◌/◌, ◌≤◌}
use native.Mathlib.Omega.{arith}
use lib.Dec.{ltb}
use lib.ListN.{length}
use borrow.Author.Tests.{le-ltb, ltb-false}
use Rattle.std.specs.Prelude.{Ok}
use Rattle.cell.specs.declared.Record.{Record}
use Rattle.cell.specs.Records.{records_of}
use Rattle.refusals.specs.declared.Refusal.TheVariants.{SlotsExhausted, ShortReply}
use Rattle.refusals.specs.Refusals.{Stage, first_of, Verdict}
use Rattle.checking.specs.Checking.{work_stage, size_stage, netlist_stages, check_stages}
use Rattle.refusals.proofs.Stages.{one-exactly, passes-both, group-out}
use Rattle.netlist.specs.Netlist.{Netlist, encode}
use Rattle.design.specs.Queue.{find_new_cell}
use Rattle.compact.proofs.Lists.{ticket-length}
use Rattle.merge.specs.Merge.{merge}
use Rattle.rewrite.specs.Rewrite.{run, slots_of, rewrite}
use Rattle.calls.specs.Answers.{answer_by, merged_of}
use Rattle.calls.specs.Calls.{decoded, encoded, room, merge_bytes, merge_verdict, merge_answer, rewrite_run, rewrite_bytes, rewrite_stages, rewrite_verdict, rewrite_answer}
use Rattle.kept.proofs.Passing.{encode-length}
use Rattle.kept.proofs.Bytes.{Labelled, records-back, netlist-back, encoded-records}
use Rattle.rewrite_sound.proofs.Result.{rewrite-labelled}
use Rattle.normal.specs.Paired.{Paired}
use Rattle.normal.proofs.Normal.{Normal}
use Rattle.merge_again.proofs.Merged.{merge_none}
use Rattle.rewrite_again.proofs.Run.{run-slots}
use Rattle.rewrite_again.proofs.Again.{rewrite-paired, rewrite-normal}
use Rattle.rewrite_normal.proofs.Result.{sound-ran}
use Rattle.repeat.specs.Pairing.{RecordsPaired}
use Rattle.repeat.specs.Repeat.{later_verdict}
use Rattle.repeat.proofs.Stages.{checked-later}
use Rattle.repeat.proofs.Pairing.{records-paired}

pub record Result (u : List ℕ) : Type 0 where
  pub netlist : Netlist
  pub ranks : ℕ → ℕ
  pub normal : Normal netlist ranks
  pub labelled : Labelled netlist
  pub small : length netlist.cells ≤ 32768
  pub is : u ≡ encoded netlist

module _ (u : List ℕ) (r : Result u) where
  abbrev d : Netlist
  d = r.netlist

  back : decoded u ≡ d
  back = ap decoded r.is ∙ netlist-back d r.ranks r.normal.sound r.labelled

  long : length u ≡ length d.cells * 16
  long = ap length r.is ∙ ticket-length (encode d) ∙ ap (λ (k : ℕ). k * 16) (encode-length d r.ranks r.normal.sound)

  records : records_of u ≡ encode d
  records = ap records_of r.is ∙ records-back d r.ranks r.normal.sound r.labelled

  records-pass : first_of (netlist_stages (records_of u)) ≡ Ok tt
  records-pass = ap (λ (v : List ℕ). first_of (netlist_stages (records_of v))) r.is ∙ encoded-records d r.ranks r.normal.sound r.labelled

  later : (words : ℕ) (rest : List Stage) → first_of (check_stages words u ++ rest) ≡ first_of (work_stage words ∷ size_stage u ∷ rest)
  later words = checked-later words u (omega (arith, long)) records-pass

  -- merging
  merges : merge (decoded u) ≡ (d, false)
  merges = ap merge back ∙ merge_none d r.ranks r.normal

  pub merge-bytes : merge_bytes u ≡ u
  unfolding merge_bytes
  merge-bytes = ap (λ (m : Netlist × Bool). encoded m.0) merges ∙ sym r.is

  merge-verdict : (words : ℕ) (reply : List ℕ) → merge_verdict words u reply ≡ later_verdict words u reply
  unfolding merge_verdict
  merge-verdict words reply =
      later words (room reply (merge_bytes u) ∷ []) ∙ ap (λ (bs : List ℕ). first_of (work_stage words ∷ size_stage u ∷ room reply bs ∷ [])) merge-bytes

  pub merge-answers : (words : ℕ) (reply : List ℕ) → merge_answer words u reply ≡ answer_by (later_verdict words u reply) (merged_of (length u) false)
  unfolding merge_answer
  merge-answers words reply =
      ap (λ (v : Verdict). answer_by v (merged_of (length (merge_bytes u)) (merge (decoded u)).1)) (merge-verdict words reply)
      ∙ ap₂ (λ (bs : List ℕ) (m : Netlist × Bool). answer_by (later_verdict words u reply) (merged_of (length bs) m.1)) merge-bytes merges

  -- rewriting
  abbrev next : Netlist
  next = rewrite find_new_cell d

  next-paired : Paired next d
  next-paired = rewrite-paired d r.ranks r.normal r.small

  next-normal : (ranks : ℕ → ℕ) × Normal next ranks
  next-normal = rewrite-normal d r.ranks r.normal r.small

  next-bytes : rewrite_bytes find_new_cell u ≡ encoded next
  unfolding rewrite_bytes
  next-bytes = ap (λ (e : Netlist). encoded (rewrite find_new_cell e)) back

  next-long : length (rewrite_bytes find_new_cell u) ≡ length u
  next-long =
      ap length next-bytes ∙ ticket-length (encode next) ∙ ap (λ (k : ℕ). k * 16) (encode-length next next-normal.0 next-normal.1.sound)
      ∙ ap (λ (k : ℕ). k * 16) next-paired.paired.many ∙ sym long

  slots-as : slots_of (rewrite_run find_new_cell u) ≡ slots_of (run find_new_cell d.cells)
  unfolding rewrite_run
  slots-as = ap (λ (e : Netlist). slots_of (run find_new_cell e.cells)) back

  -- 9 does not come where 3 does not
  next-slots : ltb 512 (length u / 16) ≡ false → ltb 1024 (slots_of (rewrite_run find_new_cell u)) ≡ false
  next-slots e =
      le-ltb 1024 (slots_of (rewrite_run find_new_cell u))
      (omega (arith, ltb-false 512 (length u / 16) e, long, slots-as, run-slots d r.ranks r.normal))

  next-verdict : (words : ℕ) (reply : List ℕ) → rewrite_verdict find_new_cell words u reply ≡ later_verdict words u reply
  unfolding rewrite_verdict rewrite_stages
  next-verdict words reply =
      let full : Stage = (ltb 1024 (slots_of (rewrite_run find_new_cell u)), SlotsExhausted) in
      let short : Stage = room reply (rewrite_bytes find_new_cell u) in
      later words (full ∷ short ∷ [])
      ∙ group-out (work_stage words ∷ size_stage u ∷ []) (full ∷ []) (short ∷ [])
      (λ e. (one-exactly full).1 (next-slots ((one-exactly (size_stage u)).0 (passes-both (work_stage words ∷ []) (size_stage u ∷ []) e).1)))
      ∙ ap (λ (k : ℕ). first_of (work_stage words ∷ size_stage u ∷ (ltb (length reply) k, ShortReply) ∷ [])) next-long

  pub next-answers : (words : ℕ) (reply : List ℕ) → rewrite_answer find_new_cell words u reply ≡ answer_by (later_verdict words u reply) (length u)
  unfolding rewrite_answer
  next-answers words reply = ap₂ answer_by (next-verdict words reply) next-long

  pub next-result : (v : List ℕ) → v ≡ rewrite_bytes find_new_cell u → slots_of (rewrite_run find_new_cell u) ≤ 1024 → Result v
  next-result v e few = record {
    netlist = next;
    ranks = next-normal.0;
    normal = next-normal.1;
    labelled = rewrite-labelled find_new_cell d r.ranks r.normal.sound (sound-ran d r.ranks r.normal.sound (omega (arith, few, slots-as))) r.labelled;
    small = omega (arith, r.small, next-paired.paired.many);
    is = e ∙ next-bytes;
  }

-- the two results pair off, as netlists and as records
module _ (u v : List ℕ) (r : Result u) (e : v ≡ rewrite_bytes find_new_cell u) (few : slots_of (rewrite_run find_new_cell u) ≤ 1024) where
  abbrev q : Result v
  q = next-result u r v e few

  pub next-pairs : Paired (decoded v) (decoded u)
  unfolding next-result
  next-pairs = subst (λ (x : Netlist). Paired x (decoded u)) (sym (back v q)) (subst (Paired (next u r)) (sym (back u r)) (next-paired u r))

  pub next-records : RecordsPaired (records_of v) (records_of u)
  unfolding next-result
  next-records =
      let pairs : Paired (next u r) r.netlist = next-paired u r in
      subst (λ (rs : List Record). RecordsPaired rs (records_of u)) (sym (records v q))
      (subst (RecordsPaired (encode (next u r))) (sym (records u r))
      (records-paired (next u r) r.netlist q.ranks r.ranks q.normal.sound r.normal.sound pairs.pairing pairs.paired))
