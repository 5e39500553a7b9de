-- The run from its beginning to the netlist that `compact` is given. Assumes nothing.
use mathlib.Core.Path.{◌≡◌, refl, sym, ap, ◌∙◌, subst}
use mathlib.Core.List.{List, [], ◌++◌, map}
use mathlib.Core.Logic.{inl}
use Prim.Native.Nat.{ℕ, ◌+◌, ◌-◌, ◌≤◌, ◌<◌}
use native.Mathlib.Omega.{arith}
use native.Mathlib.Decide.{dec_lt}
use lib.ListN.{length, get_or, replicate, length-append, length-replicate, get_or-eq_default}
use lib.Seq.{ext_get_or}
use Rattle.std.specs.Prelude.{Ok}
use Rattle.cell.specs.declared.Record.{Record}
use Rattle.cell.specs.declared.Cell.{Cell}
use Rattle.cell.specs.Records.{cell_of}
use Rattle.basics.specs.Lists.{tabulate, has}
use Rattle.refusals.specs.Refusals.{first_of}
use Rattle.checking.specs.Checking.{netlist_stages}
use Rattle.netlist.specs.inner.Areas.{word_record, records_in, words_in, order_at, Within, figures_at, keys_from, mixes_at, replaced_at, visited_at}
use Rattle.netlist.specs.Netlist.{Netlist, netlist_of}
use Rattle.netlist.proofs.Frames.{within-then, within_wider, tabulate-same, words-kept, record-kept}
use Rattle.order.specs.Orders.{bit_deps, topo_sort}
use Rattle.order.specs.inner.Code.{Sorts}
use Rattle.order.proofs.Words.{tabulate-replicate}
use Rattle.design.specs.Queue.{net_in, unchanged, applied, find_new_cell}
use Rattle.compact.specs.Compact.{compact}
use Rattle.design.specs.inner.Words.{netlist_in, replaced_in}
use Rattle.design.proofs.Words.{cells-length, bits-length, bit_at}
use Rattle.numberer.specs.inner.Words.{numberer_in}
use Rattle.numberer.proofs.Inserting.{entered-none, mixed-none}
use Rattle.rewrite.specs.Rewriter.{begun}
use Rattle.rewrite.specs.Rewrite.{Run, ran, run, run_items, slots_of, compacted, rewrite}
use Rattle.order_laws.specs.Ordered.{OnceAfter, FedAfter}
use Rattle.basics.proofs.Indices.{get_d-padded}
use Rattle.order_laws.proofs.Queue.{applied-length}
use Rattle.rewrite_laws.proofs.Running.{RunOk, begun-state}
use Rattle.rewrite_laws.specs.State.{State}
use Rattle.accepted_laws.proofs.Accepted.{accepted-wired, accepted-each, accepted-fed, accepted-run}
use Rattle.rewriter_state.specs.declared.Extent.{Extent}
use Rattle.rewriter_state.specs.declared.Full.{Full}
use Rattle.std.proofs.Common.{Result, Ok, Err}
use Rattle.std.specs.Result.{IsErr}
use Rattle.rewriter_state.proofs.NoSlot.{no_slot}
use Rattle.rewriter_state.specs.inner.Words.{rewriter_in, Held, ClearsStamps}
use Rattle.rewriter_cycle.specs.inner.Cycle.{Running}
use Rattle.rewriter_cycle.proofs.Passes.{held-few}
use Rattle.rewriter.specs.inner.Run.{Went, ReadyItems, RunsItems, first, Begins, AppliesAll, Rewrites}
use Rattle.rewriter.proofs.Items.{between-frame}

netlist-of : (d : Netlist) (cs : List Cell) (bits : List ℕ) → d.cells ≡ cs → d.bits ≡ bits → d ≡ record { cells = cs; bits = bits }
netlist-of d cs bits p q = λ i. record { cells = p i; bits = q i }

-- the words after sorting, and with nothing replaced and nothing stamped
module _ (n : ℕ) (ws₀ ws₁ ws₂ ws₃ : List ℕ) (count : ℕ) (sorted : Sorts n ws₀ ws₁ count) (blank : ClearsStamps n ws₂ ws₃) (kept : Within replaced_at figures_at ws₁ ws₂)
    (fresh : replaced_in n ws₂ ≡ tabulate net_in n) (few : n ≤ 512) where
  abbrev cells₀ : List Cell
  cells₀ = (netlist_in n ws₀).cells

  record_same : (i : ℕ) → i < 1024 → word_record ws₃ i ≡ word_record ws₀ i
  record_same i h =
      record-kept figures_at mixes_at ws₂ ws₃ blank.frame i (inl (omega arith)) ∙ record-kept replaced_at figures_at ws₁ ws₂ kept i (inl (omega arith))
      ∙ record-kept visited_at replaced_at ws₀ ws₁ sorted.frame i (inl (omega arith))

  records-same : records_in n ws₃ ≡ records_in n ws₀
  unfolding records_in
  records-same = tabulate-same (word_record ws₃) (word_record ws₀) n (λ i l. record_same i (omega arith))

  stamps-are : words_in figures_at n ws₃ ≡ replicate (length cells₀) 0
  unfolding words_in
  stamps-are =
      tabulate-same (λ i. get_or ws₃ (figures_at + i) 0) (λ i. 0) n (λ i l. blank.zeros i l) ∙ tabulate-replicate n 0
      ∙ ap (λ (k : ℕ). replicate k 0) (sym (cells-length n ws₀))

  replaced-are : replaced_in n ws₃ ≡ tabulate net_in (length cells₀)
  unfolding replaced_in
  replaced-are =
      tabulate-same _ _ n (λ i l. ap (λ (w : ℕ). record { 0 = w }) (blank.frame.before (replaced_at + i) (omega arith))) ∙ fresh
      ∙ ap (tabulate net_in) (sym (cells-length n ws₀))

  begun-is : rewriter_in (first n) ws₃ ≡ begun cells₀
  unfolding rewriter_in unchanged numberer_in tabulate
  begun-is = λ i. record {
    design = record { cells = (netlist_of (records-same i)).cells; replaced = replaced-are i };
    cache = [];
    stamps = stamps-are i;
    clock = 0;
  }

  order_is : words_in order_at count ws₃ ≡ topo_sort cells₀
  unfolding netlist_of
  order_is =
      let all : count ≡ n = sorted.all in
      words-kept figures_at mixes_at ws₂ ws₃ blank.frame order_at count (inl (omega arith)) ∙ words-kept replaced_at figures_at ws₁ ws₂ kept order_at count (inl (omega arith))
      ∙ sorted.order

  pub run-begins : Begins n ws₀ ws₃ count
  run-begins = record {
    all = sorted.all;
    order = order_is;
    state = begun-is;
    bits = λ i l. ap (λ (r : Record). r.bit) (record_same i (omega arith));
    frame = within-then 0 keys_from ws₀ ws₁ ws₃ (within_wider visited_at replaced_at 0 keys_from ws₀ ws₁ (omega arith) (omega arith) sorted.frame)
        (within-then 0 keys_from ws₁ ws₂ ws₃ (within_wider replaced_at figures_at 0 keys_from ws₁ ws₂ (omega arith) (omega arith) kept)
        (within_wider figures_at mixes_at 0 keys_from ws₂ ws₃ (omega arith) (omega arith) blank.frame));
  }

-- an accepted ticket, begun
module _ (n : ℕ) (ws₀ ws₃ : List ℕ) (count : ℕ) (b : Begins n ws₀ ws₃ count) (accepted : first_of (netlist_stages (records_in n ws₀)) ≡ Ok tt) (few : n ≤ 512)
    (long : 16384 ≤ length ws₀) where
  abbrev rs : List Record
  rs = records_in n ws₀

  abbrev cs : List Cell
  cs = map cell_of rs

  cells_are : (netlist_in n ws₀).cells ≡ cs
  unfolding netlist_of
  cells_are = refl

  held_first : Held (first n) ws₃
  held_first = record {
    long = omega (arith, b.frame.same);
    few = few;
    many = omega arith;
    fit = omega arith;
    timed = omega arith;
    cached = omega arith;
    entries = entered-none ws₃;
    mixed = mixed-none ws₃;
    single = λ i h l. absurd (omega arith);
  }

  order-here : words_in order_at count ws₃ ≡ topo_sort cs
  order-here = b.order ∙ ap topo_sort cells_are

  state-here : rewriter_in (first n) ws₃ ≡ begun cs
  state-here = b.state ∙ ap begun cells_are

  pub run-ready : ReadyItems (record { tickets = n; slots = n; entries = 0; clock = 0 }) count ws₃
  run-ready =
      let all : count ≡ n = b.all in
      record {
        held = held_first;
        ticket = cs;
        wired = accepted-wired rs accepted;
        state = subst (State cs []) (sym state-here) (begun-state cs);
        once = subst (OnceAfter []) (sym order-here) (accepted-each rs accepted).once;
        fed = subst (FedAfter (length cs) (bit_deps cs) []) (sym order-here) (accepted-fed rs accepted);
        small = λ s h. (accepted-each rs accepted).small s (ap (has s) (sym order-here) ∙ h);
        few = omega arith;
        room = omega arith;
      }

  run_is : run find_new_cell (netlist_in n ws₀).cells ≡ run_items find_new_cell (words_in order_at count ws₃) (rewriter_in (first n) ws₃)
  unfolding run
  run_is =
      ap (λ (ss : List ℕ). run_items find_new_cell ss (begun (netlist_in n ws₀).cells)) (sym b.order)
      ∙ ap (run_items find_new_cell (words_in order_at count ws₃)) (sym b.state)

  module _ (ws₄ : List ℕ) where
    pub run-full : (x : Extent) (e : Full) (r : Result ℕ Full) → RunsItems (record { tickets = n; slots = n; entries = 0; clock = 0 }) x count ws₃ ws₄ (Err e) → IsErr r → Rewrites n ws₀ ws₄ r
    run-full x e r p f =
        let k = p.said in
        no_slot (Rewrites n ws₀ ws₄) (λ u. (subst (λ (z : Run). 1024 < slots_of z) (sym run_is) k.0, within-then 0 keys_from ws₀ ws₃ ws₄ b.frame k.1)) r f

    module _ (x : Extent) (u : Unit {0}) (p : RunsItems (record { tickets = n; slots = n; entries = 0; clock = 0 }) x count ws₃ ws₄ (Ok u)) where
      went : Went count (first n) x ws₃ ws₄ (run_items find_new_cell (words_in order_at count ws₃) (rewriter_in (first n) ws₃))
      went = p.said

      run_ran : run find_new_cell (netlist_in n ws₀).cells ≡ ran (rewriter_in x ws₄)
      run_ran = run_is ∙ went.now

      pub run-running : Running x ws₄
      run-running = record {
        held = went.left.held;
        ticket = cs;
        before = topo_sort cs;
        state = subst (RunOk cs (topo_sort cs)) (ap (run find_new_cell) (sym cells_are) ∙ run_ran) (accepted-run rs accepted) (held-few x ws₄ went.left.held);
      }

      -- bit numbers: the ticket's, and then zeros
      bit-same : (i : ℕ) → i < x.slots → Dec (i < n) → (word_record ws₄ i).bit ≡ get_or (netlist_in n ws₀).bits i 0
      bit-same i h (yes l) =
          went.left.bits i l ∙ b.bits i l ∙ sym (bit_at n ws₀ i l)
      bit-same i h (no l) =
          let t : x.tickets ≡ n = went.left.tickets in
          went.left.held.single i (omega arith) h ∙ sym (get_or-eq_default (netlist_in n ws₀).bits 0 {n = i} (omega (arith, bits-length n ws₀)))

      taken_is : length (rewriter_in x ws₄).design.cells ≡ x.slots
      unfolding rewriter_in
      taken_is = cells-length x.slots ws₄

      bits_are : (netlist_in x.slots ws₄).bits ≡ (netlist_in n ws₀).bits ++ replicate (length (applied (rewriter_in x ws₄).design) - length (netlist_in n ws₀).bits) 0
      bits_are =
          let bits : List ℕ = (netlist_in n ws₀).bits in
          let k : ℕ = length (applied (rewriter_in x ws₄).design) - length bits in
          let more : n ≤ x.slots = went.left.slots in
          ext_get_or 0 (netlist_in x.slots ws₄).bits (bits ++ replicate k 0)
          (bits-length x.slots ws₄ ∙ sym (length-append bits (replicate k 0) ∙ omega (arith, more, length-replicate {A = ℕ} k 0, bits-length n ws₀, applied-length (rewriter_in x ws₄).design, taken_is)))
          (λ i h. let l : i < x.slots = omega (arith, h, bits-length x.slots ws₄) in
          bit_at x.slots ws₄ i l ∙ bit-same i l (dec_lt i n) ∙ sym (get_d-padded bits k i 0))

      pub run-rewritten : (ws₅ : List ℕ) → AppliesAll x ws₄ ws₅ → Rewrites n ws₀ ws₅ (Ok x.slots)
      unfolding rewrite
      run-rewritten ws₅ a = record {
        taken = ap slots_of run_ran ∙ taken_is;
        fit = went.left.held.fit;
        result = ap compact (netlist-of (netlist_in x.slots ws₅) _ _ a.cells (a.bits ∙ bits_are)) ∙ sym (ap (compacted (netlist_in n ws₀).bits) run_ran);
        frame = within-then 0 keys_from ws₀ ws₃ ws₅ b.frame
            (within-then 0 keys_from ws₃ ws₄ ws₅ (between-frame (first n) x ws₃ ws₄ went.left) (within_wider 0 figures_at 0 keys_from ws₄ ws₅ (omega arith) (omega arith) a.frame));
      }
