-- What a run leaves of a netlist without and-inverters, before it is compacted: added cells stand as they were added, inputs and outputs read
-- fresh nets, and nothing else is kept. Assumes nothing.
use mathlib.Core.Path.{◌≡◌, sym, ap, ◌∙◌, subst}
use mathlib.Core.Bool.{true}
use mathlib.Core.List.{List}
use mathlib.Core.Logic.{◌⊎◌, inl, inr}
use Prim.Native.Nat.{ℕ, ◌-◌, ◌≤◌, ◌<◌}
use native.Mathlib.Omega.{arith}
use lib.Dec.{ltb}
use lib.ListN.{length, get_or, get_or-eq_default}
use borrow.Author.Tests.{ltb-true, ltb-false}
use Rattle.value.specs.declared.Net.{Net}
use Rattle.cell.specs.declared.Cell.{Cell}
use Rattle.netlist.specs.Shape.{visit, visit_mut, has_effects}
use Rattle.netlist.specs.Netlist.{Netlist, cell_in, start_of, output_of}
use Rattle.order.specs.Orders.{topo_sort}
use Rattle.design.specs.Queue.{applied}
use Rattle.compact.specs.Compact.{keep, is_kept}
use Rattle.rewrite.specs.Rewriter.{Rewriter}
use Rattle.basics.specs.Lists.{All}
use Rattle.order_laws.specs.Members.{Drives}
use Rattle.basics.proofs.Truth.{either}
use Rattle.order_laws.proofs.Sorts.{effects-mapped, source-effects, effects-by}
use Rattle.basics.proofs.Members.{all-imp}
use Rattle.order_laws.proofs.Operands.{visited-all}
use Rattle.order_laws.proofs.Queue.{applied-at, applied-length}
use Rattle.basics.proofs.Indices.{get_d-padded}
use Rattle.kept.proofs.Sound.{Sound, Bit, output-bits, start-inside, start-kind, same_by, sound-wired}
use Rattle.kept.proofs.Keep.{marked-has}
use Rattle.rewrite_sound.proofs.Operands.{follow}
use Rattle.rewrite_sound.proofs.Applied.{applied_netlist}
use Rattle.normal.proofs.Alike.{visit-stays}
use Rattle.rewrite_normal.specs.Plain.{Plain}
use Rattle.rewrite_normal.proofs.Fresh.{FreshSlot, Fresh, fresh-more, State, map-fresh}
use Rattle.rewrite_normal.proofs.Run.{ticket-fresh}

-- a netlist without and-inverters, the rewriter at the end of its run, and what it leaves, which is sound
pub record After : Type 0 where
  pub ticket : Netlist
  pub rank₀ : ℕ → ℕ
  pub sound₀ : Sound ticket rank₀
  pub plain : Plain ticket.cells
  pub last : Rewriter
  pub state : State ticket.cells (topo_sort ticket.cells) last
  pub rank : ℕ → ℕ
  pub sound : Sound (applied_netlist ticket.bits last) rank

module _ (end : After) where
  open end use {rank₀, sound₀, plain, rank, sound}

  abbrev r : Rewriter
  r = end.last

  abbrev st : State end.ticket.cells (topo_sort end.ticket.cells) end.last
  st = end.state

  abbrev pub cs₀ : List Cell
  cs₀ = end.ticket.cells

  -- the number of the ticket's slots and of all, and a slot's cell before the change queue is applied
  abbrev pub tickets : ℕ
  tickets = length cs₀

  abbrev pub total : ℕ
  total = length r.design.cells

  abbrev pub was : ℕ → Cell
  was s = cell_in r.design.cells s

  -- what the run leaves, and a slot's cell in it
  abbrev pub left : Netlist
  left = applied_netlist end.ticket.bits r

  abbrev pub now : ℕ → Cell
  now s = cell_in (applied r.design) s

  pub same_length : length (applied r.design) ≡ total
  same_length = applied-length r.design

  -- an added cell stands as it was added
  pub added-same : (s : ℕ) → tickets ≤ s → s < total → now s ≡ was s
  added-same s l k =
      applied-at r.design s k
      ∙ visit-stays (follow r) (was s)
      (all-imp (Fresh cs₀ s) (λ m. follow r m ≡ m) (λ m f. map-fresh cs₀ (topo_sort cs₀) r st m (fresh-more cs₀ s total (omega arith) m f)) (visit (was s))
      (st.adds s l k).reads.0)

  ticket-effects : (s : ℕ) → s < tickets → has_effects (now s) ≡ has_effects (cell_in cs₀ s)
  ticket-effects s l =
      ap has_effects (applied-at r.design s (let m : tickets ≤ total = st.many in omega arith))
      ∙ effects-mapped (follow r) (was s) ∙ ap has_effects (st.olds s l)

  -- all operands are fresh
  added-reads : (s : ℕ) → tickets ≤ s → s < total → All (Fresh cs₀ total) (visit (now s))
  added-reads s l k =
      subst (λ (c : Cell). All (Fresh cs₀ total) (visit c)) (sym (added-same s l k))
      (all-imp (Fresh cs₀ s) (Fresh cs₀ total) (fresh-more cs₀ s total (omega arith)) (visit (was s)) (st.adds s l k).reads.0)

  ticket-reads : (s : ℕ) → s < tickets → All (Fresh cs₀ total) (visit (now s))
  ticket-reads s l =
      subst (λ (c : Cell). All (Fresh cs₀ total) (visit c))
      (sym (applied-at r.design s (let m : tickets ≤ total = st.many in omega arith) ∙ ap (visit_mut (follow r)) (st.olds s l)))
      (visited-all (Fresh cs₀ total) (follow r) (cell_in cs₀ s) (ticket-fresh cs₀ rank₀ sound₀.ranked (sound-wired end.ticket rank₀ sound₀) plain r st s l))

  pub reads-fresh : (s : ℕ) → s < total → All (Fresh cs₀ total) (visit (now s))
  reads-fresh s l = either (ltb s tickets) (λ e. ticket-reads s (ltb-true s tickets e)) (λ e. added-reads s (ltb-false s tickets e) l)

  -- added cells have one bit
  pub added-bit : (s : ℕ) → tickets ≤ s → get_or left.bits s 0 ≡ 0
  added-bit s l =
      get_d-padded end.ticket.bits (length (applied r.design) - length end.ticket.bits) s 0
      ∙ get_or-eq_default end.ticket.bits 0 {n = s} (omega (arith, l, sound₀.wide))

  -- what stays: inputs, outputs and added cells
  pub record Stays (s : ℕ) : Type 0 where
    pub inside : s < total
    pub sort : (has_effects (now s) ≡ true) ⊎ (tickets ≤ s)

  -- the start of a cell, one bit of which stays
  kind-stays : (s : ℕ) → s < total → has_effects (now (start_of left.bits s)) ≡ has_effects (now s)
  kind-stays s l = same_by left rank sound effects-by s (start_of left.bits s) (start-kind left rank sound s (omega (arith, same_length)))

  start-stays : (s : ℕ) → FreshSlot cs₀ total s → Stays (start_of left.bits s)
  start-stays s (inl i) =
      let l : s < total = let m : tickets ≤ total = st.many in let k : s < tickets = i.0 in omega arith in
      record {
        inside = let b : start_of left.bits s < length (applied r.design) = start-inside left rank sound s (omega (arith, same_length)) in omega (arith, same_length);
        sort = inl (kind-stays s l ∙ ticket-effects s i.0 ∙ source-effects (cell_in cs₀ s) i.1);
      }
  start-stays s (inr p) =
      let b : get_or left.bits s 0 ≡ 0 = added-bit s p.0 in
      let l : tickets ≤ s = p.0 in
      let k : s < total = p.1 in
      record { inside = omega arith; sort = inr (omega arith) }

  drives-stays : (m : Net) → Fresh cs₀ total m → Drives (λ x. Stays (start_of left.bits x)) m
  unfolding Fresh
  drives-stays m f y e = start-stays y.0 (f y e)

  deps-stay : (s : ℕ) → Stays s → All (λ i. All (Drives (λ x. Stays (start_of left.bits x))) (visit (now i))) (output_of left.bits s)
  deps-stay s h =
      let here : s < length (applied r.design) = let l : s < total = h.inside in omega (arith, same_length) in
      all-imp (Bit left rank sound s) (λ i. All (Drives (λ x. Stays (start_of left.bits x))) (visit (now i)))
      (λ i b. all-imp (Fresh cs₀ total) (Drives (λ x. Stays (start_of left.bits x))) drives-stays (visit (now i))
      (reads-fresh i (let l : i < length (applied r.design) = b.inside in omega (arith, same_length))))
      (output_of left.bits s) (output-bits left rank sound s here)

  -- the law: compacting keeps nothing else
  pub kept-stays : (s : ℕ) → s < total → is_kept left.bits (keep left) s ≡ true → Stays s
  kept-stays s l k =
      record {
        inside = l;
        sort = go (marked-has left Stays (λ i m z e. record { inside = omega (arith, m, sound.wide, same_length); sort = inl e }) deps-stay (start_of left.bits s) k).sort;
      }
    where
      go : (has_effects (now (start_of left.bits s)) ≡ true) ⊎ (tickets ≤ start_of left.bits s) → (has_effects (now s) ≡ true) ⊎ (tickets ≤ s)
      go (inl e) = inl (sym (kind-stays s l) ∙ e)
      go (inr e) = inr (omega arith)
