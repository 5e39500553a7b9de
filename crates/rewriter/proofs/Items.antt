-- The items of the bit order, one after another, in the words: from what the cycle and the finishing of a slot tell. Assumes nothing.
use mathlib.Core.Path.{◌≡◌, refl, sym, ap, ◌∙◌, subst}
use mathlib.Core.Bool.{Bool, true, false, cond}
use mathlib.Core.List.{List, [], ◌∷◌, ◌++◌, append_assoc, append-nil}
use Prim.Native.Nat.{ℕ, zero, suc, ◌+◌, ◌≤◌, ◌<◌}
use native.Mathlib.Omega.{arith}
use native.Mathlib.Decide.{dec_lt}
use lib.ListN.{length, get_or, length-set}
use Rattle.value.specs.declared.Net.{Net}
use Rattle.cell.specs.declared.Cell.{Cell}
use Rattle.cell.specs.declared.Record.{Record}
use Rattle.cell.specs.Records.{cell_of}
use Rattle.basics.specs.Lists.{tabulate, has}
use Rattle.netlist.specs.inner.Areas.{word_record, words_in, order_at, Within, keys_from}
use Rattle.netlist.specs.Shape.{visit_mut, has_effects, is_splittable}
use Rattle.netlist.specs.Netlist.{cell_in}
use Rattle.order.specs.Orders.{bit_deps}
use Rattle.design.specs.Queue.{Design, net_in, map_net_new, find_new_cell, replace_net, replace_cell}
use Rattle.numberer.specs.Numberer.{Entry}
use Rattle.netlist.specs.inner.Fields.{renamed_fields}
use Rattle.design.specs.inner.Words.{replaced_in}
use Rattle.design.proofs.Words.{cell_at, replaced-length}
use Rattle.netlist.proofs.Operands.{renamed-of}
use Rattle.design.proofs.Applying.{replaced-zero}
use Rattle.rewrite.specs.Rewriter.{Rewriter, Lookup, weight, finished}
use Rattle.rewrite.specs.Rewrite as rewriting
use Rattle.rewrite.specs.Rewrite.{Run, ran, stuck, bit_done, cell_done, add_cell, process_cell, run_item, and_then, run_items, slots_of}
use Rattle.order_laws.specs.Ordered.{OnceAfter, FedAfter}
use Rattle.basics.proofs.Truth.{never, or_right}
use Rattle.basics.proofs.Members.{has_first, has-later, has-append}
use Rattle.aig_laws.specs.Reads.{GateOf}
use Rattle.rewrite_laws.specs.State.{Settled, State}
use Rattle.rewrite_laws.proofs.Grows.{grown-slots, run_items-grows}
use Rattle.rewrite_laws.proofs.Running.{RunOk, c-settled, item_ok}
use Rattle.rewrite_laws.proofs.Items.{item_by, items-cut, items-one, port-done}
use Rattle.rewriter_state.specs.declared.Extent.{Extent}
use Rattle.rewriter_state.specs.declared.Full.{Full}
use Rattle.rewriter_cycle.specs.declared.Processed.{Processed}
use Rattle.rewriter_cycle.specs.declared.Processed.TheVariants as processed
use Rattle.rewriter_state.specs.inner.Words.{rewriter_in, Held, ReadySlot, Finishes, Replaces, Stays, Becomes}
use Rattle.rewriter_cycle.specs.inner.Cycle.{slots_after, slots_added, result_of, Left, Answers, AnswersAdd, Processes, Adds}
use Rattle.rewriter_cycle.proofs.Passes.{held-few}
use Rattle.rewriter.specs.inner.Run.{Step, Between, Went, Goes, ReadyCell, ReadyItem, ReadyItems, RunsBit, RunsCell, RunsItem, RunsItems}
use Rattle.std.proofs.Common.{Result, Ok, Err}
use Rattle.std.specs.Result.{IsErr}
use Rattle.rewriter_state.proofs.NoSlot.{no_slot}

-- from one extent to another
pub between_none : (x : Extent) (ws : List ℕ) → Held x ws → Between x x ws ws
between_none x ws h = record {
  held = h;
  tickets = refl;
  slots = omega arith;
  bits = λ i l. refl;
  between = λ i l m. refl;
  after = λ i l. refl;
  same = refl;
}

pub between-on : (x x₁ x₂ : Extent) (ws ws₁ ws₂ : List ℕ) → Between x x₁ ws ws₁ → Between x₁ x₂ ws₁ ws₂ → Between x x₂ ws ws₂
between-on x x₁ x₂ ws ws₁ ws₂ p q = record {
  held = q.held;
  tickets = q.tickets ∙ p.tickets;
  slots = omega (arith, p.slots, q.slots);
  bits = λ i l. q.bits i (omega (arith, l, p.tickets)) ∙ p.bits i l;
  between = λ i l m. q.between i l m ∙ p.between i l m;
  after = λ i l. q.after i l ∙ p.after i l;
  same = q.same ∙ p.same;
}

left-between : (x x' : Extent) (ws ws' : List ℕ) → Left x x' ws ws' → Between x x' ws ws'
left-between x x' ws ws' l = record {
  held = l.held;
  tickets = l.onward.tickets;
  slots = l.onward.slots;
  bits = l.changes.bits;
  between = λ i h m. l.changes.between i h (omega arith);
  after = l.changes.after;
  same = l.changes.same;
}

pub between-frame : (x x' : Extent) (ws ws' : List ℕ) → Between x x' ws ws' → Within 0 keys_from ws ws'
between-frame x x' ws ws' b = record { before = λ i h. absurd (omega arith); after = b.after; same = b.same }

-- after a step a slot may be finished that could be before
left-ready : (x x₁ : Extent) (ws ws₁ : List ℕ) → Left x x₁ ws ws₁ → (s : ℕ) → ReadySlot x s ws → ReadySlot x₁ s ws₁
left-ready x x₁ ws ws₁ l s g = record {
  held = l.held;
  small = omega (arith, l.onward.tickets, g.small);
  room = omega (arith, l.onward.clock, g.room);
}

-- a slot is finished after its cell was processed
module _ (x x₁ x₂ : Extent) (ws ws₁ ws₂ : List ℕ) (s : ℕ) (d : Design) (es : List Entry) (l : Left x x₁ ws ws₁) (f : Finishes s x₁ x₂ ws₁ ws₂ d es) where
  finish-between : Between x₁ x₂ ws₁ ws₂
  finish-between = record {
    held = f.held;
    tickets = f.tickets;
    slots = omega (arith, f.slots);
    bits = f.bits;
    between = f.between;
    after = f.after;
    same = f.same;
  }

  finish-went : (y : Run) → y ≡ ran (finished (rewriter_in x₁ ws₁) s d es) → Went 1 x x₂ ws ws₂ y
  finish-went y e = record {
    now = e ∙ ap ran (sym f.now);
    left = between-on x x₁ x₂ ws ws₁ ws₂ (left-between x x₁ ws ws₁ l) finish-between;
    clock = omega (arith, l.onward.clock, f.clock, f.slots);
  }

-- a slot's finishing takes no slot
slots-bit : (s : ℕ) (y : rewriting.Added) → slots_of (bit_done s y) ≡ slots_added y
unfolding finished
slots-bit s (rewriting.at n r) = refl
slots-bit s (rewriting.unadded r) = refl

slots-cell : (s : ℕ) (c : Cell) (y : rewriting.Result) → slots_of (cell_done s c y) ≡ slots_after y
unfolding finished
slots-cell s c (rewriting.none r) = go (has_effects c)
  where
    go : (b : Bool) → slots_of (ran (cond b r (finished r s r.design (r.cache ++ ((c, net_in s) ∷ []))))) ≡ length r.design.cells
    go true = refl
    go false = refl
slots-cell s c (rewriting.cell d r) = length-set r.design.cells s d
slots-cell s c (rewriting.value n r) = refl
slots-cell s c (rewriting.spent r) = refl

-- a bit of a gate
module _ (x x₁ : Extent) (ws ws₁ : List ℕ) (c : Cell) where
  added-said : (a : Result Net Full) → Adds x x₁ ws ws₁ c a → AnswersAdd x x₁ ws ws₁ a (add_cell find_new_cell (rewriter_in x ws) c)
  unfolding add_cell process_cell
  added-said a p = p.said (suc (weight (rewriter_in x ws).stamps c)) (omega arith)

  module _ (n : Net) (p : Adds x x₁ ws ws₁ c (Ok n)) where
    added-left : Left x x₁ ws ws₁
    added-left = (added-said (Ok n) p).1

    pub bit-on : (s : ℕ) (x₂ : Extent) (ws₂ : List ℕ) → Replaces s x₁ x₂ ws₁ ws₂ n → RunsBit x x₂ s ws ws₂ c (Ok tt)
    bit-on s x₂ ws₂ f =
        let r : Rewriter = rewriter_in x₁ ws₁ in
        record { said = finish-went x x₁ x₂ ws ws₁ ws₂ s (replace_net r.design s n) r.cache added-left f _ (ap (bit_done s) (added-said (Ok n) p).0) }

  pub bit-full : (s : ℕ) (e : Full) (y : Step) → Adds x x₁ ws ws₁ c (Err e) → IsErr y → RunsBit x x₁ s ws ws₁ c y
  bit-full s e y p f =
      let z : rewriting.Added = add_cell find_new_cell (rewriter_in x ws) c in
      let k : (1024 < slots_added z) × Within 0 keys_from ws ws₁ = added-said (Err e) p in
      no_slot (RunsBit x x₁ s ws ws₁ c) (λ u. record { said = (omega (arith, k.0, slots-bit s z), k.1) }) y f

-- an and-inverter
module _ (x x₁ : Extent) (ws ws₁ : List ℕ) (c : Cell) where
  processed-said : (a : Result Processed Full) → Processes x x₁ ws ws₁ c a → Answers x x₁ ws ws₁ a (process_cell find_new_cell (rewriter_in x ws) c)
  unfolding process_cell
  processed-said a p = p.said (suc (weight (rewriter_in x ws).stamps c)) (omega arith)

  module _ (p : Processed) (k : Processes x x₁ ws ws₁ c (Ok p)) where
    cell-left : Left x x₁ ws ws₁
    cell-left = (processed-said (Ok p) k).1

    pub cell-ready : (s : ℕ) → ReadyCell x s ws c → ReadySlot x₁ s ws₁
    cell-ready s g = left-ready x x₁ ws ws₁ cell-left s g.slot

    processed-as : (q : Processed) → p ≡ q → process_cell find_new_cell (rewriter_in x ws) c ≡ result_of q (rewriter_in x₁ ws₁)
    processed-as q e = (processed-said (Ok p) k).0 ∙ ap (λ q. result_of q (rewriter_in x₁ ws₁)) e

    pub none-on : p ≡ processed.None → (s : ℕ) → ReadyCell x s ws c → (x₂ : Extent) (ws₂ : List ℕ) → Stays s x₁ x₂ ws₁ ws₂ c → RunsCell x x₂ s ws ws₂ c (Ok tt)
    none-on e s g x₂ ws₂ f =
        let r : Rewriter = rewriter_in x₁ ws₁ in
        let es : List Entry = r.cache ++ ((c, net_in s) ∷ []) in
        record {
          said = finish-went x x₁ x₂ ws ws₁ ws₂ s r.design es cell-left f _
              (ap (cell_done s c) (processed-as processed.None e) ∙ ap (λ (b : Bool). ran (cond b r (finished r s r.design es))) g.ready.gate.1);
        }

    pub cell-on : (d : Cell) → p ≡ processed.Cell d → (s : ℕ) (x₂ : Extent) (ws₂ : List ℕ) → Becomes s x₁ x₂ ws₁ ws₂ d → RunsCell x x₂ s ws ws₂ c (Ok tt)
    cell-on d e s x₂ ws₂ f =
        let r : Rewriter = rewriter_in x₁ ws₁ in
        record {
          said = finish-went x x₁ x₂ ws ws₁ ws₂ s (replace_cell r.design s d) (r.cache ++ ((d, net_in s) ∷ [])) cell-left f _
              (ap (cell_done s c) (processed-as (processed.Cell d) e));
        }

    pub value_on : (n : Net) → p ≡ processed.Value n → (s : ℕ) (x₂ : Extent) (ws₂ : List ℕ) → Replaces s x₁ x₂ ws₁ ws₂ n → RunsCell x x₂ s ws ws₂ c (Ok tt)
    value_on n e s x₂ ws₂ f =
        let r : Rewriter = rewriter_in x₁ ws₁ in
        record {
          said = finish-went x x₁ x₂ ws ws₁ ws₂ s (replace_net r.design s n) r.cache cell-left f _
              (ap (cell_done s c) (processed-as (processed.Value n) e));
        }

  pub cell_full : (s : ℕ) (e : Full) (y : Step) → Processes x x₁ ws ws₁ c (Err e) → IsErr y → RunsCell x x₁ s ws ws₁ c y
  cell_full s e y p f =
      let z : rewriting.Result = process_cell find_new_cell (rewriter_in x ws) c in
      let k : (1024 < slots_after z) × Within 0 keys_from ws ws₁ = processed-said (Err e) p in
      no_slot (RunsCell x x₁ s ws ws₁ c) (λ u. record { said = (omega (arith, k.0, slots-cell s c z), k.1) }) y f

-- the ticket's slots are counted
pub tickets-are : (x : Extent) (ws : List ℕ) (cs : List Cell) (before : List ℕ) → State cs before (rewriter_in x ws) → length cs ≡ x.tickets
unfolding rewriter_in
tickets-are x ws cs before st = sym st.inv.wide ∙ replaced-length x.tickets ws

-- the mapped cell, by the records that the code goes through
pub mapped-is : (x : Extent) (ws : List ℕ) (s : ℕ) → s < x.slots → (r y : Record) (c : Cell) → r ≡ word_record ws s → y ≡ renamed_fields (map_net_new (replaced_in x.tickets ws)) r → c ≡ cell_of y
    → c ≡ visit_mut (map_net_new (rewriter_in x ws).design.replaced) (cell_in (rewriter_in x ws).design.cells s)
unfolding rewriter_in
mapped-is x ws s h r y c e₁ e₂ e₃ =
    let f : Net → Net = map_net_new (replaced_in x.tickets ws) in
    e₃ ∙ ap cell_of e₂ ∙ renamed-of f (replaced-zero (replaced_in x.tickets ws)) r ∙ ap (λ (z : Record). visit_mut f (cell_of z)) e₁
    ∙ ap (visit_mut f) (sym (cell_at x.slots ws s h))

-- one item
module _ (x : Extent) (s : ℕ) (ws : List ℕ) (g : ReadyItem x s ws) where
  abbrev r : Rewriter
  r = rewriter_in x ws

  abbrev cs : List Cell
  cs = g.running.ticket

  abbrev before : List ℕ
  before = g.running.before

  inside : s < length cs
  inside = omega (arith, g.slot.small, tickets-are x ws cs before g.running.state)

  abbrev mapped : Cell
  mapped = visit_mut (map_net_new r.design.replaced) (cell_in r.design.cells s)

  module _ (c : Cell) (c-is : c ≡ visit_mut (map_net_new (rewriter_in x ws).design.replaced) (cell_in (rewriter_in x ws).design.cells s)) (b : Bool) (b-is : b ≡ has_effects c) where
    pub item-ready : b ≡ false → ReadyCell x s ws c
    item-ready e = record {
      ready = record { running = g.running; gate = subst (GateOf (Settled cs r.stamps)) (sym c-is) gate };
      slot = g.slot;
    }
      where
        gate : GateOf (Settled cs r.stamps) mapped
        gate =
            c-settled cs g.wired before s inside g.new g.fed r (λ few. g.running.state) (ap has_effects (sym c-is) ∙ sym b-is ∙ e)
            (held-few x ws g.running.held)

    pub item-effects : b ≡ true → RunsItem x x s ws ws (Ok tt)
    item-effects e = record {
      said = record {
        now = item_by find_new_cell s r (λ z. z ≡ ran r) (λ b f. never effects f)
            (λ f. port-done s r mapped (λ z. z ≡ ran r) find_new_cell f (λ m k. never f (g.running.state.known mapped m k).1) refl) (λ b f. never effects f);
        left = between_none x ws g.running.held;
        clock = omega arith;
      };
    }
      where
        effects : has_effects mapped ≡ true
        effects = ap has_effects (sym c-is) ∙ sym b-is ∙ e

  module _ (c : Cell) (c-is : c ≡ visit_mut (map_net_new (rewriter_in x ws).design.replaced) (cell_in (rewriter_in x ws).design.cells s)) (b : Bool) (b-is : b ≡ is_splittable c)
      (x' : Extent) (ws' : List ℕ) (y : Step) where
    pub item-bit : b ≡ true → RunsBit x x' s ws ws' c y → RunsItem x x' s ws ws' y
    unfolding run_item
    item-bit e k = record { said = subst (λ (z : Run). Goes 1 x x' ws ws' z y) (rw (← c-is, ← b-is, e)) k.said }

    pub item-cell : b ≡ false → RunsCell x x' s ws ws' c y → RunsItem x x' s ws ws' y
    unfolding run_item
    item-cell e k = record { said = subst (λ (z : Run). Goes 1 x x' ws ws' z y) (rw (← c-is, ← b-is, e)) k.said }

-- a list that is cut at an item
pub table-cut : (f : ℕ → ℕ) (k j : ℕ) → j < k → (rest : List ℕ) × (tabulate f k ≡ tabulate f j ++ (f j ∷ rest))
unfolding tabulate
table-cut f zero j h = absurd (omega arith)
table-cut f (suc k) j h = go (dec_lt j k) (table-cut f k j)
  where
    go : Dec (j < k) → (j < k → (rest : List ℕ) × (tabulate f k ≡ tabulate f j ++ (f j ∷ rest)))
        → (rest : List ℕ) × (tabulate f k ++ (f k ∷ []) ≡ tabulate f j ++ (f j ∷ rest))
    go (yes l) ih =
        ((ih l).0 ++ (f k ∷ []), ap (λ (xs : List ℕ). xs ++ (f k ∷ [])) (ih l).1 ∙ append_assoc (tabulate f j) (f j ∷ (ih l).0) (f k ∷ []))
    go (no l) ih = let e : j ≡ k = omega arith in ([], sym (ap (λ (i : ℕ). tabulate f i ++ (f i ∷ [])) e))

once-at : (before xs : List ℕ) (s : ℕ) (ss : List ℕ) → OnceAfter before (xs ++ (s ∷ ss)) → has s (before ++ xs) ≡ false
unfolding OnceAfter
once-at before [] s ss o = ap (has s) (append-nil before) ∙ o.0
once-at before (x ∷ xs) s ss o = ap (has s) (sym (append_assoc before (x ∷ []) xs)) ∙ once-at (before ++ (x ∷ [])) xs s ss o.1

fed-at : (n : ℕ) (deps : ℕ → List ℕ) (before xs : List ℕ) (s : ℕ) (ss : List ℕ) → FedAfter n deps before (xs ++ (s ∷ ss))
    → (d : ℕ) → has d (deps s) ≡ true → d < n → has d (before ++ xs) ≡ true
unfolding FedAfter
fed-at n deps before [] s ss o d h l = ap (has d) (append-nil before) ∙ o.0 d h l
fed-at n deps before (x ∷ xs) s ss o d h l =
    ap (has d) (sym (append_assoc before (x ∷ []) xs)) ∙ fed-at n deps (before ++ (x ∷ [])) xs s ss o.1 d h l

after-slots : (look : Lookup) (n : ℕ) (ss : List ℕ) → ((s : ℕ) → has s ss ≡ true → s < n) → (y : Run) → slots_of y ≤ slots_of (and_then (run_items look ss) y)
after-slots look n ss h (ran r) = grown-slots n r (run_items look ss r) (run_items-grows look n ss h r)
after-slots look n ss h (stuck r) = omega arith

-- the items so far
pub record Rolling (x₀ : Extent) (k : ℕ) (ws₀ ws : List ℕ) (x : Extent) (j : ℕ) : Type 0 where
  pub ready : ReadyItems x₀ k ws₀
  pub upto : j ≤ k
  pub went : Went j x₀ x ws₀ ws (run_items find_new_cell (words_in order_at j ws₀) (rewriter_in x₀ ws₀))
  pub state : State ready.ticket (words_in order_at j ws₀) (rewriter_in x ws)

pub rolling-none : (x : Extent) (k : ℕ) (ws : List ℕ) → ReadyItems x k ws → Rolling x k ws ws x 0
unfolding words_in tabulate run_items
rolling-none x k ws g = record {
  ready = g;
  upto = omega arith;
  went = record { now = refl; left = between_none x ws g.held; clock = omega arith };
  state = g.state;
}

module _ (x₀ : Extent) (k : ℕ) (ws₀ ws : List ℕ) (x : Extent) (j : ℕ) (g : Rolling x₀ k ws₀ ws x j) where
  abbrev item : ℕ
  item = get_or ws₀ (order_at + j) 0

  abbrev done : List ℕ
  done = words_in order_at j ws₀

  module _ (l : j < k) where
    cut : (rest : List ℕ) × (words_in order_at k ws₀ ≡ done ++ (item ∷ rest))
    unfolding words_in
    cut = table-cut (λ i. get_or ws₀ (order_at + i) 0) k j l

    left-small : (s : ℕ) → has s (item ∷ cut.0) ≡ true → s < length g.ready.ticket
    left-small s h = g.ready.small s (ap (has s) cut.1 ∙ has-append s done (item ∷ cut.0) ∙ or_right (has s done) _ h)

    rest-small : (s : ℕ) → has s cut.0 ≡ true → s < length g.ready.ticket
    rest-small s h = left-small s (has-later s item cut.0 h)

    item-small : item < length g.ready.ticket
    item-small = left-small item (has_first item cut.0)

    whole : run_items find_new_cell (words_in order_at k ws₀) (rewriter_in x₀ ws₀) ≡ and_then (run_items find_new_cell cut.0) (run_item find_new_cell item (rewriter_in x ws))
    unfolding run_items
    whole =
        ap (λ (xs : List ℕ). run_items find_new_cell xs (rewriter_in x₀ ws₀)) cut.1
        ∙ items-cut find_new_cell done (item ∷ cut.0) (rewriter_in x₀ ws₀) (rewriter_in x ws) g.went.now

    item-new : has item done ≡ false
    item-new = once-at [] done item cut.0 (subst (OnceAfter []) cut.1 g.ready.once)

    item-fed : (d : ℕ) → has d (bit_deps g.ready.ticket item) ≡ true → d < length g.ready.ticket → has d done ≡ true
    item-fed =
        let cs : List Cell = g.ready.ticket in
        fed-at (length cs) (bit_deps cs) [] done item cut.0 (subst (FedAfter (length cs) (bit_deps cs) []) cut.1 g.ready.fed)

    module _ (s : ℕ) (s-is : s ≡ get_or ws (order_at + j) 0) where
      is-item : s ≡ item
      is-item = let f : k ≤ 1024 = g.ready.few in s-is ∙ g.went.left.between (order_at + j) (omega arith) (omega arith)

      pub rolling-ready : ReadyItem x s ws
      rolling-ready = subst (λ (i : ℕ). ReadyItem x i ws) (sym is-item) (record {
        running = record { held = g.went.left.held; ticket = g.ready.ticket; before = done; state = g.state };
        wired = g.ready.wired;
        slot = record {
          held = g.went.left.held;
          small = omega (arith, item-small, tickets-are x ws g.ready.ticket done g.state);
          room = omega (arith, g.ready.room, g.went.clock, l);
        };
        new = item-new;
        fed = item-fed;
      })

      one_more : words_in order_at (j + 1) ws₀ ≡ done ++ (item ∷ [])
      unfolding words_in tabulate
      one_more = ap (tabulate (λ i. get_or ws₀ (order_at + i) 0)) (let e : j + 1 ≡ suc j = omega arith in e)

      item-said : (x' : Extent) (ws' : List ℕ) (y : Step) → RunsItem x x' s ws ws' y → Goes 1 x x' ws ws' (run_item find_new_cell item (rewriter_in x ws)) y
      item-said x' ws' y p = subst (λ (i : ℕ). Goes 1 x x' ws ws' (run_item find_new_cell i (rewriter_in x ws)) y) is-item p.said

      pub rolling-more : (x' : Extent) (ws' : List ℕ) (u : Unit {0}) → RunsItem x x' s ws ws' (Ok u) → Rolling x₀ k ws₀ ws' x' (j + 1)
      rolling-more x' ws' u p =
          let w : Went 1 x x' ws ws' (run_item find_new_cell item (rewriter_in x ws)) = item-said x' ws' (Ok u) p in
          record {
            ready = g.ready;
            upto = omega arith;
            went = record {
              now = ap (λ (xs : List ℕ). run_items find_new_cell xs (rewriter_in x₀ ws₀)) one_more
                  ∙ items-cut find_new_cell done (item ∷ []) (rewriter_in x₀ ws₀) (rewriter_in x ws) g.went.now ∙ items-one find_new_cell item (rewriter_in x ws) (rewriter_in x' ws') w.now;
              left = between-on x₀ x x' ws₀ ws ws' g.went.left w.left;
              clock = omega (arith, g.went.clock, w.clock);
            };
            state = subst (λ (xs : List ℕ). State g.ready.ticket xs (rewriter_in x' ws')) (sym one_more) (state-after x' w);
          }
        where
          state-after : (x' : Extent) → Went 1 x x' ws ws' (run_item find_new_cell item (rewriter_in x ws)) → State g.ready.ticket (done ++ (item ∷ [])) (rewriter_in x' ws')
          state-after x' w =
              subst (RunOk g.ready.ticket (done ++ (item ∷ []))) w.now
              (item_ok g.ready.ticket g.ready.wired done item item-small item-new item-fed (rewriter_in x ws) (λ few. g.state))
              (held-few x' ws' w.left.held)

      pub rolling-full : (x' : Extent) (ws' : List ℕ) (e : Full) (y : Step) → RunsItem x x' s ws ws' (Err e) → IsErr y → RunsItems x₀ x' k ws₀ ws' y
      rolling-full x' ws' e y p f =
          let q : (1024 < slots_of (run_item find_new_cell item (rewriter_in x ws))) × Within 0 keys_from ws ws' = item-said x' ws' (Err e) p in
          no_slot (RunsItems x₀ x' k ws₀ ws') (λ u. record {
            said = (
              subst (λ (z : Run). 1024 < slots_of z) (sym whole)
                  (omega (arith, q.0, after-slots find_new_cell (length g.ready.ticket) cut.0 rest-small (run_item find_new_cell item (rewriter_in x ws)))),
              record {
                before = λ i h. absurd (omega arith);
                after = λ i h. q.1.after i h ∙ g.went.left.after i h;
                same = q.1.same ∙ g.went.left.same;
              },
            );
          }) y f
