-- The laws of the cycle of rules and adder: what each of its members may ask of another, and what it gives where it returns. Assumes nothing.
use mathlib.Core.Path.{◌≡◌, refl, sym, ap, ◌∙◌, subst}
use mathlib.Core.Bool.{false, true≢false}
use mathlib.Core.List.{List, [], ◌∷◌}
use Prim.Native.Nat.{ℕ, zero, suc, ◌+◌, ◌*◌, ◌≤◌, ◌<◌}
use native.Mathlib.Omega.{arith}
use lib.ListN.{length, length-append}
use Rattle.value.specs.declared.Net.{Net}
use Rattle.value.specs.declared.ControlNet.{ControlNet}
use Rattle.value.specs.declared.ControlNet.TheVariants.{Pos, Neg}
use Rattle.value.specs.Value.{UNDEF, ZERO, ONE}
use Rattle.cell.specs.declared.Cell.{Cell}
use Rattle.cell.specs.declared.Cell.TheVariants.{Input, Output, Buf, Not, And, Or, Xor, Mux, Aig}
use Rattle.netlist.specs.inner.Areas.{Within, keys_from}
use Rattle.netlist.proofs.Frames.{within-then}
use Rattle.design.specs.Queue.{net_in, find_new_cell, Source}
use Rattle.numberer.specs.Numberer.{seek}
use Rattle.design.proofs.Words.{cells-length}
use Rattle.std.specs.Prelude.{None, Some, Option, Result, Ok, Err}
use Rattle.std.specs.Result.{IsErr}
use Rattle.normalize.specs.declared.Change.{Change}
use Rattle.normalize.specs.declared.Change.TheVariants.{Value, Form, Add, NotOf, AddNotOf}
use Rattle.normalize.specs.Outcomes.{◌or_else◌, first_change, Outcome}
use Rattle.normalize.specs.Normalize.{normalize}
use Rattle.normalize.proofs.First.{none-or_else}
use Rattle.aig.specs.Aig.{not_rule, simple_aig_opt}
use Rattle.rewrite.specs.Rewriter.{Rewriter, weight, find_cell, entered}
use Rattle.rewrite.specs.Rewrite.{rules, process}
use Rattle.rewrite.specs.Rewrite as rewriting
use Rattle.aig_laws.specs.Reads.{GateOf, GoodOutcome}
use Rattle.rewrite_laws.specs.Stamps.{Lighter}
use Rattle.rewrite_laws.proofs.Lightness.{lighter-more}
use Rattle.aig_laws.proofs.Reading.{simple-reads}
use Rattle.rewrite_laws.proofs.Falling.{simple-falls, rules-fall}
use Rattle.rewrite_laws.proofs.Kept.{KeptResult, KeptAdded, KeptPass, enter-kept, pass_kept, process-kept}
use Rattle.rewrite_laws.proofs.Grows.{ExtendsResult, process-extends, extends-grows}
use Rattle.rewrite_laws.specs.State.{Settled}
use Rattle.rewrite_laws.proofs.Settled.{stamped, settled-constants, found-settled}
use Rattle.rewrite_laws.proofs.Items.{FewSlots}
use Rattle.rewrite_laws.proofs.Keeping.{P, Q, N, keeping}
use Rattle.rewriter_state.specs.declared.Extent.{Extent}
use Rattle.rewriter_state.specs.declared.Full.{Full}
use Rattle.rewriter_state.proofs.NoSlot.{no_slot}
use Rattle.rewriter_cycle.specs.declared.Processed.{Processed}
use Rattle.rewriter_cycle.specs.declared.Processed.TheVariants as processed
use Rattle.rewriter_state.specs.inner.Words.{rewriter_in, Held, Enters}
use Rattle.rewriter_cycle.proofs.Arms.{adds, not-adds}
use Rattle.rewriter_cycle.specs.inner.Cycle.{unadded_of, opted, ruled, slots_after, slots_added, result_of, Left, Answers, AnswersAdd, Ready, Performs, Processes, Adds}

-- the words after two steps
left-on : (x y z : Extent) (ws ws' ws'' : List ℕ) → Left x y ws ws' → Left y z ws' ws'' → Left x z ws ws''
left-on x y z ws ws' ws'' a b = record {
  held = b.held;
  onward = record {
    tickets = b.onward.tickets ∙ a.onward.tickets;
    slots = omega (arith, a.onward.slots, b.onward.slots);
    clock = omega (arith, a.onward.clock, b.onward.clock);
  };
  changes = record {
    bits = λ i l. b.changes.bits i (omega (arith, a.onward.tickets)) ∙ a.changes.bits i l;
    between = λ i l m. b.changes.between i l m ∙ a.changes.between i l m;
    after = λ i l. b.changes.after i l ∙ a.changes.after i l;
    same = b.changes.same ∙ a.changes.same;
  };
}

left-within : (x y : Extent) (ws ws' : List ℕ) → Left x y ws ws' → Within 0 keys_from ws ws'
left-within x y ws ws' l = record { before = λ i h. absurd (omega arith); after = l.changes.after; same = l.changes.same }

-- the slots that an answer has taken
value-slots : (y : rewriting.Added) → slots_after (rewriting.as_value y) ≡ slots_added y
value-slots (rewriting.at n r) = refl
value-slots (rewriting.unadded r) = refl

replacing-slots : (d : Cell) (y : rewriting.Result) → slots_after (rewriting.replacing d y) ≡ slots_after y
replacing-slots d (rewriting.none r) = refl
replacing-slots d (rewriting.cell c r) = refl
replacing-slots d (rewriting.value n r) = refl
replacing-slots d (rewriting.spent r) = refl

-- what is left of a form, where l is left of what it is a form of
abbrev pub form_of : Processed → Processed → Processed
form_of l processed.None = l
form_of l (processed.Cell c) = processed.Cell c
form_of l (processed.Value n) = processed.Value n

abbrev pub formed : Processed → Result Processed Full → Result Processed Full
formed l (Ok p) = Ok (form_of l p)
formed l (Err e) = Err e

replacing-of : (d : Cell) (p : Processed) (r : Rewriter) → rewriting.replacing d (result_of p r) ≡ result_of (form_of (processed.Cell d) p) r
replacing-of d processed.None r = refl
replacing-of d (processed.Cell c) r = refl
replacing-of d (processed.Value n) r = refl

replacing-answers : (x x' : Extent) (ws ws' : List ℕ) (d : Cell) (q : Result Processed Full) (y : rewriting.Result) → Answers x x' ws ws' q y
    → Answers x x' ws ws' (formed (processed.Cell d) q) (rewriting.replacing d y)
replacing-answers x x' ws ws' d (Ok p) y h = (ap (rewriting.replacing d) h.0 ∙ replacing-of d p (rewriter_in x' ws'), h.1)
replacing-answers x x' ws ws' d (Err e) y h = (omega (arith, h.0, replacing-slots d y), h.1)

-- an answer from words that a step left
answers-on : (x y z : Extent) (ws ws' ws'' : List ℕ) → Left x y ws ws' → (q : Result Processed Full) (v : rewriting.Result) → Answers y z ws' ws'' q v
    → Answers x z ws ws'' q v
answers-on x y z ws ws' ws'' l (Ok p) v h = (h.0, left-on x y z ws ws' ws'' l h.1)
answers-on x y z ws ws' ws'' l (Err e) v h = (h.0, within-then 0 keys_from ws ws' ws'' (left-within x y ws ws' l) h.1)

-- what the cache has
abbrev pub found_of : Option Net → Processed
found_of (Some n) = processed.Value n
found_of None = processed.None

found-result : (f : Option Net) (r : Rewriter) → result_of (found_of f) r ≡ rewriting.asked r f
found-result (Some n) r = refl
found-result None r = refl

-- a form of a form
form-none : (p : Processed) → form_of processed.None p ≡ p
form-none processed.None = refl
form-none (processed.Cell c) = refl
form-none (processed.Value n) = refl

formed-none : (q : Result Processed Full) → formed processed.None q ≡ q
formed-none (Ok p) = ap Ok (form-none p)
formed-none (Err e) = refl

form-form : (l : Processed) (e : Cell) (p : Processed) → form_of l (form_of (processed.Cell e) p) ≡ form_of (processed.Cell e) p
form-form l e processed.None = refl
form-form l e (processed.Cell c) = refl
form-form l e (processed.Value n) = refl

formed-form : (l : Processed) (e : Cell) (q : Result Processed Full) → formed l (formed (processed.Cell e) q) ≡ formed (processed.Cell e) q
formed-form l e (Ok p) = ap Ok (form-form l e p)
formed-form l e (Err u) = refl

-- slots never become fewer
abbrev again : ℕ → Rewriter → Cell → rewriting.Result
again k = process k find_new_cell

abbrev adder : ℕ → Rewriter → Cell → rewriting.Added
adder k r c = rewriting.enter c (process k find_new_cell r c)

abbrev slots_of : Rewriter → ℕ
slots_of r = length r.design.cells

extends-slots : (r : Rewriter) (y : rewriting.Result) → ExtendsResult find_new_cell r y → slots_of r ≤ slots_after y
extends-slots r (rewriting.none r') h = (extends-grows 0 r r' h).slots
extends-slots r (rewriting.cell c r') h = (extends-grows 0 r r' h).slots
extends-slots r (rewriting.value n r') h = (extends-grows 0 r r' h).slots
extends-slots r (rewriting.spent r') h = (extends-grows 0 r r' h).slots

again-slots : (k : ℕ) (r : Rewriter) (c : Cell) → slots_of r ≤ slots_after (again k r c)
again-slots k r c = extends-slots r (again k r c) (process-extends find_new_cell r k c)

entered-slots : (r : Rewriter) (c : Cell) (n : Net) → slots_of (entered r c n) ≡ slots_of r + 1
unfolding entered
entered-slots r c n = length-append r.design.cells (c ∷ [])

enter-slots : (c : Cell) (y : rewriting.Result) → slots_after y ≤ slots_added (rewriting.enter c y)
enter-slots c (rewriting.none r) = omega (arith, entered-slots r c (net_in (slots_of r)))
enter-slots c (rewriting.cell d r) = omega (arith, entered-slots r d (net_in (slots_of r)))
enter-slots c (rewriting.value n r) = omega arith
enter-slots c (rewriting.spent r) = omega arith

add_not-slots : (k : ℕ) (y : rewriting.Added) → slots_added y ≤ slots_after (rewriting.add_not (adder k) y)
add_not-slots k (rewriting.at n r) =
    omega (arith, value-slots (adder k r (Not n)), again-slots k r (Not n), enter-slots (Not n) (again k r (Not n)))
add_not-slots k (rewriting.unadded r) = omega arith

go_on-slots : (k : ℕ) (c : Cell) (y : rewriting.Result) → slots_after y ≤ slots_after (rewriting.go_on (again k) c y)
go_on-slots k c (rewriting.none r) = go (seek r.cache c)
  where
    go : (f : Option Net) → slots_of r ≤ slots_after (rewriting.asked r f)
    go (Some n) = omega arith
    go None = omega arith
go_on-slots k c (rewriting.cell d r) = omega (arith, replacing-slots d (again k r d), again-slots k r d)
go_on-slots k c (rewriting.value n r) = omega arith
go_on-slots k c (rewriting.spent r) = omega arith

-- the slots of the words are few, so each has a net of its own
held-slots : (x : Extent) (ws : List ℕ) → slots_of (rewriter_in x ws) ≡ x.slots
unfolding rewriter_in
held-slots x ws = cells-length x.slots ws

pub held-few : (x : Extent) (ws : List ℕ) → Held x ws → FewSlots (rewriter_in x ws)
held-few x ws h = omega (arith, h.fit, held-slots x ws)

not-weight : (ts : List ℕ) (n : Net) → weight ts (Not n) ≡ 0
unfolding weight
not-weight ts n = refl

-- what an outcome's cell weighs after the outcome is carried out: one that goes round again weighs less
abbrev LighterPass : ℕ → rewriting.Result → Type 0
LighterPass m (rewriting.none r) = Unit {0}
LighterPass m (rewriting.cell d r) = weight r.stamps d < m
LighterPass m (rewriting.value n r) = Unit {0}
LighterPass m (rewriting.spent r) = Unit {0}

value-lighter : (m : ℕ) (y : rewriting.Added) → LighterPass m (rewriting.as_value y)
value-lighter m (rewriting.at n r) = tt
value-lighter m (rewriting.unadded r) = tt

not-lighter : (m : ℕ) (y : rewriting.Added) → 0 < m → LighterPass m (rewriting.as_not y)
unfolding weight
not-lighter m (rewriting.at n r) h = h
not-lighter m (rewriting.unadded r) h = tt

both-lighter : (m k : ℕ) (y : rewriting.Added) → LighterPass m (rewriting.add_not (adder k) y)
both-lighter m k (rewriting.at n r) = value-lighter m (adder k r (Not n))
both-lighter m k (rewriting.unadded r) = tt

pass-lighter : (k m : ℕ) (r : Rewriter) (o : Outcome) → Lighter r.stamps m o → LighterPass m (rewriting.perform (adder k) r o)
pass-lighter k m r None l = tt
pass-lighter k m r (Some (Value n)) l = tt
pass-lighter k m r (Some (Form c)) l = l
pass-lighter k m r (Some (Add c)) l = value-lighter m (adder k r c)
pass-lighter k m r (Some (NotOf c)) l = not-lighter m (adder k r c) (omega arith)
pass-lighter k m r (Some (AddNotOf c)) l = both-lighter m k (adder k r c)

-- what the definition keeps of a run's state, and so what the words are ready for
module _ (cs : List Cell) (before : List ℕ) where
  abbrev KeepsPass : Cell → rewriting.Result → Type 0
  KeepsPass = KeptPass find_new_cell (P cs before) (Q cs before) (N cs before) (keeping cs before)

  abbrev KeepsAdded : rewriting.Added → Type 0
  KeepsAdded = KeptAdded find_new_cell (P cs before) (Q cs before) (N cs before) (keeping cs before)

  again-keeps : (k : ℕ) (r : Rewriter) (c : Cell) → P cs before r → Q cs before r c
      → KeptResult find_new_cell (P cs before) (Q cs before) (N cs before) (keeping cs before) c (again k r c)
  again-keeps = process-kept find_new_cell (P cs before) (Q cs before) (N cs before) (keeping cs before)

  adder-keeps : (k : ℕ) (r : Rewriter) (c : Cell) → P cs before r → Q cs before r c → KeepsAdded (adder k r c)
  adder-keeps k r c p q = enter-kept find_new_cell (P cs before) (Q cs before) (N cs before) (keeping cs before) c (again k r c) (again-keeps k r c p q)

  pass-keeps : (k : ℕ) (r : Rewriter) (c : Cell) → P cs before r → Q cs before r c → KeepsPass c (rewriting.perform (adder k) r (rules find_new_cell r c))
  pass-keeps k = pass_kept find_new_cell (P cs before) (Q cs before) (N cs before) (keeping cs before) (again k) (again-keeps k)

  ready-in : (x : Extent) (ws : List ℕ) (c : Cell) → Held x ws → P cs before (rewriter_in x ws) → Q cs before (rewriter_in x ws) c → Ready x ws c
  ready-in x ws c h p q =
      let few : FewSlots (rewriter_in x ws) = held-few x ws h in
      record { running = record { held = h; ticket = cs; before = before; state = p few }; gate = q few }

-- adding a cell
module _ (x x' : Extent) (ws ws' : List ℕ) (c : Cell) (p : Processed) (s : Processes x x' ws ws' c (Ok p)) where
  pub processed-held : Held x' ws'
  processed-held = (s.said (suc (weight (rewriter_in x ws).stamps c)) (omega arith)).1.held

  -- a cell that is left is entered
  entry-answers : (x'' : Extent) (ws'' : List ℕ) (d : Cell) (a : Result Net Full) (z : rewriting.Added) → Left x x' ws ws' → Enters x' x'' ws' ws'' d a
      → z ≡ rewriting.entry (rewriter_in x' ws') d → AnswersAdd x x'' ws ws'' a z
  entry-answers x'' ws'' d (Ok n) z l h e =
      let m : net_in (slots_of (rewriter_in x' ws')) ≡ n = ap net_in (held-slots x' ws') ∙ sym h.at in (
        e ∙ ap (λ n. rewriting.at n (entered (rewriter_in x' ws') d n)) m ∙ ap (rewriting.at n) (sym h.now),
        left-on x x' x'' ws ws' ws'' l (record { held = h.held; onward = h.onward; changes = h.changes }),
      )
  entry-answers x'' ws'' d (Err u) z l h e =
      let m : slots_added z ≡ x'.slots + 1 =
      ap slots_added e ∙ entered-slots (rewriter_in x' ws') d (net_in (slots_of (rewriter_in x' ws'))) ∙ ap (λ k. k + 1) (held-slots x' ws') in
      (omega (arith, h.0, m), within-then 0 keys_from ws ws' ws'' (left-within x x' ws ws' l) h.1)

  answered : (u : Processed) → p ≡ u → (k : ℕ) → weight (rewriter_in x ws).stamps c < k → Answers x x' ws ws' (Ok u) (again k (rewriter_in x ws) c)
  answered u e k w = subst (λ u. Answers x x' ws ws' (Ok u) (again k (rewriter_in x ws) c)) e (s.said k w)

  pub add_none : p ≡ processed.None → (x'' : Extent) (ws'' : List ℕ) (a : Result Net Full) → Enters x' x'' ws' ws'' c a → Adds x x'' ws ws'' c a
  add_none e x'' ws'' a h = record {
    said = λ k w.
        let q : Answers x x' ws ws' (Ok processed.None) (again k (rewriter_in x ws) c) = answered processed.None e k w in
        entry-answers x'' ws'' c a (adder k (rewriter_in x ws) c) q.1 h (ap (rewriting.enter c) q.0);
  }

  pub add-cell : (d : Cell) → p ≡ processed.Cell d → (x'' : Extent) (ws'' : List ℕ) (a : Result Net Full) → Enters x' x'' ws' ws'' d a → Adds x x'' ws ws'' c a
  add-cell d e x'' ws'' a h = record {
    said = λ k w.
        let q : Answers x x' ws ws' (Ok (processed.Cell d)) (again k (rewriter_in x ws) c) = answered (processed.Cell d) e k w in
        entry-answers x'' ws'' d a (adder k (rewriter_in x ws) c) q.1 h (ap (rewriting.enter c) q.0);
  }

  pub add-value : (n : Net) → p ≡ processed.Value n → Adds x x' ws ws' c (Ok n)
  add-value n e = record {
    said = λ k w.
        let q : Answers x x' ws ws' (Ok (processed.Value n)) (again k (rewriter_in x ws) c) = answered (processed.Value n) e k w in
        (ap (rewriting.enter c) q.0, q.1);
  }

pub add-full : (x x' : Extent) (ws ws' : List ℕ) (c : Cell) (u : Full) → Processes x x' ws ws' c (Err u) → (a : Result Net Full) → IsErr a → Adds x x' ws ws' c a
add-full x x' ws ws' c u s a f = no_slot (Adds x x' ws ws' c) (λ v. record {
  said = λ k w.
      let q : Answers x x' ws ws' (Err u) (again k (rewriter_in x ws) c) = s.said k w in
      (omega (arith, q.0, enter-slots c (again k (rewriter_in x ws) c)), q.1);
}) a f

-- what the rules give for a cell
module _ (x : Extent) (ws : List ℕ) (c : Cell) (g : Ready x ws c) where
  abbrev r : Rewriter
  r = rewriter_in x ws

  abbrev ts : List ℕ
  ts = (rewriter_in x ws).stamps

  abbrev cs : List Cell
  cs = g.running.ticket

  abbrev S : Net → Type 0
  S = Settled cs ts

  lighter : Lighter ts (weight ts c) (ruled x ws c)
  lighter = rules-fall find_new_cell r (stamped cs r g.running.state.inv) c

  -- a cell that `SimpleAigOpt` adds
  module _ (o : Outcome) (e : opted x ws c ≡ o) (d : Cell) where
    added-gate : (GoodOutcome (GateOf S) S o → GateOf S d) → GateOf S d
    added-gate f =
        let k : S UNDEF × S ZERO × S ONE = settled-constants cs ts in
        f (subst (GoodOutcome (GateOf S) S) e (simple-reads S k.0 k.1 k.2 (find_cell find_new_cell r) (found-settled cs r g.running.state.inv) c g.gate))

    added-lighter : (Lighter ts (weight ts c) o → weight ts d < weight ts c) → weight ts d < weight ts c
    added-lighter f = f (subst (Lighter ts (weight ts c)) e (simple-falls find_new_cell r (stamped cs r g.running.state.inv) c))

-- an outcome carried out
module _ (x x' : Extent) (ws ws' : List ℕ) (o u : Outcome) (e : o ≡ u) where
  performs-by : (q : Result Processed Full)
      → ((k : ℕ) → Lighter (rewriter_in x ws).stamps k u → Answers x x' ws ws' q (rewriting.perform (adder k) (rewriter_in x ws) u)) → Performs x x' ws ws' o q
  performs-by q h = record {
    said = λ k l.
        subst (λ o. Answers x x' ws ws' q (rewriting.perform (adder k) (rewriter_in x ws) o)) (sym e) (h k (subst (Lighter (rewriter_in x ws).stamps k) e l));
  }

  performs-same : (q : Result Processed Full) → Performs x x' ws ws' u q → Performs x x' ws ws' o q
  performs-same q s = performs-by q s.said

-- without a cell added
left-same : (x : Extent) (ws : List ℕ) → Held x ws → Left x x ws ws
left-same x ws h = record {
  held = h;
  onward = record { tickets = refl; slots = omega arith; clock = refl };
  changes = record { bits = λ i l. refl; between = λ i l m. refl; after = λ i l. refl; same = refl };
}

unadded-answers : (x : Extent) (ws : List ℕ) → Held x ws → (k : ℕ) (o : Outcome) → adds o ≡ false
    → Answers x x ws ws (Ok (unadded_of o)) (rewriting.perform (adder k) (rewriter_in x ws) o)
unadded-answers x ws h k None e = (refl, left-same x ws h)
unadded-answers x ws h k (Some (Value n)) e = (refl, left-same x ws h)
unadded-answers x ws h k (Some (Form c)) e = (refl, left-same x ws h)
unadded-answers x ws h k (Some (Add c)) e = absurd (true≢false e)
unadded-answers x ws h k (Some (NotOf c)) e = absurd (true≢false e)
unadded-answers x ws h k (Some (AddNotOf c)) e = absurd (true≢false e)

performs-unadded : (x : Extent) (ws : List ℕ) (c : Cell) → Ready x ws c → (o u : Outcome) → o ≡ u → adds u ≡ false → Performs x x ws ws o (Ok (unadded_of u))
performs-unadded x ws c g o u e a = performs-by x x ws ws o u e (Ok (unadded_of u)) (λ k l. unadded-answers x ws g.running.held k u a)

-- what the tests of an arm decided
pub decided : (o p : Outcome) (k l : Change) → o ≡ p → o ≡ Some k → k ≡ l → p ≡ Some l
decided o p k l a e f = sym a ∙ e ∙ ap Some f

module _ (x : Extent) (ws : List ℕ) (c : Cell) (g : Ready x ws c) where
  -- with a cell added
  module _ (d : Cell) where
    -- its net
    module _ (e : opted x ws c ≡ Some (Add d)) where
      pub add-ready : Ready x ws d
      add-ready = record { running = g.running; gate = added-gate x ws c g (Some (Add d)) e d (λ h. h) }

      pub add-falls : (t : ℕ) → 8 * weight (rewriter_in x ws).stamps c ≡ t → 8 * weight (rewriter_in x ws).stamps d + 4 < t
      add-falls t m = omega (arith, added-lighter x ws c g (Some (Add d)) e d (λ h. h))

      module _ (x' : Extent) (ws' : List ℕ) where
        pub performs-add : (n : Net) → Adds x x' ws ws' d (Ok n) → Performs x x' ws ws' (opted x ws c) (Ok (processed.Value n))
        performs-add n s = performs-by x x' ws ws' (opted x ws c) (Some (Add d)) e (Ok (processed.Value n)) (λ k l.
            let h : AnswersAdd x x' ws ws' (Ok n) (adder k (rewriter_in x ws) d) = s.said k l in
            (ap rewriting.as_value h.0, h.1))

        pub performs-add-full : (u : Full) (q : Result Processed Full) → Adds x x' ws ws' d (Err u) → IsErr q → Performs x x' ws ws' (opted x ws c) q
        performs-add-full u q s f = no_slot (Performs x x' ws ws' (opted x ws c)) (λ v. performs-by x x' ws ws' (opted x ws c) (Some (Add d)) e (Err v) (λ k l.
            let h : AnswersAdd x x' ws ws' (Err u) (adder k (rewriter_in x ws) d) = s.said k l in
            (omega (arith, h.0, value-slots (adder k (rewriter_in x ws) d)), h.1))) q f

    -- its inverse
    module _ (e : opted x ws c ≡ Some (NotOf d)) where
      pub not-ready : Ready x ws d
      not-ready = record { running = g.running; gate = added-gate x ws c g (Some (NotOf d)) e d (λ h. h) }

      pub not-falls : (t : ℕ) → 8 * weight (rewriter_in x ws).stamps c ≡ t → 8 * weight (rewriter_in x ws).stamps d + 4 < t
      not-falls t m = omega (arith, added-lighter x ws c g (Some (NotOf d)) e d (λ h. h))

      module _ (x' : Extent) (ws' : List ℕ) where
        pub performs-not : (n : Net) → Adds x x' ws ws' d (Ok n) → Performs x x' ws ws' (opted x ws c) (Ok (processed.Cell (Not n)))
        performs-not n s = performs-by x x' ws ws' (opted x ws c) (Some (NotOf d)) e (Ok (processed.Cell (Not n))) (λ k l.
            let h : AnswersAdd x x' ws ws' (Ok n) (adder k (rewriter_in x ws) d) = s.said k l in
            (ap rewriting.as_not h.0, h.1))

    -- the net of its inverse
    module _ (e : opted x ws c ≡ Some (AddNotOf d)) where
      both-gate : GateOf (Settled g.running.ticket (rewriter_in x ws).stamps) d
      both-gate = added-gate x ws c g (Some (AddNotOf d)) e d (λ h. h)

      pub both-ready : Ready x ws d
      both-ready = record { running = g.running; gate = both-gate }

      both-lighter-than : weight (rewriter_in x ws).stamps d < weight (rewriter_in x ws).stamps c
      both-lighter-than = added-lighter x ws c g (Some (AddNotOf d)) e d (λ h. h)

      pub both-falls : (t : ℕ) → 8 * weight (rewriter_in x ws).stamps c ≡ t → 8 * weight (rewriter_in x ws).stamps d + 4 < t
      both-falls t m = omega (arith, both-lighter-than)

      module _ (y : Extent) (ws' : List ℕ) where
        pub both-performs-full : (u : Full) (q : Result Processed Full) → Adds x y ws ws' d (Err u) → IsErr q → Performs x y ws ws' (opted x ws c) q
        both-performs-full u q s f = no_slot (Performs x y ws ws' (opted x ws c)) (λ v. performs-by x y ws ws' (opted x ws c) (Some (AddNotOf d)) e (Err v) (λ k l.
            let h : AnswersAdd x y ws ws' (Err u) (adder k (rewriter_in x ws) d) = s.said k l in
            (omega (arith, h.0, add_not-slots k (adder k (rewriter_in x ws) d)), h.1))) q f

        module _ (n : Net) (s : Adds x y ws ws' d (Ok n)) where
          pub inverse-ready : Ready y ws' (Not n)
          inverse-ready =
              let cs : List Cell = g.running.ticket in
              let b : List ℕ = g.running.before in
              let k : ℕ = suc (weight (rewriter_in x ws).stamps d) in
              let z : AnswersAdd x y ws ws' (Ok n) (adder k (rewriter_in x ws) d) = s.said k (omega arith) in
              let h : KeepsAdded cs b (rewriting.at n (rewriter_in y ws')) =
              subst (KeepsAdded cs b) z.0 (adder-keeps cs b k (rewriter_in x ws) d (λ few. g.running.state) (λ few. both-gate)) in
              ready-in cs b y ws' (Not n) z.1.held h.0 ((keeping cs b).inverse (rewriter_in y ws') n h.0 h.1)

          pub inverse-falls : (t : ℕ) → 8 * weight (rewriter_in x ws).stamps c ≡ t → 8 * weight (rewriter_in y ws').stamps (Not n) + 4 < t
          inverse-falls t m = omega (arith, both-lighter-than, not-weight (rewriter_in y ws').stamps n)

          module _ (z : Extent) (ws'' : List ℕ) where
            inverse-by : (a : Result Net Full) (q : Result Processed Full) → Adds y z ws' ws'' (Not n) a
                → ((v : rewriting.Added) → AnswersAdd y z ws' ws'' a v → Answers y z ws' ws'' q (rewriting.as_value v)) → Performs x z ws ws'' (opted x ws c) q
            inverse-by a q i f = performs-by x z ws ws'' (opted x ws c) (Some (AddNotOf d)) e q (λ k l.
                let h : AnswersAdd x y ws ws' (Ok n) (adder k (rewriter_in x ws) d) = s.said k l in
                subst (λ w. Answers x z ws ws'' q (rewriting.add_not (adder k) w)) (sym h.0)
                (answers-on x y z ws ws' ws'' h.1 q (rewriting.as_value (adder k (rewriter_in y ws') (Not n)))
                (f (adder k (rewriter_in y ws') (Not n)) (i.said k (omega (arith, l, not-weight (rewriter_in y ws').stamps n))))))

            pub performs-both : (m : Net) → Adds y z ws' ws'' (Not n) (Ok m) → Performs x z ws ws'' (opted x ws c) (Ok (processed.Value m))
            performs-both m i = inverse-by (Ok m) (Ok (processed.Value m)) i (λ w h. (ap rewriting.as_value h.0, h.1))

            pub inverse-performs-full : (u : Full) (q : Result Processed Full) → Adds y z ws' ws'' (Not n) (Err u) → IsErr q → Performs x z ws ws'' (opted x ws c) q
            inverse-performs-full u q i f =
                no_slot (Performs x z ws ws'' (opted x ws c)) (λ v. inverse-by (Err u) (Err v) i (λ w h. (omega (arith, h.0, value-slots w), h.1))) q f

-- the splits
pub and_is : (x : Extent) (ws : List ℕ) (a b : Net) → opted x ws (And a b) ≡ Some (Add (Aig (Pos a) (Pos b)))
unfolding simple_aig_opt
and_is x ws a b = refl

pub or_is : (x : Extent) (ws : List ℕ) (a b : Net) → opted x ws (Or a b) ≡ Some (AddNotOf (Aig (Neg a) (Neg b)))
unfolding simple_aig_opt
or_is x ws a b = refl

-- `SimpleAigOpt` by the kind of the cell
module _ (x : Extent) (ws : List ℕ) (c : Cell) where
  pub not-performs : (a : Net) (p : Processed) → Ready x ws c → c ≡ Not a → p ≡ unadded_of (opted x ws (Not a)) → Performs x x ws ws (opted x ws c) (Ok p)
  unfolding simple_aig_opt
  not-performs a p g e f =
      let src : Source = find_cell find_new_cell (rewriter_in x ws) a in
      subst (λ p. Performs x x ws ws (opted x ws c) (Ok p)) (sym f)
      (performs-unadded x ws c g (opted x ws c) (opted x ws (Not a)) (ap (opted x ws) e) (not-adds src a (not_rule src a) refl))

  other-none : (d : Cell) → ((a : Net) → d ≡ Not a → ⊥) → ((a b : Net) → d ≡ And a b → ⊥) → ((a b : Net) → d ≡ Or a b → ⊥)
      → ((a b : Net) → d ≡ Xor a b → ⊥) → ((p q : ControlNet) → d ≡ Aig p q → ⊥) → opted x ws d ≡ None
  unfolding simple_aig_opt
  other-none (Input l) n a o e i = refl
  other-none (Output b l) n a o e i = refl
  other-none (Buf b) n a o e i = refl
  other-none (Mux s b d) n a o e i = refl
  other-none (Not b) n a o e i = absurd (n b refl)
  other-none (And b d) n a o e i = absurd (a b d refl)
  other-none (Or b d) n a o e i = absurd (o b d refl)
  other-none (Xor b d) n a o e i = absurd (e b d refl)
  other-none (Aig p q) n a o e i = absurd (i p q refl)

  pub other-performs : Ready x ws c → ((a : Net) → c ≡ Not a → ⊥) → ((a b : Net) → c ≡ And a b → ⊥) → ((a b : Net) → c ≡ Or a b → ⊥)
      → ((a b : Net) → c ≡ Xor a b → ⊥) → ((p q : ControlNet) → c ≡ Aig p q → ⊥) → Performs x x ws ws (opted x ws c) (Ok processed.None)
  other-performs g n a o e i = performs-unadded x ws c g (opted x ws c) None (other-none c n a o e i) refl

-- all rules: `Normalize` decides, or it gives nothing
module _ (x : Extent) (ws : List ℕ) (c : Cell) (o : Outcome) (e : o ≡ normalize c) where
  ruled-as : (u : Outcome) → o ≡ u → ruled x ws c ≡ (u or_else opted x ws c)
  unfolding rules
  ruled-as u f = ap (λ n. n or_else opted x ws c) (sym e ∙ f)

  pub ruled-value : (n : Net) → Ready x ws c → o ≡ Some (Value n) → Performs x x ws ws (ruled x ws c) (Ok (processed.Value n))
  unfolding first_change
  ruled-value n g f = performs-unadded x ws c g (ruled x ws c) (Some (Value n)) (ruled-as (Some (Value n)) f) refl

  pub ruled-form : (d : Cell) → Ready x ws c → o ≡ Some (Form d) → Performs x x ws ws (ruled x ws c) (Ok (processed.Cell d))
  unfolding first_change
  ruled-form d g f = performs-unadded x ws c g (ruled x ws c) (Some (Form d)) (ruled-as (Some (Form d)) f) refl

  pub ruled-opted : (x' : Extent) (ws' : List ℕ) (q : Result Processed Full) → o ≡ None → Performs x x' ws ws' (opted x ws c) q
      → Performs x x' ws ws' (ruled x ws c) q
  ruled-opted x' ws' q f s = performs-same x x' ws ws' (ruled x ws c) (opted x ws c) (ruled-as None f ∙ none-or_else (opted x ws c)) q s

-- one pass over the rules
module _ (x x' : Extent) (ws ws' : List ℕ) (c : Cell) (g : Ready x ws c) where
  abbrev w : ℕ
  w = weight (rewriter_in x ws).stamps c

  abbrev performed : ℕ → rewriting.Result
  performed k = rewriting.perform (adder k) (rewriter_in x ws) (ruled x ws c)

  -- with each number of steps
  turn_by : (x'' : Extent) (ws'' : List ℕ) (q : Result Processed Full) → ((k : ℕ) → w ≤ k → Answers x x'' ws ws'' q (rewriting.go_on (again k) c (performed k)))
      → Processes x x'' ws ws'' c q
  unfolding process
  turn_by x'' ws'' q f = record { said = go }
    where
      go : (k : ℕ) → w < k → Answers x x'' ws ws'' q (process k find_new_cell (rewriter_in x ws) c)
      go zero h = absurd (omega arith)
      go (suc k) h = f k (omega arith)

  pass-said : (q : Result Processed Full) → Performs x x' ws ws' (ruled x ws c) q → (k : ℕ) → w ≤ k → Answers x x' ws ws' q (performed k)
  pass-said q s k h = s.said k (lighter-more (rewriter_in x ws).stamps w k (ruled x ws c) h (lighter x ws c g))

  process-full : (u : Full) → Performs x x' ws ws' (ruled x ws c) (Err u) → Processes x x' ws ws' c (Err u)
  process-full u s = turn_by x' ws' (Err u) (λ k l.
      let z : Answers x x' ws ws' (Err u) (performed k) = pass-said (Err u) s k l in
      (omega (arith, z.0, go_on-slots k c (performed k)), z.1))

  module _ (p : Processed) (s : Performs x x' ws ws' (ruled x ws c) (Ok p)) where
    passed : (u : Processed) → p ≡ u → (k : ℕ) → w ≤ k → Answers x x' ws ws' (Ok u) (performed k)
    passed u e k h = subst (λ u. Answers x x' ws ws' (Ok u) (performed k)) e (pass-said (Ok p) s k h)

    pass-held : Held x' ws'
    pass-held = (pass-said (Ok p) s w (omega arith)).1.held

    -- the cache is asked
    process-asked : p ≡ processed.None → (f : Option Net) → f ≡ seek (rewriter_in x' ws').cache c → Processes x x' ws ws' c (Ok (found_of f))
    process-asked e f h = turn_by x' ws' (Ok (found_of f)) (λ k l.
        let z : Answers x x' ws ws' (Ok processed.None) (performed k) = passed processed.None e k l in
        (ap (rewriting.go_on (again k) c) z.0 ∙ ap (rewriting.asked (rewriter_in x' ws')) (sym h) ∙ sym (found-result f (rewriter_in x' ws')), z.1))

    process-value : (n : Net) → p ≡ processed.Value n → Processes x x' ws ws' c (Ok (processed.Value n))
    process-value n e = turn_by x' ws' (Ok (processed.Value n)) (λ k l.
        let z : Answers x x' ws ws' (Ok (processed.Value n)) (performed k) = passed (processed.Value n) e k l in
        (ap (rewriting.go_on (again k) c) z.0, z.1))

    -- another form
    module _ (d : Cell) (e : p ≡ processed.Cell d) where
      form-lighter : weight (rewriter_in x' ws').stamps d < w
      form-lighter =
          subst (LighterPass w) (passed (processed.Cell d) e w (omega arith)).0 (pass-lighter w w (rewriter_in x ws) (ruled x ws c) (lighter x ws c g))

      form-ready : Ready x' ws' d
      form-ready =
          let cs : List Cell = g.running.ticket in
          let b : List ℕ = g.running.before in
          let z : Answers x x' ws ws' (Ok (processed.Cell d)) (performed w) = passed (processed.Cell d) e w (omega arith) in
          let h : KeepsPass cs b c (rewriting.cell d (rewriter_in x' ws')) =
          subst (KeepsPass cs b c) z.0 (pass-keeps cs b w (rewriter_in x ws) c (λ few. g.running.state) (λ few. g.gate)) in
          ready-in cs b x' ws' d z.1.held h.0 h.1

      process-form : (x'' : Extent) (ws'' : List ℕ) (t : Result Processed Full) → Processes x' x'' ws' ws'' d t → Processes x x'' ws ws'' c (formed (processed.Cell d) t)
      process-form x'' ws'' t a = turn_by x'' ws'' (formed (processed.Cell d) t) (λ k l.
          let z : Answers x x' ws ws' (Ok (processed.Cell d)) (performed k) = passed (processed.Cell d) e k l in
          subst (λ v. Answers x x'' ws ws'' (formed (processed.Cell d) t) (rewriting.go_on (again k) c v)) (sym z.0)
          (answers-on x x' x'' ws ws' ws'' z.1 (formed (processed.Cell d) t) (rewriting.replacing d (again k (rewriter_in x' ws') d))
          (replacing-answers x' x'' ws' ws'' d t (again k (rewriter_in x' ws') d) (a.said k (omega (arith, l, form-lighter))))))

-- the loop over the forms of c: what is left of the form d at hand, or else l, is what is left of c
pub record Forms (x : Extent) (ws : List ℕ) (c : Cell) (y : Extent) (ws' : List ℕ) (d : Cell) (l : Processed) : Type 0 where
  pub ready : Ready y ws' d
  pub lighter : weight (rewriter_in y ws').stamps d ≤ weight (rewriter_in x ws).stamps c
  pub on : (z : Extent) (ws'' : List ℕ) (q : Result Processed Full) → Processes y z ws' ws'' d q → Processes x z ws ws'' c (formed l q)
  pub same : length ws' ≡ length ws

pub forms-begin : (x : Extent) (ws : List ℕ) (c : Cell) → Ready x ws c → Forms x ws c x ws c processed.None
forms-begin x ws c g = record { ready = g; lighter = omega arith; on = λ z ws'' q h. subst (Processes x z ws ws'' c) (sym (formed-none q)) h; same = refl }

module _ (x : Extent) (ws : List ℕ) (c : Cell) (y : Extent) (ws' : List ℕ) (d : Cell) (l : Processed) (v : Forms x ws c y ws' d l) where
  pub forms-ready : Ready y ws' d
  forms-ready = v.ready

  pub forms-fall : (t : ℕ) → 8 * weight (rewriter_in x ws).stamps c + 3 ≡ t → 8 * weight (rewriter_in y ws').stamps d + 2 < t
  forms-fall t m = omega (arith, v.lighter)

  module _ (z : Extent) (ws'' : List ℕ) where
    pub forms-full : (u : Full) (q : Result Processed Full) → Performs y z ws' ws'' (ruled y ws' d) (Err u) → IsErr q → Processes x z ws ws'' c q
    forms-full u q s f =
        no_slot (Processes x z ws ws'' c) (λ e. v.on z ws'' (Err e) (process-full y z ws' ws'' d v.ready e (record { said = s.said }))) q f

    module _ (p : Processed) (s : Performs y z ws' ws'' (ruled y ws' d) (Ok p)) where
      pub forms-held : Held z ws''
      forms-held = pass-held y z ws' ws'' d v.ready p s

      module _ (e : p ≡ processed.None) (f : Option Net) (h : f ≡ seek (rewriter_in z ws'').cache d) where
        pub forms-asked : Processes x z ws ws'' c (Ok (form_of l (found_of f)))
        forms-asked = v.on z ws'' (Ok (found_of f)) (process-asked y z ws' ws'' d v.ready p s e f h)

        pub forms-found : (n : Net) → f ≡ Some n → Processes x z ws ws'' c (Ok (processed.Value n))
        forms-found n i = subst (λ f. Processes x z ws ws'' c (Ok (form_of l (found_of f)))) i forms-asked

        pub forms-new : f ≡ None → Processes x z ws ws'' c (Ok l)
        forms-new i = subst (λ f. Processes x z ws ws'' c (Ok (form_of l (found_of f)))) i forms-asked

      pub forms-value : (n : Net) → p ≡ processed.Value n → Processes x z ws ws'' c (Ok (processed.Value n))
      forms-value n e = v.on z ws'' (Ok (processed.Value n)) (process-value y z ws' ws'' d v.ready p s n e)

      -- a pass that leaves another form
      module _ (f : Cell) (e : p ≡ processed.Cell f) where
        pub forms-less : weight (rewriter_in z ws'').stamps f < weight (rewriter_in y ws').stamps d
        forms-less = form-lighter y z ws' ws'' d v.ready p s f e

        pub forms-on : length ws'' ≡ length ws' → Forms x ws c z ws'' f (processed.Cell f)
        forms-on i = record {
          ready = form-ready y z ws' ws'' d v.ready p s f e;
          lighter = omega (arith, v.lighter, forms-less);
          on = λ x'' ws''' q h.
              subst (Processes x x'' ws ws''' c) (formed-form l f q)
              (v.on x'' ws''' (formed (processed.Cell f) q) (process-form y z ws' ws'' d v.ready p s f e x'' ws''' q h));
          same = i ∙ v.same;
        }

-- on Full the answer says nothing of the extent
pub process_back : (x x' y : Extent) (ws ws' : List ℕ) (c : Cell) (e : Full) → Processes x x' ws ws' c (Err e) → Processes x y ws ws' c (Err e)
process_back x x' y ws ws' c e s = record { said = s.said }

pub add_back : (x x' y : Extent) (ws ws' : List ℕ) (c : Cell) (e : Full) → Adds x x' ws ws' c (Err e) → Adds x y ws ws' c (Err e)
add_back x x' y ws ws' c e s = record { said = s.said }
