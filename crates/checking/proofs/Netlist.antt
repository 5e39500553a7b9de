-- From the tests of single records to the search for loops, and its answer as stages. Assumes nothing.
use mathlib.Core.Path.{◌≡◌, refl, sym, ap, ◌∙◌, subst}
use mathlib.Core.Bool.{Bool, true, false, cond, not, ◌&&◌}
use mathlib.Core.List.{List, [], ◌∷◌}
use Prim.Native.Nat.{ℕ, ◌/◌, ◌%◌, ◌<◌, ◌≤◌}
use native.Mathlib.Omega.{arith}
use lib.Dec.{ltb}
use lib.ListN.{length, drop}
use borrow.Author.Tests.{ltb-true, lt-ltb, le-ltb, eq-eqb, ne_eqb}
use Rattle.std.specs.Prelude.{Some, None, Ok, Err}
use Rattle.basics.proofs.Truth.{neither}
use Rattle.value.specs.declared.Slot.{Slot}
use Rattle.value.specs.declared.Driver.{Driver}
use Rattle.value.specs.declared.Driver.TheVariants as driven
use Rattle.value.specs.Value.{net_at, driver}
use Rattle.cell.specs.declared.Record.{Record}
use Rattle.cell.specs.Operands.{field_of, is_operand, is_comb_edge, edge_of, edge_at}
use Rattle.cell.specs.Records.{records_of, record_in}
use Rattle.cell.proofs.Lists.{records-length}
use Rattle.std.proofs.Common.{Option, Some, None}
use Rattle.loops.specs.Reach.{on_loop}
use Rattle.loops.specs.inner.Search.{Searchable, Finds}
use Rattle.loops.proofs.Edges.{edge-below}
use Rattle.loops.proofs.Lowest.{IsLowest, lowest-on-loop}
use Rattle.refusals.specs.declared.Refusal.{Refusal}
use Rattle.refusals.specs.declared.Refusal.TheVariants.{PartialRecord, TooManyRecords, Loop}
use Rattle.refusals.specs.Refusals.{first_of, slot_by_slot, Verdict}
use Rattle.checking.specs.Checking.{undriven, undriven_field, loop_stage, work_stage, length_stage, size_stage, loop_stages, size_group, record_group, loop_group, netlist_stages, check_stages}
use Rattle.refusals.proofs.Stages.{first-refuses, first_passes, one-exactly, slots-exactly, slots-refused}
use Rattle.checking.proofs.Groups.{operand-exactly, loop-exactly, records-exactly, loops-exactly, netlist-exactly, records-decide, records-passed, sizes-decide, sizes-passed}

not-none : (x : Slot) → None ≡ Some x → ⊥
not-none x e = let z : ◌≡◌ {A = ℕ} 0 1 = cc in absurd (omega arith)

module _ (rs : List Record) (r : Record) (f : ℕ) (x : Slot) where
  -- the slot of an edge whose operand is not undriven has a record
  tight : (b : Bool) (d : Driver) → cond b (edge_of d) None ≡ Some x → b && undriven rs d ≡ false → x.0 < length rs
  tight false d e g = absurd (not-none x e)
  tight true (driven.Const t) e g = absurd (not-none x e)
  tight true (driven.Cell s) e g = go (ltb s.0 (length rs)) refl
    where
      go : (b : Bool) → ltb s.0 (length rs) ≡ b → x.0 < length rs
      go true h = let q : s ≡ x = cc in subst (λ (y : Slot). y.0 < length rs) q (ltb-true _ _ h)
      go false h =
          let z : not (ltb s.0 (length rs)) ≡ false = (neither (not (ltb s.0 (length rs))) _ g).0 in
          let w : ◌≡◌ {A = ℕ} 0 1 = cc in absurd (omega arith)

  field-inside : undriven_field rs r f ≡ false → edge_at r f ≡ Some x → x.0 < length rs
  unfolding undriven_field edge_at is_comb_edge
  field-inside g e = tight (is_operand r f) (driver (net_at (field_of r f))) e g

-- where the records pass, every edge leads to a record
edges-inside : (rs : List Record) → first_of (record_group rs) ≡ Ok tt → (s f : ℕ) (x : Slot) → edge_at (record_in rs s) f ≡ Some x → x.0 < length rs
edges-inside rs p s f x e =
    field-inside rs (record_in rs s) f x ((operand-exactly rs s).0 ((records-exactly rs).0 p s (edge-below rs s f x e)).operands f) e

-- 8: the lowest slot on a loop, as the stages have it
module _ (rs : List Record) where
  free-below : (i : ℕ) → ((k : ℕ) → k < i → on_loop rs k ≡ false) → first_of (slot_by_slot (loop_stages rs) i) ≡ Ok tt
  free-below i h = (slots-exactly (loop_stages rs) i).1 (λ k l. (loop-exactly rs k).1 (h k l))

  lowest : (s : Slot) → s.0 < length rs → on_loop rs s.0 ≡ true → ((k : ℕ) → k < s.0 → on_loop rs k ≡ false) → Err (Loop s) ≡ first_of (loop_group rs)
  unfolding loop_group loop_stages
  lowest s l h b = slots-refused (loop_stages rs) (length rs) s.0 (Loop s) l (sym (free-below s.0 b)) (sym (first-refuses (loop_stage rs s.0) [] h))

-- 4 to 7, then 8
module _ (t : List ℕ) where
  pub records-refuse : (x : Refusal) → Err x ≡ first_of (record_group (records_of t)) → Err x ≡ first_of (netlist_stages (records_of t))
  records-refuse x f = sym (records-decide (records_of t) x (sym f))

  module _ (pass : Ok tt ≡ first_of (record_group (records_of t))) where
    all_pass : first_of (record_group (records_of t)) ≡ Ok tt
    all_pass = sym pass

    pub searchable : (n : ℕ) → n ≡ length t / 16 → (ws : List ℕ) → 16384 ≤ length ws → length t / 16 ≤ 512 → Searchable (records_of t) n ws
    searchable n e ws l m = record {
      long = l;
      count = records-length t ∙ sym e;
      few = omega (arith, m);
      inside = λ s g x q. subst (λ (k : ℕ). x.0 < k) (records-length t ∙ sym e) (edges-inside (records_of t) all_pass s g x q);
    }

    module _ (ws ws' : List ℕ) (r : Option Slot) (found : Finds (records_of t) ws ws' r) where
      is-lowest : IsLowest (on_loop (records_of t)) (length (records_of t)) r
      is-lowest = (lowest-on-loop (records_of t) r).0 found.found

      pub loop-refuses : (s : Slot) → r ≡ Some s → Err (Loop s) ≡ first_of (netlist_stages (records_of t))
      unfolding IsLowest
      loop-refuses s g =
          let h : IsLowest (on_loop (records_of t)) (length (records_of t)) (Some s) = subst (IsLowest (on_loop (records_of t)) (length (records_of t))) g is-lowest in
          lowest (records_of t) s h.0 h.1 h.2 ∙ sym (records-passed (records_of t) all_pass)

      pub loop-passes : r ≡ None → Ok tt ≡ first_of (netlist_stages (records_of t))
      unfolding IsLowest
      loop-passes g =
          let free = (loops-exactly (records_of t)).1 (subst (IsLowest (on_loop (records_of t)) (length (records_of t))) g is-lowest) in
          sym ((netlist-exactly (records_of t)).1 (record { records = all_pass; loops = free }))

      pub rest-kept : drop 16384 ws' ≡ drop 16384 ws
      rest-kept = found.rest

-- 2 and 3, then the rest
module _ (words : ℕ) (t : List ℕ) (long : 16384 ≤ words) where
  past_work : first_of (size_group words t) ≡ first_of (length_stage t ∷ size_stage t ∷ [])
  unfolding size_group
  past_work = first_passes (work_stage words) _ (le-ltb words 16384 long)

  pub torn : (length t % 16 ≡ 0 → ⊥) → Err PartialRecord ≡ first_of (check_stages words t)
  torn h = sym (sizes-decide words t PartialRecord (past_work ∙ first-refuses (length_stage t) _ (ap not (ne_eqb (length t % 16) 0 h))))

  module _ (whole : length t % 16 ≡ 0) where
    past-torn : first_of (size_group words t) ≡ first_of (size_stage t ∷ [])
    past-torn = past_work ∙ first_passes (length_stage t) _ (ap not (eq-eqb (length t % 16) 0 whole))

    pub too_many : 512 < length t / 16 → Err TooManyRecords ≡ first_of (check_stages words t)
    too_many h = sym (sizes-decide words t TooManyRecords (past-torn ∙ first-refuses (size_stage t) [] (lt-ltb 512 (length t / 16) h)))

    pub netlist-decides : length t / 16 ≤ 512 → (v : Verdict) → v ≡ first_of (netlist_stages (records_of t)) → v ≡ first_of (check_stages words t)
    netlist-decides h v f = f ∙ sym (sizes-passed words t (past-torn ∙ (one-exactly (size_stage t)).1 (le-ltb 512 (length t / 16) h)))

-- what the functions of the code cite
pub ruleset netlist_steps = (records-refuse)

pub ruleset sizes_steps = (torn, too_many, netlist-decides)
