-- THE FIELD OF 7: which one is named (`undriven-exactly`), and that every call tells it (`calls-tell`). Assumes nothing.
use mathlib.Core.Path.{◌≡◌, refl, sym, ap, ◌∙◌, subst}
use mathlib.Core.Logic.{◌↔◌, ⊎_elim}
use mathlib.Core.List.{List, [], ◌∷◌, ◌++◌, append_assoc}
use Prim.Native.Nat.{ℕ, ◌/◌, ◌<◌}
use native.Mathlib.Omega.{arith}
use lib.ListN.{length}
use Rattle.std.specs.Prelude.{Ok, Err}
use Rattle.value.specs.Value.{slot_at}
use Rattle.cell.specs.declared.Record.{Record}
use Rattle.cell.specs.Records.{records_of}
use Rattle.refusals.specs.declared.Refusal.{Refusal}
use Rattle.refusals.specs.declared.Refusal.TheVariants.{UndrivenOperand}
use Rattle.refusals.specs.Refusals.{Stage, figures, first_of, Verdict}
use Rattle.refusals.proofs.Stages.{earlier-decides, passes-both, refused-by, slots-refused, slots-exactly, Lowest, slots-lowest, EachGives, both-give, given-such, Within, each-imp}
use Rattle.refusals.proofs.Fields.{field-elsewhere}
use Rattle.checking.specs.Checking.{kind_stages, field_stages, bit_stages, operand_stages, record_stages, record_group, loop_group, size_group, netlist_stages, check_stages, gate_count}
use Rattle.checking.proofs.Groups.{kind-exactly, field-exactly, bit-exactly, names-least, NamesField, group-names, upto-fields, upto-bits, operands-decide, records-decide, sizes-passed, tests-give, loops-give, sizes-give}
use Rattle.merge.specs.Merge.{merge}
use Rattle.rewrite.specs.Rewriter.{Lookup}
use Rattle.calls.specs.Answers.{Told, refused, check_figures, answer_by, written_figures, merged_figures, merged_of, counts_of}
use Rattle.calls.specs.Calls.{decoded, room, check_verdict, check_answer, compact_bytes, compact_verdict, compact_answer, merge_bytes, merge_verdict, merge_answer, rewrite_bytes, rewrite_stages, rewrite_verdict, rewrite_answer, level_bytes, stimulus_stages, level_verdict, level_answer}
use Rattle.calls.proofs.Later.{stimulus-gives, rewrite-gives, room-gives}
use Rattle.undriven.specs.Undriven.{UndrivenAt, TellsField, CallsTell}

-- ---- checking
module _ (words : ℕ) (t : List ℕ) where
  abbrev rs : List Record
  rs = records_of t

  -- the refusal that is given there
  given-there : (s f : ℕ) → UndrivenAt words t s f → first_of (check_stages words t) ≡ Err (UndrivenOperand (slot_at s) f)
  unfolding record_group
  given-there s f u =
      let x : Refusal = UndrivenOperand (slot_at s) f in
      let here : first_of (record_stages rs s) ≡ Err x =
      operands-decide rs s ((kind-exactly rs s).1 u.kind) ((field-exactly rs s).1 u.reserved) ((bit-exactly rs s).1 u.bit)
      ∙ names-least rs s f u.fails u.least in
      let group : first_of (record_group rs) ≡ Err x =
      sym (slots-refused (record_stages rs) (length rs) s x u.there (sym ((slots-exactly (record_stages rs) s).1 u.lower)) (sym here)) in
      sizes-passed words t u.sizes ∙ records-decide rs x group

  -- what holds of a refusal's place and field
  abbrev Holds : Refusal → Type 0
  Holds x = UndrivenAt words t (figures x).place (figures x).field

  module _ (x : Refusal) (seven : (figures x).number ≡ 7) where
    -- 7 is given by a record whose other tests pass
    by-record : first_of (size_group words t) ≡ Ok tt → (s : ℕ) → s < length rs → ((i : ℕ) → i < s → first_of (record_stages rs i) ≡ Ok tt)
        → first_of (record_stages rs s) ≡ Err x → Holds x
    unfolding record_stages
    by-record sizes s there lower e =
        ⊎_elim (λ f. let few = given-such (Within 4 6) (upto-bits rs s) x (tests-give rs s) f in absurd (omega (arith, few.1))) (λ p. found p.0 p.1)
        (refused-by (upto-bits rs s) (operand_stages rs s) x e)
      where
        found : first_of (upto-bits rs s) ≡ Ok tt → first_of (operand_stages rs s) ≡ Err x → Holds x
        found p f =
            let q = passes-both (upto-fields rs s) (bit_stages rs s) p in
            let k = passes-both (kind_stages rs s) (field_stages rs s) q.0 in
            let n : NamesField rs s x = group-names rs s x f in
            subst Holds (sym n.is) record {
              sizes = sizes;
              there = there;
              lower = lower;
              kind = (kind-exactly rs s).0 k.0;
              reserved = (field-exactly rs s).0 k.1;
              bit = (bit-exactly rs s).0 q.1;
              fails = n.fails;
              least = n.least;
            }

    by-records : first_of (size_group words t) ≡ Ok tt → first_of (record_group rs) ≡ Err x → Holds x
    unfolding record_group
    by-records sizes e =
        let low : Lowest (record_stages rs) (length rs) x = slots-lowest (record_stages rs) (length rs) x e in
        by-record sizes low.slot low.there low.lower low.gives

    by-netlist : first_of (size_group words t) ≡ Ok tt → first_of (netlist_stages rs) ≡ Err x → Holds x
    unfolding netlist_stages
    by-netlist sizes e =
        ⊎_elim (by-records sizes)
        (λ p. let eight = given-such (Within 8 8) (loop_group rs) x (loops-give rs) p.1 in absurd (omega (arith, eight.0)))
        (refused-by (record_group rs) (loop_group rs) x e)

    seven-there : first_of (check_stages words t) ≡ Err x → Holds x
    unfolding check_stages
    seven-there e =
        ⊎_elim (λ f. let few = given-such (Within 1 3) (size_group words t) x (sizes-give words t) f in absurd (omega (arith, few.1)))
        (λ p. by-netlist p.0 p.1) (refused-by (size_group words t) (netlist_stages rs) x e)

  -- THE LAW of checking
  pub undriven-exactly : (s f : ℕ) → (check_verdict words t ≡ Err (UndrivenOperand (slot_at s) f)) ↔ UndrivenAt words t s f
  unfolding check_verdict
  undriven-exactly s f = (seven-there (UndrivenOperand (slot_at s) f) refl, given-there s f)

  -- ---- a verdict that gives 7 just where checking does, in what is told
  record Follows (v : Verdict) : Type 0 where
    pub from_check : (x : Refusal) → (figures x).number ≡ 7 → v ≡ Err x → first_of (check_stages words t) ≡ Err x
    pub as_check : (x : Refusal) → first_of (check_stages words t) ≡ Err x → v ≡ Err x

  module _ (told : Verdict → Told) (zero_number : (told (Ok tt)).number ≡ 0) (zero_field : (told (Ok tt)).field ≡ 0) (refusing : (x : Refusal) → told (Err x) ≡ refused x) where
    abbrev Seven : Told → ℕ → ℕ → Type 0
    Seven a s f = (a.number ≡ 7) × (a.place ≡ s) × (a.field ≡ f)

    told-there : (v : Verdict) → Follows v → (s f : ℕ) → Seven (told v) s f → UndrivenAt words t s f
    told-there (Ok u) w s f h = absurd (omega (arith, zero_number, h.0))
    told-there (Err x) w s f h =
        let r : Seven (refused x) s f = subst (λ (a : Told). Seven a s f) (refusing x) h in
        let u : Holds x = seven-there x r.0 (w.from_check x r.0 refl) in
        subst (λ (k : ℕ). UndrivenAt words t k f) r.1 (subst (λ (g : ℕ). UndrivenAt words t (figures x).place g) r.2 u)

    there-told : (v : Verdict) → Follows v → (s f : ℕ) → UndrivenAt words t s f → Seven (told v) s f
    there-told v w s f u =
        let e : told v ≡ refused (UndrivenOperand (slot_at s) f) = ap told (w.as_check _ (given-there s f u)) ∙ refusing (UndrivenOperand (slot_at s) f) in
        (ap (λ (a : Told). a.number) e, ap (λ (a : Told). a.place) e, ap (λ (a : Told). a.field) e)

    other-field : (v : Verdict) → ((told v).number ≡ 7 → ⊥) → (told v).field ≡ 0
    other-field (Ok u) h = zero_field
    other-field (Err x) h =
        let e : told (Err x) ≡ refused x = refusing x in
        ap (λ (a : Told). a.field) e ∙ field-elsewhere x (λ q. h (ap (λ (a : Told). a.number) e ∙ q))

    tells : (v : Verdict) → Follows v → TellsField words t (told v)
    tells v w = record { exactly = λ s f. (told-there v w s f, there-told v w s f); elsewhere = other-field v }

  -- ---- the calls
  follows-check : Follows (first_of (check_stages words t))
  follows-check = record { from_check = λ x q e. e; as_check = λ x e. e }

  -- with stages behind those of checking that give other numbers
  follows-later : (more : List Stage) → EachGives (Within 9 12) more → Follows (first_of (check_stages words t ++ more))
  follows-later more g = record {
    from_check = λ x q e.
        ⊎_elim (λ f. f) (λ p. let l = given-such (Within 9 12) more x g p.1 in absurd (omega (arith, l.0))) (refused-by (check_stages words t) more x e);
    as_check = λ x e. earlier-decides (check_stages words t) more x e;
  }

  room-later : (reply bytes : List ℕ) → EachGives (Within 9 12) (room reply bytes ∷ [])
  room-later reply bytes = each-imp (Within 12 12) (Within 9 12) (λ x l. omega arith) (room reply bytes ∷ []) (room-gives reply bytes)

  check-tells : TellsField words t (check_figures (check_answer words t))
  unfolding check_answer check_verdict
  check-tells =
      tells (λ v. check_figures (answer_by v (counts_of (length t / 16) (gate_count (records_of t))))) refl refl (λ x. refl) (first_of (check_stages words t)) follows-check

  written-tells : (count : ℕ) (v : Verdict) → Follows v → TellsField words t (written_figures (answer_by v count))
  written-tells count v w = tells (λ v. written_figures (answer_by v count)) refl refl (λ x. refl) v w

  levels-tell : (stimulus reply : List ℕ) → TellsField words t (written_figures (level_answer words t stimulus reply))
  unfolding level_answer level_verdict
  levels-tell stimulus reply =
      let stages : List Stage = stimulus_stages (decoded t).cells stimulus in
      let last : List Stage = room reply (level_bytes t stimulus) ∷ [] in
      written-tells (length (level_bytes t stimulus)) _
      (subst (λ (sts : List Stage). Follows (first_of sts)) (sym (append_assoc (check_stages words t) stages last))
      (follows-later (stages ++ last)
      (both-give (Within 9 12) stages last
      (each-imp (Within 10 11) (Within 9 12) (λ x l. omega arith) stages (stimulus-gives (decoded t).cells stimulus)) (room-later reply (level_bytes t stimulus)))))

  compact-tells : (reply : List ℕ) → TellsField words t (written_figures (compact_answer words t reply))
  unfolding compact_answer compact_verdict
  compact-tells reply = written-tells (length (compact_bytes t)) _ (follows-later (room reply (compact_bytes t) ∷ []) (room-later reply (compact_bytes t)))

  merge-tells : (reply : List ℕ) → TellsField words t (merged_figures (merge_answer words t reply))
  unfolding merge_answer merge_verdict
  merge-tells reply =
      tells (λ v. merged_figures (answer_by v (merged_of (length (merge_bytes t)) (merge (decoded t)).1))) refl refl (λ x. refl) _
      (follows-later (room reply (merge_bytes t) ∷ []) (room-later reply (merge_bytes t)))

  rewrite-tells : (look : Lookup) (reply : List ℕ) → TellsField words t (written_figures (rewrite_answer look words t reply))
  unfolding rewrite_answer rewrite_verdict
  rewrite-tells look reply = written-tells (length (rewrite_bytes look t)) _ (follows-later (rewrite_stages look t reply) (rewrite-gives look t reply))

  -- THE LAW of the calls, for every ticket and every number of work words
  pub calls-tell : CallsTell words t
  calls-tell = record { check = check-tells; levels = levels-tell; compact = compact-tells; merge = merge-tells; rewrite = rewrite-tells }
