-- WHAT THE PAIRING FORBIDS: small lists of records that do not pair off, one for each thing that the paper's words rule out. That no pairing
-- fits two lists is found by trying every map of their slots. Assumes nothing.
use mathlib.Core.Path.{◌≡◌, refl, sym, ap, ap₂, ◌∙◌, subst}
use mathlib.Core.Bool.{Bool, true, false, not, ◌&&◌, ◌||◌, cond}
use mathlib.Core.List.{List, [], ◌∷◌, map}
use mathlib.Core.Logic.{⊎_elim}
use Prim.Native.Nat.{ℕ, zero, suc, ◌<◌}
use native.Mathlib.Omega.{arith}
use lib.Dec.{eqb, ltb}
use lib.ListN.{length, get_or}
use borrow.Author.Tests.{eqb-true, eq-eqb, ltb-true, not-false, not-true}
use Rattle.value.specs.declared.Driver.TheVariants as driven
use Rattle.value.specs.declared.Driver.{Driver}
use Rattle.value.specs.declared.Net.{Net}
use Rattle.value.specs.Value.{driver, net_at, eq_net}
use Rattle.cell.specs.declared.Record.{Record}
use Rattle.cell.specs.Records.{record_of, record_in}
use Rattle.kinds.specs.Kinds.{kind_of, use_of, sort_of}
use Rattle.cell.specs.Operands.{is_operand, field_of}
use Rattle.basics.specs.Lists.{tabulate, any_of, slots, those, All}
use Rattle.basics.proofs.Members.{all-tabulate, all-those, any_none, has_all, has-slots, none_any, all-imp}
use Rattle.basics.proofs.Truth.{and_both, and-true, either, eqb-self, never, or_left, or_right}
use Rattle.basics.proofs.Indices.{map_same}
use Rattle.normal.specs.Paired.{renumber}
use Rattle.normal.proofs.Alike.{renumber-same}
use Rattle.repeat.specs.Pairing.{RecordsPaired, RecordsPairedBy, exchanged, field_by, record_by, slots_of_kind}

-- Every map of n slots into m
-- whether some list of n numbers below m passes a test
unfoldable tried : ℕ → ℕ → (List ℕ → Bool) → Bool
tried m zero t = t []
tried m (suc n) t = any_of (λ i. tried m n (λ xs. t (i ∷ xs))) (slots m)

-- the first n values of a map
unfoldable listed : (ℕ → ℕ) → ℕ → List ℕ
listed p zero = []
listed p (suc n) = p 0 ∷ listed (λ s. p (suc s)) n

listed_at : (p : ℕ → ℕ) (n s : ℕ) → s < n → get_or (listed p n) s 0 ≡ p s
unfolding listed
listed_at p zero s l = absurd (omega arith)
listed_at p (suc n) zero l = refl
listed_at p (suc n) (suc s) l = listed_at (λ i. p (suc i)) n s (omega arith)

tried-none : (m n : ℕ) (t : List ℕ → Bool) (p : ℕ → ℕ) → ((s : ℕ) → s < n → p s < m) → tried m n t ≡ false → t (listed p n) ≡ false
unfolding tried listed
tried-none m zero t p h e = e
tried-none m (suc n) t p h e =
    tried-none m n (λ xs. t (p 0 ∷ xs)) (λ s. p (suc s)) (λ s l. h (suc s) (omega arith))
    (has_all (λ i. tried m n (λ xs. t (i ∷ xs)) ≡ false) (slots m) (none_any (λ i. tried m n (λ xs. t (i ∷ xs))) (slots m) e) (p 0) (has-slots m (p 0) (h 0 (omega arith))))

-- The test of a map
every : (n : ℕ) → (ℕ → Bool) → Bool
every n t = not (any_of (λ s. not (t s)) (slots n))

every_true : (n : ℕ) (t : ℕ → Bool) → ((s : ℕ) → s < n → t s ≡ true) → every n t ≡ true
unfolding every
every_true n t h = ap not (any_none (λ s. not (t s)) (slots n) (all-tabulate (λ s. not (t s) ≡ false) (λ s. s) n (λ s l. ap not (h s l))))

true-every : (n : ℕ) (t : ℕ → Bool) → every n t ≡ true → (s : ℕ) → s < n → t s ≡ true
unfolding every
true-every n t e s l =
    not-false (t s) (has_all (λ i. not (t i) ≡ false) (slots n) (none_any (λ i. not (t i)) (slots n) (not-true (any_of (λ i. not (t i)) (slots n)) e)) s (has-slots n s l))

unfoldable same_numbers : List ℕ → List ℕ → Bool
same_numbers [] [] = true
same_numbers [] (y ∷ ys) = false
same_numbers (x ∷ xs) [] = false
same_numbers (x ∷ xs) (y ∷ ys) = eqb x y && same_numbers xs ys

numbers-same : (xs : List ℕ) → same_numbers xs xs ≡ true
unfolding same_numbers
numbers-same [] = refl
numbers-same (x ∷ xs) = and-true (eqb x x) (same_numbers xs xs) (eqb-self x) (numbers-same xs)

same_record : Record → Record → Bool
same_record x y = eqb x.kind y.kind && (eqb x.flags y.flags && (eqb x.bit y.bit && (eqb x.a y.a && (eqb x.b y.b && eqb x.c y.c))))

record_same : (x y : Record) → x ≡ y → same_record x y ≡ true
unfolding same_record
record_same x y e =
    subst (λ (z : Record). same_record x z ≡ true) e
    (and-true _ _ (eqb-self x.kind) (and-true _ _ (eqb-self x.flags) (and-true _ _ (eqb-self x.bit) (and-true _ _ (eqb-self x.a) (and-true _ _ (eqb-self x.b) (eqb-self x.c))))))

-- each operand that names a slot names one of n
below : ℕ → Driver → Bool
below n (driven.Const t) = true
below n (driven.Cell x) = ltb x.0 n

within : ℕ → Record → ℕ → Bool
within n r f = not (is_operand r f) || below n (driver (net_at (field_of r f)))

closed : List Record → Bool
closed rs = every (length rs) (λ s. within (length rs) (record_in rs s) 1 && (within (length rs) (record_in rs s) 2 && within (length rs) (record_in rs s) 3))

module _ (rs rs' : List Record) where
  abbrev n : ℕ
  n = length rs

  -- whether the map that a list gives pairs the slots off
  fits : List ℕ → Bool
  fits ps =
      let p : ℕ → ℕ = λ s. get_or ps s 0 in
      let r : ℕ → Record = λ s. record_by p (record_in rs s) in
      eqb (length rs) (length rs')
      && (every n (λ s. every n (λ s'. not (eqb (p s) (p s')) || eqb s s'))
      && (same_numbers (map p (slots_of_kind 1 rs)) (slots_of_kind 1 rs')
      && (same_numbers (map p (slots_of_kind 2 rs)) (slots_of_kind 2 rs')
      && every n (λ s. same_record (r s) (record_in rs' (p s)) || same_record (exchanged (r s)) (record_in rs' (p s))))))

  -- a pairing passes it
  module _ (p : ℕ → ℕ) (h : RecordsPairedBy p rs rs') (inner : closed rs ≡ true) where
    abbrev q : ℕ → ℕ
    q s = get_or (listed p n) s 0

    same : (s : ℕ) → s < n → q s ≡ p s
    same s l = listed_at p n s l

    single : (s : ℕ) → s < n → (s' : ℕ) → s' < n → (not (eqb (q s) (q s')) || eqb s s') ≡ true
    single s l s' l' = either (eqb (q s) (q s'))
        (λ e. let e' : p s ≡ p s' = sym (same s l) ∙ eqb-true (q s) (q s') e ∙ same s' l' in
        or_right (not (eqb (q s) (q s'))) (eqb s s') (eq-eqb s s' (omega (arith, h.single s s' l l' e'))))
        (λ e. or_left (not (eqb (q s) (q s'))) (eqb s s') (ap not e))

    listed-slots : (k : ℕ) → map q (slots_of_kind k rs) ≡ map p (slots_of_kind k rs)
    unfolding slots_of_kind
    listed-slots k =
        map_same q p (slots_of_kind k rs)
        (all-those (λ s. eqb (record_in rs s).kind k) (λ s. q s ≡ p s) (slots n) (all-tabulate (λ s. q s ≡ p s) (λ s. s) n same))

    slots_same : (k : ℕ) → map p (slots_of_kind k rs) ≡ slots_of_kind k rs' → same_numbers (map q (slots_of_kind k rs)) (slots_of_kind k rs') ≡ true
    slots_same k e = subst (λ (xs : List ℕ). same_numbers (map q (slots_of_kind k rs)) xs ≡ true) (listed-slots k ∙ e) (numbers-same (map q (slots_of_kind k rs)))

    field-same : (s f : ℕ) → within n (record_in rs s) f ≡ true → field_by q (record_in rs s) f ≡ field_by p (record_in rs s) f
    unfolding within below
    field-same s f w = go (is_operand (record_in rs s) f) w
      where
        m : Net
        m = net_at (field_of (record_in rs s) f)

        named : (x : Driver) → driver m ≡ x → below n x ≡ true → renumber q m ≡ renumber p m
        named x e b = renumber-same q p m (λ y d. same y.0 (ltb-true y.0 n (subst (λ (z : Driver). below n z ≡ true) (sym e ∙ d) b)))

        go : (b : Bool) → (not b || below n (driver m)) ≡ true → cond b (renumber q m).0 (field_of (record_in rs s) f) ≡ cond b (renumber p m).0 (field_of (record_in rs s) f)
        go true v = ap (λ (x : Net). x.0) (named (driver m) refl v)
        go false v = refl

    record-by-same : (s : ℕ) → s < n → record_by q (record_in rs s) ≡ record_by p (record_in rs s)
    unfolding record_by closed
    record-by-same s l =
        let r : Record = record_in rs s in
        let w = and_both (within n r 1) _ (true-every n (λ s. within n (record_in rs s) 1 && (within n (record_in rs s) 2 && within n (record_in rs s) 3)) inner s l) in
        let v = and_both (within n r 2) _ w.1 in
        ap₂ (λ (a b : ℕ). record_of r.kind r.flags r.bit a b (field_by q r 3)) (field-same s 1 w.0) (field-same s 2 v.0)
        ∙ ap (record_of r.kind r.flags r.bit (field_by p r 1) (field_by p r 2)) (field-same s 3 v.1)

    records-same : (s : ℕ) → s < n
        → (same_record (record_by q (record_in rs s)) (record_in rs' (q s)) || same_record (exchanged (record_by q (record_in rs s))) (record_in rs' (q s))) ≡ true
    records-same s l =
        let x : record_by q (record_in rs s) ≡ record_by p (record_in rs s) = record-by-same s l in
        let y : record_in rs' (p s) ≡ record_in rs' (q s) = ap (record_in rs') (sym (same s l)) in
        let r : Record = record_by q (record_in rs s) in
        let r' : Record = record_in rs' (q s) in
        ⊎_elim (λ e. or_left (same_record r r') (same_record (exchanged r) r') (record_same r r' (cc e)))
        (λ e. or_right (same_record r r') (same_record (exchanged r) r') (record_same (exchanged r) r' (cc e))) (h.records s l)

    fitted : fits (listed p n) ≡ true
    unfolding fits
    fitted =
        and-true _ _ (eq-eqb (length rs) (length rs') (omega (arith, h.many)))
        (and-true _ _ (every_true n _ (λ s l. every_true n _ (single s l)))
        (and-true _ _ (slots_same 1 (cc h.inputs)) (and-true _ _ (slots_same 2 (cc h.outputs)) (every_true n _ records-same))))

  -- so lists of which no map passes do not pair off
  unpaired : Bool
  unpaired = closed rs && not (tried (length rs') n fits)

  never-paired : unpaired ≡ true → RecordsPaired rs rs' → ⊥
  unfolding unpaired
  never-paired e pairs =
      let g = and_both (closed rs) (not (tried (length rs') n fits)) e in
      let h : RecordsPairedBy pairs.pairing rs rs' = pairs.paired in
      never (fitted pairs.pairing h g.0)
      (tried-none (length rs') n fits pairs.pairing (λ s l. omega (arith, h.inside s l)) (not-true (tried (length rs') n fits) g.1))

-- The table
abbrev input : ℕ → Record
input l = record_of 1 0 0 l 0 0

abbrev output : ℕ → ℕ → Record
output a l = record_of 2 0 0 a l 0

pub record Example : Type 0 where
  pub here : List Record
  pub there : List Record

abbrev alone : Record → Record → Example
alone x y = record { here = x ∷ []; there = y ∷ [] }

-- constants are 0, 1 and 4294967295; net 2 is slot 0's, net 3 slot 1's
abbrev pub forbidden : List Example
forbidden =
    alone (record_of 3 0 0 0 0 0) (record_of 4 0 0 0 0 0)  -- another kind
    ∷ alone (record_of 4 0 0 0 0 0) (record_of 4 0 1 0 0 0)  -- another bit
    ∷ alone (input 1) (input 2)  -- another label
    ∷ alone (output 0 1) (output 0 2)
    ∷ alone (output 0 1) (output 1 1)  -- another constant
    ∷ record { here = input 1 ∷ output 0 2 ∷ []; there = input 1 ∷ output 2 2 ∷ [] }  -- a constant with a slot
    ∷ alone (record_of 8 0 0 4294967295 0 1) (record_of 8 0 0 4294967295 1 0)  -- operands exchanged of a mux
    ∷ alone (record_of 8 0 0 0 1 1) (record_of 8 0 0 1 0 1)
    ∷ alone (record_of 6 0 0 0 1 0) (record_of 6 0 0 1 0 0)  -- of an or, and of an and
    ∷ alone (record_of 5 0 0 0 1 0) (record_of 5 0 0 1 0 0)
    ∷ alone (record_of 9 1 0 0 1 0) (record_of 9 1 0 1 0 0)  -- of an and-inverter, its flags left behind
    ∷ alone (record_of 9 1 0 0 1 0) (record_of 9 2 0 0 1 0)  -- its flags exchanged alone
    ∷ alone (record_of 9 0 0 0 1 0) (record_of 9 1 0 0 1 0)  -- another flag
    ∷ record { here = record_of 4 0 0 0 0 0 ∷ record_of 4 0 0 0 0 0 ∷ []; there = record_of 4 0 0 0 0 0 ∷ record_of 4 0 0 1 0 0 ∷ [] }  -- two slots with one
    ∷ record { here = input 1 ∷ output 2 2 ∷ []; there = input 1 ∷ output 2 2 ∷ record_of 4 0 0 2 0 0 ∷ [] }  -- one record more
    ∷ alone (record_of 0 0 0 0 0 0) (record_of 3 0 0 0 0 0)  -- a record with a place behind the last, which reads as a blank one
    ∷ record { here = input 1 ∷ input 1 ∷ output 2 2 ∷ []; there = input 1 ∷ input 1 ∷ output 3 2 ∷ [] }  -- the first input with the second
    ∷ record { here = output 0 1 ∷ output 1 1 ∷ []; there = output 1 1 ∷ output 0 1 ∷ [] }  -- the first output with the second
    ∷ record { here = input 1 ∷ input 2 ∷ output 2 3 ∷ []; there = input 1 ∷ input 2 ∷ output 3 3 ∷ [] }  -- an operand with a slot that is not paired with its own
    ∷ []

computed : any_of (λ (x : Example). not (unpaired x.here x.there)) forbidden ≡ false
unfolding tried every same_numbers same_record below within closed fits unpaired record_by exchanged slots_of_kind renumber driver eq_net kind_of use_of is_operand field_of tabulate those any_of sort_of
computed = refl

-- none of them pairs off
pub forbidden-unpaired : All (λ (x : Example). RecordsPaired x.here x.there → ⊥) forbidden
forbidden-unpaired =
    all-imp (λ (x : Example). not (unpaired x.here x.there) ≡ false) (λ (x : Example). RecordsPaired x.here x.there → ⊥)
    (λ x e. never-paired x.here x.there (not-false (unpaired x.here x.there) e)) forbidden
    (none_any (λ (x : Example). not (unpaired x.here x.there)) forbidden computed)
