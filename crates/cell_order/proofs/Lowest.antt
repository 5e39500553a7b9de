-- The lowest cell that a cell reads and that was not visited, found by its bits and their operands. Assumes nothing.
use mathlib.Core.Path.{◌≡◌, refl, sym, ap, ◌∙◌, subst}
use mathlib.Core.Bool.{Bool, true, false, cond, false≢true}
use mathlib.Core.List.{List, [], ◌∷◌, ◌++◌, map, map-append, append_assoc, append-nil}
use Prim.Native.Nat.{ℕ, zero, suc, ◌+◌, ◌-◌, ◌≤◌, ◌<◌}
use native.Mathlib.Omega.{arith}
use native.Mathlib.Decide.{dec_lt}
use lib.Dec.{eqb, ltb}
use lib.ListN.{length, get_or, drop, length-map, get_or-map, get_or-eq_default}
use lib.Seq.{get_or-drop}
use borrow.Author.Tests.{eqb-true, eqb-false, eq-eqb}
use Rattle.value.specs.declared.Net.{Net}
use Rattle.value.specs.declared.Slot.{Slot}
use Rattle.value.specs.declared.Driver.{Driver}
use Rattle.value.specs.declared.Driver.TheVariants as driven
use Rattle.std.specs.Bool.{then_some}
use Rattle.std.proofs.Common.{Option}
use Rattle.std.proofs.lemmas.Bool.{ltb-true, ltb-false}
use Rattle.std.proofs.lemmas.Option.{none-some, same_Some}
use Rattle.value.specs.Value.{driver, slot_at}
use Rattle.logic.specs.declared.Trit.{Trit}
use Rattle.cell.specs.declared.Record.{Record}
use Rattle.basics.specs.Lists.{tabulate, any_of, joined}
use Rattle.cell.specs.Records.{record_of, cell_of}
use Rattle.basics.proofs.Tables.{tabulate-length, tabulate-at}
use Rattle.netlist.specs.Shape.{visit}
use Rattle.netlist.specs.Netlist.{netlist_of, cell_in, driven_by, sources, start_of, run}
use Rattle.netlist.specs.inner.Areas.{word_record, records_in}
use Rattle.netlist.specs.declared.fields.Operands.{Operands}
use Rattle.order.specs.inner.Code.{visited_in}
use Rattle.order.specs.inner.Descent.{operands_of}
use Rattle.cell_order.specs.inner.Descent.{bits_in, starts_of, bit_reads, read_up_to, read_by, Lowest, LowestSlot, Lowers}
use Rattle.netlist.proofs.Cells.{cell_at}
use Rattle.order.proofs.Bits.{sources-operands}

-- one of a list passes a test
any_left : (p : ℕ → Bool) (xs ys : List ℕ) → any_of p xs ≡ true → any_of p (xs ++ ys) ≡ true
unfolding any_of
any_left p [] ys h = absurd (false≢true h)
any_left p (x ∷ xs) ys h = go (p x) (any_left p xs ys) h
  where
    go : (b : Bool) → (any_of p xs ≡ true → any_of p (xs ++ ys) ≡ true) → cond b true (any_of p xs) ≡ true → cond b true (any_of p (xs ++ ys)) ≡ true
    go true r h = refl
    go false r h = r h

any_last : (ys : List ℕ) (y : ℕ) → any_of (eqb y) (ys ++ (y ∷ [])) ≡ true
unfolding any_of
any_last [] y = rw (eq-eqb y y refl)
any_last (x ∷ ys) y = go (eqb y x) (any_last ys y)
  where
    go : (b : Bool) → any_of (eqb y) (ys ++ (y ∷ [])) ≡ true → cond b true (any_of (eqb y) (ys ++ (y ∷ []))) ≡ true
    go true r = refl
    go false r = r

any-cases : {A : Type 0} (z : ℕ) (ys : List ℕ) (y : ℕ) → any_of (eqb z) (ys ++ (y ∷ [])) ≡ true → (any_of (eqb z) ys ≡ true → A) → (z ≡ y → A) → A
unfolding any_of
any-cases {A} z [] y h f g = go (eqb z y) refl h
  where
    go : (b : Bool) → eqb z y ≡ b → cond b true false ≡ true → A
    go true e h = g (eqb-true z y e)
    go false e h = absurd (false≢true h)
any-cases {A} z (x ∷ ys) y h f g = go (eqb z x) (any-cases z ys y) h f
  where
    go : (b : Bool) → (any_of (eqb z) (ys ++ (y ∷ [])) ≡ true → (any_of (eqb z) ys ≡ true → A) → (z ≡ y → A) → A)
        → cond b true (any_of (eqb z) (ys ++ (y ∷ []))) ≡ true → (cond b true (any_of (eqb z) ys) ≡ true → A) → A
    go true r h f = f refl
    go false r h f = r h f g

-- nothing yet
lowest-none : (n : ℕ) (ws : List ℕ) (from : ℕ) → Lowest n ws from [] n
unfolding any_of
lowest-none n ws from = record { upto = omega arith; found = λ l. absurd (omega arith); lowest = λ y a b e. absurd (false≢true e) }

-- as a slot
lowest-slot : (n : ℕ) (ws : List ℕ) (from : ℕ) (xs : List ℕ) (r : ℕ) → Lowest n ws from xs r → (o : Option Slot) → o ≡ then_some (ltb r n) (slot_at r) → LowestSlot n ws from xs o
lowest-slot n ws from xs r g o = go (ltb r n) refl
  where
    go : (b : Bool) → ltb r n ≡ b → o ≡ then_some b (slot_at r) → LowestSlot n ws from xs o
    go true q h = record {
      none = λ k. absurd (none-some (slot_at r) (sym k ∙ h));
      found = λ s k.
          let z : r ≡ s.0 = ap (λ (v : Slot). v.0) (same_Some (slot_at r) s (sym h ∙ k)) in
          (omega (arith, ltb-true r n q), subst (Lowest n ws from xs) z g);
    }
    go false q h = record {
      none = λ k. let z : r ≡ n = omega (arith, g.upto, ltb-false r n q) in subst (Lowest n ws from xs) z g;
      found = λ s k. absurd (none-some s (sym h ∙ k));
    }

-- one item more
module _ (n : ℕ) (ws : List ℕ) (from y best : ℕ) where
  lower-kept : (from ≤ y → y < best → visited_in n ws y ≡ true) → Lowers n ws from (y ∷ []) best best
  lower-kept h = record {
    lowers = λ ys g. record {
      upto = g.upto;
      found = λ l.
          let q : (from ≤ best) × (any_of (eqb best) ys ≡ true) × (visited_in n ws best ≡ false) = g.found l in
          (q.0, any_left (eqb best) ys (y ∷ []) q.1, q.2);
      lowest = λ z a b e.
          any-cases z ys y e (g.lowest z a b) (λ q. subst (λ (u : ℕ). visited_in n ws u ≡ true) (sym q) (h (omega arith) (omega arith)));
    };
  }

  pub lower-before : y < from → Lowers n ws from (y ∷ []) best best
  lower-before l = lower-kept (λ a b. absurd (omega arith))

  pub lower-after : best ≤ y → Lowers n ws from (y ∷ []) best best
  lower-after l = lower-kept (λ a b. absurd (omega arith))

  pub lower-visited : (b : Bool) → b ≡ visited_in n ws y → b ≡ true → Lowers n ws from (y ∷ []) best best
  lower-visited b e t = lower-kept (λ l m. sym e ∙ t)

  pub lower-taken : (b : Bool) → b ≡ visited_in n ws y → b ≡ false → from ≤ y → y < best → Lowers n ws from (y ∷ []) best y
  lower-taken b e t l m = record {
    lowers = λ ys g. record {
      upto = omega (arith, g.upto);
      found = λ k. (l, any_last ys y, sym e ∙ t);
      lowest = λ z a k i. any-cases z ys y i (g.lowest z a (omega arith)) (λ q. absurd (omega arith));
    };
  }

-- what a bit reads, by its operands
reads-operands : (rs : List Record) (s : ℕ) (o : Operands) → operands_of (cell_in (map cell_of rs) s) ≡ o
    → bit_reads rs s ≡ starts_of rs o.0 ++ (starts_of rs o.1 ++ starts_of rs o.2)
unfolding bit_reads starts_of
reads-operands rs s o q =
    let f : ℕ → ℕ = start_of (bits_in rs) in
    ap (map f) (sources-operands (cell_in (map cell_of rs) s))
    ∙ ap (λ (x : Operands). map f (driven_by (driver x.0) ++ (driven_by (driver x.1) ++ (driven_by (driver x.2) ++ [])))) q
    ∙ rw (
      append-nil (driven_by (driver o.2)),
      map-append f (driven_by (driver o.0)) (driven_by (driver o.1) ++ driven_by (driver o.2)),
      map-append f (driven_by (driver o.1)) (driven_by (driver o.2)),
    )

module _ (n : ℕ) (ws : List ℕ) (from best : ℕ) where
  lowers-none : Lowers n ws from [] best best
  lowers-none = record { lowers = λ ys g. rw (append-nil ys) g }

  lowers_then : (xs ys : List ℕ) (r r' : ℕ) → Lowers n ws from xs best r → Lowers n ws from ys r r' → Lowers n ws from (xs ++ ys) best r'
  lowers_then xs ys r r' v w = record {
    lowers = λ zs g. subst (λ (us : List ℕ). Lowest n ws from us r') (append_assoc zs xs ys) (w.lowers (zs ++ xs) (v.lowers zs g));
  }

  -- the start of the cell that drives a net
  module _ (x : Net) (d : Driver) (e : d ≡ driver x) where
    pub net-none : (t : Trit) → d ≡ driven.Const t → Lowers n ws from (starts_of (records_in n ws) x) best best
    unfolding starts_of
    net-none t q = rw (sym e ∙ q) lowers-none

    pub net-start : (s : Slot) → d ≡ driven.Cell s → (y : ℕ) → y ≡ start_of (bits_in (records_in n ws)) s.0 → (r : ℕ) → Lowers n ws from (y ∷ []) best r
        → Lowers n ws from (starts_of (records_in n ws) x) best r
    unfolding starts_of
    net-start s q y p r v = rw (sym e ∙ q, ← p) v

  -- the operands of a bit
  pub bit-lowers : (s : ℕ) → s < n → (o : Operands) → o ≡ operands_of (cell_of (word_record ws s)) → (r₁ r₂ r₃ : ℕ)
      → Lowers n ws from (starts_of (records_in n ws) o.0) best r₁ → Lowers n ws from (starts_of (records_in n ws) o.1) r₁ r₂
      → Lowers n ws from (starts_of (records_in n ws) o.2) r₂ r₃ → Lowers n ws from (bit_reads (records_in n ws) s) best r₃
  bit-lowers s l o b r₁ r₂ r₃ v₁ v₂ v₃ =
      let q : operands_of (cell_in (map cell_of (records_in n ws)) s) ≡ o = ap operands_of (cell_at n ws s l) ∙ sym b in
      subst (λ (xs : List ℕ). Lowers n ws from xs best r₃)
      (append_assoc (starts_of (records_in n ws) o.0) (starts_of (records_in n ws) o.1) (starts_of (records_in n ws) o.2)
      ∙ sym (reads-operands (records_in n ws) s o q))
      (lowers_then (starts_of (records_in n ws) o.0 ++ starts_of (records_in n ws) o.1) (starts_of (records_in n ws) o.2) r₂ r₃
      (lowers_then (starts_of (records_in n ws) o.0) (starts_of (records_in n ws) o.1) r₁ r₂ v₁ v₂) v₃)

-- the bits of a cell
run_end : (bs : List ℕ) → get_or bs (run bs) 0 ≡ 0
unfolding run
run_end [] = refl
run_end (b ∷ bs) = go (eqb b 0) refl (run_end bs)
  where
    go : (t : Bool) → eqb b 0 ≡ t → get_or bs (run bs) 0 ≡ 0 → get_or (b ∷ bs) (cond t 0 (suc (run bs))) 0 ≡ 0
    go true e h = eqb-true b 0 e
    go false e h = h

run_inside : (bs : List ℕ) (j : ℕ) → j < run bs → get_or bs j 0 ≡ 0 → ⊥
unfolding run
run_inside [] j l = absurd (omega arith)
run_inside (b ∷ bs) j l = go (eqb b 0) refl (run_inside bs) j l
  where
    go : (t : Bool) → eqb b 0 ≡ t → ((j : ℕ) → j < run bs → get_or bs j 0 ≡ 0 → ⊥) → (j : ℕ) → j < cond t 0 (suc (run bs)) → get_or (b ∷ bs) j 0 ≡ 0 → ⊥
    go true e h j l = absurd (omega arith)
    go false e h zero l = eqb-false b 0 e
    go false e h (suc j) l = h j (omega arith)

pub bits-length : (n : ℕ) (ws : List ℕ) → length (bits_in (records_in n ws)) ≡ n
unfolding bits_in netlist_of records_in
bits-length n ws = length-map (records_in n ws) (λ r. r.bit) ∙ tabulate-length (word_record ws) n

bit_at : (n : ℕ) (ws : List ℕ) (s : ℕ) → s < n → get_or (bits_in (records_in n ws)) s 0 ≡ (word_record ws s).bit
unfolding bits_in netlist_of records_in
bit_at n ws s l =
    get_or-map (λ r. r.bit) (records_in n ws) s (record_of 0 0 0 0 0 0)
    ∙ ap (λ (r : Record). r.bit) (tabulate-at (word_record ws) n (record_of 0 0 0 0 0 0) s l)

pub bit_word : (n : ℕ) (ws : List ℕ) (s x : ℕ) (r : Record) → s < n → r ≡ word_record ws s → x ≡ r.bit → x ≡ get_or (bits_in (records_in n ws)) s 0
bit_word n ws s x r l e f = f ∙ ap (λ (r : Record). r.bit) e ∙ sym (bit_at n ws s l)

pub bit_past : (n : ℕ) (ws : List ℕ) (s : ℕ) → n ≤ s → 0 ≡ get_or (bits_in (records_in n ws)) s 0
bit_past n ws s l = sym (get_or-eq_default (bits_in (records_in n ws)) 0 (omega (arith, bits-length n ws)))

joined-append : (xss yss : List (List ℕ)) → joined (xss ++ yss) ≡ joined xss ++ joined yss
unfolding joined
joined-append [] yss = refl
joined-append (xs ∷ xss) yss = ap (λ (zs : List ℕ). xs ++ zs) (joined-append xss yss) ∙ sym (append_assoc xs (joined xss) (joined yss))

-- one bit more
read_more : (rs : List Record) (s m i : ℕ) → s + m ≡ i → read_up_to rs s (suc m) ≡ read_up_to rs s m ++ bit_reads rs i
unfolding read_up_to bit_reads tabulate joined
read_more rs s m i e =
    let g : ℕ → List ℕ = λ i. sources (visit (cell_in (map cell_of rs) i)) in
    let bits : List ℕ = tabulate (λ i. s + i) m in
    rw (
      e,
      map-append g bits (i ∷ []),
      joined-append (map g bits) (g i ∷ []),
      append-nil (g i),
      map-append (start_of (bits_in rs)) (joined (map g bits)) (g i),
    )

-- the bits of the cell at s below i were read, and i is one more
pub record Scanning (n : ℕ) (ws : List ℕ) (from s best i : ℕ) : Type 0 where
  pub after : s ≤ i
  pub below : i < n
  pub upto : i ≤ s + run (drop (s + 1) (bits_in (records_in n ws)))
  pub lowest : Lowest n ws from (read_up_to (records_in n ws) s (i - s)) best

pub scanning-begins : (n : ℕ) (ws : List ℕ) (from s : ℕ) → s < n → Scanning n ws from s n s
unfolding read_up_to tabulate joined
scanning-begins n ws from s l = record {
  after = omega arith;
  below = l;
  upto = omega arith;
  lowest = rw (let e : s - s ≡ 0 = omega arith in e) (lowest-none n ws from);
}

module _ (n : ℕ) (ws : List ℕ) (from s best i : ℕ) (g : Scanning n ws from s best i) (r : ℕ) (v : Lowers n ws from (bit_reads (records_in n ws) i) best r) where
  scanned : Lowest n ws from (read_up_to (records_in n ws) s (suc (i - s))) r
  scanned =
      subst (λ (xs : List ℕ). Lowest n ws from xs r) (sym (read_more (records_in n ws) s (i - s) i (omega (arith, g.after))))
      (v.lowers (read_up_to (records_in n ws) s (i - s)) g.lowest)

  module _ (x : ℕ) (e : x ≡ get_or (bits_in (records_in n ws)) (i + 1) 0) where
    bit-after : (j : ℕ) → s + j ≡ i → get_or (drop (s + 1) (bits_in (records_in n ws))) j 0 ≡ x
    bit-after j q =
        get_or-drop (s + 1) (bits_in (records_in n ws)) j 0
        ∙ ap (λ (k : ℕ). get_or (bits_in (records_in n ws)) k 0) (let p : s + 1 + j ≡ i + 1 = omega arith in p) ∙ sym e

    pub scanning-more : (x ≡ 0 → ⊥) → Scanning n ws from s r (i + 1)
    scanning-more h = record {
      after = omega (arith, g.after);
      below = inside (dec_lt (i + 1) n);
      upto = within (dec_lt i (s + run (drop (s + 1) (bits_in (records_in n ws)))));
      lowest = rw (let q : (i + 1) - s ≡ suc (i - s) = omega (arith, g.after) in q) scanned;
    }
      where
        inside : Dec (i + 1 < n) → i + 1 < n
        inside (yes l) = l
        inside (no l) = absurd (h (e ∙ sym (bit_past n ws (i + 1) (omega arith))))

        within : Dec (i < s + run (drop (s + 1) (bits_in (records_in n ws)))) → i + 1 ≤ s + run (drop (s + 1) (bits_in (records_in n ws)))
        within (yes l) = omega arith
        within (no l) =
            absurd (h (sym (bit-after (run (drop (s + 1) (bits_in (records_in n ws)))) (omega (arith, g.upto)))
            ∙ run_end (drop (s + 1) (bits_in (records_in n ws)))))

    scanned-all : x ≡ 0 → Lowest n ws from (read_by (records_in n ws) s) r
    unfolding read_by
    scanned-all z =
        subst (λ (m : ℕ). Lowest n ws from (read_up_to (records_in n ws) s (suc m)) r)
        (last (dec_lt (i - s) (run (drop (s + 1) (bits_in (records_in n ws)))))) scanned
      where
        last : Dec (i - s < run (drop (s + 1) (bits_in (records_in n ws)))) → i - s ≡ run (drop (s + 1) (bits_in (records_in n ws)))
        last (yes l) =
            absurd (run_inside (drop (s + 1) (bits_in (records_in n ws))) (i - s) l (bit-after (i - s) (omega (arith, g.after)) ∙ z))
        last (no l) = omega (arith, g.after, g.upto)

    pub scanning-ends : x ≡ 0 → (o : Option Slot) → o ≡ then_some (ltb r n) (slot_at r) → LowestSlot n ws from (read_by (records_in n ws) s) o
    scanning-ends z = lowest-slot n ws from (read_by (records_in n ws) s) r (scanned-all z)
