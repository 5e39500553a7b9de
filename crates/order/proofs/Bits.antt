-- The bit order: what a bit depends on, operand by operand, and the places of the walk. Assumes nothing.
use mathlib.Core.Path.{◌≡◌, refl, sym, ap, ◌∙◌, subst}
use mathlib.Core.Bool.{Bool, true, false, cond, not}
use mathlib.Core.List.{List, [], ◌∷◌, ◌++◌, map, reverse, reverse-append, append_assoc, append-nil}
use Prim.Native.Nat.{ℕ, ◌+◌, ◌≤◌, ◌<◌}
use native.Mathlib.Omega.{arith}
use native.Mathlib.Numerals.{add-one}
use native.Mathlib.Decide.{dec_lt}
use lib.ListN.{length, set}
use borrow.Author.Count.{below_more}
use mir.Syntax.{w32}
use mir.Val.{Fits}
use Rattle.value.specs.declared.Net.{Net}
use Rattle.value.specs.declared.Slot.{Slot}
use Rattle.value.specs.declared.Driver.{Driver}
use Rattle.value.specs.declared.Driver.TheVariants as driven
use Rattle.value.specs.Value.{driver}
use Rattle.logic.specs.declared.Trit.{Trit}
use Rattle.cell.specs.declared.Record.{Record}
use Rattle.cell.specs.declared.Cell.{Cell}
use Rattle.cell.specs.declared.Cell.TheVariants.{Input, Output, Buf, Not, And, Or, Xor, Mux, Aig}
use Rattle.basics.specs.Lists.{tabulate, slots, those, joined}
use Rattle.cell.specs.Records.{cell_of}
use Rattle.basics.proofs.Those.{those-append}
use Rattle.netlist.proofs.Cells.{cells-length, cell_at, cell-past}
use Rattle.netlist.specs.Shape.{visit, is_source}
use Rattle.netlist.specs.Netlist.{cell_in, driven_by, sources}
use Rattle.netlist.specs.inner.Areas.{word_record, records_in, words_in, order_at, visited_at}
use Rattle.netlist.specs.declared.fields.Operands.{Operands}
use Rattle.order.specs.Walk.{Walk, each, walk_from, fresh}
use Rattle.order.specs.Orders.{bit_deps, topo_sort}
use Rattle.order.specs.inner.Code.{walk_of, visited_in, bits_by, Ready, Walks, Clears, Sorts}
use Rattle.order.specs.inner.Descent.{operands_of, bits_of, operand_bits}
use Rattle.order.proofs.Walks.{walk-visited}
use Rattle.order.proofs.Words.{mark-past, new-below}
use Rattle.order.proofs.Walking.{visited-of, walks-none, walks-then, walks-ready, walks-records, marked-records, pushed-next, pushed, walks-total, walks-grown, walks-there, none-unvisited, cleared-ready, cleared-unvisited, cleared-walked, cleared-then}

-- at most one passes
driven-reverse : (p : ℕ → Bool) (d : Driver) → reverse (those p (driven_by d)) ≡ those p (driven_by d)
unfolding those
driven-reverse p (driven.Const t) = refl
driven-reverse p (driven.Cell s) = go (p s.0)
  where
    go : (b : Bool) → reverse (cond b (s.0 ∷ []) []) ≡ cond b (s.0 ∷ []) []
    go true = refl
    go false = refl

pub sources-operands : (c : Cell) → sources (visit c) ≡ driven_by (driver (operands_of c).0) ++ (driven_by (driver (operands_of c).1) ++ (driven_by (driver (operands_of c).2) ++ []))
unfolding sources visit joined operands_of driver
sources-operands (Input l) = refl
sources-operands (Output a l) = refl
sources-operands (Buf a) = refl
sources-operands (Not a) = refl
sources-operands (And a b) = refl
sources-operands (Or a b) = refl
sources-operands (Xor a b) = refl
sources-operands (Mux a b c) = refl
sources-operands (Aig p q) = refl

reverse-three : (p : ℕ → Bool) (x y z : Driver)
    → reverse (those p (driven_by x ++ (driven_by y ++ (driven_by z ++ [])))) ≡ those p (driven_by z) ++ (those p (driven_by y) ++ those p (driven_by x))
reverse-three p x y z = rw (
  append-nil (driven_by z),
  those-append p (driven_by x) (driven_by y ++ driven_by z),
  those-append p (driven_by y) (driven_by z),
  reverse-append (those p (driven_by x)) (those p (driven_by y) ++ those p (driven_by z)),
  reverse-append (those p (driven_by y)) (those p (driven_by z)),
  driven-reverse p x,
  driven-reverse p y,
  driven-reverse p z,
  append_assoc (those p (driven_by z)) (those p (driven_by y)) (those p (driven_by x)),
)

pub bits-by : (rs : List Record) (s : ℕ) → bits_by rs s ≡ operand_bits rs (operands_of (cell_in (map cell_of rs) s))
unfolding bits_by bit_deps operand_bits bits_of
bits-by rs s =
    ap (λ (xs : List ℕ). reverse (those (λ x. not (is_source (cell_in (map cell_of rs) x))) xs)) (sources-operands (cell_in (map cell_of rs) s))
    ∙ reverse-three (λ x. not (is_source (cell_in (map cell_of rs) x))) (driver (operands_of (cell_in (map cell_of rs) s)).0)
    (driver (operands_of (cell_in (map cell_of rs) s)).1) (driver (operands_of (cell_in (map cell_of rs) s)).2)

-- past the items there is nothing to walk to
walks-nothing : (n count : ℕ) (ws ws' : List ℕ) (r s : ℕ) → n ≤ s → Walks bits_by (s ∷ []) n count ws ws' r → Walks bits_by [] n count ws ws' r
unfolding each
walks-nothing n count ws ws' r s l v = record {
  said = λ k h. v.said k h ∙ walk-visited (bits_by (records_in n ws)) k s (walk_of n count ws) (visited-of n count ws s ∙ mark-past n ws s l);
  frame = v.frame;
}

-- a net that is constant or leads to a source
module _ (n count : ℕ) (ws : List ℕ) (x : Net) (d : Driver) (e : d ≡ driver x) where
  pub net-constant : (t : Trit) → d ≡ driven.Const t → Walks bits_by (bits_of (records_in n ws) x) n count ws ws count
  unfolding bits_of those
  net-constant t q = rw (sym e ∙ q) (walks-none bits_by n count ws)

  module _ (s : Slot) (q : d ≡ driven.Cell s) (b : Bool) (i : b ≡ is_source (cell_of (word_record ws s.0))) where
    abbrev kept : List ℕ
    kept = those (λ y. not (is_source (cell_in (map cell_of (records_in n ws)) y))) (s.0 ∷ [])

    bits-cell : bits_of (records_in n ws) x ≡ kept
    unfolding bits_of
    bits-cell = ap (λ (y : Driver). those (λ z. not (is_source (cell_in (map cell_of (records_in n ws)) z))) (driven_by y)) (sym e ∙ q)

    left_out : is_source (cell_in (map cell_of (records_in n ws)) s.0) ≡ true → kept ≡ []
    unfolding those
    left_out h = rw h

    taken : is_source (cell_in (map cell_of (records_in n ws)) s.0) ≡ false → kept ≡ s.0 ∷ []
    unfolding those
    taken h = rw h

    past : n ≤ s.0 → kept ≡ []
    past l = left_out (ap is_source (cell-past n ws s.0 l))

    at : s.0 < n → is_source (cell_in (map cell_of (records_in n ws)) s.0) ≡ b
    at l = ap is_source (cell_at n ws s.0 l) ∙ sym i

    pub net-source : b ≡ true → Walks bits_by (bits_of (records_in n ws) x) n count ws ws count
    net-source t =
        subst (λ (xs : List ℕ). Walks bits_by xs n count ws ws count) (sym (bits-cell ∙ go (dec_lt s.0 n))) (walks-none bits_by n count ws)
      where
        go : Dec (s.0 < n) → kept ≡ []
        go (yes l) = left_out (at l ∙ t)
        go (no l) = past (omega arith)

    pub net-bit : b ≡ false → (ws' : List ℕ) (r : ℕ) → Walks bits_by (s.0 ∷ []) n count ws ws' r
        → Walks bits_by (bits_of (records_in n ws) x) n count ws ws' r
    net-bit f ws' r v = go (dec_lt s.0 n)
      where
        go : Dec (s.0 < n) → Walks bits_by (bits_of (records_in n ws) x) n count ws ws' r
        go (yes l) = subst (λ (xs : List ℕ). Walks bits_by xs n count ws ws' r) (sym (bits-cell ∙ taken (at l ∙ f))) v
        go (no l) = subst (λ (xs : List ℕ). Walks bits_by xs n count ws ws' r) (sym (bits-cell ∙ past (omega arith))) (walks-nothing n count ws ws' r s.0 (omega arith) v)

-- the operands one after another
module _ (n count : ℕ) (ws ws₁ : List ℕ) (o : Operands) (c₁ : ℕ) (g : Ready n count ws) (v₁ : Walks bits_by (bits_of (records_in n ws) o.2) n count ws ws₁ c₁) where
  module _ (ws₂ : List ℕ) (c₂ : ℕ) (v₂ : Walks bits_by (bits_of (records_in n ws₁) o.1) n c₁ ws₁ ws₂ c₂) where
    second : Walks bits_by (bits_of (records_in n ws) o.2 ++ bits_of (records_in n ws) o.1) n count ws ws₂ c₂
    second =
        walks-then bits_by n _ count ws ws₁ c₁ v₁ g (bits_of (records_in n ws) o.1) ws₂ c₂
        (subst (λ (rs : List Record). Walks bits_by (bits_of rs o.1) n c₁ ws₁ ws₂ c₂) (walks-records bits_by n _ count ws ws₁ c₁ v₁ g) v₂)

    pub operands-done : (ws₃ : List ℕ) (c₃ : ℕ) → Walks bits_by (bits_of (records_in n ws₂) o.0) n c₂ ws₂ ws₃ c₃
        → Walks bits_by (operand_bits (records_in n ws) o) n count ws ws₃ c₃
    unfolding operand_bits
    operands-done ws₃ c₃ v₃ =
        subst (λ (xs : List ℕ). Walks bits_by xs n count ws ws₃ c₃)
        (append_assoc (bits_of (records_in n ws) o.2) (bits_of (records_in n ws) o.1) (bits_of (records_in n ws) o.0))
        (walks-then bits_by n _ count ws ws₂ c₂ second g (bits_of (records_in n ws) o.0) ws₃ c₃
        (subst (λ (rs : List Record). Walks bits_by (bits_of rs o.0) n c₂ ws₂ ws₃ c₃) (walks-records bits_by n _ count ws ws₂ c₂ second g) v₃))

-- a bit that was not visited
module _ (n count : ℕ) (ws ws₁ ws₂ : List ℕ) (s : ℕ) (g : Ready n count ws) (new : visited_in n ws s ≡ false) (o : ws₁ ≡ set ws (visited_at + s) 1)
    (reads : Operands) (b : reads ≡ operands_of (cell_of (word_record ws s))) (c : ℕ)
    (v : Walks bits_by (operand_bits (records_in n ws₁) reads) n count ws₁ ws₂ c) where
  down : Walks bits_by (bits_by (records_in n ws₁) s) n count ws₁ ws₂ c
  down =
      subst (λ (xs : List ℕ). Walks bits_by xs n count ws₁ ws₂ c)
      (ap (operand_bits (records_in n ws₁)) (b ∙ ap operands_of (sym (cell_at n ws s (new-below n ws s new))
      ∙ ap (λ (rs : List Record). cell_in (map cell_of rs) s) (sym (marked-records n count ws ws₁ s g new o))))
      ∙ sym (bits-by (records_in n ws₁) s)) v

  pub bit-next : Fits w32 (c + 1)
  bit-next = pushed-next n count ws ws₁ s g new o bits_by ws₂ c down

  pub bit-done : (ws₃ : List ℕ) → ws₃ ≡ set ws₂ (order_at + c) s → Walks bits_by (s ∷ []) n count ws ws₃ (c + 1)
  bit-done ws₃ p = pushed n count ws ws₁ s g new o bits_by ws₂ c down ws₃ p

sorted : (n count : ℕ) (ws ws₀ : List ℕ) → walk_of n count ws ≡ walk_from n (bits_by (records_in n ws₀)) (slots n) (fresh n)
    → words_in order_at count ws ≡ topo_sort (map cell_of (records_in n ws₀))
unfolding walk_of topo_sort bits_by
sorted n count ws ws₀ e = rw (topo_sort, cells-length n ws₀) (ap (λ (w : Walk). w.result) e)

-- the bits below s were walked to
pub record Sorting (n : ℕ) (ws₁ ws : List ℕ) (count s : ℕ) : Type 0 where
  pub begun : Ready n 0 ws₁
  pub ready : Ready n count ws
  pub walked : Walks bits_by (slots s) n 0 ws₁ ws count
  pub visited : (u : ℕ) → u < s → visited_in n ws u ≡ true

pub sorting-begins : (n : ℕ) (ws ws₁ : List ℕ) → Clears n ws ws₁ → 16384 ≤ length ws → n ≤ 1024 → Sorting n ws₁ ws₁ 0 0
unfolding tabulate
sorting-begins n ws ws₁ v l f = record {
  begun = cleared-ready n ws ws₁ v l f;
  ready = cleared-ready n ws ws₁ v l f;
  walked = walks-none bits_by n 0 ws₁;
  visited = λ u h. absurd (omega arith);
}

module _ (n : ℕ) (ws₁ ws : List ℕ) (count s : ℕ) (g : Sorting n ws₁ ws count s) where
  pub sorting-more : s < n → (ws' : List ℕ) (r : ℕ) → Walks bits_by (s ∷ []) n count ws ws' r → Sorting n ws₁ ws' r (s + 1)
  unfolding tabulate
  sorting-more l ws' r v = record {
    begun = g.begun;
    ready = walks-ready bits_by n (s ∷ []) count ws ws' r v g.ready;
    walked = rw (add-one s) (walks-then bits_by n (slots s) 0 ws₁ ws count g.walked g.begun (s ∷ []) ws' r v);
    visited = below_more (λ u. visited_in n ws' u ≡ true) s (λ u h. walks-grown bits_by n (s ∷ []) count ws ws' r v u (g.visited u h))
        (walks-there bits_by n count ws ws' r s v);
  }

  pub sorting-ends : s ≤ n → n ≤ s → (ws₀ : List ℕ) → Clears n ws₀ ws₁ → Sorts n ws₀ ws count
  sorting-ends m l ws₀ v =
      let q : s ≡ n = omega arith in
      let few : n ≤ 1024 = g.ready.few in
      let w : Walks bits_by (slots n) n 0 ws₁ ws count = subst (λ (k : ℕ). Walks bits_by (slots k) n 0 ws₁ ws count) q g.walked in
      record {
        order = sorted n count ws ws₀ (cleared-walked n ws₀ ws₁ v bits_by (slots n) ws count few w);
        all = omega (arith, walks-total bits_by n (slots n) 0 ws₁ ws count w, cleared-unvisited n ws₀ ws₁ v, none-unvisited n ws (λ u k. g.visited u (omega arith)));
        frame = cleared-then n ws₀ ws₁ v ws w.frame;
      }
