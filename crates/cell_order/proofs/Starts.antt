-- The parts of the cell order: sources, then the walk from the cells that are no outputs, then outputs. Assumes nothing.
use mathlib.Core.Path.{◌≡◌, refl, sym, ap, ◌∙◌, subst}
use mathlib.Core.Bool.{Bool, true, false, not}
use mathlib.Core.List.{List, [], ◌∷◌, ◌++◌, map, append_assoc, append-nil}
use Prim.Native.Nat.{ℕ, ◌+◌, ◌≤◌, ◌<◌}
use native.Mathlib.Omega.{arith}
use native.Mathlib.Numerals.{add-one}
use lib.Dec.{eqb}
use lib.ListN.{length, get_or, set, length-append, get_or-replicate}
use lib.Seq.{get_or-set_other}
use Rattle.cell.specs.declared.Record.{Record}
use Rattle.cell.specs.declared.Cell.{Cell}
use Rattle.basics.specs.Lists.{tabulate, slots, those}
use Rattle.cell.specs.Records.{cell_of}
use Rattle.basics.proofs.Tables.{tabulate-length}
use Rattle.netlist.specs.Shape.{is_source, is_output}
use Rattle.netlist.specs.Netlist.{netlist_of, cell_in, iter_cells}
use Rattle.netlist.specs.inner.Areas.{word_record, records_in, words_in, Within, visited_at, order_at, replaced_at}
use Rattle.netlist.proofs.Frames.{within_none, within-then, within_wider, records-kept}
use Rattle.order.specs.Walk.{Walk, is_visited, push, each, walk, walk_from, fresh, unvisited}
use Rattle.order.specs.Orders.{emit, iter_cells_topo}
use Rattle.order.specs.inner.Code.{walk_of, visited_in, unvisited_in, Ready, Walks, Clears}
use Rattle.cell_order.specs.inner.Code.{cells_by, SortsCells}
use Rattle.cell_order.specs.inner.Descent.{bits_in}
use Rattle.cell_order.specs.inner.Starts.{starts_that, not_output, Emits, PutsSources, Free, Appends}
use Rattle.order.proofs.Walks.{count_set, each_append}
use Rattle.order.proofs.Words.{new-below, order-frame, words-push, walk-pushed}
use Rattle.order.proofs.Walking.{visited-of, unvisited-of, walks-none, walks-then, walks-ready, walks-records, walks-total, marked, marked-frame, marked-ready, cleared-walk, cleared-unvisited, cleared-records, cleared-then}
use Rattle.basics.proofs.Those.{those-append, those-length}
use Rattle.netlist.proofs.Cells.{cell_at, cells-length}
use Rattle.cell_order.proofs.Lowest.{bits-length}
use Rattle.cell_order.proofs.Cells.{one-taken, one_left}

-- starts of cells that pass a test, one slot after another
pub starts-append : (q : Cell → Bool) (rs : List Record) (xs ys : List ℕ) → starts_that q rs (xs ++ ys) ≡ starts_that q rs xs ++ starts_that q rs ys
unfolding starts_that
starts-append q rs xs ys =
    let start : ℕ → Bool = λ s. eqb (get_or (bits_in rs) s 0) 0 in
    let pass : ℕ → Bool = λ s. q (cell_in (map cell_of rs) s) in
    ap (those pass) (those-append start xs ys) ∙ those-append pass (those start xs) (those start ys)

pub starts_more : (q : Cell → Bool) (rs : List Record) (s : ℕ) → starts_that q rs (slots (s + 1)) ≡ starts_that q rs (slots s) ++ starts_that q rs (s ∷ [])
unfolding tabulate
starts_more q rs s = ap (λ (m : ℕ). starts_that q rs (slots m)) (add-one s) ∙ starts-append q rs (slots s) (s ∷ [])

pub starts-length : (q : Cell → Bool) (rs : List Record) (m : ℕ) → length (starts_that q rs (slots m)) ≤ m
unfolding starts_that
starts-length q rs m =
    let start : ℕ → Bool = λ s. eqb (get_or (bits_in rs) s 0) 0 in
    let pass : ℕ → Bool = λ s. q (cell_in (map cell_of rs) s) in
    omega (arith, those-length pass (those start (slots m)), those-length start (slots m), tabulate-length (λ (s : ℕ). s) m)

-- one slot: inside a cell, or by what starts there
module _ (q : Cell → Bool) (n : ℕ) (ws : List ℕ) (s : ℕ) (a : Bool) (e : a ≡ eqb (get_or (bits_in (records_in n ws)) s 0) 0) where
  pub starts-inside : a ≡ false → starts_that q (records_in n ws) (s ∷ []) ≡ []
  unfolding starts_that those
  starts-inside h =
      ap (those (λ u. q (cell_in (map cell_of (records_in n ws)) u)))
      (one_left (λ u. eqb (get_or (bits_in (records_in n ws)) u 0) 0) s (sym e ∙ h))

  module _ (z : a ≡ true) (l : s < n) where
    starts-here : starts_that q (records_in n ws) (s ∷ []) ≡ those (λ u. q (cell_in (map cell_of (records_in n ws)) u)) (s ∷ [])
    unfolding starts_that
    starts-here =
        ap (those (λ u. q (cell_in (map cell_of (records_in n ws)) u)))
        (one-taken (λ u. eqb (get_or (bits_in (records_in n ws)) u 0) 0) s (sym e ∙ z))

    pub starts-taken : q (cell_of (word_record ws s)) ≡ true → starts_that q (records_in n ws) (s ∷ []) ≡ s ∷ []
    starts-taken t = starts-here ∙ one-taken (λ u. q (cell_in (map cell_of (records_in n ws)) u)) s (ap q (cell_at n ws s l) ∙ t)

    pub starts-left : q (cell_of (word_record ws s)) ≡ false → starts_that q (records_in n ws) (s ∷ []) ≡ []
    starts-left f = starts-here ∙ one_left (λ u. q (cell_in (map cell_of (records_in n ws)) u)) s (ap q (cell_at n ws s l) ∙ f)

-- a source, or none, at a slot that was not visited
emits_none : (xs : List ℕ) (s n count : ℕ) (ws : List ℕ) → xs ≡ [] → Emits xs s n count ws ws count
unfolding each
emits_none xs s n count ws e = subst (λ (ys : List ℕ). Emits ys s n count ws ws count) (sym e)
    (record { said = refl; total = refl; others = λ u h. refl; frame = within_none visited_at replaced_at ws })

module _ (n count : ℕ) (ws : List ℕ) (s : ℕ) (a : Bool) (e : a ≡ eqb (get_or (bits_in (records_in n ws)) s 0) 0) where
  pub emit-inside : a ≡ false → Emits (starts_that is_source (records_in n ws) (s ∷ [])) s n count ws ws count
  emit-inside h = emits_none _ s n count ws (starts-inside is_source n ws s a e h)

  module _ (new : visited_in n ws s ≡ false) (z : a ≡ true) (b : Bool) (i : b ≡ is_source (cell_of (word_record ws s))) where
    pub emit-left : b ≡ false → Emits (starts_that is_source (records_in n ws) (s ∷ [])) s n count ws ws count
    emit-left f = emits_none _ s n count ws (starts-left is_source n ws s a e z (new-below n ws s new) (sym i ∙ f))

    module _ (g : Ready n count ws) (ws₁ ws₂ : List ℕ) (o : ws₁ ≡ set ws (visited_at + s) 1) (p : ws₂ ≡ set ws₁ (order_at + count) s) where
      below : count < 1024
      below = omega (arith, g.room, count_set (walk_of n count ws).visited s (visited-of n count ws s ∙ new), unvisited-of n count ws)

      emitted : walk_of n (count + 1) ws₂ ≡ emit s (walk_of n count ws)
      emitted =
          let r : Ready n count ws₁ = marked-ready n count ws ws₁ s g new o in
          ap (walk_of n (count + 1)) p ∙ walk-pushed n ws₁ count s r.few r.long below
          ∙ ap (λ (w : Walk). push s w) (marked n count ws ws₁ s g new o count)

      pub emit-done : b ≡ true → Emits (starts_that is_source (records_in n ws) (s ∷ [])) s n count ws ws₂ (count + 1)
      unfolding each
      emit-done t =
          let r : Ready n count ws₁ = marked-ready n count ws ws₁ s g new o in
          subst (λ (ys : List ℕ). Emits ys s n count ws ws₂ (count + 1)) (sym (starts-taken is_source n ws s a e z (new-below n ws s new) (sym i ∙ t))) (record {
            said = emitted;
            total = omega (
              arith,
              sym (unvisited-of n (count + 1) ws₂) ∙ ap unvisited emitted,
              count_set (walk_of n count ws).visited s (visited-of n count ws s ∙ new),
              unvisited-of n count ws,
            );
            others = λ u h.
                sym (visited-of n (count + 1) ws₂ u) ∙ ap (λ (w : Walk). is_visited w u) emitted
                ∙ get_or-set_other (walk_of n count ws).visited s u true true h ∙ visited-of n count ws u;
            frame = within-then visited_at replaced_at ws ws₁ ws₂
                (within_wider visited_at order_at visited_at replaced_at ws ws₁ (omega arith) (omega arith) (marked-frame n count ws ws₁ s g new o))
                (subst (λ (vs : List ℕ). Within visited_at replaced_at ws₁ vs) (sym p)
                (within_wider order_at replaced_at visited_at replaced_at ws₁ (set ws₁ (order_at + count) s) (omega arith) (omega arith)
                (order-frame n ws₁ count s r.few r.long below)));
          })

-- the sources below s were put
pub record Putting (n : ℕ) (ws₁ ws : List ℕ) (count s : ℕ) : Type 0 where
  pub few : n ≤ 512
  pub long : 16384 ≤ length ws
  pub said : walk_of n count ws ≡ each emit (starts_that is_source (records_in n ws₁) (slots s)) (walk_of n 0 ws₁)
  pub total : count + unvisited_in n ws ≡ n
  pub new : (u : ℕ) → s ≤ u → u < n → visited_in n ws u ≡ false
  pub frame : Within visited_at replaced_at ws₁ ws

pub putting-begins : (n : ℕ) (ws ws₁ : List ℕ) → Clears n ws ws₁ → 16384 ≤ length ws → n ≤ 512 → Putting n ws₁ ws₁ 0 0
unfolding tabulate starts_that those each visited_in
putting-begins n ws ws₁ v l f = record {
  few = f;
  long = omega (arith, v.frame.same);
  said = refl;
  total = omega (arith, cleared-unvisited n ws ws₁ v);
  new = λ u a b. ap (λ (xs : List Bool). get_or xs u true) v.blank ∙ get_or-replicate n u false true b;
  frame = within_none visited_at replaced_at ws₁;
}

module _ (n : ℕ) (ws₁ ws : List ℕ) (count s : ℕ) (g : Putting n ws₁ ws count s) where
  pub putting-ready : Ready n count ws
  putting-ready = let few : n ≤ 512 = g.few in record { long = g.long; few = omega arith; room = omega (arith, g.total) }

  pub putting-new : s < n → visited_in n ws s ≡ false
  putting-new l = g.new s (omega arith) l

  pub putting-more : s < n → (ws' : List ℕ) (r : ℕ) → Emits (starts_that is_source (records_in n ws) (s ∷ [])) s n count ws ws' r → Putting n ws₁ ws' r (s + 1)
  putting-more l ws' r v = let few : n ≤ 512 = g.few in let rs : List Record = records_in n ws₁ in record {
    few = few;
    long = let h : 16384 ≤ length ws = g.long in omega (arith, v.frame.same);
    said = v.said
        ∙ ap (λ (us : List Record). each emit (starts_that is_source us (s ∷ [])) (walk_of n count ws))
        (records-kept visited_at replaced_at ws₁ ws g.frame n (omega arith))
        ∙ ap (each emit (starts_that is_source rs (s ∷ []))) g.said
        ∙ sym (each_append emit (starts_that is_source rs (slots s)) (starts_that is_source rs (s ∷ [])) (walk_of n 0 ws₁))
        ∙ ap (λ (xs : List ℕ). each emit xs (walk_of n 0 ws₁)) (sym (starts_more is_source rs s));
    total = v.total ∙ g.total;
    new = λ u a b. v.others u (λ q. absurd (omega arith)) ∙ g.new u (omega arith) b;
    frame = within-then visited_at replaced_at ws₁ ws ws' g.frame v.frame;
  }

  pub putting-ends : s ≤ n → n ≤ s → (ws₀ : List ℕ) → Clears n ws₀ ws₁ → PutsSources n ws₀ ws count
  putting-ends m l ws₀ v = let few : n ≤ 512 = g.few in let q : s ≡ n = omega arith in record {
    said = g.said ∙ ap (λ (m : ℕ). each emit (starts_that is_source (records_in n ws₁) (slots m)) (walk_of n 0 ws₁)) q
        ∙ ap (λ (us : List Record). each emit (starts_that is_source us (slots n)) (walk_of n 0 ws₁)) (cleared-records n ws₀ ws₁ v (omega arith))
        ∙ ap (each emit (starts_that is_source (records_in n ws₀) (slots n))) (cleared-walk n ws₀ ws₁ v);
    total = g.total;
    frame = cleared-then n ws₀ ws₁ v ws g.frame;
  }

-- a cell that passes a test, or none
module _ (q : Cell → Bool) (n count : ℕ) (ws : List ℕ) (s : ℕ) (a : Bool) (e : a ≡ eqb (get_or (bits_in (records_in n ws)) s 0) 0) where
  pub start-inside : a ≡ false → Walks cells_by (starts_that q (records_in n ws) (s ∷ [])) n count ws ws count
  start-inside h =
      subst (λ (xs : List ℕ). Walks cells_by xs n count ws ws count) (sym (starts-inside q n ws s a e h)) (walks-none cells_by n count ws)

  module _ (l : s < n) (z : a ≡ true) where
    pub start_left : q (cell_of (word_record ws s)) ≡ false → Walks cells_by (starts_that q (records_in n ws) (s ∷ [])) n count ws ws count
    start_left f =
        subst (λ (xs : List ℕ). Walks cells_by xs n count ws ws count) (sym (starts-left q n ws s a e z l f)) (walks-none cells_by n count ws)

    pub start-taken : q (cell_of (word_record ws s)) ≡ true → (ws' : List ℕ) (r : ℕ) → Walks cells_by (s ∷ []) n count ws ws' r
        → Walks cells_by (starts_that q (records_in n ws) (s ∷ [])) n count ws ws' r
    start-taken t ws' r v = subst (λ (xs : List ℕ). Walks cells_by xs n count ws ws' r) (sym (starts-taken q n ws s a e z l t)) v

module _ (n count : ℕ) (ws : List ℕ) (s : ℕ) (a : Bool) (e : a ≡ eqb (get_or (bits_in (records_in n ws)) s 0) 0) (l : s < n) (z : a ≡ true) (b : Bool)
    (i : b ≡ is_output (cell_of (word_record ws s))) where
  pub start-output : b ≡ true → Walks cells_by (starts_that not_output (records_in n ws) (s ∷ [])) n count ws ws count
  start-output t = start_left not_output n count ws s a e l z (ap not (sym i ∙ t))

  pub start_cell : b ≡ false → (ws' : List ℕ) (r : ℕ) → Walks cells_by (s ∷ []) n count ws ws' r
      → Walks cells_by (starts_that not_output (records_in n ws) (s ∷ [])) n count ws ws' r
  start_cell f = start-taken not_output n count ws s a e l z (ap not (sym i ∙ f))

-- the cells below s that pass a test were walked to
pub record Going (q : Cell → Bool) (n begin : ℕ) (ws₀ ws : List ℕ) (count s : ℕ) : Type 0 where
  pub begun : Ready n begin ws₀
  pub ready : Ready n count ws
  pub walked : Walks cells_by (starts_that q (records_in n ws₀) (slots s)) n begin ws₀ ws count

pub going-begins : (q : Cell → Bool) (n begin : ℕ) (ws : List ℕ) → Ready n begin ws → Going q n begin ws ws begin 0
unfolding tabulate starts_that those
going-begins q n begin ws g = record { begun = g; ready = g; walked = walks-none cells_by n begin ws }

module _ (q : Cell → Bool) (n begin : ℕ) (ws₀ ws : List ℕ) (count s : ℕ) (g : Going q n begin ws₀ ws count s) where
  pub going_more : s < n → (ws' : List ℕ) (r : ℕ) → Walks cells_by (starts_that q (records_in n ws) (s ∷ [])) n count ws ws' r
      → Going q n begin ws₀ ws' r (s + 1)
  going_more l ws' r v = let rs : List Record = records_in n ws₀ in record {
    begun = g.begun;
    ready = walks-ready cells_by n _ count ws ws' r v g.ready;
    walked = subst (λ (xs : List ℕ). Walks cells_by xs n begin ws₀ ws' r) (sym (starts_more q rs s))
        (walks-then cells_by n (starts_that q rs (slots s)) begin ws₀ ws count g.walked g.begun (starts_that q rs (s ∷ [])) ws' r
        (subst (λ (us : List Record). Walks cells_by (starts_that q us (s ∷ [])) n count ws ws' r)
        (walks-records cells_by n (starts_that q rs (slots s)) begin ws₀ ws count g.walked g.begun) v));
  }

  pub going-ends : s ≤ n → n ≤ s → Walks cells_by (starts_that q (records_in n ws₀) (slots n)) n begin ws₀ ws count
  going-ends m l =
      let e : s ≡ n = omega arith in
      subst (λ (m : ℕ). Walks cells_by (starts_that q (records_in n ws₀) (slots m)) n begin ws₀ ws count) e g.walked

-- an output, or none
appends-none : (xs : List ℕ) (count : ℕ) (ws : List ℕ) → xs ≡ [] → Appends xs count ws ws count
appends-none xs count ws e = subst (λ (ys : List ℕ). Appends ys count ws ws count) (sym e)
    (record { said = sym (append-nil (words_in order_at count ws)); frame = within_none order_at replaced_at ws })

module _ (n count : ℕ) (ws : List ℕ) (s : ℕ) (a : Bool) (e : a ≡ eqb (get_or (bits_in (records_in n ws)) s 0) 0) where
  pub append-inside : a ≡ false → Appends (starts_that is_output (records_in n ws) (s ∷ [])) count ws ws count
  append-inside h = appends-none _ count ws (starts-inside is_output n ws s a e h)

  module _ (l : s < n) (z : a ≡ true) (b : Bool) (i : b ≡ is_output (cell_of (word_record ws s))) where
    pub append_left : b ≡ false → Appends (starts_that is_output (records_in n ws) (s ∷ [])) count ws ws count
    append_left f = appends-none _ count ws (starts-left is_output n ws s a e z l (sym i ∙ f))

    pub append-done : b ≡ true → Free n count ws → (ws' : List ℕ) → ws' ≡ set ws (order_at + count) s
        → Appends (starts_that is_output (records_in n ws) (s ∷ [])) count ws ws' (count + 1)
    append-done t g ws' p =
        subst (λ (vs : List ℕ). Appends (starts_that is_output (records_in n ws) (s ∷ [])) count ws vs (count + 1)) (sym p) (record {
          said = words-push n ws count s g.few g.long g.room
              ∙ ap (λ (xs : List ℕ). words_in order_at count ws ++ xs) (sym (starts-taken is_output n ws s a e z l (sym i ∙ t)));
          frame = order-frame n ws count s g.few g.long g.room;
        })

-- the outputs below s were put
pub record Appending (n cells : ℕ) (ws₀ ws : List ℕ) (count s : ℕ) : Type 0 where
  pub long : 16384 ≤ length ws
  pub room : cells + n ≤ 1024
  pub appended : Appends (starts_that is_output (records_in n ws₀) (slots s)) cells ws₀ ws count

order-length : (count : ℕ) (ws : List ℕ) → length (words_in order_at count ws) ≡ count
unfolding words_in
order-length count ws = tabulate-length _ count

pub appending-begins : (n cells : ℕ) (ws : List ℕ) → 16384 ≤ length ws → cells + n ≤ 1024 → Appending n cells ws ws cells 0
unfolding tabulate starts_that those
appending-begins n cells ws l f = record { long = l; room = f; appended = appends-none [] cells ws refl }

appended-most : (rs : List Record) (cells : ℕ) (ws₀ ws : List ℕ) (count m : ℕ) → Appends (starts_that is_output rs (slots m)) cells ws₀ ws count → count ≤ cells + m
appended-most rs cells ws₀ ws count m v =
    omega (
      arith,
      starts-length is_output rs m,
      sym (order-length count ws) ∙ ap length v.said ∙ length-append (words_in order_at cells ws₀) (starts_that is_output rs (slots m)),
      order-length cells ws₀,
    )

module _ (n cells : ℕ) (ws₀ ws : List ℕ) (count s : ℕ) (g : Appending n cells ws₀ ws count s) where
  pub appending-free : s < n → Free n count ws
  appending-free l = record { long = g.long; few = omega (arith, g.room); room = omega (arith, g.room, appended-most (records_in n ws₀) cells ws₀ ws count s g.appended) }

  pub appending-more : s < n → (ws' : List ℕ) (r : ℕ) → Appends (starts_that is_output (records_in n ws) (s ∷ [])) count ws ws' r → Appending n cells ws₀ ws' r (s + 1)
  appending-more l ws' r v = let rs : List Record = records_in n ws₀ in record {
    long = let h : 16384 ≤ length ws = g.long in omega (arith, v.frame.same);
    room = g.room;
    appended = record {
      said = v.said
          ∙ ap (λ (us : List Record). words_in order_at count ws ++ starts_that is_output us (s ∷ []))
          (records-kept order_at replaced_at ws₀ ws g.appended.frame n (omega (arith, g.room)))
          ∙ ap (λ (xs : List ℕ). xs ++ starts_that is_output rs (s ∷ [])) g.appended.said
          ∙ append_assoc (words_in order_at cells ws₀) (starts_that is_output rs (slots s)) (starts_that is_output rs (s ∷ []))
          ∙ ap (λ (xs : List ℕ). words_in order_at cells ws₀ ++ xs) (sym (starts_more is_output rs s));
      frame = within-then order_at replaced_at ws₀ ws ws' g.appended.frame v.frame;
    };
  }

  pub appending-ends : s ≤ n → n ≤ s → Appends (starts_that is_output (records_in n ws₀) (slots n)) cells ws₀ ws count
  appending-ends m l =
      let q : s ≡ n = omega arith in
      subst (λ (m : ℕ). Appends (starts_that is_output (records_in n ws₀) (slots m)) cells ws₀ ws count) q g.appended

-- the three parts
iter-parts : (rs : List Record) (n : ℕ) → length (map cell_of rs) ≡ n → length (bits_in rs) ≡ n
    → (walk_from n (cells_by rs) (starts_that not_output rs (slots n)) (each emit (starts_that is_source rs (slots n)) (fresh n))).result ++ starts_that is_output rs (slots n)
    ≡ iter_cells_topo (netlist_of rs)
unfolding iter_cells_topo netlist_of iter_cells starts_that bits_in cells_by
iter-parts rs n p q = rw (iter_cells_topo, p, q)

pub outputs-room : (n c i : ℕ) (xs ws₁ ws₂ ws : List ℕ) → Walks cells_by xs n i ws₁ ws₂ c → PutsSources n ws ws₁ i → n ≤ 512 → c + n ≤ 1024
outputs-room n c i xs ws₁ ws₂ ws w v few = omega (arith, v.total, walks-total cells_by n xs i ws₁ ws₂ c w)

module _ (n : ℕ) (ws ws₁ : List ℕ) (i : ℕ) (v : PutsSources n ws ws₁ i) (long : 16384 ≤ length ws) (few : n ≤ 512) where
  pub sources-ready : Ready n i ws₁
  sources-ready = record { long = omega (arith, v.frame.same); few = omega arith; room = omega (arith, v.total) }

  records₁ : records_in n ws₁ ≡ records_in n ws
  records₁ = records-kept visited_at replaced_at ws ws₁ v.frame n (omega arith)

  module _ (ws₂ : List ℕ) (c : ℕ) (w : Walks cells_by (starts_that not_output (records_in n ws₁) (slots n)) n i ws₁ ws₂ c) where
    pub outputs-long : 16384 ≤ length ws₂
    outputs-long = omega (arith, v.frame.same, w.frame.same)

    walked : walk_of n c ws₂
        ≡ walk_from n (cells_by (records_in n ws)) (starts_that not_output (records_in n ws) (slots n))
        (each emit (starts_that is_source (records_in n ws) (slots n)) (fresh n))
    unfolding walk_from
    walked =
        w.said n (omega (arith, v.total))
        ∙ ap (λ (us : List Record). each (walk n (cells_by us)) (starts_that not_output us (slots n)) (walk_of n i ws₁)) records₁
        ∙ ap (each (walk n (cells_by (records_in n ws))) (starts_that not_output (records_in n ws) (slots n))) v.said

    result-of : (m : Walk) → walk_of n c ws₂ ≡ m → words_in order_at c ws₂ ≡ m.result
    unfolding walk_of
    result-of m e = ap (λ (u : Walk). u.result) e

    pub cells-sorted : (ws₃ : List ℕ) (r : ℕ) → Appends (starts_that is_output (records_in n ws₂) (slots n)) c ws₂ ws₃ r → SortsCells n ws ws₃ r
    cells-sorted ws₃ r a = record {
      order = a.said
          ∙ ap (λ (us : List Record). words_in order_at c ws₂ ++ starts_that is_output us (slots n)) (walks-records cells_by n _ i ws₁ ws₂ c w sources-ready ∙ records₁)
          ∙ ap (λ (xs : List ℕ). xs ++ starts_that is_output (records_in n ws) (slots n)) (result-of _ walked)
          ∙ iter-parts (records_in n ws) n (cells-length n ws) (bits-length n ws);
      few = omega (arith, appended-most (records_in n ws₂) c ws₂ ws₃ r n a, v.total, walks-total cells_by n _ i ws₁ ws₂ c w);
      frame = within-then visited_at replaced_at ws ws₁ ws₃ v.frame
          (within-then visited_at replaced_at ws₁ ws₂ ws₃ w.frame
          (within_wider order_at replaced_at visited_at replaced_at ws₂ ws₃ (omega arith) (omega arith) a.frame));
    }
