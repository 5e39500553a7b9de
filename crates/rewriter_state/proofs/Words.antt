-- The state of the rewriter in the words after a store in each area. Assumes nothing.
use Rattle.std.proofs.Common.{Option}
use mathlib.Core.Path.{◌≡◌, refl, sym, ap, ap₂, ◌∙◌, subst}
use mathlib.Core.Bool.{Bool, true, false}
use mathlib.Core.List.{List, [], ◌∷◌, ◌++◌}
use mathlib.Core.Logic.{inl, inr}
use Prim.Native.Nat.{ℕ, ◌+◌, ◌*◌, ◌≤◌, ◌<◌}
use native.Mathlib.Omega.{arith}
use native.Mathlib.Numerals.{add-one}
use native.Mathlib.Decide.{dec_lt}
use lib.Dec.{eqb}
use lib.ListN.{length, get_or, set}
use lib.Seq.{get_or-set_same, get_or-set_other}
use borrow.Author.Tests.{eqb-true, eqb-false}
use Rattle.value.specs.declared.Net.{Net}
use Rattle.cell.specs.declared.Record.{Record}
use Rattle.cell.specs.declared.Cell.{Cell}
use Rattle.cell.specs.declared.Cell.TheVariants.{Input}
use Rattle.cell.specs.Records.{cell_of, cell_record}
use Rattle.basics.specs.Lists.{tabulate}
use Rattle.cell.proofs.RoundTrips.{cell-back}
use Rattle.value.specs.Value.{net_at}
use Rattle.netlist.specs.inner.Areas.{word_record, store_words, records_in, words_in, Within, figures_at, keys_from, mixes_at, replaced_at, visited_at}
use Rattle.netlist.specs.Netlist.{netlist_of}
use Rattle.netlist.proofs.Frames.{within-then, within_wider, within-set, tabulate-same, record-kept, words-kept}
use Rattle.netlist.proofs.Areas.{Sized, store-within, stored_other, stored_same}
use Rattle.order.proofs.Words.{tabulate-set}
use Rattle.design.specs.Queue.{Design, net_in, replace_cell, replace_net}
use Rattle.numberer.specs.Numberer.{Entry, seek}
use Rattle.design.specs.inner.Words.{netlist_in, replaced_in}
use Rattle.basics.proofs.Tables.{map-table}
use Rattle.numberer.specs.inner.Words.{numberer_in, Entered, Mixed, Inserts}
use Rattle.numberer.proofs.Records.{bit-of, cell-sized}
use Rattle.numberer.proofs.Inserting.{numberer-stays, entered-stays, mixed-stays}
use Rattle.rewrite.specs.Rewriter.{Rewriter, entered, finished}
use Rattle.rewriter_state.specs.declared.Extent.{Extent}
use Rattle.rewriter_state.specs.inner.Words.{with_entry, with_stamp, rewriter_in, Held, EntersAt, ReadySlot, Finishes}

-- the cells of the slots
cells-table : (n : ℕ) (ws : List ℕ) → (netlist_in n ws).cells ≡ tabulate (λ s. cell_of (word_record ws s)) n
unfolding netlist_of records_in
cells-table n ws = map-table (word_record ws) cell_of n

module _ (n : ℕ) (ws ws' : List ℕ) where
  abbrev before : ℕ → Cell
  before i = cell_of (word_record ws i)

  abbrev after : ℕ → Cell
  after i = cell_of (word_record ws' i)

  cells_same : ((i : ℕ) → i < n → word_record ws' i ≡ word_record ws i) → (netlist_in n ws').cells ≡ (netlist_in n ws).cells
  cells_same h = cells-table n ws' ∙ tabulate-same after before n (λ i l. ap cell_of (h i l)) ∙ sym (cells-table n ws)

  cells-set : (s : ℕ) (c : Cell) → s < n → cell_of (word_record ws' s) ≡ c → ((i : ℕ) → (i ≡ s → ⊥) → word_record ws' i ≡ word_record ws i)
      → (netlist_in n ws').cells ≡ set (netlist_in n ws).cells s c
  cells-set s c l here there =
      cells-table n ws' ∙ tabulate-set (Input 0) before after n s c l here (λ i d. ap cell_of (there i d))
      ∙ ap (λ (cs : List Cell). set cs s c) (sym (cells-table n ws))

  cells-more : (c : Cell) → cell_of (word_record ws' n) ≡ c → ((i : ℕ) → i < n → word_record ws' i ≡ word_record ws i)
      → (netlist_in (n + 1) ws').cells ≡ (netlist_in n ws).cells ++ (c ∷ [])
  unfolding tabulate
  cells-more c here there =
      cells-table (n + 1) ws'
      ∙ rw (add-one n, tabulate-same after before n (λ i l. ap cell_of (there i l)), here) (ap (λ (cs : List Cell). cs ++ (c ∷ [])) (sym (cells-table n ws)))

-- the replaced nets
replaced-same : (n : ℕ) (ws ws' : List ℕ) → ((i : ℕ) → i < n → get_or ws' (replaced_at + i) 0 ≡ get_or ws (replaced_at + i) 0) → replaced_in n ws' ≡ replaced_in n ws
unfolding replaced_in
replaced-same n ws ws' h = tabulate-same (λ i. net_at (get_or ws' (replaced_at + i) 0)) (λ i. net_at (get_or ws (replaced_at + i) 0)) n (λ i l. ap net_at (h i l))

-- a stamp is given
module _ (ws ws' : List ℕ) (s v : ℕ) (put : ws' ≡ set ws (figures_at + s) v) (small : s < 1024) where
  stamp-within : Within figures_at mixes_at ws ws'
  stamp-within = rw put (within-set figures_at mixes_at ws (figures_at + s) v (omega arith) (omega arith))

  stamp-here : 16384 ≤ length ws → get_or ws' (figures_at + s) 0 ≡ v
  stamp-here long = rw put (get_or-set_same ws (figures_at + s) v 0 (omega arith))

  stamp-there : (i : ℕ) → (i ≡ s → ⊥) → get_or ws' (figures_at + i) 0 ≡ get_or ws (figures_at + i) 0
  stamp-there i h = rw put (get_or-set_other ws (figures_at + s) (figures_at + i) v 0 (λ q. h (omega arith)))

  stamps-set : (m : ℕ) → s < m → 16384 ≤ length ws → words_in figures_at m ws' ≡ set (words_in figures_at m ws) s v
  unfolding words_in
  stamps-set m l long =
      tabulate-set 0 (λ i. get_or ws (figures_at + i) 0) (λ i. get_or ws' (figures_at + i) 0) m s v l (stamp-here long) stamp-there

  stamps-more : 16384 ≤ length ws → words_in figures_at (s + 1) ws' ≡ words_in figures_at s ws ++ (v ∷ [])
  unfolding words_in tabulate
  stamps-more long =
      rw (
        add-one s,
        tabulate-same (λ i. get_or ws' (figures_at + i) 0) (λ i. get_or ws (figures_at + i) 0) s (λ i l. stamp-there i (λ e. absurd (omega arith))),
        stamp-here long,
      )

-- `known`
pub known-cell : (x : Extent) (ws : List ℕ) (r : Record) (c : Cell) → r ≡ cell_record 0 c → (v : Option Net) → v ≡ seek (numberer_in x.entries ws) (cell_of r)
    → v ≡ seek (rewriter_in x ws).cache c
unfolding rewriter_in
known-cell x ws r c e v f = f ∙ ap (seek (numberer_in x.entries ws)) (ap cell_of e ∙ cell-back 0 c)

-- the ticket's slots are among all
slot_small : (x : Extent) (s : ℕ) (ws : List ℕ) → ReadySlot x s ws → s < 1024
slot_small x s ws g = omega (arith, g.small, g.held.few)

-- a slot is finished after a change of the replaced nets or the cache, with k entries then
module _ (x : Extent) (k : ℕ) (ws ws₁ ws₂ : List ℕ) (s : ℕ) (g : ReadySlot x s ws) (most : k ≤ x.entries + 1) (en : Entered k ws₁) (mx : Mixed k ws₁)
    (records : (i : ℕ) → i < 1024 → word_record ws₁ i ≡ word_record ws i) (stamps : words_in figures_at x.slots ws₁ ≡ words_in figures_at x.slots ws)
    (frame : Within replaced_at keys_from ws ws₁) (put : ws₂ ≡ set ws₁ (figures_at + s) (x.clock + 1)) where
  abbrev then : Extent
  then = record { tickets = x.tickets; slots = x.slots; entries = k; clock = x.clock + 1 }

  stamped : Within figures_at mixes_at ws₁ ws₂
  stamped = stamp-within ws₁ ws₂ s (x.clock + 1) put (slot_small x s ws g)

  records-after : (i : ℕ) → i < 1024 → word_record ws₂ i ≡ word_record ws i
  records-after i l = record-kept figures_at mixes_at ws₁ ws₂ stamped i (inl (omega arith)) ∙ records i l

  whole : Within replaced_at keys_from ws ws₂
  whole = within-then replaced_at keys_from ws ws₁ ws₂ frame (within_wider figures_at mixes_at replaced_at keys_from ws₁ ws₂ (omega arith) (omega arith) stamped)

  finish-held : Held then ws₂
  finish-held =
      let fit : x.slots ≤ 1024 = g.held.fit in
      record {
        long = omega (arith, g.held.long, whole.same);
        few = g.held.few;
        many = g.held.many;
        fit = g.held.fit;
        timed = omega (arith, g.room);
        cached = omega (arith, most, g.held.cached);
        entries = entered-stays figures_at mixes_at ws₁ ws₂ stamped k (inl (omega arith)) en;
        mixed = mixed-stays figures_at mixes_at ws₁ ws₂ stamped k (inl (omega arith)) mx;
        single = λ i l m. ap (λ (r : Record). r.bit) (records-after i (omega arith)) ∙ g.held.single i l m;
      }

  finish-now : rewriter_in then ws₂
      ≡ finished (rewriter_in x ws) s (record { cells = (rewriter_in x ws).design.cells; replaced = replaced_in x.tickets ws₁ }) (numberer_in k ws₁)
  unfolding rewriter_in finished
  finish-now =
      let fit : x.slots ≤ 1024 = g.held.fit in
      let few : x.tickets ≤ 512 = g.held.few in
      rw (
        cells_same x.slots ws ws₂ (λ i l. records-after i (omega arith)),
        replaced-same x.tickets ws₁ ws₂ (λ i l. stamped.before (replaced_at + i) (omega arith)),
        numberer-stays figures_at mixes_at ws₁ ws₂ stamped k (inl (omega arith)),
        stamps-set ws₁ ws₂ s (x.clock + 1) put (slot_small x s ws g) x.slots (omega (arith, g.small, g.held.many)) (omega (arith, g.held.long, frame.same)),
        stamps,
        add-one x.clock,
      )

  finish : (d : Design) (es : List Entry) → record { cells = (rewriter_in x ws).design.cells; replaced = replaced_in x.tickets ws₁ } ≡ d → numberer_in k ws₁ ≡ es
      → Finishes s x then ws ws₂ d es
  finish d es ed ee =
      record {
        now = finish-now ∙ ap₂ (finished (rewriter_in x ws) s) ed ee;
        held = finish-held;
        tickets = refl;
        slots = refl;
        clock = refl;
        bits = λ i l. ap (λ (r : Record). r.bit) (records-after i (omega (arith, g.held.few)));
        between = λ i l m. whole.before i m;
        after = λ i l. whole.after i l;
        same = whole.same;
      }

module _ (x : Extent) (ws ws₁ ws₂ : List ℕ) (s : ℕ) (g : ReadySlot x s ws) (put : ws₂ ≡ set ws₁ (figures_at + s) (x.clock + 1)) where
  stays_at : (c : Cell) → Inserts x.entries s c ws ws₁
      → Finishes s x (record { tickets = x.tickets; slots = x.slots; entries = x.entries + 1; clock = x.clock + 1 }) ws ws₂ (rewriter_in x ws).design
      ((rewriter_in x ws).cache ++ ((c, net_in s) ∷ []))
  unfolding rewriter_in
  stays_at c r =
      let w : Within mixes_at keys_from ws ws₁ = r.frame in
      let fit : x.slots ≤ 1024 = g.held.fit in
      let few : x.tickets ≤ 512 = g.held.few in
      finish x (x.entries + 1) ws ws₁ ws₂ s g (omega arith) (r.entered g.held.entries) (r.mixed g.held.mixed)
      (λ i l. record-kept mixes_at keys_from ws ws₁ w i (inl (omega arith))) (words-kept mixes_at keys_from ws ws₁ w figures_at x.slots (inl (omega arith)))
      (within_wider mixes_at keys_from replaced_at keys_from ws ws₁ (omega arith) (omega arith) w) put
      (rewriter_in x ws).design ((rewriter_in x ws).cache ++ ((c, net_in s) ∷ []))
      (rw (replaced-same x.tickets ws ws₁ (λ i l. w.before (replaced_at + i) (omega arith)))) r.said

  replaces_at : (n : Net) → replaced_in x.tickets ws₁ ≡ set (replaced_in x.tickets ws) s n → Within replaced_at figures_at ws ws₁
      → Finishes s x (record { tickets = x.tickets; slots = x.slots; entries = x.entries; clock = x.clock + 1 }) ws ws₂ (replace_net (rewriter_in x ws).design s n)
      (rewriter_in x ws).cache
  unfolding rewriter_in
  replaces_at n e w =
      finish x x.entries ws ws₁ ws₂ s g (omega arith) (entered-stays replaced_at figures_at ws ws₁ w x.entries (inl (omega arith)) g.held.entries)
      (mixed-stays replaced_at figures_at ws ws₁ w x.entries (inl (omega arith)) g.held.mixed)
      (λ i l. record-kept replaced_at figures_at ws ws₁ w i (inl (omega arith))) (words-kept replaced_at figures_at ws ws₁ w figures_at x.slots (inr (omega arith)))
      (within_wider replaced_at figures_at replaced_at keys_from ws ws₁ (omega arith) (omega arith) w) put
      (replace_net (rewriter_in x ws).design s n) (rewriter_in x ws).cache
      (rw e) (numberer-stays replaced_at figures_at ws ws₁ w x.entries (inl (omega arith)))

-- by the extents on the way
module _ (x y z : Extent) (ws ws₁ ws₂ : List ℕ) (s : ℕ) (g : ReadySlot x s ws) (z-is : z ≡ with_stamp y) (put : ws₂ ≡ set ws₁ (figures_at + s) (y.clock + 1)) where
  pub stays : (c : Cell) → y ≡ with_entry x → Inserts x.entries s c ws ws₁
      → Finishes s x z ws ws₂ (rewriter_in x ws).design ((rewriter_in x ws).cache ++ ((c, net_in s) ∷ []))
  stays c y-is r =
      let e : y.clock ≡ x.clock = ap (λ (v : Extent). v.clock) y-is in
      subst (λ (v : Extent). Finishes s x v ws ws₂ (rewriter_in x ws).design ((rewriter_in x ws).cache ++ ((c, net_in s) ∷ []))) (sym (z-is ∙ ap with_stamp y-is))
      (stays_at x ws ws₁ ws₂ s g (put ∙ ap (λ (k : ℕ). set ws₁ (figures_at + s) (k + 1)) e) c r)

pub replaces : (x z : Extent) (ws ws₁ ws₂ : List ℕ) (s : ℕ) → ReadySlot x s ws → z ≡ with_stamp x → ws₂ ≡ set ws₁ (figures_at + s) (x.clock + 1) → (n : Net)
    → replaced_in x.tickets ws₁ ≡ set (replaced_in x.tickets ws) s n → Within replaced_at figures_at ws ws₁
    → Finishes s x z ws ws₂ (replace_net (rewriter_in x ws).design s n) (rewriter_in x ws).cache
replaces x z ws ws₁ ws₂ s g z-is put n e w =
    subst (λ (v : Extent). Finishes s x v ws ws₂ (replace_net (rewriter_in x ws).design s n) (rewriter_in x ws).cache) (sym z-is) (replaces_at x ws ws₁ ws₂ s g put n e w)

-- a record is stored in a slot: the cache, the stamps and the replaced nets stay
module _ (ws ws₁ : List ℕ) (w : Within 0 visited_at ws ws₁) (x : Extent) where
  store-entered : Held x ws → Entered x.entries ws₁
  store-entered g = entered-stays 0 visited_at ws ws₁ w x.entries (inl (omega arith)) g.entries

  store-mixed : Held x ws → Mixed x.entries ws₁
  store-mixed g = mixed-stays 0 visited_at ws ws₁ w x.entries (inl (omega arith)) g.mixed

  store-cache : numberer_in x.entries ws₁ ≡ numberer_in x.entries ws
  store-cache = numberer-stays 0 visited_at ws ws₁ w x.entries (inl (omega arith))

  store-stamps : words_in figures_at x.slots ws₁ ≡ words_in figures_at x.slots ws
  store-stamps = words-kept 0 visited_at ws ws₁ w figures_at x.slots (inr (omega arith))

  store-replaced : replaced_in x.tickets ws₁ ≡ replaced_in x.tickets ws
  store-replaced = replaced-same x.tickets ws ws₁ (λ i l. w.after (replaced_at + i) (omega arith))

module _ (s : ℕ) (ws ws₁ : List ℕ) (q : Record) (store : ws₁ ≡ store_words ws s q) where
  store-frame : s < 1024 → Within 0 visited_at ws ws₁
  store-frame small = rw store (within_wider (s * 4) (s * 4 + 4) 0 visited_at ws (store_words ws s q) (omega arith) (omega arith) (store-within ws s q))

  store_other : (i : ℕ) → (i ≡ s → ⊥) → word_record ws₁ i ≡ word_record ws i
  store_other i h = rw store (stored_other ws s q i h)

  -- and it is a cell's
  module _ (b : ℕ) (c : Cell) (q-is : q ≡ cell_record b c) (long : 16384 ≤ length ws) (small : s < 1024) (ranged : b < 65536) where
    store-here : word_record ws₁ s ≡ cell_record b c
    store-here = rw store (stored_same ws s q (omega arith) (subst Sized (sym q-is) (cell-sized b c ranged))) ∙ q-is

    store-cell : cell_of (word_record ws₁ s) ≡ c
    store-cell = ap cell_of store-here ∙ cell-back b c

    store-bit : (word_record ws₁ s).bit ≡ b
    store-bit = ap (λ (r : Record). r.bit) store-here ∙ bit-of b c

-- `become_cell`
module _ (x : Extent) (ws ws₁ : List ℕ) (s : ℕ) (q : Record) (store : ws₁ ≡ store_words ws s q) (g : ReadySlot x s ws) where
  become-frame : Within 0 visited_at ws ws₁
  become-frame = store-frame s ws ws₁ q store (slot_small x s ws g)

  become-held : Held x ws₁
  become-held = record {
    long = omega (arith, g.held.long, become-frame.same);
    few = g.held.few;
    many = g.held.many;
    fit = g.held.fit;
    timed = g.held.timed;
    cached = g.held.cached;
    entries = store-entered ws ws₁ become-frame x g.held;
    mixed = store-mixed ws ws₁ become-frame x g.held;
    single = λ i l m. ap (λ (y : Record). y.bit) (store_other s ws ws₁ q store i (λ e. absurd (omega (arith, g.small)))) ∙ g.held.single i l m;
  }

  pub become-ready : ReadySlot x s ws₁
  become-ready = record { held = become-held; small = g.small; room = g.room }

  -- with the bit number that the slot has
  module _ (c : Cell) (r : Record) (r-is : r ≡ word_record ws s) (q-is : q ≡ cell_record r.bit c) (ranged : r.bit < 65536) where
    become-bits : (i : ℕ) → (word_record ws₁ i).bit ≡ (word_record ws i).bit
    become-bits i = go (eqb i s) refl
      where
        go : (b : Bool) → eqb i s ≡ b → (word_record ws₁ i).bit ≡ (word_record ws i).bit
        go true e =
            subst (λ (j : ℕ). (word_record ws₁ j).bit ≡ (word_record ws j).bit) (sym (eqb-true i s e))
            (store-bit s ws ws₁ q store r.bit c q-is g.held.long (slot_small x s ws g) ranged ∙ ap (λ (y : Record). y.bit) r-is)
        go false e = ap (λ (y : Record). y.bit) (store_other s ws ws₁ q store i (eqb-false i s e))

    become-now : rewriter_in x ws₁
        ≡ record { design = replace_cell (rewriter_in x ws).design s c; cache = (rewriter_in x ws).cache; stamps = (rewriter_in x ws).stamps; clock = x.clock }
    unfolding rewriter_in
    become-now =
        rw (
          cells-set x.slots ws ws₁ s c (omega (arith, g.small, g.held.many)) (store-cell s ws ws₁ q store r.bit c q-is g.held.long (slot_small x s ws g) ranged) (store_other s ws ws₁ q store),
          store-replaced ws ws₁ become-frame x,
          store-cache ws ws₁ become-frame x,
          store-stamps ws ws₁ become-frame x,
        )

    becoming : finished (rewriter_in x ws₁) s (rewriter_in x ws₁).design ((rewriter_in x ws₁).cache ++ ((c, net_in s) ∷ []))
        ≡ finished (rewriter_in x ws) s (replace_cell (rewriter_in x ws).design s c) ((rewriter_in x ws).cache ++ ((c, net_in s) ∷ []))
    unfolding finished rewriter_in
    becoming = ap (λ (v : Rewriter). finished v s v.design (v.cache ++ ((c, net_in s) ∷ []))) become-now

    pub becomes : (y : Extent) (ws₂ : List ℕ) → Finishes s x y ws₁ ws₂ (rewriter_in x ws₁).design ((rewriter_in x ws₁).cache ++ ((c, net_in s) ∷ []))
        → Finishes s x y ws ws₂ (replace_cell (rewriter_in x ws).design s c) ((rewriter_in x ws).cache ++ ((c, net_in s) ∷ []))
    becomes y ws₂ f = record {
      now = f.now ∙ becoming;
      held = f.held;
      tickets = f.tickets;
      slots = f.slots;
      clock = f.clock;
      bits = λ i l. f.bits i l ∙ become-bits i;
      between = λ i l m. f.between i l m ∙ become-frame.after i l;
      after = λ i l. f.after i l ∙ become-frame.after i (omega arith);
      same = f.same ∙ become-frame.same;
    }

-- `enter`
module _ (x : Extent) (ws ws₁ ws₂ ws₃ : List ℕ) (c : Cell) (n : Net) (g : Held x ws) (room : x.slots ≡ 1024 → ⊥) (q : Record)
    (store : ws₁ ≡ store_words ws x.slots q) (q-is : q ≡ cell_record 0 c) (rem : Inserts x.entries x.slots c ws₁ ws₂)
    (put : ws₃ ≡ set ws₂ (figures_at + x.slots) (x.clock + 1)) (n-is : n ≡ net_in x.slots) where
  below : x.slots < 1024
  below = go (dec_lt x.slots 1024)
    where
      go : Dec (x.slots < 1024) → x.slots < 1024
      go (yes l) = l
      go (no l) = absurd (room (omega (arith, g.fit)))

  first : Within 0 visited_at ws ws₁
  first = store-frame x.slots ws ws₁ q store below

  long₂ : 16384 ≤ length ws₂
  long₂ = omega (arith, g.long, first.same, rem.frame.same)

  last : Within figures_at mixes_at ws₂ ws₃
  last = stamp-within ws₂ ws₃ x.slots (x.clock + 1) put below

  rest : Within figures_at keys_from ws₁ ws₃
  rest =
      within-then figures_at keys_from ws₁ ws₂ ws₃ (within_wider mixes_at keys_from figures_at keys_from ws₁ ws₂ (omega arith) (omega arith) rem.frame)
      (within_wider figures_at mixes_at figures_at keys_from ws₂ ws₃ (omega arith) (omega arith) last)

  same-record : (i : ℕ) → i < 1024 → word_record ws₃ i ≡ word_record ws₁ i
  same-record i l = record-kept figures_at keys_from ws₁ ws₃ rest i (inl (omega arith))

  earlier : (i : ℕ) → i < x.slots → word_record ws₃ i ≡ word_record ws i
  earlier i l =
      same-record i (omega (arith, below))
      ∙ store_other x.slots ws ws₁ q store i (λ e. absurd (omega arith))

  abbrev next : Extent
  next = record { tickets = x.tickets; slots = x.slots + 1; entries = x.entries + 1; clock = x.clock + 1 }

  enter-single : (i : ℕ) → x.tickets ≤ i → i < x.slots + 1 → (word_record ws₃ i).bit ≡ 0
  enter-single i l m = go (dec_lt i x.slots)
    where
      go : Dec (i < x.slots) → (word_record ws₃ i).bit ≡ 0
      go (yes h) = ap (λ (r : Record). r.bit) (earlier i h) ∙ g.single i l h
      go (no h) =
          let e : x.slots ≡ i = omega arith in
          subst (λ (j : ℕ). (word_record ws₃ j).bit ≡ 0) e
          (ap (λ (r : Record). r.bit) (same-record x.slots below) ∙ store-bit x.slots ws ws₁ q store 0 c q-is g.long below (omega arith))

  enter-held : Held next ws₃
  enter-held = record {
    long = omega (arith, long₂, last.same);
    few = g.few;
    many = omega (arith, g.many);
    fit = omega (arith, below);
    timed = omega (arith, g.timed);
    cached = omega (arith, g.cached);
    entries = entered-stays figures_at mixes_at ws₂ ws₃ last (x.entries + 1) (inl (omega arith))
        (rem.entered (store-entered ws ws₁ first x g));
    mixed = mixed-stays figures_at mixes_at ws₂ ws₃ last (x.entries + 1) (inl (omega arith))
        (rem.mixed (store-mixed ws ws₁ first x g));
    single = enter-single;
  }

  enter-now : rewriter_in next ws₃ ≡ entered (rewriter_in x ws) c n
  unfolding rewriter_in entered
  enter-now =
      rw (
        cells-more x.slots ws ws₃ c
            (ap cell_of (same-record x.slots below) ∙ store-cell x.slots ws ws₁ q store 0 c q-is g.long below (omega arith)) earlier,
        replaced-same x.tickets ws₁ ws₃ (λ i l. rest.before (replaced_at + i) (omega (arith, g.few))),
        store-replaced ws ws₁ first x,
        numberer-stays figures_at mixes_at ws₂ ws₃ last (x.entries + 1) (inl (omega arith)),
        rem.said,
        store-cache ws ws₁ first x,
        n-is,
        stamps-more ws₂ ws₃ x.slots (x.clock + 1) put below long₂,
        words-kept mixes_at keys_from ws₁ ws₂ rem.frame figures_at x.slots (inl (omega (arith, below))),
        store-stamps ws ws₁ first x,
        add-one x.clock,
      )

  enters_at : EntersAt x (record { tickets = x.tickets; slots = x.slots + 1; entries = x.entries + 1; clock = x.clock + 1 }) ws ws₃ c n
  enters_at = record {
    at = n-is;
    now = enter-now;
    held = enter-held;
    onward = record { tickets = refl; slots = omega arith; clock = omega arith };
    changes = record {
      bits = λ i l. ap (λ (r : Record). r.bit) (earlier i (omega (arith, g.many)));
      between = λ i l m. rest.before i m ∙ first.after i l;
      after = λ i l. rest.after i l ∙ first.after i (omega arith);
      same = rest.same ∙ first.same;
    };
  }

-- by the extents on the way
pub enters : (x y z : Extent) (ws ws₁ ws₂ ws₃ : List ℕ) (c : Cell) (n : Net) → Held x ws → (x.slots ≡ 1024 → ⊥) → (q : Record) → ws₁ ≡ store_words ws x.slots q
    → q ≡ cell_record 0 c → y ≡ with_entry x → Inserts x.entries x.slots c ws₁ ws₂ → z ≡ with_stamp y → ws₃ ≡ set ws₂ (figures_at + x.slots) (y.clock + 1)
    → n ≡ net_in x.slots → EntersAt x (record { tickets = z.tickets; slots = z.slots + 1; entries = z.entries; clock = z.clock }) ws ws₃ c n
enters x y z ws ws₁ ws₂ ws₃ c n g room q store q-is y-is rem z-is put n-is =
    let e : y.clock ≡ x.clock = ap (λ (v : Extent). v.clock) y-is in
    subst (λ (v : Extent). EntersAt x (record { tickets = v.tickets; slots = v.slots + 1; entries = v.entries; clock = v.clock }) ws ws₃ c n) (sym (z-is ∙ ap with_stamp y-is))
    (enters_at x ws ws₁ ws₂ ws₃ c n g room q store q-is rem (put ∙ ap (λ (k : ℕ). set ws₂ (figures_at + x.slots) (k + 1)) e) n-is)
