-- The rewriter over a normal netlist, after some items: each slot holds the cell of the slot that it stands for, up to an exchange. So no rule
-- applies to the next cell, and the cache does not know it. Assumes nothing.
use mathlib.Core.Path.{◌≡◌, refl, sym, ap, ◌∙◌, subst}
use mathlib.Core.Bool.{Bool, true, false, cond, true≢false, false≢true}
use mathlib.Core.List.{List}
use Prim.Native.Nat.{ℕ, ◌+◌, ◌≤◌, ◌<◌}
use native.Mathlib.Omega.{arith}
use lib.Dec.{eqb, ltb}
use lib.ListN.{length, get_or, get_or-eq_default}
use borrow.Author.Tests.{ltb-true, ltb-false}
use Rattle.value.specs.declared.Net.{Net}
use Rattle.value.specs.declared.Driver.{Driver}
use Rattle.value.specs.declared.Driver.TheVariants as driven
use Rattle.value.specs.Value.{driver}
use Rattle.value.proofs.Laws.{cell-driver}
use Rattle.cell.specs.declared.Cell.{Cell}
use Rattle.cell.specs.declared.Cell.TheVariants.{Input}
use Rattle.netlist.specs.Shape.{visit_mut, visit, has_effects}
use Rattle.netlist.specs.Netlist.{Netlist, cell_in}
use Rattle.basics.specs.Lists.{those, has, All}
use Rattle.order.specs.Orders.{topo_sort}
use Rattle.std.specs.Prelude.{None, Some, Option}
use Rattle.numberer.specs.Numberer.{Entry, seek}
use Rattle.design.specs.Queue.{net_in, driven_to, map_net_new, source_in, find_new_cell}
use Rattle.normalize.specs.Outcomes.{Outcome}
use Rattle.normalize.specs.declared.Change.TheVariants.{Value, Form, Add, NotOf, AddNotOf}
use Rattle.aig.specs.Aig.{simple_aig_opt}
use Rattle.rewrite.specs.Rewriter.{Rewriter, stamp, find_cell}
use Rattle.order_laws.proofs.Bits.{topo_sort-each}
use Rattle.basics.proofs.Truth.{either, never}
use Rattle.basics.proofs.Members.{all-every}
use Rattle.order_laws.proofs.Queue.{mapped-keeps, replacement, seek_finds}
use Rattle.kept.proofs.Chosen.{count-le}
use Rattle.normal.specs.Paired.{Alike}
use Rattle.normal.proofs.Normal.{fires, look_in, Normal}
use Rattle.normal.proofs.Rules.{is_ruled, Carried, Follows, still-follows}
use Rattle.normal.proofs.Alike.{visit-visit, visit-same}
use Rattle.rewrite_again.proofs.Cells.{alike_both}
use Rattle.rewrite_again.proofs.Counts.{each-count}
use Rattle.rewrite_again.proofs.Origin.{splits, made, origin, origin-old, inside-origin, back, back-driven, back_in, back-fixes}

fires-none : (o : Outcome) → fires o ≡ false → o ≡ None
fires-none None e = refl
fires-none (Some c) e = absurd (true≢false e)

module _ (d : Netlist) (rank : ℕ → ℕ) (normal : Normal d rank) where
  abbrev pub cs : List Cell
  cs = d.cells

  abbrev pub g : Net → Net
  g = back cs

  pub few : length cs ≤ 65536
  few = normal.sound.few

  pub made-few : length (made cs) ≤ length cs
  made-few = let e : length (made cs) ≡ _ = each-count (splits cs) (length cs) (topo_sort cs) (topo_sort-each cs) in omega (arith, count-le (splits cs) (length cs))

  -- the net that stands for slot i
  pub record Stands (before : List ℕ) (i : ℕ) (n : Net) : Type 0 where
    pub slot : ℕ
    pub is : n ≡ net_in slot
    pub from : origin cs slot ≡ i
    pub moved : splits cs i ≡ true → has i before ≡ true → length cs ≤ slot
    pub stays : splits cs i ≡ false → slot ≡ i

  -- an added slot stands for an item, whose net leads there
  pub record Added (before : List ℕ) (rs : List Net) (m : ℕ) : Type 0 where
    pub done : has (origin cs m) before ≡ true
    pub leads : (x : Net) → get_or rs (origin cs m) x ≡ net_in m

  -- a cell of the cache is a gate among the items
  pub record Cached (before : List ℕ) (c : Cell) : Type 0 where
    pub slot : ℕ
    pub inside : slot < length cs
    pub done : has slot before ≡ true
    pub gate : has_effects (cell_in cs slot) ≡ false
    pub alike : Alike (visit_mut g c) (cell_in cs slot)

  pub record State (before : List ℕ) (r : Rewriter) : Type 0 where
    pub size : length r.design.cells ≡ length cs + length (those (splits cs) before)
    pub wide : length r.design.replaced ≡ length cs
    pub stands : (i : ℕ) (x : Net) → i < length cs → Stands before i (get_or r.design.replaced i x)
    pub added : (m : ℕ) → length cs ≤ m → m < length r.design.cells → Added before r.design.replaced m
    pub likes : (m : ℕ) → m < length r.design.cells → Alike (visit_mut g (cell_in r.design.cells m)) (cell_in cs (origin cs m))
    pub known : All (λ (e : Entry). Cached before e.0) r.cache

  module _ (before : List ℕ) (r : Rewriter) (st : State before r) where
    abbrev rs : List Net
    rs = r.design.replaced

    -- a slot that stands for one of the netlist's is small enough to have a net
    pub slot-few : (m i : ℕ) → origin cs m ≡ i → i < length cs → m ≤ 4294967292
    slot-few m i e l =
        let h : m < length cs + length (made cs) = inside-origin cs m (subst (λ (x : ℕ). x < length cs) (sym e) l) in
        omega (arith, made-few, few)

    pub stands-back : (i : ℕ) (x : Net) → i < length cs → g (get_or rs i x) ≡ net_in i
    stands-back i x l =
        let s : Stands before i (get_or rs i x) = st.stands i x l in
        ap g s.is ∙ back_in cs few s.slot (slot-few s.slot i s.from l) ∙ ap net_in s.from

    -- replaced or not, a net stands for the same
    one-step : (n : Net) → g (replacement rs n) ≡ g n
    one-step n = go (driver n) refl
      where
        go : (y : Driver) → driver n ≡ y → g (driven_to rs n y) ≡ g n
        go (driven.Const t) e = refl
        go (driven.Cell x) e = either (ltb x.0 (length cs))
            (λ b. let l : x.0 < length cs = ltb-true x.0 (length cs) b in
            stands-back x.0 n l ∙ ap net_in (sym (origin-old cs x.0 l)) ∙ sym (back_in cs few x.0 (omega (arith, l, few))) ∙ ap g (sym (cell-driver n x e)))
            (λ b. ap g (get_or-eq_default rs n {n = x.0} (omega (arith, st.wide, ltb-false x.0 (length cs) b))))

    pub mapped-same : (n : Net) → g (map_net_new rs n) ≡ g n
    mapped-same n = mapped-keeps rs (λ m. g m ≡ g n) (λ m e. one-step m ∙ e) n refl

    pub mapped-cell : (c : Cell) → visit_mut g (visit_mut (map_net_new rs) c) ≡ visit_mut g c
    mapped-cell c =
        visit-visit g (map_net_new rs) c
        ∙ visit-same (λ n. g (map_net_new rs n)) g c (all-every (λ n. g (map_net_new rs n) ≡ g n) mapped-same (visit c))

    -- what is looked up is a cell of the netlist
    look-slot : (n : Net) (c : Cell) → find_new_cell r.design n ≡ Some c → is_ruled c ≡ true → Carried g c (look_in cs (g n))
    unfolding find_new_cell
    look-slot n c e h = go (driver (map_net_new rs n)) refl e
      where
        go : (y : Driver) → driver (map_net_new rs n) ≡ y → source_in r.design.cells y ≡ Some c → Carried g c (look_in cs (g n))
        go (driven.Const t) q f = let z : ◌≡◌ {A = ℕ} 0 1 = cc in absurd (omega arith)
        go (driven.Cell x) q f =
            let is : cell_in r.design.cells x.0 ≡ c = cc in
            either (ltb x.0 (length r.design.cells))
            (λ b. record {
              cell = cell_in cs (origin cs x.0);
              found = ap (λ (m : Net). look_in cs m) (sym (mapped-same n)) ∙ ap (source_in cs) (back-driven cs few (map_net_new rs n) x q);
              alike = subst (λ (y : Cell). Alike (visit_mut g y) (cell_in cs (origin cs x.0))) is (st.likes x.0 (ltb-true x.0 (length r.design.cells) b));
            })
            (λ b. absurd (false≢true (ap is_ruled (sym (get_or-eq_default r.design.cells (Input 0) {n = x.0} (ltb-false x.0 (length r.design.cells) b))) ∙ ap is_ruled is ∙ h)))

    pub follows : Follows g (find_cell find_new_cell r) (look_in cs)
    unfolding find_cell
    follows = record { fixes = back-fixes cs few; known = λ n c e h. go n c (eqb (stamp r.stamps n) 0) e h }
      where
        go : (n : Net) (c : Cell) (b : Bool) → cond b None (find_new_cell r.design n) ≡ Some c → is_ruled c ≡ true → Carried g c (look_in cs (g n))
        go n c true e h = let z : ◌≡◌ {A = ℕ} 0 1 = cc in absurd (omega arith)
        go n c false e h = look-slot n c e h

    -- the next item
    module _ (s : ℕ) (small : s < length cs) (new : has s before ≡ false) where
      -- no rule applies to its cell
      pub still : (c : Cell) → Alike (visit_mut g c) (cell_in cs s) → simple_aig_opt (find_cell find_new_cell r) c ≡ None
      still c a =
          fires-none (simple_aig_opt (find_cell find_new_cell r) c)
          (still-follows g (find_cell find_new_cell r) (look_in cs) follows c (cell_in cs s) a (normal.still s small).still)

      -- and the cache does not know it
      pub unknown : (c : Cell) → Alike (visit_mut g c) (cell_in cs s) → seek r.cache c ≡ None
      unknown c a = go (seek r.cache c) refl
        where
          go : (f : Option Net) → seek r.cache c ≡ f → f ≡ None
          go None e = refl
          go (Some n) e =
              let k : Cached before c = seek_finds (λ c n. Cached before c) r.cache c n st.known e in
              let same : k.slot ≡ s =
              normal.distinct k.slot s k.inside small k.gate (alike_both (visit_mut g c) (cell_in cs k.slot) (cell_in cs s) k.alike a) in
              never k.done (ap (λ (x : ℕ). has x before) same ∙ new)
