-- The two steps of the rewriter, entering a cell and finishing a slot, keep what is known of settled nets. Assumes nothing.
use mathlib.Core.Path.{◌≡◌, refl, sym, ap, ◌∙◌}
use mathlib.Core.Bool.{false, true≢false}
use mathlib.Core.List.{List, [], ◌∷◌, ◌++◌}
use mathlib.Core.Logic.{◌⊎◌, inl, inr}
use Prim.Native.Nat.{ℕ, suc, ◌+◌, ◌≤◌, ◌<◌}
use native.Mathlib.Omega.{arith}
use lib.Dec.{eqb, ltb}
use lib.ListN.{length, get_or, set, length-append, length-set, get_or-append, get_or-eq_default}
use lib.Seq.{get_or-set_same, get_or-set_other, get_or-append_seam}
use borrow.Author.Tests.{eqb-true, eqb-false, ltb-true, ltb-false}
use Rattle.value.specs.declared.Net.{Net}
use Rattle.value.specs.declared.Driver.{Driver}
use Rattle.value.specs.declared.Driver.TheVariants as driven
use Rattle.value.specs.Value.{driver}
use Rattle.cell.specs.declared.Cell.{Cell}
use Rattle.cell.specs.declared.Cell.TheVariants.{Input}
use Rattle.netlist.specs.Shape.{visit, is_source}
use Rattle.netlist.specs.Netlist.{cell_in}
use Rattle.design.specs.Queue.{Design, net_in}
use Rattle.numberer.specs.Numberer.{Entry}
use Rattle.rewrite.specs.Rewriter.{Rewriter, stamp_in, stamp, entered, finished}
use Rattle.basics.specs.Lists.{All}
use Rattle.basics.proofs.Truth.{either}
use Rattle.basics.proofs.Members.{all-imp}
use Rattle.order_laws.proofs.Operands.{drives-in}
use Rattle.rewrite_laws.proofs.Settled.{limit, stamped-inside}
use Rattle.rewrite_laws.specs.State.{tickets, SettledSlot, Settled, Under, StandsFor, Inv}

-- one more at the end of a list
get_d_past : {A : Type 0} (xs : List A) (x d : A) (i : ℕ) → length xs < i → get_or (xs ++ (x ∷ [])) i d ≡ d
get_d_past xs x d i h = get_or-eq_default (xs ++ (x ∷ [])) d {n = i} (rw (length-append xs (x ∷ [])) (omega arith))

by_place : {A : Type 0} (n i : ℕ) → (i < n → A) → (i ≡ n → A) → (n < i → A) → A
by_place n i f g h =
    either (ltb i n) (λ e. f (ltb-true i n e))
    (λ e. either (eqb i n) (λ q. g (eqb-true i n q)) (λ q. h (omega (arith, ltb-false i n e, eqb-false i n q))))

module _ (cs₀ : List Cell) where
  -- the stamps of settled nets stay
  abbrev pub Later : List ℕ → List ℕ → Type 0
  Later ts ts' = (s : ℕ) → SettledSlot cs₀ ts s → get_or ts' s 0 ≡ get_or ts s 0

  pub later-settled : (ts ts' : List ℕ) → Later ts ts' → (m : Net) → Settled cs₀ ts m → Settled cs₀ ts' m × (stamp ts' m ≡ stamp ts m)
  unfolding Settled stamp
  later-settled ts ts' later m h = ((λ x e. slot x.0 (h x e)), go (driver m) refl)
    where
      slot : (s : ℕ) → SettledSlot cs₀ ts s → SettledSlot cs₀ ts' s
      slot s (inl i) = inl i
      slot s (inr p) = inr (omega (arith, later s (inr p), p))

      go : (x : Driver) → driver m ≡ x → stamp_in ts' x ≡ stamp_in ts x
      go (driven.Const t) e = refl
      go (driven.Cell s) e = later s.0 (h s e)

  later-under : (ts ts' : List ℕ) → Later ts ts' → (b b' : ℕ) → b ≤ b' → (ns : List Net) → All (Under cs₀ ts b) ns → All (Under cs₀ ts' b') ns
  later-under ts ts' later b b' l ns h =
      all-imp (Under cs₀ ts b) (Under cs₀ ts' b')
      (λ o u. let k : Settled cs₀ ts' o × (stamp ts' o ≡ stamp ts o) = later-settled ts ts' later o u.0 in (k.0, omega (arith, k.1, u.1, l))) ns h

  later-stands : (ts ts' : List ℕ) → Later ts ts' → (i : ℕ) (m : Net) → StandsFor cs₀ ts i m → StandsFor cs₀ ts' i m
  later-stands ts ts' later i m (inl e) = inl e
  later-stands ts ts' later i m (inr p) =
      let k : Settled cs₀ ts' m × (stamp ts' m ≡ stamp ts m) = later-settled ts ts' later m p.1 in
      let e : get_or ts' i 0 ≡ get_or ts i 0 = later i (inr p.0) in
      inr (omega (arith, e, p.0), k.0, omega (arith, e, k.1, p.2))

  module _ (r : Rewriter) (inv : Inv cs₀ r) where
    abbrev ts : List ℕ
    ts = r.stamps

    pub stamp-clocked : (m : Net) → stamp ts m ≤ r.clock
    unfolding stamp
    stamp-clocked m = go (driver m)
      where
        go : (x : Driver) → stamp_in ts x ≤ r.clock
        go (driven.Const t) = omega arith
        go (driven.Cell s) = inv.clocked s.0

    -- settled nets are stamped below the next stamp
    next_under : (ts' : List ℕ) → Later ts ts' → (ns : List Net) → All (Settled cs₀ ts) ns → All (Under cs₀ ts' (suc r.clock)) ns
    next_under ts' later ns h =
        all-imp (Settled cs₀ ts) (Under cs₀ ts' (suc r.clock))
        (λ o u. let k : Settled cs₀ ts' o × (stamp ts' o ≡ stamp ts o) = later-settled ts ts' later o u in (k.0, omega (arith, k.1, stamp-clocked o))) ns h

    -- a cell is entered in the next slot
    module _ (c : Cell) (m : Net) where
      abbrev entry-stamps : List ℕ
      entry-stamps = ts ++ (suc r.clock ∷ [])

      old-stamp : (i : ℕ) → i < length ts → get_or entry-stamps i 0 ≡ get_or ts i 0
      old-stamp i l = get_or-append ts (suc r.clock ∷ []) 0 i l

      settled-inside : (s : ℕ) → SettledSlot cs₀ ts s → s < length ts
      settled-inside s (inl i) = omega (arith, i.0, inv.many, inv.sizes)
      settled-inside s (inr p) = stamped-inside ts s p

      pub entered-later : Later ts entry-stamps
      entered-later s h = old-stamp s (settled-inside s h)

      ticket-inside : (i : ℕ) → i < tickets cs₀ → i < length ts
      ticket-inside i l = omega (arith, inv.many, inv.sizes)

      old-cell : (i : ℕ) → i < length ts → cell_in (r.design.cells ++ (c ∷ [])) i ≡ cell_in r.design.cells i
      old-cell i l = get_or-append r.design.cells (c ∷ []) (Input 0) i (omega (arith, inv.sizes))

      new-cell : (i : ℕ) → i ≡ length ts → cell_in (r.design.cells ++ (c ∷ [])) i ≡ c
      new-cell i e = rw (e, inv.sizes) (get_or-append_seam r.design.cells c [] (Input 0))

      pub entered-inv : All (Settled cs₀ ts) (visit c) → Inv cs₀ (entered r c m)
      unfolding entered
      entered-inv h = record {
        sizes = length-append ts _ ∙ ap (λ k. k + 1) inv.sizes ∙ sym (length-append r.design.cells _);
        many = rw (length-append r.design.cells (c ∷ [])) (omega (arith, inv.many));
        wide = inv.wide;
        clocked = λ i. by_place (length ts) i
            (λ l. omega (arith, old-stamp i l, inv.clocked i))
            (λ e. rw e (omega (arith, get_or-append_seam ts (suc r.clock) [] 0)))
            (λ l. omega (arith, get_d_past ts (suc r.clock) 0 i l));
        sources = λ i l e. old-stamp i (ticket-inside i l) ∙ inv.sources i l e;
        untouched = λ i l e. old-cell i (ticket-inside i l) ∙ inv.untouched i l (sym (old-stamp i (ticket-inside i l)) ∙ e);
        fed = λ i p. by_place (length ts) i
            (λ l. rw (old-cell i l) (later-under ts entry-stamps entered-later (get_or ts i 0) (get_or entry-stamps i 0) (omega (arith, old-stamp i l))
            (visit (cell_in r.design.cells i)) (inv.fed i (omega (arith, p, old-stamp i l)))))
            (λ e. rw (new-cell i e) (rw (e, get_or-append_seam ts (suc r.clock) [] 0) (next_under entry-stamps entered-later (visit c) h)))
            (λ l. absurd (omega (arith, p, get_d_past ts (suc r.clock) 0 i l)));
        stands = λ i d l. later-stands ts entry-stamps entered-later i (get_or r.design.replaced i d) (inv.stands i d l);
      }

      pub entered-settled : length r.design.cells < limit → Settled cs₀ entry-stamps (net_in (length r.design.cells))
      unfolding Settled
      entered-settled l =
          drives-in (SettledSlot cs₀ entry-stamps) (length r.design.cells) (omega arith)
          (inr (rw (sym inv.sizes, get_or-append_seam ts (suc r.clock) [] 0) (omega arith)))

    -- a slot is finished
    module _ (s : ℕ) (d : Design) (es : List Entry) (small : s < tickets cs₀) (waiting : get_or ts s 0 ≡ 0) (other : is_source (cell_in cs₀ s) ≡ false) where
      abbrev done-stamps : List ℕ
      done-stamps = set ts s (suc r.clock)

      s-inside : s < length ts
      s-inside = omega (arith, small, inv.many, inv.sizes)

      here-stamp : get_or done-stamps s 0 ≡ suc r.clock
      here-stamp = get_or-set_same ts s (suc r.clock) 0 s-inside

      else-stamp : (i : ℕ) → (i ≡ s → ⊥) → get_or done-stamps i 0 ≡ get_or ts i 0
      else-stamp i h = get_or-set_other ts s i (suc r.clock) 0 h

      not-s : (i : ℕ) → SettledSlot cs₀ ts i → i ≡ s → ⊥
      not-s i (inl p) e = true≢false (sym p.1 ∙ ap (λ x. is_source (cell_in cs₀ x)) e ∙ other)
      not-s i (inr p) e = omega (arith, p, ap (λ x. get_or ts x 0) e, waiting)

      pub finished-later : Later ts done-stamps
      finished-later i h = else-stamp i (not-s i h)

      pub finished-inv : length d.cells ≡ length r.design.cells → ((i : ℕ) → (i ≡ s → ⊥) → cell_in d.cells i ≡ cell_in r.design.cells i)
          → All (Settled cs₀ ts) (visit (cell_in d.cells s)) → length d.replaced ≡ tickets cs₀
          → ((i : ℕ) (x : Net) → (i ≡ s → ⊥) → get_or d.replaced i x ≡ get_or r.design.replaced i x)
          → ((x : Net) → (get_or d.replaced s x ≡ net_in s) ⊎ Settled cs₀ ts (get_or d.replaced s x)) → Inv cs₀ (finished r s d es)
      unfolding finished
      finished-inv len cells here wide nets stands = record {
        sizes = length-set ts s (suc r.clock) ∙ inv.sizes ∙ sym len;
        many = omega (arith, inv.many, len);
        wide = wide;
        clocked = λ i. either (eqb i s)
            (λ e. rw (eqb-true i s e) (omega (arith, here-stamp)))
            (λ e. omega (arith, else-stamp i (eqb-false i s e), inv.clocked i));
        sources = λ i l e. else-stamp i (not-s i (inl (l, e))) ∙ inv.sources i l e;
        untouched = λ i l e. either (eqb i s)
            (λ q. absurd (omega (arith, here-stamp, ap (λ x. get_or done-stamps x 0) (eqb-true i s q), e)))
            (λ q. let h : i ≡ s → ⊥ = eqb-false i s q in cells i h ∙ inv.untouched i l (sym (else-stamp i h) ∙ e));
        fed = λ i p. either (eqb i s)
            (λ q. rw (eqb-true i s q) (rw here-stamp (next_under done-stamps finished-later (visit (cell_in d.cells s)) here)))
            (λ q. let h : i ≡ s → ⊥ = eqb-false i s q in
            rw (cells i h) (later-under ts done-stamps finished-later (get_or ts i 0) (get_or done-stamps i 0) (omega (arith, else-stamp i h))
            (visit (cell_in r.design.cells i)) (inv.fed i (omega (arith, p, else-stamp i h)))));
        stands = λ i x l. either (eqb i s)
            (λ q. rw (eqb-true i s q) (at x (stands x)))
            (λ q. let h : i ≡ s → ⊥ = eqb-false i s q in
            rw (nets i x h) (later-stands ts done-stamps finished-later i (get_or r.design.replaced i x) (inv.stands i x l)));
      }
        where
          at : (x : Net) → (get_or d.replaced s x ≡ net_in s) ⊎ Settled cs₀ ts (get_or d.replaced s x) → StandsFor cs₀ done-stamps s (get_or d.replaced s x)
          at x (inl e) = inl e
          at x (inr k) =
              let n : Net = get_or d.replaced s x in
              let j : Settled cs₀ done-stamps n × (stamp done-stamps n ≡ stamp ts n) = later-settled ts done-stamps finished-later n k in
              inr (omega (arith, here-stamp), j.0, omega (arith, here-stamp, j.1, stamp-clocked n))
