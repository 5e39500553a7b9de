-- What each place of the walk shows, from what its callees tell. Assumes nothing.
use mathlib.Core.Path.{◌≡◌, refl, sym, ap, ◌∙◌, subst}
use mathlib.Core.Bool.{Bool, true, false}
use mathlib.Core.List.{List}
use mathlib.Core.Logic.{inr, ⊎_elim}
use Prim.Native.Nat.{ℕ, ◌+◌, ◌*◌, ◌/◌, ◌<◌, ◌≤◌}
use native.Mathlib.Nat.{le_refl}
use native.Mathlib.Omega.{arith}
use lib.Dec.{eqb}
use lib.ListN.{length, set, drop}
use lib.Seq.{drop-set-lt}
use borrow.Author.Tests.{eqb-true, eqb-false}
use Rattle.std.specs.Prelude.{Option, Some, None}
use Rattle.value.specs.declared.Slot.{Slot}
use Rattle.cell.specs.declared.Record.{Record}
use Rattle.cell.specs.Operands.{edge_at}
use Rattle.cell.specs.Records.{record_at, records_of, record_in}
use Rattle.cell.proofs.Lists.{records-length, records-at}
use Rattle.std.proofs.Common.{Option, Some, None}
use Rattle.loops.specs.Reach.{Reaches, edge}
use Rattle.loops.specs.inner.Walk.{mark, unvisited, stops_at, Stopped, Reached, Within, Before, Walking, Ready, Coming, Leaves, Walked, Visits, Meets, Follows}
use Rattle.loops.proofs.Edges.{edge-range}
use Rattle.loops.proofs.Rank.{reaches-by}
use Rattle.loops.proofs.Marks.{zero-plus, from_zero, unvisited-kept, before-kept, opens-fewer, finishes, finished-last}

-- nothing was changed
module _ (rs : List Record) (stop : Option Slot) (clock : ℕ) (ws : List ℕ) (w : Walking rs stop clock ws) where
  stays : Walked rs stop clock ws ws clock
  stays = record {
    looped = λ e. absurd (omega (arith, w.begun));
    done = λ d. record {
      walking = w;
      later = le_refl clock;
      kept = λ u d. refl;
      opened = λ u e. e;
      rising = le_refl (clock + unvisited (length rs) ws);
    };
    rest = refl;
  }

-- the walk was stopped
stuck : (rs : List Record) (stop : Option Slot) (clock : ℕ) (ws ws' : List ℕ) → Stopped rs stop → drop 16384 ws' ≡ drop 16384 ws → Walked rs stop clock ws ws' 0
stuck rs stop clock ws ws' h e = record { looped = λ q. h; done = λ d. absurd (d refl); rest = e }

reached-within : (rs : List Record) (stop : Option Slot) (x : ℕ) → Reached rs stop x → Within rs stop x
unfolding Reached Within
reached-within rs None x h = tt
reached-within rs (Some t) x h = inr h

within-reached : (rs : List Record) (stop : Option Slot) (s f : ℕ) (x : Slot) → edge_at (record_in rs s) f ≡ Some x → Within rs stop s → Reached rs stop x.0
unfolding Reached Within
within-reached rs None s f x e h = tt
within-reached rs (Some t) s f x e h =
    ⊎_elim (λ q. edge f (ap (λ (i : ℕ). edge_at (record_in rs i) f) (sym q) ∙ e)) (reaches-by rs t.0 s f x e) h

reached-stopped : (rs : List Record) (stop : Option Slot) (x : ℕ) → stops_at stop x ≡ true → Reached rs stop x → Stopped rs stop
unfolding stops_at Reached Stopped
reached-stopped rs None x b h = tt
reached-stopped rs (Some t) x b h = subst (λ (y : ℕ). Reaches rs t.0 y) (sym (eqb-true t.0 x b)) h

module _ (rs : List Record) (stop : Option Slot) (clock : ℕ) (ws : List ℕ) (x : ℕ) (g : Coming rs stop clock ws x) where
  pub meet-new : (m : ℕ) → m ≡ mark ws (0 + x) → m ≡ 0 → Ready rs stop clock ws x 0
  meet-new m e z = record {
    fits = g.fits;
    walking = g.walking;
    below = g.below;
    within = reached-within rs stop x g.reached;
    marked = ap (mark ws) (zero-plus x) ∙ sym e ∙ z;
  }

  pub meet-open : (b : Bool) → b ≡ stops_at stop x → b ≡ true → Meets rs stop clock ws ws x 0
  meet-open b e t = record {
    walked = stuck rs stop clock ws ws (reached-stopped rs stop x (sym e ∙ t) g.reached) refl;
    before = λ d. absurd (d refl);
  }

leaves-on : (rs : List Record) (stop : Option Slot) (clock c next : ℕ) (ws ws' ws'' : List ℕ) → Leaves rs stop clock c ws ws' → Leaves rs stop c next ws' ws'' → Leaves rs stop clock next ws ws''
leaves-on rs stop clock c next ws ws' ws'' a b = record {
  walking = b.walking;
  later = omega (arith, a.later, b.later);
  kept = λ u d. b.kept u (λ z. d (sym (a.kept u d) ∙ z)) ∙ a.kept u d;
  opened = λ u e. a.opened u (b.opened u e);
  rising = omega (arith, a.rising, b.rising);
}

-- the edges of a slot, from the highest field down
pub edges-inside : (t : List ℕ) (stop : Option Slot) (clock : ℕ) (ws : List ℕ) (s m : ℕ) → Ready (records_of t) stop clock ws s m → s < length t / 16
edges-inside t stop clock ws s m g = omega (arith, g.below, records-length t)

module _ (rs : List Record) (stop : Option Slot) (clock : ℕ) (ws ws' : List ℕ) (s c : ℕ) (w : Walked rs stop clock ws ws' c) where
  walked-ready : (c ≡ 0 → ⊥) → Ready rs stop clock ws s 1 → length ws' ≡ length ws → Ready rs stop c ws' s 1
  walked-ready d g l = record {
    fits = record {
      long = let i : 16384 ≤ length ws = g.fits.long in omega arith;
      count = refl;
      few = g.fits.few;
      inside = g.fits.inside;
    };
    walking = (w.done d).walking;
    below = g.below;
    within = g.within;
    marked = (w.done d).kept s (λ z. absurd (omega (arith, g.marked))) ∙ g.marked;
  }

  walked-falls : (c ≡ 0 → ⊥) → (t : ℕ) → 8 * unvisited (length rs) ws + 3 ≡ t → 8 * unvisited (length rs) ws' + 2 < t
  walked-falls d t q = omega (arith, unvisited-kept (length rs) ws ws' (w.done d).kept)

module _ (rs : List Record) (stop : Option Slot) (clock : ℕ) (ws ws' : List ℕ) (s low high c : ℕ) (v : Follows rs stop clock ws ws' s low high c) where
  module _ (d : c ≡ 0 → ⊥) where
    -- another field
    module _ (ws'' : List ℕ) (f r : ℕ) (v' : Follows rs stop c ws' ws'' s f f r) where
      walked_on : Walked rs stop clock ws ws'' r
      walked_on = record {
        looped = v'.walked.looped;
        done = λ e. leaves-on rs stop clock c r ws ws' ws'' (v.walked.done d) (v'.walked.done e);
        rest = v'.walked.rest ∙ v.walked.rest;
      }

      pub more-ready : (r ≡ 0 → ⊥) → Ready rs stop clock ws s 1 → length ws'' ≡ length ws → Ready rs stop r ws'' s 1
      more-ready = walked-ready rs stop clock ws ws'' s r walked_on

      pub more-falls : (r ≡ 0 → ⊥) → (t : ℕ) → 8 * unvisited (length rs) ws + 3 ≡ t → 8 * unvisited (length rs) ws'' + 2 < t
      more-falls = walked-falls rs stop clock ws ws'' s r walked_on

-- the next lower field
module _ (rs : List Record) (stop : Option Slot) (clock : ℕ) (ws ws' ws'' : List ℕ) (s f high c r : ℕ) where
  pub edges_more : Follows rs stop clock ws ws' s (f + 1) high c → (c ≡ 0 → ⊥) → Follows rs stop c ws' ws'' s f f r → Follows rs stop clock ws ws'' s f high r
  edges_more v d v' = record {
    walked = walked_on rs stop clock ws ws' s (f + 1) high c v d ws'' f r v';
    before = λ e h x l k i. go e h x l k i (eqb h f) refl;
  }
    where
      go : (r ≡ 0 → ⊥) → (h : ℕ) (x : Slot) → f ≤ h → h ≤ high → edge_at (record_in rs s) h ≡ Some x → (b : Bool) → eqb h f ≡ b → Before stop ws'' r x.0
      go e h x l k i true t = let q : h ≡ f = eqb-true h f t in v'.before e h x l (omega arith) i
      go e h x l k i false t =
          let q : h ≡ f → ⊥ = eqb-false h f t in
          let a : Leaves rs stop c r ws' ws'' = v'.walked.done e in
          before-kept stop ws' ws'' c r x.0 a.kept a.later (v.before d h x (omega (arith, q)) k i)

module _ (t : List ℕ) (stop : Option Slot) (clock : ℕ) (ws : List ℕ) (s f : ℕ) (q : Record) (e : Option Slot) (a : q ≡ record_at t s) (b : e ≡ edge_at q f)
    (g : Ready (records_of t) stop clock ws s 1) where
  edge-is : edge_at (record_in (records_of t) s) f ≡ e
  edge-is = ap (λ (r : Record). edge_at r f) (records-at t s (omega (arith, g.below, records-length t)) ∙ sym a) ∙ sym b

  pub edge-none : e ≡ None → Follows (records_of t) stop clock ws ws s f f clock
  edge-none n = record {
    walked = stays (records_of t) stop clock ws g.walking;
    before = λ d h x l m i. absurd (no_way x h (edge_by x h l m i));
  }
    where
      edge_by : (x : Slot) (h : ℕ) → f ≤ h → h ≤ f → edge_at (record_in (records_of t) s) h ≡ Some x → edge_at (record_in (records_of t) s) f ≡ Some x
      edge_by x h l m i = subst (λ (k : ℕ). edge_at (record_in (records_of t) s) k ≡ Some x) (let d : h ≡ f = omega arith in d) i

      no_way : (x : Slot) (h : ℕ) → edge_at (record_in (records_of t) s) f ≡ Some x → ⊥
      no_way x h i = let z : ◌≡◌ {A = ℕ} 0 1 = cc edge-is in omega arith

  module _ (x : Slot) (n : e ≡ Some x) where
    pub edge-coming : Coming (records_of t) stop clock ws x.0
    edge-coming = record {
      fits = g.fits;
      walking = g.walking;
      below = g.fits.inside s f x (edge-is ∙ n);
      reached = within-reached (records_of t) stop s f x (edge-is ∙ n) g.within;
    }

    pub edge-met : (ws' : List ℕ) (r : ℕ) → Meets (records_of t) stop clock ws ws' x.0 r → Follows (records_of t) stop clock ws ws' s f f r
    edge-met ws' r v = record {
      walked = v.walked;
      before = λ d h y l m i. subst (λ (z : Slot). Before stop ws' r z.0) (same y h l m i) (v.before d);
    }
      where
        same : (y : Slot) (h : ℕ) → f ≤ h → h ≤ f → edge_at (record_in (records_of t) s) h ≡ Some y → x ≡ y
        same y h l m i = let d : h ≡ f = omega arith in cc edge-is

module _ (rs : List Record) (stop : Option Slot) (clock : ℕ) (ws ws₁ : List ℕ) (s : ℕ) (g : Ready rs stop clock ws s 0) (p : ws₁ ≡ set ws (0 + s) 1) where
  o : ws₁ ≡ set ws s 1
  o = from_zero ws₁ ws s 1 p

  pub visit-falls : (t : ℕ) → 8 * unvisited (length rs) ws ≡ t → 8 * unvisited (length rs) ws₁ + 3 < t
  visit-falls t q = omega (arith, opens-fewer rs stop clock ws s g ws₁ o)

  opens-rest : drop 16384 ws₁ ≡ drop 16384 ws
  opens-rest = ap (drop 16384) o ∙ drop-set-lt 16384 ws s 1 (omega (arith, g.below, g.fits.few))

  module _ (ws₂ : List ℕ) (c : ℕ) (v : Follows rs stop clock ws₁ ws₂ s 1 3 c) where
    pub visit-looped : c ≡ 0 → Visits rs stop clock ws ws₂ s 0
    visit-looped e = record {
      walked = stuck rs stop clock ws ws₂ (v.walked.looped e) (v.walked.rest ∙ opens-rest);
      stamped = λ d. absurd (d refl);
    }

    module _ (d : c ≡ 0 → ⊥) where
      all_edges : (f : ℕ) (x : Slot) → edge_at (record_in rs s) f ≡ Some x → Before stop ws₂ c x.0
      all_edges f x i = v.before d f x (edge-range (record_in rs s) f x i).0 (edge-range (record_in rs s) f x i).1 i

      pub visit-done : (ws₃ : List ℕ) → length ws₂ ≡ length ws₁ → ws₃ ≡ set ws₂ (0 + s) c → Visits rs stop clock ws ws₃ s (c + 1)
      visit-done ws₃ l q = subst (λ (vs : List ℕ). Visits rs stop clock ws vs s (c + 1)) (sym (from_zero ws₃ ws₂ s c q)) (record {
        walked = record {
          looped = λ q. absurd (omega arith);
          done = λ k. finishes rs stop clock c ws ws₁ ws₂ s g o l (v.walked.done d) all_edges;
          rest = drop-set-lt 16384 ws₂ s c (omega (arith, g.below, g.fits.few)) ∙ v.walked.rest ∙ opens-rest;
        };
        stamped = λ k. finished-last rs stop clock c ws ws₁ ws₂ s g o l (v.walked.done d) all_edges;
      })
