-- What the walks tell, one after another and of an item that was not visited. Assumes nothing.
use mathlib.Core.Path.{◌≡◌, refl, sym, ap, ◌∙◌, subst}
use mathlib.Core.Bool.{Bool, true, false}
use mathlib.Core.List.{List, [], ◌∷◌, ◌++◌}
use Prim.Native.Nat.{ℕ, zero, suc, ◌+◌, ◌*◌, ◌≤◌, ◌<◌}
use native.Mathlib.Nat.{le_refl}
use native.Mathlib.Omega.{arith}
use native.Mathlib.Decide.{dec_lt}
use lib.ListN.{length, set, replicate}
use mir.Syntax.{w32}
use mir.Val.{Fits}
use borrow.Author.Rules.{Fits-under}
use Rattle.cell.specs.declared.Record.{Record}
use Rattle.basics.specs.Lists.{tabulate}
use Rattle.basics.proofs.Tables.{tabulate-length}
use Rattle.netlist.specs.inner.Areas.{records_in, words_in, marks_in, Within, visited_at, order_at, replaced_at}
use Rattle.netlist.proofs.Frames.{within_none, within-then, within_wider, records-kept}
use Rattle.order.specs.Walk.{Walk, is_visited, mark, each, walk, walk_from, count_false, unvisited, fresh}
use Rattle.order.specs.inner.Code.{walk_of, visited_in, unvisited_in, Ready, Walks, Clears}
use Rattle.order.proofs.Walks.{count_set, all-visited, each_append, Keeps, items_keep, walk-there, walk-less, walk-visited, walk-down}
use Rattle.order.proofs.Words.{mark-past, new-below, marks-frame, walk-marked, order-frame, walk-pushed}

pub words-length : (n count : ℕ) (ws : List ℕ) → length (walk_of n count ws).result ≡ count
unfolding walk_of words_in
words-length n count ws = tabulate-length _ count

pub unvisited-of : (n count : ℕ) (ws : List ℕ) → unvisited (walk_of n count ws) ≡ unvisited_in n ws
unfolding walk_of unvisited_in
unvisited-of n count ws = refl

pub visited-of : (n count : ℕ) (ws : List ℕ) (s : ℕ) → is_visited (walk_of n count ws) s ≡ visited_in n ws s
unfolding walk_of visited_in
visited-of n count ws s = refl

module _ (by : List Record → ℕ → List ℕ) (n : ℕ) where
  pub walks-none : (count : ℕ) (ws : List ℕ) → Walks by [] n count ws ws count
  unfolding each
  walks-none count ws = record { said = λ k l. refl; frame = within_none visited_at replaced_at ws }

  -- where the items change nothing
  pub walks-passed : (count : ℕ) (ws xs : List ℕ) → ((k : ℕ) → each (walk k (by (records_in n ws))) xs (walk_of n count ws) ≡ walk_of n count ws)
      → Walks by xs n count ws ws count
  walks-passed count ws xs h = record { said = λ k l. sym (h k); frame = within_none visited_at replaced_at ws }

  -- as an item that was visited
  pub walks-visited : (count : ℕ) (ws : List ℕ) (s : ℕ) (b : Bool) → b ≡ visited_in n ws s → b ≡ true → Walks by (s ∷ []) n count ws ws count
  unfolding each
  walks-visited count ws s b e t = record {
    said = λ k l. sym (walk-visited (by (records_in n ws)) k s (walk_of n count ws) (visited-of n count ws s ∙ sym e ∙ t));
    frame = within_none visited_at replaced_at ws;
  }

  module _ (xs : List ℕ) (count : ℕ) (ws ws₁ : List ℕ) (c : ℕ) (v : Walks by xs n count ws ws₁ c) where
    keeps : Keeps (walk_of n count ws) (walk_of n c ws₁)
    keeps =
        subst (λ (w : Walk). Keeps (walk_of n count ws) w) (sym (v.said (unvisited_in n ws) (le_refl (unvisited_in n ws))))
        (items_keep (by (records_in n ws)) (unvisited_in n ws) xs (walk_of n count ws))

    pub walks-fewer : unvisited_in n ws₁ ≤ unvisited_in n ws
    walks-fewer = omega (arith, keeps.fewer, unvisited-of n count ws, unvisited-of n c ws₁)

    -- a second walk after the first
    pub walks-falls : (t : ℕ) → 8 * unvisited_in n ws + 3 ≡ t → 8 * unvisited_in n ws₁ + 2 < t
    walks-falls t q = omega (arith, walks-fewer)

    pub walks-total : c + unvisited_in n ws₁ ≡ count + unvisited_in n ws
    walks-total =
        omega (arith, keeps.total, unvisited-of n count ws, unvisited-of n c ws₁, words-length n count ws, words-length n c ws₁)

    pub walks-ready : Ready n count ws → Ready n c ws₁
    walks-ready g = record {
      long = let l : 16384 ≤ length ws = g.long in omega (arith, v.frame.same);
      few = g.few;
      room = omega (arith, walks-total, g.room);
    }

    pub walks-grown : (i : ℕ) → visited_in n ws i ≡ true → visited_in n ws₁ i ≡ true
    walks-grown i e = sym (visited-of n c ws₁ i) ∙ keeps.grown i (visited-of n count ws i ∙ e)

    pub walks-records : Ready n count ws → records_in n ws₁ ≡ records_in n ws
    walks-records g = records-kept visited_at replaced_at ws ws₁ v.frame n (let l : n ≤ 1024 = g.few in omega arith)

    pub walks-then : Ready n count ws → (ys : List ℕ) (ws₂ : List ℕ) (d : ℕ) → Walks by ys n c ws₁ ws₂ d → Walks by (xs ++ ys) n count ws ws₂ d
    walks-then g ys ws₂ d v₂ = record {
      said = λ k l.
          v₂.said k (omega (arith, walks-fewer)) ∙ ap (λ (rs : List Record). each (walk k (by rs)) ys (walk_of n c ws₁)) (walks-records g)
          ∙ ap (each (walk k (by (records_in n ws))) ys) (v.said k l) ∙ sym (each_append (walk k (by (records_in n ws))) xs ys (walk_of n count ws));
      frame = within-then visited_at replaced_at ws ws₁ ws₂ v.frame v₂.frame;
    }

pub walks-there : (by : List Record → ℕ → List ℕ) (n count : ℕ) (ws ws₁ : List ℕ) (c s : ℕ) → Walks by (s ∷ []) n count ws ws₁ c → visited_in n ws₁ s ≡ true
unfolding each
walks-there by n count ws ws₁ c s v =
    sym (visited-of n c ws₁ s) ∙ ap (λ (w : Walk). is_visited w s) (v.said (unvisited_in n ws) (le_refl (unvisited_in n ws)))
    ∙ walk-there (by (records_in n ws)) (unvisited_in n ws) s (walk_of n count ws) (omega (arith, unvisited-of n count ws))

pub walks_less : (by : List Record → ℕ → List ℕ) (n count : ℕ) (ws ws₁ : List ℕ) (c s : ℕ) → Walks by (s ∷ []) n count ws ws₁ c → visited_in n ws s ≡ false
    → unvisited_in n ws₁ < unvisited_in n ws
unfolding each
walks_less by n count ws ws₁ c s v new =
    let w : Walk = walk_of n count ws in
    let less : unvisited (walk (unvisited_in n ws) (by (records_in n ws)) s w) < unvisited w =
    walk-less (by (records_in n ws)) (unvisited_in n ws) s w (omega (arith, unvisited-of n count ws)) (visited-of n count ws s ∙ new) in
    omega (arith, less, ap unvisited (v.said (unvisited_in n ws) (le_refl (unvisited_in n ws))), unvisited-of n count ws, unvisited-of n c ws₁)

-- a third walk
pub walks-ready-2 : (by : List Record → ℕ → List ℕ) (n c₁ c₂ count : ℕ) (ws₂ ws₁ ws : List ℕ) (ys xs : List ℕ) → Walks by ys n c₁ ws₁ ws₂ c₂ → Walks by xs n count ws ws₁ c₁
    → Ready n count ws → Ready n c₂ ws₂
walks-ready-2 by n c₁ c₂ count ws₂ ws₁ ws ys xs v₂ v₁ g = walks-ready by n ys c₁ ws₁ ws₂ c₂ v₂ (walks-ready by n xs count ws ws₁ c₁ v₁ g)

pub walks-falls-2 : (by : List Record → ℕ → List ℕ) (n t c₁ c₂ count : ℕ) (ws₂ ws₁ ws : List ℕ) (ys xs : List ℕ) → Walks by ys n c₁ ws₁ ws₂ c₂ → Walks by xs n count ws ws₁ c₁
    → 8 * unvisited_in n ws + 3 ≡ t → 8 * unvisited_in n ws₂ + 2 < t
walks-falls-2 by n t c₁ c₂ count ws₂ ws₁ ws ys xs v₂ v₁ q = omega (arith, walks-fewer by n ys c₁ ws₁ ws₂ c₂ v₂, walks-fewer by n xs count ws ws₁ c₁ v₁)

-- the answer no to whether an item was visited
pub is-new : (n : ℕ) (ws : List ℕ) (s : ℕ) (b : Bool) → b ≡ visited_in n ws s → b ≡ false → visited_in n ws s ≡ false
is-new n ws s b e f = sym e ∙ f

-- an item that was not visited is marked
module _ (n count : ℕ) (ws ws₁ : List ℕ) (s : ℕ) (g : Ready n count ws) (new : visited_in n ws s ≡ false) (o : ws₁ ≡ set ws (visited_at + s) 1) where
  pub marked : (c : ℕ) → walk_of n c ws₁ ≡ mark s (walk_of n c ws)
  marked c = ap (walk_of n c) o ∙ walk-marked n ws s g.few g.long (new-below n ws s new) c

  pub marked-frame : Within visited_at order_at ws ws₁
  marked-frame = subst (λ (vs : List ℕ). Within visited_at order_at ws vs) (sym o) (marks-frame n ws s g.few g.long (new-below n ws s new))

  pub marked-fewer : suc (unvisited_in n ws₁) ≡ unvisited_in n ws
  marked-fewer =
      ap suc (sym (unvisited-of n count ws₁) ∙ ap unvisited (marked count))
      ∙ count_set (walk_of n count ws).visited s (visited-of n count ws s ∙ new) ∙ unvisited-of n count ws

  pub marked-ready : Ready n count ws₁
  marked-ready = record {
    long = let l : 16384 ≤ length ws = g.long in omega (arith, marked-frame.same);
    few = g.few;
    room = omega (arith, marked-fewer, g.room);
  }

  pub marked-falls : (t f : ℕ) → f < 8 → 8 * unvisited_in n ws ≡ t → 8 * unvisited_in n ws₁ + f < t
  marked-falls t f l q = omega (arith, marked-fewer)

  pub marked-records : records_in n ws₁ ≡ records_in n ws
  marked-records = records-kept visited_at order_at ws ws₁ marked-frame n (let l : n ≤ 1024 = g.few in omega arith)

  -- then what it depends on, then itself
  module _ (by : List Record → ℕ → List ℕ) (ws₂ : List ℕ) (c : ℕ) (v : Walks by (by (records_in n ws₁) s) n count ws₁ ws₂ c) where
    pushed-below : c < 1024
    pushed-below = omega (arith, walks-total by n _ count ws₁ ws₂ c v, marked-fewer, g.room)

    pub pushed-next : Fits w32 (c + 1)
    pushed-next = Fits-under w32 (c + 1) 65536 (omega (arith, pushed-below)) tt

    deps-said : (j : ℕ) → unvisited (mark s (walk_of n count ws)) ≤ j
        → walk_of n c ws₂ ≡ each (walk j (by (records_in n ws))) (by (records_in n ws) s) (mark s (walk_of n count ws))
    deps-said j l =
        v.said j (omega (arith, ap unvisited (marked count), unvisited-of n count ws₁))
        ∙ ap (λ (rs : List Record). each (walk j (by rs)) (by rs s) (walk_of n count ws₁)) marked-records
        ∙ ap (each (walk j (by (records_in n ws))) (by (records_in n ws) s)) (marked count)

    pub pushed : (ws₃ : List ℕ) → ws₃ ≡ set ws₂ (order_at + c) s → Walks by (s ∷ []) n count ws ws₃ (c + 1)
    unfolding each
    pushed ws₃ p =
        let long : 16384 ≤ length ws₂ = let l : 16384 ≤ length ws₁ = marked-ready.long in omega (arith, v.frame.same) in
        subst (λ (vs : List ℕ). Walks by (s ∷ []) n count ws vs (c + 1)) (sym p) (record {
          said = λ k l.
              walk-pushed n ws₂ c s g.few long pushed-below
              ∙ walk-down (by (records_in n ws)) k s (walk_of n count ws) (walk_of n c ws₂) (visited-of n count ws s ∙ new)
              (omega (arith, unvisited-of n count ws)) deps-said;
          frame = within-then visited_at replaced_at ws ws₁ (set ws₂ (order_at + c) s)
              (within_wider visited_at order_at visited_at replaced_at ws ws₁ (omega arith) (omega arith) marked-frame)
              (within-then visited_at replaced_at ws₁ ws₂ (set ws₂ (order_at + c) s) v.frame
              (within_wider order_at replaced_at visited_at replaced_at ws₂ (set ws₂ (order_at + c) s) (omega arith) (omega arith)
              (order-frame n ws₂ c s g.few long pushed-below)));
        })

-- every item was visited
pub none-unvisited : (n : ℕ) (ws : List ℕ) → ((u : ℕ) → u < n → visited_in n ws u ≡ true) → unvisited_in n ws ≡ 0
unfolding unvisited_in visited_in
none-unvisited n ws h = all-visited (marks_in visited_at n ws) (λ i. go i (dec_lt i n))
  where
    go : (i : ℕ) → Dec (i < n) → visited_in n ws i ≡ true
    go i (yes l) = h i l
    go i (no l) = mark-past n ws i (omega arith)

-- no item was visited: a walk begins
count-replicate : (n : ℕ) → count_false (replicate n false) ≡ n
unfolding count_false
count-replicate zero = refl
count-replicate (suc n) = ap suc (count-replicate n)

module _ (n : ℕ) (ws ws₁ : List ℕ) (v : Clears n ws ws₁) where
  pub cleared-unvisited : unvisited_in n ws₁ ≡ n
  unfolding unvisited_in
  cleared-unvisited = ap count_false v.blank ∙ count-replicate n

  pub cleared-walk : walk_of n 0 ws₁ ≡ fresh n
  unfolding walk_of words_in tabulate
  cleared-walk = rw v.blank

  pub cleared-ready : 16384 ≤ length ws → n ≤ 1024 → Ready n 0 ws₁
  cleared-ready l f = record {
    long = omega (arith, v.frame.same);
    few = f;
    room = omega (arith, cleared-unvisited);
  }

  pub cleared-records : n ≤ 1024 → records_in n ws₁ ≡ records_in n ws
  cleared-records f = records-kept visited_at order_at ws ws₁ v.frame n (omega arith)

  pub cleared-then : (ws₂ : List ℕ) → Within visited_at replaced_at ws₁ ws₂ → Within visited_at replaced_at ws ws₂
  cleared-then ws₂ f =
      within-then visited_at replaced_at ws ws₁ ws₂ (within_wider visited_at order_at visited_at replaced_at ws ws₁ (omega arith) (omega arith) v.frame) f

  -- a walk from each of these roots
  pub cleared-walked : (by : List Record → ℕ → List ℕ) (xs : List ℕ) (ws₂ : List ℕ) (c : ℕ) → n ≤ 1024 → Walks by xs n 0 ws₁ ws₂ c
      → walk_of n c ws₂ ≡ walk_from n (by (records_in n ws)) xs (fresh n)
  unfolding walk_from
  cleared-walked by xs ws₂ c f w =
      w.said n (omega (arith, cleared-unvisited)) ∙ ap (λ (rs : List Record). each (walk n (by rs)) xs (walk_of n 0 ws₁)) (cleared-records f)
      ∙ ap (each (walk n (by (records_in n ws))) xs) cleared-walk
