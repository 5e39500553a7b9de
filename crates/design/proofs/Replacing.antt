-- Replaced nets, followed and put in place. Assumes nothing.
use mathlib.Core.Path.{◌≡◌, refl, sym, ap, ◌∙◌}
use mathlib.Core.Bool.{Bool, true, false, cond, not, ◌&&◌}
use mathlib.Core.List.{List}
use Prim.Native.Nat.{ℕ, suc, ◌+◌, ◌-◌, ◌<◌, ◌≤◌}
use native.Mathlib.Omega.{arith}
use lib.Dec.{eqb}
use lib.ListN.{length, get_or, set}
use lib.Seq.{get_or-set_same, get_or-set_other}
use borrow.Author.Tests.{eq-eqb}
use Rattle.logic.specs.declared.Trit.{Trit}
use Rattle.value.specs.declared.Net.{Net}
use Rattle.value.specs.declared.Slot.{Slot}
use Rattle.value.specs.declared.Driver.{Driver}
use Rattle.value.specs.declared.Driver.TheVariants as driven
use Rattle.value.specs.declared.ControlNet.TheVariants.{Pos, Neg}
use Rattle.value.specs.Value.{net_at, eq_net, driver}
use Rattle.cell.specs.declared.Cell.{Cell}
use Rattle.cell.specs.declared.Cell.TheVariants.{Input, Output, Buf, Not, And, Or, Xor, Mux, Aig}
use Rattle.basics.specs.Lists.{tabulate, any_of}
use Rattle.cell.specs.Records.{cell_record}
use Rattle.netlist.specs.inner.Areas.{Within, words_in, figures_at, replaced_at}
use Rattle.netlist.specs.Shape.{visit, visit_mut}
use Rattle.netlist.proofs.Frames.{within-set, word-as, tabulate-same}
use Rattle.design.specs.Queue.{net_in, driven_to, followed, map_net_new, eq_record, eq_cell}
use Rattle.design.specs.inner.Words.{replaced_in}
use Rattle.order.proofs.Words.{tabulate-set}
use Rattle.design.proofs.Words.{replaced-length}

-- one step
module _ (n : ℕ) (ws : List ℕ) (x : Net) (d : Driver) (d-is : d ≡ driver x) where
  pub step-const : (t : Trit) → d ≡ driven.Const t → x ≡ driven_to (replaced_in n ws) x (driver x)
  step-const t e = rw (← d-is, e)

  module _ (s : Slot) (e : d ≡ driven.Cell s) where
    pub step-cell : (w : ℕ) → w ≡ get_or (words_in replaced_at n ws) s.0 x.0 → net_at w ≡ driven_to (replaced_in n ws) x (driver x)
    unfolding replaced_in
    step-cell w f = rw (← d-is, e, f) (sym (word-as replaced_at n ws s.0 net_at x.0))

-- step after step
pub record Following (n : ℕ) (ws : List ℕ) (x y : Net) (i : ℕ) : Type 0 where
  pub rest : followed (n - i) (replaced_in n ws) y ≡ map_net_new (replaced_in n ws) x

pub follows-none : (n : ℕ) (ws : List ℕ) (x : Net) → Following n ws x x 0
unfolding map_net_new
follows-none n ws x = record { rest = ap (λ (k : ℕ). followed k (replaced_in n ws) x) (omega (arith, replaced-length n ws)) }

module _ (n : ℕ) (ws : List ℕ) (x y : Net) (i : ℕ) (g : Following n ws x y i) where
  pub follows-end : n ≤ i → y ≡ map_net_new (replaced_in n ws) x
  unfolding followed
  follows-end h = ap (λ (k : ℕ). followed k (replaced_in n ws) y) (let e : 0 ≡ n - i = omega arith in e) ∙ g.rest

  module _ (l : i < n) (z : Net) (z-is : z ≡ driven_to (replaced_in n ws) y (driver y)) (b : Bool) (b-is : b ≡ eq_net z y) where
    opened : cond b y (followed (n - (i + 1)) (replaced_in n ws) z) ≡ map_net_new (replaced_in n ws) x
    unfolding followed
    opened =
        rw (b-is, z-is) (ap (λ (k : ℕ). followed k (replaced_in n ws) y) (let e : suc (n - (i + 1)) ≡ n - i = omega arith in e) ∙ g.rest)

    pub follows-stop : b ≡ true → y ≡ map_net_new (replaced_in n ws) x
    follows-stop e = rw e at opened

    pub follows-more : b ≡ false → Following n ws x z (i + 1)
    follows-more e = record { rest = rw e at opened }

-- the loop that has nets stand for themselves
pub record Standing (from to : ℕ) (ws₀ ws : List ℕ) (s : ℕ) : Type 0 where
  pub few : to ≤ 1024
  pub long : 16384 ≤ length ws₀
  pub begun : from ≤ s
  pub each : (u : ℕ) → from ≤ u → u < s → get_or ws (replaced_at + u) 0 ≡ u + 2
  pub frame : Within (replaced_at + from) figures_at ws₀ ws

-- nothing replaced yet
pub unchanged-all : (n : ℕ) (ws : List ℕ) → ((i : ℕ) → 0 ≤ i → i < n → get_or ws (replaced_at + i) 0 ≡ i + 2) → replaced_in n ws ≡ tabulate net_in n
unfolding replaced_in
unchanged-all n ws h = tabulate-same (λ i. net_at (get_or ws (replaced_at + i) 0)) net_in n (λ u l. ap net_at (h u (omega arith) l))

-- one net replaced
module _ (n : ℕ) (ws ws' : List ℕ) (s : Slot) (x : Net) (e : ws' ≡ set ws (replaced_at + s.0) x.0) (few : n ≤ 1024) (l : s.0 < n) where
  pub replaces : 16384 ≤ length ws → replaced_in n ws' ≡ set (replaced_in n ws) s.0 x
  unfolding replaced_in
  replaces long =
      rw e (tabulate-set x (λ i. net_at (get_or ws (replaced_at + i) 0)) (λ i. net_at (get_or (set ws (replaced_at + s.0) x.0) (replaced_at + i) 0)) n s.0 x l
      (ap net_at (get_or-set_same ws (replaced_at + s.0) x.0 0 (omega arith)))
      (λ j h. ap net_at (get_or-set_other ws (replaced_at + s.0) (replaced_at + j) x.0 0 (λ q. h (omega arith)))))

  pub replaces-frame : Within replaced_at figures_at ws ws'
  replaces-frame = rw e (within-set replaced_at figures_at ws (replaced_at + s.0) x.0 (omega arith) (omega arith))

-- a cell whose operands a function changes is another cell
same-1 : (p : Bool) → cond (not p) true false ≡ not (true && true && p && true && true)
same-1 true = refl
same-1 false = refl

same-2 : (p q : Bool) → cond (not p) true (cond (not q) true false) ≡ not (true && true && p && q && true)
same-2 true true = refl
same-2 true false = refl
same-2 false true = refl
same-2 false false = refl

same-3 : (p q r : Bool) → cond (not p) true (cond (not q) true (cond (not r) true false)) ≡ not (true && true && p && q && r)
same-3 true true true = refl
same-3 true true false = refl
same-3 true false true = refl
same-3 true false false = refl
same-3 false true true = refl
same-3 false true false = refl
same-3 false false true = refl
same-3 false false false = refl

module _ (f : Net → Net) where
  -- an operand is the same
  holds : Net → Bool
  holds a = eqb (f a).0 a.0

  pub changed-is : (c : Cell) → any_of (λ n. not (eq_net (f n) n)) (visit c) ≡ not (eq_cell (visit_mut f c) c)
  unfolding any_of visit visit_mut eq_cell eq_record cell_record eq_net holds
  changed-is (Input l) = rw (eq-eqb l l refl)
  changed-is (Output a l) = rw (eq-eqb l l refl) (same-1 (holds a))
  changed-is (Buf a) = same-1 (holds a)
  changed-is (Not a) = same-1 (holds a)
  changed-is (And a b) = same-2 (holds a) (holds b)
  changed-is (Or a b) = same-2 (holds a) (holds b)
  changed-is (Xor a b) = same-2 (holds a) (holds b)
  changed-is (Mux a b c) = same-3 (holds a) (holds b) (holds c)
  changed-is (Aig (Pos a) (Pos b)) = same-2 (holds a) (holds b)
  changed-is (Aig (Pos a) (Neg b)) = same-2 (holds a) (holds b)
  changed-is (Aig (Neg a) (Pos b)) = same-2 (holds a) (holds b)
  changed-is (Aig (Neg a) (Neg b)) = same-2 (holds a) (holds b)
