-- The numbers that keys are first compared by. Assumes nothing.
use mathlib.Core.Path.{◌≡◌, refl, sym, ap, ◌∙◌, subst}
use mathlib.Core.Bool.{Bool, true, false, ◌&&◌, false≢true}
use mathlib.Core.List.{List}
use Prim.Native.Nat.{ℕ, zero, suc, ◌+◌, ◌-◌, ◌≤◌, ◌<◌}
use native.Mathlib.Omega.{arith}
use native.Mathlib.Decide.{dec_lt}
use mir.Val.{bool_byte}
use lib.Dec.{eqb}
use lib.ListN.{length, get_or, take, drop}
use Rattle.std.proofs.lemmas.List.{length-take-le, length-drop, get_or-take, get_or-drop}
use borrow.Author.Tests.{eqb-true, eq-eqb}
use Rattle.cell.specs.declared.Record.{Record}
use Rattle.cell.specs.Records.{cell_of}
use Rattle.basics.specs.Lists.{tabulate}
use Rattle.netlist.specs.inner.Areas.{word_record, mixes_at, numberer_at}
use Rattle.std.proofs.Common.{None}
use Rattle.design.specs.Queue.{eq_record}
use Rattle.numberer.specs.Numberer.{seek}
use Rattle.numberer.specs.inner.Words.{mix_of, numberer_in, IsCell, Entered, MixedAt, Mixed, Counts}
use Rattle.numberer.proofs.Records.{eq-cells}
use Rattle.numberer.proofs.Seeking.{one_of}

-- equal records have the same number
both_true : (p q : Bool) → (p && q) ≡ true → (p ≡ true) × (q ≡ true)
both_true true q e = (refl, e)
both_true false q e = absurd (false≢true e)

module _ (x y : Record) where
  equal-mixes : eq_record x y ≡ true → mix_of x ≡ mix_of y
  unfolding eq_record mix_of
  equal-mixes e =
      let K = eqb x.kind y.kind in
      let F = eqb x.flags y.flags in
      let A = eqb x.a y.a in
      let B = eqb x.b y.b in
      let c = both_true (K && F && A && B) (eqb x.c y.c) e in
      let b = both_true (K && F && A) B c.0 in
      let a = both_true (K && F) A b.0 in
      let f = both_true K F a.0 in
      rw (
        eqb-true x.kind y.kind f.0,
        eqb-true x.flags y.flags f.1,
        eqb-true x.a y.a a.1,
        eqb-true x.b y.b b.1,
        eqb-true x.c y.c c.1,
      )

  other-mixes : (mix_of x ≡ mix_of y → ⊥) → eq_record x y ≡ false
  other-mixes h = go (eq_record x y) refl
    where
      go : (b : Bool) → eq_record x y ≡ b → eq_record x y ≡ false
      go true e = absurd (h (equal-mixes e))
      go false e = e

-- `same_at`
module _ (ws : List ℕ) (i : ℕ) (m : MixedAt i ws) (key : Record) (x : ℕ) (x-is : x ≡ mix_of key) where
  pub other-there : (w : ℕ) → w ≡ get_or ws (mixes_at + i) 0 → (w ≡ x → ⊥) → false ≡ eq_record (word_record ws (numberer_at + i)) key
  other-there w e h = sym (other-mixes (word_record ws (numberer_at + i)) key (λ q. h (e ∙ m ∙ q ∙ sym x-is)))

  pub compared-there : (r : Record) → r ≡ word_record ws (numberer_at + i) → (b : Bool) → b ≡ eq_record r key → b ≡ eq_record (word_record ws (numberer_at + i)) key
  compared-there r e b f = f ∙ ap (λ (q : Record). eq_record q key) e

pub mixed-at : (k : ℕ) (ws : List ℕ) → Mixed k ws → (i : ℕ) → i < k → MixedAt i ws
mixed-at k ws m i l = m.each i l

-- the loop of `count_mix`: the numbers that it looks at
abbrev pub looked_at : ℕ → List ℕ → List ℕ
looked_at n ws = take (mixes_at + n - mixes_at) (drop mixes_at ws)

looked-length : (k n : ℕ) → n < k + 16 → (ws : List ℕ) → 16384 ≤ length ws → k ≤ 1024 → length (looked_at n ws) ≡ n
looked-length k n r ws h l =
    length-take-le (mixes_at + n - mixes_at) (drop mixes_at ws) (omega (arith, length-drop mixes_at ws)) ∙ (omega arith)

pub record Counting (x : ℕ) (xs : List ℕ) (i count : ℕ) : Type 0 where
  pub few : count ≤ i
  pub none : count ≡ 0 → (j : ℕ) → j < i → get_or xs j 0 ≡ x → ⊥

pub counting-none : (x : ℕ) (xs : List ℕ) → Counting x xs 0 0
counting-none x xs = record { few = omega arith; none = λ e j l. absurd (omega arith) }

at_most_one : (b : Bool) → bool_byte b ≤ 1
at_most_one true = omega arith
at_most_one false = omega arith

module _ (x : ℕ) (xs : List ℕ) (i count : ℕ) (g : Counting x xs i count) where
  pub counting_more : (n : ℕ) → n ≡ bool_byte (eqb (get_or xs i 0) x) → Counting x xs (i + 1) (count + n)
  counting_more n e = record {
    few = let u : count ≤ i = g.few in omega (arith, at_most_one (eqb (get_or xs i 0) x));
    none = λ z j m. go z j m (dec_lt j i);
  }
    where
      here : n ≡ 0 → get_or xs i 0 ≡ x → ⊥
      here z q =
          let one : n ≡ 1 = e ∙ ap bool_byte (eq-eqb (get_or xs i 0) x q) in
          absurd (omega arith)

      go : count + n ≡ 0 → (j : ℕ) → j < i + 1 → Dec (j < i) → get_or xs j 0 ≡ x → ⊥
      go z j m (yes l) = g.none (omega arith) j l
      go z j m (no l) = let q : i ≡ j = omega arith in subst (λ (v : ℕ). get_or xs v 0 ≡ x → ⊥) q (here (omega arith))

module _ (x k n : ℕ) (q : k ≤ n) (r : n < k + 16) (ws : List ℕ) (i count : ℕ) (g : Counting x (looked_at n ws) i count) (h : 16384 ≤ length ws) (l : k ≤ 1024) where
  pub counting-fits : i < length (looked_at n ws) → (b : Bool) (j : ℕ) → j ≡ bool_byte b → count + j < 4294967296
  counting-fits m b j e = let u : count ≤ i = g.few in omega (arith, at_most_one b, looked-length k n r ws h l)

  pub counting-all : length (looked_at n ws) ≤ i → Counts k x ws count
  counting-all m = record {
    none = λ z j d y. g.none z j (omega (arith, looked-length k n r ws h l))
        (get_or-take (mixes_at + n - mixes_at) (drop mixes_at ws) j 0 (omega arith) ∙ get_or-drop mixes_at ws j 0 ∙ y);
  }

none : (ws : List ℕ) (key : Record) → seek (numberer_in 0 ws) (cell_of key) ≡ None
unfolding numberer_in tabulate seek
none ws key = refl

-- a key whose number none of the entries has
missing : (k : ℕ) (ws : List ℕ) (key : Record) → Entered k ws → Mixed k ws → IsCell key → (n : ℕ) → n ≤ k → ((i : ℕ) → i < k → get_or ws (mixes_at + i) 0 ≡ mix_of key → ⊥)
    → seek (numberer_in n ws) (cell_of key) ≡ None
missing k ws key en m z zero l h = none ws key
missing k ws key en m z (suc n) l h =
    one_of ws (cell_of key) n (missing k ws key en m z n (omega arith) h)
    ∙ rw (sym (eq-cells (word_record ws (numberer_at + n)) key (en.each n (omega arith)) z)
    ∙ other-mixes (word_record ws (numberer_at + n)) key (λ q. h n (omega arith) (m.each n (omega arith) ∙ q)))

pub none-there : (k : ℕ) (ws : List ℕ) (key : Record) → Entered k ws → Mixed k ws → IsCell key → (x : ℕ) → x ≡ mix_of key → (r : ℕ) → Counts k x ws r → r ≡ 0
    → None ≡ seek (numberer_in k ws) (cell_of key)
none-there k ws key en m z x e r c zero-r = sym (missing k ws key en m z k (omega arith) (λ i l q. c.none zero-r i l (q ∙ sym e)))
