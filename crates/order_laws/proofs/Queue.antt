-- Cells that a search takes for equal, and nets followed through their replacements. Assumes nothing.
use mathlib.Core.Path.{◌≡◌, refl, sym, ap, ap₂, ◌∙◌, subst}
use mathlib.Core.Bool.{Bool, true, false, cond, ◌&&◌}
use mathlib.Core.List.{List, [], ◌∷◌, ◌++◌}
use mathlib.Core.Logic.{◌⊎◌, inl, inr}
use Prim.Native.Nat.{ℕ, zero, suc, ◌+◌, ◌-◌, ◌≤◌, ◌<◌}
use native.Mathlib.Omega.{arith}
use lib.Dec.{eqb}
use lib.ListN.{length, length-map}
use borrow.Author.Tests.{eqb-true}
use Rattle.value.specs.declared.Net.{Net}
use Rattle.value.specs.declared.Driver.{Driver}
use Rattle.value.specs.declared.Driver.TheVariants as driven
use Rattle.value.specs.Value.{eq_net, driver}
use Rattle.value.proofs.Laws.{net-test}
use Rattle.cell.specs.declared.Record.{Record}
use Rattle.cell.specs.declared.Cell.{Cell}
use Rattle.cell.specs.Records.{record_of, cell_of, cell_record}
use Rattle.cell.specs.declared.Cell.TheVariants.{Input}
use Rattle.cell.proofs.RoundTrips.{cell-back}
use Rattle.netlist.specs.Netlist.{cell_in}
use Rattle.netlist.specs.Shape.{visit_mut}
use Rattle.std.proofs.Common.{Option, Some, None}
use Rattle.design.specs.Queue.{driven_to, followed, map_net_new, eq_record, eq_cell, applied, Design}
use Rattle.numberer.specs.Numberer.{Entry, seek}
use Rattle.basics.specs.Lists.{All}
use Rattle.order_laws.specs.Ends.{Final, Ends}
use Rattle.basics.proofs.Truth.{eqb-self, and_both, and-true}
use Rattle.order_laws.proofs.Sorts.{record-bit}
use Rattle.basics.proofs.Indices.{get_d-mapped}

-- cells with equal fields are equal
record-equal : (x y : Record) → x.bit ≡ y.bit → eq_record x y ≡ true → x ≡ y
unfolding eq_record
record-equal x y bit e =
    let g₄ = and_both (eqb x.kind y.kind && eqb x.flags y.flags && eqb x.a y.a && eqb x.b y.b) (eqb x.c y.c) e in
    let g₃ = and_both (eqb x.kind y.kind && eqb x.flags y.flags && eqb x.a y.a) (eqb x.b y.b) g₄.0 in
    let g₂ = and_both (eqb x.kind y.kind && eqb x.flags y.flags) (eqb x.a y.a) g₃.0 in
    let g₁ = and_both (eqb x.kind y.kind) (eqb x.flags y.flags) g₂.0 in
    ap₂ (λ (k f : ℕ). record_of k f x.bit x.a x.b x.c) (eqb-true _ _ g₁.0) (eqb-true _ _ g₁.1)
    ∙ ap₂ (λ (i a : ℕ). record_of y.kind y.flags i a x.b x.c) bit (eqb-true _ _ g₂.1)
    ∙ ap₂ (λ (b c : ℕ). record_of y.kind y.flags y.bit y.a b c) (eqb-true _ _ g₃.1) (eqb-true _ _ g₄.1)

pub cell-equal : (c e : Cell) → eq_cell c e ≡ true → c ≡ e
unfolding eq_cell
cell-equal c e h =
    sym (cell-back 0 c) ∙ ap cell_of (record-equal (cell_record 0 c) (cell_record 0 e) (record-bit 0 c ∙ sym (record-bit 0 e)) h) ∙ cell-back 0 e

cell-itself : (c : Cell) → eq_cell c c ≡ true
unfolding eq_cell eq_record
cell-itself c =
    let x : Record = cell_record 0 c in
    and-true _ _ (and-true _ _ (and-true _ _ (and-true _ _ (eqb-self x.kind) (eqb-self x.flags)) (eqb-self x.a)) (eqb-self x.b)) (eqb-self x.c)

-- what a search finds is the net of an entry with that cell
pub seek_finds : (P : Cell → Net → Type 0) (es : List Entry) (c : Cell) (n : Net) → All (λ (e : Entry). P e.0 e.1) es → seek es c ≡ Some n → P c n
unfolding seek All
seek_finds P [] c n h e = let z : ◌≡◌ {A = ℕ} 0 1 = cc in absurd (omega arith)
seek_finds P (x ∷ es) c n h e = go (eq_cell x.0 c) refl e (seek_finds P es c n h.1)
  where
    go : (b : Bool) → eq_cell x.0 c ≡ b → cond b (Some x.1) (seek es c) ≡ Some n → (seek es c ≡ Some n → P c n) → P c n
    go true q f rec = let m : x.1 ≡ n = cc in subst (P c) m (subst (λ (y : Cell). P y x.1) (cell-equal x.0 c q) h.0)
    go false q f rec = rec f

pub seek-none : (es : List Entry) (c : Cell) → All (λ e. eq_cell e.0 c ≡ false) es → seek es c ≡ None
unfolding All seek
seek-none [] c h = refl
seek-none (e ∷ es) c h = ap (λ (b : Bool). cond b (Some e.1) (seek es c)) h.0 ∙ seek-none es c h.1

-- a search goes on where it found nothing
abbrev pub else_found : Option Net → Option Net → Option Net
else_found (Some m) f = Some m
else_found None f = f

pub seek-append : (es fs : List Entry) (c : Cell) → seek (es ++ fs) c ≡ else_found (seek es c) (seek fs c)
unfolding seek
seek-append [] fs c = refl
seek-append (e ∷ es) fs c = go (eq_cell e.0 c) (seek-append es fs c)
  where
    go : (b : Bool) → seek (es ++ fs) c ≡ else_found (seek es c) (seek fs c)
        → cond b (Some e.1) (seek (es ++ fs) c) ≡ else_found (cond b (Some e.1) (seek es c)) (seek fs c)
    go true h = refl
    go false h = h

-- with one more entry
pub seek-snoc : (es : List Entry) (e : Entry) (x : Cell) (y : Net) → seek (es ++ (e ∷ [])) x ≡ Some y → (seek es x ≡ Some y) ⊎ ((e.0 ≡ x) × (e.1 ≡ y))
unfolding seek
seek-snoc es e x y h = go (seek es x) (eq_cell e.0 x) refl (sym (seek-append es (e ∷ []) x) ∙ h)
  where
    go : (f : Option Net) (b : Bool) → eq_cell e.0 x ≡ b → else_found f (cond b (Some e.1) None) ≡ Some y → (f ≡ Some y) ⊎ ((e.0 ≡ x) × (e.1 ≡ y))
    go (Some m) b q k = inl k
    go None true q k = inr (cell-equal e.0 x q, cc)
    go None false q k = inl k

pub seek-old : (es : List Entry) (e : Entry) (x : Cell) (y : Net) → seek es x ≡ Some y → seek (es ++ (e ∷ [])) x ≡ Some y
seek-old es e x y h = seek-append es (e ∷ []) x ∙ ap (λ f. else_found f (seek (e ∷ []) x)) h

pub seek-new : (es : List Entry) (c : Cell) (y : Net) → seek es c ≡ None → seek (es ++ ((c, y) ∷ [])) c ≡ Some y
unfolding seek
seek-new es c y h = seek-append es ((c, y) ∷ []) c ∙ ap (λ f. else_found f (seek ((c, y) ∷ []) c)) h ∙ ap (λ b. cond b (Some y) None) (cell-itself c)

-- Replacements
module _ (rs : List Net) where
  -- one of them
  abbrev pub replacement : Net → Net
  replacement m = driven_to rs m (driver m)

  -- what each keeps, following them keeps
  pub followed-keeps : (P : Net → Type 0) → ((m : Net) → P m → P (replacement m)) → (k : ℕ) (m : Net) → P m → P (followed k rs m)
  unfolding followed
  followed-keeps P step zero m h = h
  followed-keeps P step (suc k) m h = go (eq_net (replacement m) m) (followed-keeps P step k (replacement m) (step m h))
    where
      go : (b : Bool) → P (followed k rs (replacement m)) → P (cond b m (followed k rs (replacement m)))
      go true r = h
      go false r = r

  pub mapped-keeps : (P : Net → Type 0) → ((m : Net) → P m → P (replacement m)) → (m : Net) → P m → P (map_net_new rs m)
  unfolding map_net_new
  mapped-keeps P step m h = followed-keeps P step (length rs) m h

  -- a net that no replacement leads on from stands for itself
  pub followed-final : (k : ℕ) (m : Net) → replacement m ≡ m → followed k rs m ≡ m
  followed-final k m e = followed-keeps (λ n. n ≡ m) (λ n q. ap replacement q ∙ e) k m refl

  pub mapped-final : (m : Net) → replacement m ≡ m → map_net_new rs m ≡ m
  unfolding map_net_new
  mapped-final m e = followed-final (length rs) m e

  -- following begins with one replacement, whether it leads on or not
  pub followed-first : (k : ℕ) (m : Net) → followed (suc k) rs m ≡ followed k rs (replacement m)
  unfolding followed
  followed-first k m = go (eq_net (replacement m) m) refl
    where
      go : (b : Bool) → eq_net (replacement m) m ≡ b → cond b m (followed k rs (replacement m)) ≡ followed k rs (replacement m)
      go true e = let f : replacement m ≡ m = net-test.same (replacement m) m e in sym (followed-final k m f) ∙ ap (followed k rs) (sym f)
      go false e = refl

  -- a net that is replaced by a final one
  pub mapped-once : (m m' : Net) → 0 < length rs → replacement m ≡ m' → replacement m' ≡ m' → map_net_new rs m ≡ m'
  unfolding map_net_new
  mapped-once m m' l e f = go (length rs) l
    where
      go : (k : ℕ) → 0 < k → followed k rs m ≡ m'
      go zero h = absurd (omega arith)
      go (suc k) h = followed-first k m ∙ ap (followed k rs) e ∙ followed-final k m' f

  -- where a net's look-up ends, more steps than it may take change nothing
  followed-on : (k j : ℕ) (m : Net) → followed (k + j) rs m ≡ followed j rs (followed k rs m)
  unfolding followed
  followed-on zero j m = ap (λ (i : ℕ). followed i rs m) (let q : 0 + j ≡ j = omega arith in q)
  followed-on (suc k) j m =
      ap (λ (i : ℕ). followed i rs m) (let q : suc k + j ≡ suc (k + j) = omega arith in q)
      ∙ followed-first (k + j) m ∙ followed-on k j (replacement m) ∙ ap (followed j rs) (sym (followed-first k m))

  pub more-steps : (m : Net) → Ends rs m → (k : ℕ) → length rs ≤ k → followed k rs m ≡ map_net_new rs m
  unfolding map_net_new
  more-steps m e k l =
      ap (λ (i : ℕ). followed i rs m) (let q : k ≡ length rs + (k - length rs) = omega arith in q)
      ∙ followed-on (length rs) (k - length rs) m ∙ followed-final (k - length rs) (followed (length rs) rs m) e

-- a net whose replacement is final: one step is enough, and so is the number of slots
pub one-step-ends : (rs : List Net) (m : Net) → Final rs (replacement rs m) → Ends rs m
unfolding map_net_new followed
one-step-ends [] m e = go (driver m) refl
  where
    go : (x : Driver) → driver m ≡ x → Final [] m
    go (driven.Const t) q = ap (driven_to [] m) q
    go (driven.Cell s) q = ap (driven_to [] m) q
one-step-ends (r ∷ rs) m e =
    let q : map_net_new (r ∷ rs) m ≡ replacement (r ∷ rs) m = mapped-once (r ∷ rs) m (replacement (r ∷ rs) m) (omega arith) refl e in
    subst (Final (r ∷ rs)) (sym q) e

-- the netlist after them
pub applied-length : (d : Design) → length (applied d) ≡ length d.cells
unfolding applied
applied-length d = length-map d.cells (visit_mut (map_net_new d.replaced))

pub applied-at : (d : Design) (s : ℕ) → s < length d.cells → cell_in (applied d) s ≡ visit_mut (map_net_new d.replaced) (cell_in d.cells s)
unfolding applied
applied-at d s l = get_d-mapped (visit_mut (map_net_new d.replaced)) d.cells s (Input 0) (Input 0) l
