-- Laws of cells that are alike, of renamed operands and of renumbered nets. Assumes nothing.
use mathlib.Core.Path.{◌≡◌, refl, sym, ap, ap₂, ◌∙◌, subst}
use mathlib.Core.Bool.{false, Bool}
use mathlib.Core.Logic.{inl, inr}
use Prim.Native.Nat.{ℕ, ◌≤◌}
use native.Mathlib.Omega.{arith}
use lib.Dec.{eqb}
use Rattle.logic.specs.declared.Trit.{Trit}
use Rattle.logic.specs.declared.Trit.TheVariants.{Zero, One, Undef}
use Rattle.value.specs.declared.Net.{Net}
use Rattle.value.specs.declared.Slot.{Slot}
use Rattle.value.specs.declared.ControlNet.{ControlNet}
use Rattle.value.specs.declared.ControlNet.TheVariants.{Pos, Neg}
use Rattle.value.specs.declared.Driver.{Driver}
use Rattle.value.specs.declared.Driver.TheVariants as driven
use Rattle.value.specs.Value.{net, driver, constant, is_const, from_trit, slot_at}
use Rattle.value.proofs.Laws.{driver-const, cell-driver, driver-cell}
use Rattle.cell.specs.declared.Cell.{Cell}
use Rattle.cell.specs.declared.Cell.TheVariants.{Input, Output, Buf, Not, And, Or, Xor, Mux, Aig}
use Rattle.cell.specs.Records.{cell_record}
use Rattle.netlist.specs.Shape.{visit, visit_control, visit_mut, comb_reads}
use Rattle.design.specs.Queue.{net_in}
use Rattle.basics.specs.Lists.{All}
use Rattle.order_laws.specs.Members.{Drives}
use Rattle.order_laws.proofs.Sorts.{kind-kept, ByKind, kind_in, same-sort, sources-by}
use Rattle.order_laws.proofs.Operands.{all-comb, all-visited, comb-by, visited-all}
use Rattle.normal.specs.Paired.{exchange, Alike, driven_as, renumber}
use Rattle.normal.proofs.Normal.{is_buf}
use Rattle.normal.proofs.Rules.{Fixes}

-- Renamed operands
control-visit : (f g : Net → Net) (p : ControlNet) → visit_control f (visit_control g p) ≡ visit_control (λ n. f (g n)) p
control-visit f g (Pos n) = refl
control-visit f g (Neg n) = refl

control-same : (f g : Net → Net) (p : ControlNet) → f (net p) ≡ g (net p) → visit_control f p ≡ visit_control g p
control-same f g (Pos n) e = ap Pos e
control-same f g (Neg n) e = ap Neg e

control-none : (p : ControlNet) → visit_control (λ n. n) p ≡ p
control-none (Pos n) = refl
control-none (Neg n) = refl

-- one renaming after another
pub visit-visit : (f g : Net → Net) (c : Cell) → visit_mut f (visit_mut g c) ≡ visit_mut (λ n. f (g n)) c
unfolding visit_mut
visit-visit f g (Input l) = refl
visit-visit f g (Output a l) = refl
visit-visit f g (Buf a) = refl
visit-visit f g (Not a) = refl
visit-visit f g (And a b) = refl
visit-visit f g (Or a b) = refl
visit-visit f g (Xor a b) = refl
visit-visit f g (Mux a b c) = refl
visit-visit f g (Aig p q) = ap₂ Aig (control-visit f g p) (control-visit f g q)

-- it matters on the operands only
pub visit-same : (f g : Net → Net) (c : Cell) → All (λ n. f n ≡ g n) (visit c) → visit_mut f c ≡ visit_mut g c
unfolding visit_mut visit All
visit-same f g (Input l) h = refl
visit-same f g (Output a l) h = ap (λ (n : Net). Output n l) h.0
visit-same f g (Buf a) h = ap Buf h.0
visit-same f g (Not a) h = ap Not h.0
visit-same f g (And a b) h = ap₂ And h.0 h.1.0
visit-same f g (Or a b) h = ap₂ Or h.0 h.1.0
visit-same f g (Xor a b) h = ap₂ Xor h.0 h.1.0
visit-same f g (Mux a b c) h = ap₂ (λ (x y : Net). Mux x y (f c)) h.0 h.1.0 ∙ ap (Mux (g a) (g b)) h.1.1.0
visit-same f g (Aig p q) h = ap₂ Aig (control-same f g p h.0) (control-same f g q h.1.0)

visit-none : (c : Cell) → visit_mut (λ n. n) c ≡ c
unfolding visit_mut
visit-none (Input l) = refl
visit-none (Output a l) = refl
visit-none (Buf a) = refl
visit-none (Not a) = refl
visit-none (And a b) = refl
visit-none (Or a b) = refl
visit-none (Xor a b) = refl
visit-none (Mux a b c) = refl
visit-none (Aig p q) = ap₂ Aig (control-none p) (control-none q)

-- operands that stay, and operands that come back
pub visit-stays : (f : Net → Net) (c : Cell) → All (λ n. f n ≡ n) (visit c) → visit_mut f c ≡ c
visit-stays f c h = visit-same f (λ n. n) c h ∙ visit-none c

pub visit-back : (f g : Net → Net) (c : Cell) → All (λ n. f (g n) ≡ n) (visit c) → visit_mut f (visit_mut g c) ≡ c
visit-back f g c h = visit-visit f g c ∙ visit-stays (λ n. f (g n)) c h

-- Exchanged operands
-- twice is not at all; it goes past a renaming; and it leaves the kind
exchanges : (f : Net → Net) (c : Cell) → (exchange (exchange c) ≡ c) × (exchange (visit_mut f c) ≡ visit_mut f (exchange c)) × (kind_in (exchange c) ≡ kind_in c)
unfolding exchange visit_mut cell_record
exchanges f (Input l) = (refl, refl, refl)
exchanges f (Output a l) = (refl, refl, refl)
exchanges f (Buf a) = (refl, refl, refl)
exchanges f (Not a) = (refl, refl, refl)
exchanges f (And a b) = (refl, refl, refl)
exchanges f (Or a b) = (refl, refl, refl)
exchanges f (Xor a b) = (refl, refl, refl)
exchanges f (Mux a b c) = (refl, refl, refl)
exchanges f (Aig p q) = (refl, refl, refl)

pub exchange-twice : (c : Cell) → exchange (exchange c) ≡ c
exchange-twice c = (exchanges (λ n. n) c).0

pub exchange-visit : (f : Net → Net) (c : Cell) → exchange (visit_mut f c) ≡ visit_mut f (exchange c)
exchange-visit f c = (exchanges f c).1

exchange-reads : (P : Net → Type 0) (c : Cell) → All P (visit c) → All P (visit (exchange c))
unfolding exchange visit All
exchange-reads P (Input l) h = h
exchange-reads P (Output a l) h = h
exchange-reads P (Buf a) h = h
exchange-reads P (Not a) h = h
exchange-reads P (And a b) h = h
exchange-reads P (Or a b) h = h
exchange-reads P (Xor a b) h = (h.1.0, (h.0, tt))
exchange-reads P (Mux a b c) h = h
exchange-reads P (Aig p q) h = (h.1.0, (h.0, tt))

-- Cells that are alike
pub alike-sym : (c d : Cell) → Alike c d → Alike d c
alike-sym c d (inl e) = inl (sym e)
alike-sym c d (inr e) = inr (ap exchange (sym e) ∙ exchange-twice c)

pub alike-trans : (c d e : Cell) → Alike c d → Alike d e → Alike c e
alike-trans c d e (inl p) (inl q) = inl (p ∙ q)
alike-trans c d e (inl p) (inr q) = inr (ap exchange p ∙ q)
alike-trans c d e (inr p) (inl q) = inr (p ∙ q)
alike-trans c d e (inr p) (inr q) = inl (sym (exchange-twice c) ∙ ap exchange p ∙ q)

pub alike-visit : (f : Net → Net) (c d : Cell) → Alike c d → Alike (visit_mut f c) (visit_mut f d)
alike-visit f c d (inl e) = inl (ap (visit_mut f) e)
alike-visit f c d (inr e) = inr (exchange-visit f c ∙ ap (visit_mut f) e)

pub alike-reads : (P : Net → Type 0) (c d : Cell) → Alike c d → All P (visit c) → All P (visit d)
alike-reads P c d (inl e) h = subst (λ x. All P (visit x)) e h
alike-reads P c d (inr e) h = subst (λ x. All P (visit x)) e (exchange-reads P c h)

pub alike-kind : (c d : Cell) → Alike c d → kind_in c ≡ kind_in d
alike-kind c d (inl e) = ap kind_in e
alike-kind c d (inr e) = sym (exchanges (λ n. n) c).2 ∙ ap kind_in e

-- A cell and its image by a renaming, up to exchange
pub image-kind : (g : Net → Net) (c d : Cell) → Alike (visit_mut g c) d → kind_in c ≡ kind_in d
image-kind g c d a = sym (kind-kept g 0 c) ∙ alike-kind (visit_mut g c) d a

pub image-reads : (P : Net → Type 0) (g : Net → Net) (c d : Cell) → Alike (visit_mut g c) d → All (λ n. P (g n)) (visit c) → All P (visit d)
image-reads P g c d a h = alike-reads P (visit_mut g c) d a (visited-all P g c h)

pub image-operands : (P : Net → Type 0) (g : Net → Net) (c d : Cell) → Alike (visit_mut g c) d → All P (visit d) → All (λ n. P (g n)) (visit c)
image-operands P g c d a h = all-visited P g c (alike-reads P d (visit_mut g c) (alike-sym (visit_mut g c) d a) h)

-- alike cells have alike images
pub image-alike : (g : Net → Net) (c c' d d' : Cell) → Alike (visit_mut g c) d → Alike (visit_mut g c') d' → Alike c c' → Alike d d'
image-alike g c c' d d' a a' h =
    alike-trans d (visit_mut g c) d' (alike-sym (visit_mut g c) d a) (alike-trans (visit_mut g c) (visit_mut g c') d' (alike-visit g c c' h) a')

pub image-image : (f g : Net → Net) (c d e : Cell) → Alike (visit_mut g c) d → Alike (visit_mut f d) e → Alike (visit_mut (λ n. f (g n)) c) e
image-image f g c d e a b =
    subst (λ x. Alike x e) (visit-visit f g c)
    (alike-trans (visit_mut f (visit_mut g c)) (visit_mut f d) e (alike-visit f (visit_mut g c) d a) b)

-- so what the kind decides is the same
pub image-sort : {sort : Cell → Bool} → ByKind sort → (g : Net → Net) (c d : Cell) → Alike (visit_mut g c) d → sort c ≡ sort d
image-sort by g c d a = same-sort by 0 0 c d (image-kind g c d a)

-- and what is read within a tick
pub image-comb : (P : Net → Type 0) (g : Net → Net) (c d : Cell) → Alike (visit_mut g c) d → All P (comb_reads d) → All (λ n. P (g n)) (comb_reads c)
image-comb P g c d a h =
    comb-by (λ n. P (g n)) c (λ e. image-operands P g c d a (all-comb P d (sym (image-sort sources-by g c d a) ∙ e) h))

pub buf-kind : (bit : ℕ) (c : Cell) → is_buf c ≡ eqb (cell_record bit c).kind 3
unfolding cell_record
buf-kind bit (Input l) = refl
buf-kind bit (Output a l) = refl
buf-kind bit (Buf a) = refl
buf-kind bit (Not a) = refl
buf-kind bit (And a b) = refl
buf-kind bit (Or a b) = refl
buf-kind bit (Xor a b) = refl
buf-kind bit (Mux a b c) = refl
buf-kind bit (Aig p q) = refl

pub bufs-by : ByKind is_buf
bufs-by = record { test = λ k. eqb k 3; is = buf-kind }

-- Nets by another numbering
module _ (p : ℕ → ℕ) where
  pub renumber-const : (n : Net) (t : Trit) → driver n ≡ driven.Const t → renumber p n ≡ n
  unfolding renumber
  renumber-const n t e = ap (driven_as p n) e

  pub renumber-slot : (n : Net) (x : Slot) → driver n ≡ driven.Cell x → renumber p n ≡ net_in (p x.0)
  unfolding renumber
  renumber-slot n x e = ap (driven_as p n) e

  pub renumber-in : (s : ℕ) → s ≤ 65536 → renumber p (net_in s) ≡ net_in (p s)
  renumber-in s h = renumber-slot (net_in s) _ (driver-cell (slot_at s) (omega arith))

  pub renumber-fixes : ((s : ℕ) → p s ≤ 65536) → Fixes (renumber p)
  unfolding is_const
  renumber-fixes h = record {
    zero = renumber-const (from_trit Zero) Zero (driver-const Zero);
    one = renumber-const (from_trit One) One (driver-const One);
    undef = renumber-const (from_trit Undef) Undef (driver-const Undef);
    varies = λ n e. go n (driver n) refl e;
  }
    where
      go : (n : Net) (x : Driver) → driver n ≡ x → constant (driver n) ≡ false → constant (driver (renumber p n)) ≡ false
      go n (driven.Const t) e f = rw (renumber-const n t e) f
      go n (driven.Cell x) e f = rw (renumber-slot n x e, driver-cell (slot_at (p x.0)) (omega (arith, h x.0))) refl

-- two numberings that agree on the slot of a net
pub renumber-same : (p q : ℕ → ℕ) (n : Net) → Drives (λ x. p x ≡ q x) n → renumber p n ≡ renumber q n
renumber-same p q n h = go (driver n) refl
  where
    go : (x : Driver) → driver n ≡ x → renumber p n ≡ renumber q n
    go (driven.Const t) e = renumber-const p n t e ∙ sym (renumber-const q n t e)
    go (driven.Cell x) e = renumber-slot p n x e ∙ ap net_in (h x e) ∙ sym (renumber-slot q n x e)

-- one numbering after another
pub renumber-renumber : (p q : ℕ → ℕ) (n : Net) → Drives (λ x. p x ≤ 65536) n
    → renumber q (renumber p n) ≡ renumber (λ s. q (p s)) n
renumber-renumber p q n h = go (driver n) refl
  where
    go : (x : Driver) → driver n ≡ x → renumber q (renumber p n) ≡ renumber (λ s. q (p s)) n
    go (driven.Const t) e = rw (renumber-const p n t e) (renumber-const q n t e ∙ sym (renumber-const (λ s. q (p s)) n t e))
    go (driven.Cell x) e = rw (renumber-slot p n x e) (renumber-in q (p x.0) (h x e) ∙ sym (renumber-slot (λ s. q (p s)) n x e))

-- a numbering that leaves the slot of a net
pub renumber-stays : (p : ℕ → ℕ) (n : Net) → Drives (λ x. p x ≡ x) n → renumber p n ≡ n
renumber-stays p n h = go (driver n) refl
  where
    go : (x : Driver) → driver n ≡ x → renumber p n ≡ n
    go (driven.Const t) e = renumber-const p n t e
    go (driven.Cell x) e = renumber-slot p n x e ∙ ap net_in (h x e) ∙ sym (cell-driver n x e)
