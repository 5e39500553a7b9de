-- What a cell reads: its operands, the fields that name them, and the slots that drive them. Assumes nothing.
use mathlib.Core.Path.{◌≡◌, refl, sym, ap, ap₂, ◌∙◌, subst}
use mathlib.Core.Bool.{true, false, false≢true}
use mathlib.Core.List.{List, [], ◌∷◌, map}
use Prim.Native.Nat.{ℕ, ◌≤◌}
use native.Mathlib.Omega.{arith}
use lib.Dec.{eqb}
use lib.ListN.{length}
use Rattle.logic.specs.declared.Trit.{Trit}
use Rattle.value.specs.declared.Net.{Net}
use Rattle.value.specs.declared.Slot.{Slot}
use Rattle.value.specs.declared.ControlNet.{ControlNet}
use Rattle.value.specs.declared.ControlNet.TheVariants.{Pos, Neg}
use Rattle.value.specs.declared.Driver.{Driver}
use Rattle.value.specs.declared.Driver.TheVariants as driven
use Rattle.value.specs.Value.{slot_at, driver, net}
use Rattle.value.proofs.Laws.{driver-cell}
use Rattle.cell.specs.declared.Cell.{Cell}
use Rattle.cell.specs.declared.Cell.TheVariants.{Input, Output, Buf, Not, And, Or, Xor, Mux, Aig}
use Rattle.netlist.specs.Shape.{visit, visit_control, visit_mut, is_input, is_source, comb_reads}
use Rattle.netlist.specs.Netlist.{Netlist, cell_in, driven_by, sources, start_of, output_of, cell_deps}
use Rattle.basics.specs.Lists.{slots, those, any_of, joined, has, All}
use Rattle.netlist.proofs.Sources.{other-comb, source-comb}
use Rattle.design.specs.Queue.{net_in}
use Rattle.order_laws.specs.Members.{Drives}
use Rattle.basics.proofs.Truth.{either, or_left, or_right}
use Rattle.order_laws.proofs.Sorts.{source-mapped}
use Rattle.basics.proofs.Members.{all-imp, all_map, all-unmap, all_append, all-joined, has_first, has_all, has-append, has-any, those-pass}

-- a function put to each operand
net-visit : (f : Net → Net) (p : ControlNet) → net (visit_control f p) ≡ f (net p)
net-visit f (Pos n) = refl
net-visit f (Neg n) = refl

visit-visit_mut : (f : Net → Net) (c : Cell) → visit (visit_mut f c) ≡ map f (visit c)
unfolding visit visit_mut
visit-visit_mut f (Input l) = refl
visit-visit_mut f (Output a l) = refl
visit-visit_mut f (Buf a) = refl
visit-visit_mut f (Not a) = refl
visit-visit_mut f (And a b) = refl
visit-visit_mut f (Or a b) = refl
visit-visit_mut f (Xor a b) = refl
visit-visit_mut f (Mux a b c) = refl
visit-visit_mut f (Aig p q) = ap₂ (λ (x y : Net). x ∷ y ∷ []) (net-visit f p) (net-visit f q)

module _ (P : Net → Type 0) (f : Net → Net) (c : Cell) where
  pub visited-all : All (λ n. P (f n)) (visit c) → All P (visit (visit_mut f c))
  visited-all h = subst (All P) (sym (visit-visit_mut f c)) (all_map f P (visit c) h)

  pub all-visited : All P (visit (visit_mut f c)) → All (λ n. P (f n)) (visit c)
  all-visited h = all-unmap f P (visit c) (subst (All P) (visit-visit_mut f c) h)

-- what a cell reads within a tick: all that it reads, or nothing
module _ (P : Net → Type 0) (c : Cell) where
  pub none_read : visit c ≡ [] → All P (visit c)
  unfolding All
  none_read e = subst (All P) (sym e) tt

  pub comb-by : (is_source c ≡ false → All P (visit c)) → All P (comb_reads c)
  unfolding All
  comb-by h = either (is_source c) (λ e. subst (All P) (sym (source-comb c e)) tt) (λ e. subst (All P) (sym (other-comb c e)) (h e))

  pub comb-all : All P (visit c) → All P (comb_reads c)
  comb-all h = comb-by (λ e. h)

  pub all-comb : is_source c ≡ false → All P (comb_reads c) → All P (visit c)
  all-comb e h = subst (All P) (other-comb c e) h

pub visited-comb : (P : Net → Type 0) (f : Net → Net) (c : Cell) → All (λ n. P (f n)) (comb_reads c) → All P (comb_reads (visit_mut f c))
visited-comb P f c h = comb-by P (visit_mut f c) (λ e. visited-all P f c (all-comb (λ n. P (f n)) c (sym (source-mapped f c) ∙ e) h))

-- an input reads nothing
pub input-reads : (P : Net → Type 0) (c : Cell) → is_input c ≡ true → All P (visit c)
unfolding All visit
input-reads P (Input l) e = tt
input-reads P (Output a l) e = absurd (false≢true e)
input-reads P (Buf a) e = absurd (false≢true e)
input-reads P (Not a) e = absurd (false≢true e)
input-reads P (And a b) e = absurd (false≢true e)
input-reads P (Or a b) e = absurd (false≢true e)
input-reads P (Xor a b) e = absurd (false≢true e)
input-reads P (Mux a b c) e = absurd (false≢true e)
input-reads P (Aig p q) e = absurd (false≢true e)

-- of a net by the slot that drives it, and of a constant
pub drives-at : (P : ℕ → Type 0) (n : Net) (x : Slot) → driver n ≡ driven.Cell x → P x.0 → Drives P n
drives-at P n x e h y q =
    let z : driven.Cell x ≡ driven.Cell y = sym e ∙ q in
    let w : x ≡ y = cc in
    subst (λ (i : Slot). P i.0) w h

pub drives-in : (P : ℕ → Type 0) (k : ℕ) → k ≤ 4294967292 → P k → Drives P (net_in k)
drives-in P k l h = drives-at P (net_in k) (slot_at k) (driver-cell (slot_at k) l) h

pub drives-none : (P : ℕ → Type 0) (n : Net) (t : Trit) → driver n ≡ driven.Const t → Drives P n
drives-none P n t e x q = let z : driven.Const t ≡ driven.Cell x = sym e ∙ q in let w : ◌≡◌ {A = ℕ} 0 1 = cc in absurd (omega arith)

-- the slots that drive these nets
module _ (P : ℕ → Type 0) where
  all-driving : (ns : List Net) → All (Drives P) ns → All P (sources ns)
  unfolding All sources joined
  all-driving [] h = tt
  all-driving (n ∷ ns) h = all_append P (driven_by (driver n)) (sources ns) (go (driver n) refl) (all-driving ns h.1)
    where
      go : (r : Driver) → driver n ≡ r → All P (driven_by r)
      go (driven.Const t) e = tt
      go (driven.Cell x) e = (h.0 x e, tt)

  pub sources-all : (ns : List Net) → All (Drives P) ns → (x : ℕ) → has x (sources ns) ≡ true → P x
  sources-all ns h = has_all P (sources ns) (all-driving ns h)

  pub all-sources : (ns : List Net) → ((x : ℕ) → has x (sources ns) ≡ true → P x) → All (Drives P) ns
  unfolding All sources joined
  all-sources [] h = tt
  all-sources (n ∷ ns) h = (
    (λ x e. h x.0 (has-append x.0 (driven_by (driver n)) (sources ns)
        ∙ or_left (has x.0 (driven_by (driver n))) _ (ap (λ d. has x.0 (driven_by d)) e ∙ has_first x.0 []))),
    all-sources ns (λ x k. h x (has-append x (driven_by (driver n)) (sources ns) ∙ or_right (has x (driven_by (driver n))) _ k)),
  )

-- the cells that a cell reads are the starts of the slots that drive an operand of one of its bits
pub all-deps : (P : ℕ → Type 0) (d : Netlist) (s : ℕ)
    → All (λ i. All (Drives (λ x. P (start_of d.bits x))) (visit (cell_in d.cells i))) (output_of d.bits s)
    → All P (cell_deps d s)
unfolding cell_deps
all-deps P d s h =
    let F : ℕ → List ℕ = λ i. sources (visit (cell_in d.cells i)) in
    let P' : ℕ → Type 0 = λ x. P (start_of d.bits x) in
    let bits : List ℕ = output_of d.bits s in
    let read : List ℕ = map (start_of d.bits) (joined (map F bits)) in
    let each : All P read = all_map (start_of d.bits) P (joined (map F bits))
    (all-joined P' F bits (all-imp (λ i. All (Drives P') (visit (cell_in d.cells i))) (λ i. All P' (F i)) (λ i. all-driving P' (visit (cell_in d.cells i))) bits h)) in
    all-imp (λ x. any_of (eqb x) read ≡ true) P (λ x e. has_all P read each x (has-any x read ∙ e)) (those (λ x. any_of (eqb x) read) (slots (length d.cells)))
    (those-pass (λ x. any_of (eqb x) read) (slots (length d.cells)))
