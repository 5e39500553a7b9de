-- The operands of a cell by the fields of its record, and the combinational edges that they are. Assumes nothing.
use mathlib.Core.Path.{◌≡◌, refl, sym, ap, ◌∙◌, subst}
use mathlib.Core.Bool.{true, false≢true, Bool, false, cond}
use mathlib.Core.Logic.{⊎_elim}
use Prim.Native.Nat.{ℕ, zero, suc, ◌/◌, ◌%◌}
use native.Mathlib.Omega.{arith}
use lib.Dec.{eqb}
use Rattle.std.specs.Prelude.{Some, None}
use Rattle.value.specs.declared.Net.{Net}
use Rattle.value.specs.declared.Driver.{Driver}
use Rattle.value.specs.declared.Driver.TheVariants as driven
use Rattle.value.specs.Value.{net_at, driver}
use Rattle.value.specs.declared.Slot.{Slot}
use Rattle.value.proofs.Laws.{net-of}
use Rattle.cell.specs.declared.Record.{Record}
use Rattle.cell.specs.declared.Cell.{Cell}
use Rattle.cell.specs.declared.Cell.TheVariants.{Input, Output, Buf, Not, And, Or, Xor, Mux, Aig}
use Rattle.kinds.specs.Kinds.{is_known, kind_of, use_of, sort_of}
use Rattle.cell.specs.Operands.{field_of, is_operand, is_comb_edge, edge_of, edge_at}
use Rattle.cell.specs.Records.{record_of, cell_of, cell_record}
use Rattle.cell.proofs.RoundTrips.{cell-back}
use Rattle.loops.proofs.Edges.{edge-field}
use Rattle.netlist.specs.Shape.{visit, is_source, comb_reads}
use Rattle.basics.specs.Lists.{All}
use Rattle.order_laws.specs.Members.{Drives}
use Rattle.basics.proofs.Truth.{either}
use Rattle.order_laws.proofs.Sorts.{kind-known}
use Rattle.order_laws.proofs.Operands.{comb-by, all-comb}

-- what is said of each operand field of a record is said of each operand of its cell
abbrev pub FieldHas : (Net → Type 0) → Record → ℕ → Type 0
FieldHas P r f = is_operand r f ≡ true → P (net_at (field_of r f))

read_by : (P : Net → Type 0) (k flags bit a b c : ℕ) → is_known k ≡ true → ((f : ℕ) → FieldHas P (record_of k flags bit a b c) f)
    → All P (visit (cell_of (record_of k flags bit a b c)))
unfolding All kind_of cell_of visit is_operand use_of field_of sort_of
read_by P zero flags bit a b c known h = absurd (false≢true known)
read_by P (suc zero) flags bit a b c known h = tt
read_by P (suc (suc zero)) flags bit a b c known h = (h 1 refl, tt)
read_by P (suc (suc (suc zero))) flags bit a b c known h = (h 1 refl, tt)
read_by P (suc (suc (suc (suc zero)))) flags bit a b c known h = (h 1 refl, tt)
read_by P (suc (suc (suc (suc (suc zero))))) flags bit a b c known h = (h 1 refl, (h 2 refl, tt))
read_by P (suc (suc (suc (suc (suc (suc zero)))))) flags bit a b c known h = (h 1 refl, (h 2 refl, tt))
read_by P (suc (suc (suc (suc (suc (suc (suc zero))))))) flags bit a b c known h = (h 1 refl, (h 2 refl, tt))
read_by P (suc (suc (suc (suc (suc (suc (suc (suc zero)))))))) flags bit a b c known h = (h 1 refl, (h 2 refl, (h 3 refl, tt)))
read_by P (suc (suc (suc (suc (suc (suc (suc (suc (suc zero))))))))) flags bit a b c known h = (
  subst P (sym (net-of (net_at a) (eqb (flags % 2) 1))) (h 1 refl),
  (subst P (sym (net-of (net_at b) (eqb (flags / 2 % 2) 1))) (h 2 refl), tt),
)
read_by P (suc (suc (suc (suc (suc (suc (suc (suc (suc (suc k)))))))))) flags bit a b c known h = absurd (false≢true known)

pub operands-by : (P : Net → Type 0) (r : Record) → is_known r.kind ≡ true → ((f : ℕ) → FieldHas P r f) → All P (visit (cell_of r))
operands-by P r = read_by P r.kind r.flags r.bit r.a r.b r.c

pub operands-have : (P : Net → Type 0) (bit : ℕ) (c : Cell) → ((f : ℕ) → FieldHas P (cell_record bit c) f) → All P (visit c)
operands-have P bit c h = subst (λ (x : Cell). All P (visit x)) (cell-back bit c) (operands-by P (cell_record bit c) (kind-known bit c) h)

-- what is said of each operand of a cell is said of each operand field of its record
clash : {A : Type 0} → false ≡ true → A
clash e = absurd (false≢true e)

pub fields-have : (P : Net → Type 0) (bit : ℕ) (c : Cell) → All P (visit c)
    → FieldHas P (cell_record bit c) 1 × FieldHas P (cell_record bit c) 2 × FieldHas P (cell_record bit c) 3
unfolding All visit cell_record is_operand field_of use_of kind_of sort_of
fields-have P bit (Input l) h = (clash, clash, clash)
fields-have P bit (Output a l) h = ((λ e. h.0), clash, clash)
fields-have P bit (Buf a) h = ((λ e. h.0), clash, clash)
fields-have P bit (Not a) h = ((λ e. h.0), clash, clash)
fields-have P bit (And a b) h = ((λ e. h.0), (λ e. h.1.0), clash)
fields-have P bit (Or a b) h = ((λ e. h.0), (λ e. h.1.0), clash)
fields-have P bit (Xor a b) h = ((λ e. h.0), (λ e. h.1.0), clash)
fields-have P bit (Mux a b c) h = ((λ e. h.0), (λ e. h.1.0), (λ e. h.1.1.0))
fields-have P bit (Aig p q) h = ((λ e. h.0), (λ e. h.1.0), clash)

-- an edge by a field whose operand a slot drives
edge_to : (r : Record) (f : ℕ) (x : Slot) → is_comb_edge r f ≡ true → driver (net_at (field_of r f)) ≡ driven.Cell x → edge_at r f ≡ Some x
unfolding edge_at
edge_to r f x e d = rw (e, d)

-- each operand of what is no source is one
pub other_edge : (r : Record) (f : ℕ) (x : Slot) → is_source (cell_of r) ≡ false → is_operand r f ≡ true → driver (net_at (field_of r f)) ≡ driven.Cell x
    → edge_at r f ≡ Some x
unfolding is_comb_edge
other_edge r f x o e d = edge_to r f x e d

-- and the operand in the field by which an edge leads on
edge-from : (r : Record) (f : ℕ) (x : Slot) → edge_at r f ≡ Some x → (is_operand r f ≡ true) × (driver (net_at (field_of r f)) ≡ driven.Cell x)
unfolding edge_at is_comb_edge
edge-from r f x e = go (is_operand r f) (driver (net_at (field_of r f))) refl refl e
  where
    go : (b : Bool) (d : Driver) → is_operand r f ≡ b → driver (net_at (field_of r f)) ≡ d → cond b (edge_of d) None ≡ Some x
        → (is_operand r f ≡ true) × (driver (net_at (field_of r f)) ≡ driven.Cell x)
    go false d p q e = let z : ◌≡◌ {A = ℕ} 0 1 = cc in absurd (omega arith)
    go true (driven.Const t) p q e = let z : ◌≡◌ {A = ℕ} 0 1 = cc in absurd (omega arith)
    go true (driven.Cell y) p q e = (p, cc)

-- no edge leaves a source
no_field : {A : Type 0} (r : Record) (f : ℕ) (x : Slot) → is_comb_edge r f ≡ false → edge_at r f ≡ Some x → A
unfolding edge_at
no_field r f x n e = let z : None ≡ Some x = sym (ap (λ (b : Bool). cond b (edge_of (driver (net_at (field_of r f)))) None) n) ∙ e in
    let w : ◌≡◌ {A = ℕ} 0 1 = cc in absurd (omega arith)

source-fields : (bit : ℕ) (c : Cell) → is_source c ≡ true
    → (is_comb_edge (cell_record bit c) 1 ≡ false) × (is_comb_edge (cell_record bit c) 2 ≡ false) × (is_comb_edge (cell_record bit c) 3 ≡ false)
unfolding is_comb_edge is_operand use_of kind_of cell_record sort_of
source-fields bit (Input l) e = (refl, refl, refl)
source-fields bit (Output a l) e = clash e
source-fields bit (Buf a) e = clash e
source-fields bit (Not a) e = clash e
source-fields bit (And a b) e = clash e
source-fields bit (Or a b) e = clash e
source-fields bit (Xor a b) e = clash e
source-fields bit (Mux a b c) e = clash e
source-fields bit (Aig p q) e = clash e

source-edge : {A : Type 0} (bit : ℕ) (c : Cell) → is_source c ≡ true → (f : ℕ) (x : Slot) → edge_at (cell_record bit c) f ≡ Some x → A
source-edge {A} bit c s f x e =
    let r : Record = cell_record bit c in
    let g = source-fields bit c s in
    let at : (k : ℕ) → is_comb_edge r k ≡ false → f ≡ k → A = λ k n q. no_field r k x n (subst (λ (j : ℕ). edge_at r j ≡ Some x) q e) in
    ⊎_elim (at 1 g.0) (⊎_elim (at 2 g.1) (at 3 g.2)) (edge-field r f x e)

-- the edges of a cell's record are what the cell reads within a tick
module _ (Q : ℕ → Type 0) (bit : ℕ) (c : Cell) where
  other-have : All (Drives Q) (visit c) → (f : ℕ) (x : Slot) → edge_at (cell_record bit c) f ≡ Some x → Q x.0
  other-have h f x e =
      let g = fields-have (Drives Q) bit c h in
      let at : (k : ℕ) → FieldHas (Drives Q) (cell_record bit c) k → f ≡ k → Q x.0 =
      λ k p q. let d = edge-from (cell_record bit c) k x (subst (λ (j : ℕ). edge_at (cell_record bit c) j ≡ Some x) q e) in p d.0 x d.1 in
      ⊎_elim (at 1 g.0) (⊎_elim (at 2 g.1) (at 3 g.2)) (edge-field (cell_record bit c) f x e)

  pub edges-have : All (Drives Q) (comb_reads c) → (f : ℕ) (x : Slot) → edge_at (cell_record bit c) f ≡ Some x → Q x.0
  edges-have h f x e = either (is_source c) (λ s. source-edge bit c s f x e) (λ s. other-have (all-comb (Drives Q) c s h) f x e)

  pub have-edges : ((f : ℕ) (x : Slot) → edge_at (cell_record bit c) f ≡ Some x → Q x.0) → All (Drives Q) (comb_reads c)
  have-edges h =
      comb-by (Drives Q) c
      (λ s. operands-have (Drives Q) bit c (λ f e x d. h f x (other_edge (cell_record bit c) f x (ap is_source (cell-back bit c) ∙ s) e d)))
