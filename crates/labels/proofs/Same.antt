-- Records of one label (request 2026-02): what `same_label` says, in words, and that it goes from records to others of their labels,
-- `same-through`. Assumes nothing.
use mathlib.Core.Path.{◌≡◌, sym, ◌∙◌}
use mathlib.Core.Bool.{true, ◌&&◌}
use lib.Dec.{eqb}
use borrow.Author.Tests.{eqb-true, eq-eqb}
use Rattle.basics.proofs.Truth.{and_both, and-true}
use Rattle.cell.specs.declared.Record.{Record}
use Rattle.labels.specs.Labels.{is_labelled, label_of, same_label, Same}

pub same-parts : (p r : Record) → same_label p r ≡ true → Same p r
unfolding same_label
same-parts p r e =
    let all = and_both (is_labelled p && is_labelled r && eqb p.kind r.kind) (eqb (label_of p) (label_of r)) e in
    let kinds = and_both (is_labelled p && is_labelled r) (eqb p.kind r.kind) all.0 in
    record {
      labelled = and_both (is_labelled p) (is_labelled r) kinds.0;
      kind = eqb-true p.kind r.kind kinds.1;
      label = eqb-true (label_of p) (label_of r) all.1;
    }

pub same-made : (p r : Record) → Same p r → same_label p r ≡ true
unfolding same_label
same-made p r g =
    and-true (is_labelled p && is_labelled r && eqb p.kind r.kind) (eqb (label_of p) (label_of r))
    (and-true (is_labelled p && is_labelled r) (eqb p.kind r.kind) (and-true (is_labelled p) (is_labelled r) g.labelled.0 g.labelled.1)
    (eq-eqb p.kind r.kind g.kind))
    (eq-eqb (label_of p) (label_of r) g.label)

-- p has the label of p', and r that of r'
pub same-through : (p p' r r' : Record) → same_label p p' ≡ true → same_label r r' ≡ true → same_label p' r' ≡ true → same_label p r ≡ true
same-through p p' r r' e f q =
    let a : Same p p' = same-parts p p' e in
    let b : Same r r' = same-parts r r' f in
    let c : Same p' r' = same-parts p' r' q in
    same-made p r (record { labelled = (a.labelled.0, b.labelled.0); kind = a.kind ∙ c.kind ∙ sym b.kind; label = a.label ∙ c.label ∙ sym b.label })
