use mathlib.Core.Path.{sym, ◌∙◌}
use Rattle.levels.proofs.Given.{source-at, taken-level, passed-level}
use Rattle.levels.proofs.place_at.Goals as goal

pub returns-then-is_source : goal.returns-then-is_source
returns-then-is_source c =
    let e = sym (source-at _ _) ∙ sym c.is_source.ensures ∙ c.if-is_source.true in
    record { value = sym e; work_after = search (taken-level, e) }

pub returns : goal.returns
returns c =
    let e = sym (source-at _ _) ∙ sym c.is_source.ensures ∙ c.if-is_source.false in
    record { value = sym e; work_after = search (passed-level, e) }
