-- The proof of the cycle of rules and adder. Assumes nothing.
use Rattle.normalize.proofs.First.{some-of}
use Rattle.rewriter_cycle.proofs.Arms.{aig-no-add, aig-no-both, xor-no-add, xor-no-both, normalize-no-add, normalize-no-not, normalize-no-both}
use Rattle.rewriter_cycle.proofs.Passes.{processed-held, add_none, add-cell, add-value, add-full, decided, add-ready, add-falls, performs-add, performs-add-full, not-ready, not-falls, performs-not, both-ready, both-falls, both-performs-full, inverse-ready, inverse-falls, performs-both, inverse-performs-full, and_is, or_is, not-performs, other-performs, ruled-value, ruled-form, ruled-opted, forms-full, forms-held, forms-found, forms-new, forms-value, forms-less, forms-on}
use Rattle.rewriter_cycle.proofs.+passes.Goals as goal

pub add-returns-in_err-process : goal.add-returns-in_err-process
add-returns-in_err-process t c = let h = c.in_err-process.ensures in let f = c.from_residual.ensures.0 in search add-full

pub add-enter-requires : goal.add-enter-requires
add-enter-requires t c = let h = c.in_ok-process.ensures in search processed-held

pub add-enter-requires-in-Cell : goal.add-enter-requires-in-Cell
add-enter-requires-in-Cell t c = let h = c.in_ok-process.ensures in search processed-held

pub add-returns-in-None : goal.add-returns-in-None
add-returns-in-None t c = let h = c.in_ok-process.ensures in search add_none

pub add-returns-in-Cell : goal.add-returns-in-Cell
add-returns-in-Cell t c = let h = c.in_ok-process.ensures in search add-cell

pub add-returns-in-Value : goal.add-returns-in-Value
add-returns-in-Value t c = let h = c.in_ok-process.ensures in search add-value

pub rewrite_and-add-requires : goal.rewrite_and-add-requires
rewrite_and-add-requires t c = (search (add-falls, and_is), search (add-ready, and_is))

pub rewrite_and-returns-in_err-n : goal.rewrite_and-returns-in_err-n
rewrite_and-returns-in_err-n t c = performs-add-full _ _ _ c.requires _ (and_is _ _ _ _) _ _ _ _ c.in_err-n.ensures c.from_residual.ensures.0

pub rewrite_and-returns : goal.rewrite_and-returns
rewrite_and-returns t c = let h = c.in_ok-n.ensures in search (performs-add, and_is)

pub rewrite_or-add-requires : goal.rewrite_or-add-requires
rewrite_or-add-requires t c = (search (both-falls, or_is), search (both-ready, or_is))

pub rewrite_or-returns-in_err-n : goal.rewrite_or-returns-in_err-n
rewrite_or-returns-in_err-n t c = both-performs-full _ _ _ c.requires _ (or_is _ _ _ _) _ _ _ _ c.in_err-n.ensures c.from_residual.ensures.0

pub rewrite_or-add-requires-2 : goal.rewrite_or-add-requires-2
rewrite_or-add-requires-2 t c = let h = c.in_ok-n.ensures in (search (inverse-falls, or_is), search (inverse-ready, or_is))

pub rewrite_or-returns-in_err-inverse : goal.rewrite_or-returns-in_err-inverse
rewrite_or-returns-in_err-inverse t c = let g = c.in_ok-n.ensures in let h = c.in_err-inverse.ensures in let f = c.from_residual-in_err-inverse.ensures.0 in search (inverse-performs-full, or_is)

pub rewrite_or-returns : goal.rewrite_or-returns
rewrite_or-returns t c = let g = c.in_ok-n.ensures in let h = c.in_ok-inverse.ensures in search (performs-both, or_is)

pub rewrite_xor-add-requires : goal.rewrite_xor-add-requires
rewrite_xor-add-requires t c = (search (not-falls, decided), search (not-ready, decided))

pub rewrite_xor-returns-in_ok-n-in-Some-NotOf : goal.rewrite_xor-returns-in_ok-n-in-Some-NotOf
rewrite_xor-returns-in_ok-n-in-Some-NotOf t c = let h = c.in_ok-n-in-Some-NotOf.ensures in search (performs-not, decided)

pub rewrite_xor-returns-in-Some-Add : goal.rewrite_xor-returns-in-Some-Add
rewrite_xor-returns-in-Some-Add t c = absurd (search xor-no-add)

pub rewrite_xor-returns-in-Some-AddNotOf : goal.rewrite_xor-returns-in-Some-AddNotOf
rewrite_xor-returns-in-Some-AddNotOf t c = absurd (search xor-no-both)

pub rewrite_aig-add-requires : goal.rewrite_aig-add-requires
rewrite_aig-add-requires t c = (search (not-falls, decided), search (not-ready, decided))

pub rewrite_aig-returns-in_ok-n-in-Some-NotOf : goal.rewrite_aig-returns-in_ok-n-in-Some-NotOf
rewrite_aig-returns-in_ok-n-in-Some-NotOf t c = let h = c.in_ok-n-in-Some-NotOf.ensures in search (performs-not, decided)

pub rewrite_aig-returns-in-Some-Add : goal.rewrite_aig-returns-in-Some-Add
rewrite_aig-returns-in-Some-Add t c = absurd (search aig-no-add)

pub rewrite_aig-returns-in-Some-AddNotOf : goal.rewrite_aig-returns-in-Some-AddNotOf
rewrite_aig-returns-in-Some-AddNotOf t c = absurd (search aig-no-both)

pub simple_aig_opt-returns-in-Not : goal.simple_aig_opt-returns-in-Not
simple_aig_opt-returns-in-Not t c = search not-performs

pub simple_aig_opt-returns-in_default : goal.simple_aig_opt-returns-in_default
simple_aig_opt-returns-in_default t c = let n = c.in_default in other-performs _ _ _ c.requires n.not-Not n.not-And n.not-Or n.not-Xor n.not-Aig

pub rules-returns-in-None : goal.rules-returns-in-None
rules-returns-in-None t c = search ruled-opted

pub rules-returns-in-Some-Value : goal.rules-returns-in-Some-Value
rules-returns-in-Some-Value t c = rw c.in-Some-Value.n-is (search (ruled-value, some-of))

pub rules-returns-in-Some-Form : goal.rules-returns-in-Some-Form
rules-returns-in-Some-Form t c = rw c.in-Some-Form.d-is (search (ruled-form, some-of))

pub rules-returns-in-Some-Add : goal.rules-returns-in-Some-Add
rules-returns-in-Some-Add t c = absurd (search normalize-no-add)

pub rules-returns-in-Some-NotOf : goal.rules-returns-in-Some-NotOf
rules-returns-in-Some-NotOf t c = absurd (search normalize-no-not)

pub rules-returns-in-Some-AddNotOf : goal.rules-returns-in-Some-AddNotOf
rules-returns-in-Some-AddNotOf t c = absurd (search normalize-no-both)

pub process-returns-in_err-rules : goal.process-returns-in_err-rules
process-returns-in_err-rules t c = let h = c.in_err-rules.ensures in let f = c.from_residual.ensures.0 in search forms-full

pub process-known-requires : goal.process-known-requires
process-known-requires t c = let h = c.in_ok-rules.ensures in search forms-held

pub process-returns-in-Some : goal.process-returns-in-Some
process-returns-in-Some t c = let h = c.in_ok-rules.ensures in search forms-found

pub process-returns-in-None-known : goal.process-returns-in-None-known
process-returns-in-None-known t c = let h = c.in_ok-rules.ensures in search forms-new

pub process-loop-work-smaller : goal.process-loop-work-smaller
process-loop-work-smaller t c = let h = c.in_ok-rules.ensures in search forms-less

pub process-loop-work-preserved : goal.process-loop-work-preserved
process-loop-work-preserved t c = let h = c.in_ok-rules.ensures in search forms-on

pub process-returns-in-Value : goal.process-returns-in-Value
process-returns-in-Value t c = let h = c.in_ok-rules.ensures in search forms-value
