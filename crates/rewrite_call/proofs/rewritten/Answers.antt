-- `rewrite_call::rewritten` meets its contract. Assumes nothing.
use Rattle.rewrite_call.proofs.Rewriting.{writes-none, writes-rewritten}
use Rattle.rewrite_call.proofs.rewritten.Goals as goal

pub returns-in_err-slots : goal.returns-in_err-slots
returns-in_err-slots c t loaded = writes-none _ _ _ _ _ loaded c.in_err-slots.ensures _ c.from_residual.ensures.1

pub returns : goal.returns
returns c t loaded = writes-rewritten _ _ _ _ _ loaded _ _ _ _ c.in_ok-slots.ensures c.deliver.ensures
