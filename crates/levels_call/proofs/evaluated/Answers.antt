-- `levels_call::evaluated` meets its contract. Assumes nothing.
use Rattle.levels_call.proofs.Answering.{stimulus-refused, stimulus-passed}
use Rattle.levels_call.proofs.evaluated.Goals as goal

pub returns-in_err-stimulus_verdict : goal.returns-in_err-stimulus_verdict
returns-in_err-stimulus_verdict c t loaded =
    stimulus-refused _ _ _ c.requires loaded _ _ _ c.in_err-stimulus_verdict.ensures _ c.from_residual.ensures.1

pub returns : goal.returns
returns c t loaded = stimulus-passed _ _ _ c.requires loaded _ _ c.in_ok-stimulus_verdict.ensures _ _ _ c.written.ensures
