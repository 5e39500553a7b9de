use Rattle.text.proofs.Text.{undriven-put, other-put}
use Rattle.text.proofs.put_refusal.Goals as goal

pub returns-in-UndrivenOperand : goal.returns-in-UndrivenOperand
returns-in-UndrivenOperand c = search undriven-put

pub returns-in_default : goal.returns-in_default
returns-in_default c = search other-put
