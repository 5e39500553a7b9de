-- What the call of rewrite tells of a ticket that passed. Public contracts do not cite this file. Assumes nothing: this is a definition.
use Rattle.refusals.specs.declared.Refusal.{Refusal}
use Rattle.std.specs.Prelude.{List, ℕ, Result}
use Rattle.design.specs.Queue.{find_new_cell}
use Rattle.calls.specs.Calls.{rewrite_bytes, rewrite_stages}
use Rattle.delivery.specs.inner.Delivery.{Writes}

-- 9 and 12 decided answer and reply
abbrev pub RewritesTicket : List ℕ → List ℕ → List ℕ → List ℕ → List ℕ → Result ℕ Refusal → Type 0
RewritesTicket t ws ws' reply reply' r = Writes (rewrite_stages find_new_cell t reply) (rewrite_bytes find_new_cell t) ws ws' reply reply' r
