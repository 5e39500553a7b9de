-- What holds of each error that no slot is left holds of what `?` passes on. Assumes nothing.
use Rattle.std.proofs.Common.{Result, Ok, Err}
use mathlib.Core.Bool.{false≢true}
use Rattle.std.specs.Result.{IsErr}
use Rattle.rewriter_state.specs.declared.Full.{Full}

pub no_slot : {A : Type 0} (P : Result A Full → Type 0) → ((u : Full) → P (Err u)) → (r : Result A Full) → IsErr r → P r
no_slot P h (Ok v) e = absurd (false≢true e)
no_slot P h (Err u) e = h u
