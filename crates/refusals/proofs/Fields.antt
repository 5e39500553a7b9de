-- The field of a refusal: 0 but for 7 (request 2026-06). Assumes nothing.
use mathlib.Core.Path.{◌≡◌, refl}
use Rattle.refusals.specs.declared.Refusal.{Refusal}
use Rattle.refusals.specs.declared.Refusal.TheVariants.{ShortWork, PartialRecord, TooManyRecords, UnknownKind, ReservedField, BitOutOfSequence, UndrivenOperand, Loop, SlotsExhausted, LevelCount, LevelValue, ShortReply}
use Rattle.refusals.specs.Refusals.{figures}

pub field-elsewhere : (r : Refusal) → ((figures r).number ≡ 7 → ⊥) → (figures r).field ≡ 0
field-elsewhere ShortWork h = refl
field-elsewhere PartialRecord h = refl
field-elsewhere TooManyRecords h = refl
field-elsewhere (UnknownKind s) h = refl
field-elsewhere (ReservedField s) h = refl
field-elsewhere (BitOutOfSequence s) h = refl
field-elsewhere (UndrivenOperand s f) h = absurd (h refl)
field-elsewhere (Loop s) h = refl
field-elsewhere SlotsExhausted h = refl
field-elsewhere LevelCount h = refl
field-elsewhere (LevelValue i) h = refl
field-elsewhere ShortReply h = refl
