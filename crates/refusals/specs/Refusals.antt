-- Refusals (paper, "When a ticket is turned away"): their numbers, places and fields, and which one is given. Assumes nothing: these are definitions.
use Rattle.std.specs.Prelude.{Bool, cond, List, [], ◌∷◌, ◌++◌, ℕ, zero, suc, Ok, Err, Result}
use Rattle.refusals.specs.declared.Refusal.{Refusal}
use Rattle.refusals.specs.declared.Refusal.TheVariants.{ShortWork, PartialRecord, TooManyRecords, UnknownKind, ReservedField, BitOutOfSequence, UndrivenOperand, Loop, SlotsExhausted, LevelCount, LevelValue, ShortReply}
use Rattle.refusals.specs.declared.Figures.{Figures}

abbrev pub figures_at : ℕ → ℕ → ℕ → Figures
figures_at number place field = record { number = number; place = place; field = field }

-- number, place and field of each refusal, and the paper's word for it. The field is that of the operand for which 7 is given, 1 for a, 2 for
-- b, 3 for c, and 0 for all others (request 2026-06); which one that is the stages say (`operand_stages`, crate `checking`)
abbrev pub figures : Refusal → Figures
figures ShortWork = figures_at 1 0 0  -- short bench
figures PartialRecord = figures_at 2 0 0  -- torn
figures TooManyRecords = figures_at 3 0 0  -- overlong
figures (UnknownKind s) = figures_at 4 s.0 0  -- unknown kind
figures (ReservedField s) = figures_at 5 s.0 0  -- spoilt field
figures (BitOutOfSequence s) = figures_at 6 s.0 0  -- broken bus
figures (UndrivenOperand s f) = figures_at 7 s.0 f  -- loose wire
figures (Loop s) = figures_at 8 s.0 0  -- loop
figures SlotsExhausted = figures_at 9 0 0  -- bench full
figures LevelCount = figures_at 10 0 0  -- wrong stimulus
figures (LevelValue i) = figures_at 11 i 0  -- no level
figures ShortReply = figures_at 12 0 0  -- short reply

-- what stages decide: the input passes, or is refused
abbrev pub Verdict : Type 0
Verdict = Result (Unit {0}) Refusal

-- a stage: its condition, and the refusal that it gives where the condition holds
abbrev pub Stage : Type 0
Stage = Bool × Refusal

-- the first stage whose condition holds decides
unfoldable pub first_of : List Stage → Verdict
first_of [] = (Ok tt)
first_of (st ∷ sts) = let rest = first_of sts in cond st.0 (Err st.1) rest

-- the stages of slot 0, then those of slot 1, and so on for n slots
unfoldable pub slot_by_slot : (ℕ → List Stage) → ℕ → List Stage
slot_by_slot stages zero = []
slot_by_slot stages (suc n) = slot_by_slot stages n ++ stages n
