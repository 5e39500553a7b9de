-- What the functions of the call `levels` tell of the work slice and the reply. Public contracts do not cite this file.
-- Assumes nothing: these are definitions.
use Rattle.refusals.specs.declared.Refusal.{Refusal}
use Rattle.std.specs.Prelude.{Bool, cond, List, [], ◌∷◌, ◌++◌, map, ℕ, ◌≤◌, eqb, get_or, set, Result}
use Rattle.logic.specs.declared.Trit.TheVariants.{Undef}
use Rattle.logic.specs.Levels.{byte_of}
use Rattle.kinds.specs.declared.Sort.TheVariants as sort
use Rattle.kinds.specs.Kinds.{number_of}
use Rattle.netlist.specs.inner.Areas.{word_record, records_in}
use Rattle.levels.specs.Fold.{cells_in, of_kind, levels_at, bit_outputs}
use Rattle.refusals.specs.Refusals.{Stage}
use Rattle.calls.specs.Calls.{decoded, room, level_bytes, stimulus_stages}
use Rattle.delivery.specs.inner.Delivery.{Writes, Delivers}

-- a byte that is a level
abbrev pub IsLevel : ℕ → Type 0
IsLevel b = b ≤ 2

-- whether a slot's record is an output's
abbrev pub output_at : List ℕ → ℕ → Bool
output_at ws s = eqb (word_record ws s).kind (number_of sort.Output)

-- the byte of the level that stands in the work slice for a slot
abbrev pub byte_at : ℕ → List ℕ → ℕ → ℕ
byte_at n ws s = byte_of (get_or (levels_at n ws) s Undef)

-- it is put into the reply if the slot holds an output
abbrev pub put_level : ℕ → List ℕ → ℕ → List ℕ → ℕ → List ℕ
put_level n ws s reply k = cond (output_at ws s) (set reply k (byte_at n ws s)) reply

-- the bytes of the outputs' levels that stand in the work slice
unfoldable pub written_levels : ℕ → List ℕ → List ℕ
written_levels n ws = map (byte_at n ws) (of_kind (number_of sort.Output) (records_in n ws))

-- the bytes of the outputs' levels for a stimulus, by the records in the work slice
abbrev pub bit_bytes : ℕ → List ℕ → List ℕ → List ℕ
bit_bytes n ws stimulus = map byte_of (bit_outputs (cells_in n ws) stimulus)

-- 12 alone decided answer and reply
abbrev pub DeliversLevels : ℕ → List ℕ → List ℕ → List ℕ → List ℕ → List ℕ → Result ℕ Refusal → Type 0
DeliversLevels n stimulus ws ws' reply reply' r = Delivers (bit_bytes n ws stimulus) ws ws' reply reply' r

-- the stages behind those of checking: 10 to 12
unfoldable pub level_stages : List ℕ → List ℕ → List ℕ → List Stage
level_stages t stimulus reply = stimulus_stages (decoded t).cells stimulus ++ (room reply (level_bytes t stimulus) ∷ [])

-- these decided answer and reply
abbrev pub Levels : List ℕ → List ℕ → List ℕ → List ℕ → List ℕ → List ℕ → Result ℕ Refusal → Type 0
Levels t stimulus ws ws' reply reply' r = Writes (level_stages t stimulus reply) (level_bytes t stimulus) ws ws' reply reply' r
