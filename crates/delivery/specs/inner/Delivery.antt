-- How a call begins, and how it decides, up to the wiping of the work slice. Public contracts do not cite this file. Assumes nothing: these are definitions.
use Rattle.refusals.specs.declared.Refusal.{Refusal}
use Rattle.std.specs.Prelude.{◌≡◌, List, [], ◌∷◌, ◌++◌, ℕ, ◌/◌, ◌<◌, ◌≤◌, length, drop, Ok, Result}
use Rattle.std.specs.Borrow.{MutBor}
use Rattle.std.specs.Fn.{Once}
use Rattle.cell.specs.Limits.{work_words, max_records}
use Rattle.cell.specs.Records.{records_of}
use Rattle.netlist.specs.inner.Areas.{records_in}
use Rattle.netlist.specs.Netlist.{netlist_of}
use Rattle.compact.specs.Compact.{compact}
use Rattle.refusals.specs.Refusals.{Stage, first_of, Verdict}
use Rattle.checking.specs.Checking.{netlist_stages, check_stages}
use Rattle.calls.specs.Answers.{answer_by}
use Rattle.calls.specs.Work.{cleared}
use Rattle.calls.specs.Calls.{room, reply_after, encoded}

-- stages decided the answer and the reply; the words behind those of the areas are as they were
pub record Decides {A : Type 0} (answer : Verdict → A) (stages : List Stage) (bytes ws ws' reply reply' : List ℕ) (r : A) : Type 0 where
  pub said : r ≡ answer (first_of stages)
  pub left : reply' ≡ reply_after (first_of stages) reply bytes
  pub rest : drop work_words ws' ≡ drop work_words ws

-- the same where the answer counts the bytes written
abbrev pub Writes : List Stage → List ℕ → List ℕ → List ℕ → List ℕ → List ℕ → Result ℕ Refusal → Type 0
Writes stages bytes ws ws' reply reply' r = Decides (λ v. answer_by v (length bytes)) stages bytes ws ws' reply reply' r

-- and where 12 is the only stage
abbrev pub Delivers : List ℕ → List ℕ → List ℕ → List ℕ → List ℕ → Result ℕ Refusal → Type 0
Delivers bytes ws ws' reply reply' r = Writes (room reply bytes ∷ []) bytes ws ws' reply reply' r

-- the bytes of the netlist of the first n slots, compacted
abbrev pub compacted_in : ℕ → List ℕ → List ℕ
compacted_in n ws = encoded (compact (netlist_of (records_in n ws)))

-- a ticket that passed 3 to 8 (of 2 nothing is asked), and a work slice that is long enough
pub record Passed (t ws : List ℕ) : Type 0 where
  pub long : work_words ≤ length ws
  pub few : length t / 16 ≤ max_records
  pub pass : first_of (netlist_stages (records_of t)) ≡ Ok tt

-- the records of a ticket that passed stand in the first n slots of a work slice that is long enough
pub record Loaded (n : ℕ) (ws : List ℕ) : Type 0 where
  pub long : work_words ≤ length ws
  pub few : n ≤ max_records
  pub pass : first_of (netlist_stages (records_in n ws)) ≡ Ok tt

-- 1 to 8 decided, and wiping the words leaves what it would have left before; a slice that is too short is as it was
pub record Begins (t ws ws' : List ℕ) (v : Verdict) : Type 0 where
  pub said : v ≡ first_of (check_stages (length ws) t)
  pub rest : cleared ws' ≡ cleared ws
  pub short : length ws < work_words → ws' ≡ ws
  pub pass : v ≡ Ok tt → Passed t ws'

-- a call's own step: what it may answer and leave, of the work slice and the reply, by the number of records
abbrev pub Step : Type 0 → Type 0 → Type 1
Step F A = Once F (MutBor (List ℕ) × (ℕ × (MutBor (List ℕ) × Unit {0}))) (Result A Refusal × (MutBor (List ℕ) × (MutBor (List ℕ) × Unit {0})))

pub record Gives {F A : Type 0} (g : Step F A) (f : F) (n : ℕ) (ws ws' reply reply' : List ℕ) (r : Result A Refusal) : Type 0 where
  pub words : MutBor (List ℕ)
  pub room : MutBor (List ℕ)
  pub words' : MutBor (List ℕ)
  pub room' : MutBor (List ℕ)
  pub shows : (words.now ≡ ws) × (room.now ≡ reply)
  pub met : g.post f (words, (n, (room, tt))) (r, (words', (room', tt)))
  pub leaves : (words'.now ≡ ws') × (room'.now ≡ reply')

-- it may be taken where a ticket that passed is loaded
abbrev pub Takes : {F A : Type 0} → Step F A → F → List ℕ → Type 0
Takes g f t = (words room : MutBor (List ℕ)) (n : ℕ) → Loaded n words.now → records_in n words.now ≡ records_of t → g.pre f (words, (n, (room, tt)))

-- and then it decides by stages of its own
abbrev pub StepDecides : {F A : Type 0} → Step F A → F → A → List Stage → List ℕ → List ℕ → List ℕ → Type 0
StepDecides {F} {A} g f told own bytes t reply = (n : ℕ) (ws ws' reply' : List ℕ) (r : Result A Refusal) → Loaded n ws → records_in n ws ≡ records_of t
    → Gives g f n ws ws' reply reply' r → Decides (λ v. answer_by v told) own bytes ws ws' reply reply' r

-- 1 to 8 and then those decided answer and reply, and the work slice is wiped
pub record Called {A : Type 0} (told : A) (own : List Stage) (bytes t ws ws' reply reply' : List ℕ) (r : Result A Refusal) : Type 0 where
  pub said : r ≡ answer_by (first_of (check_stages (length ws) t ++ own)) told
  pub left : reply' ≡ reply_after (first_of (check_stages (length ws) t ++ own)) reply bytes
  pub wiped : ws' ≡ cleared ws
