-- The shell of the calls: their begin, their own step, and their end. Assumes nothing.
use mathlib.Core.Path.{◌≡◌, refl, sym, ap, ◌∙◌}
use mathlib.Core.List.{List, ◌++◌}
use Prim.Native.Nat.{ℕ, ◌/◌, ◌<◌, ◌≤◌}
use native.Mathlib.Omega.{arith}
use lib.ListN.{length, drop}
use Rattle.std.specs.Prelude.{Ok, Err, Result}
use Rattle.refusals.specs.declared.Refusal.{Refusal}
use Rattle.refusals.specs.declared.Refusal.TheVariants.{ShortWork}
use Rattle.refusals.specs.Refusals.{Stage, first_of, Verdict}
use Rattle.cell.specs.declared.Record.{Record}
use Rattle.cell.specs.Records.{records_of}
use Rattle.netlist.specs.inner.Areas.{records_in, Within, visited_at}
use Rattle.netlist.proofs.Frames.{within-drop}
use Rattle.checking.specs.Checking.{netlist_stages, check_stages}
use Rattle.refusals.proofs.Stages.{passes-not, later-decides, earlier-decides}
use Rattle.calls.specs.Work.{cleared}
use Rattle.calls.specs.Answers.{answer_by}
use Rattle.calls.specs.Calls.{reply_after}
use Rattle.delivery.specs.inner.Delivery.{Decides, Passed, Loaded, Begins, Called}
use Rattle.delivery.proofs.Work.{cleared_by}
use Rattle.delivery.proofs.Deciding.{short-refused, ticket-passed}

-- `begin`: 1, and 2 to 8
pub begins-short : (t ws : List ℕ) → length ws < 16384 → Begins t ws ws (Err ShortWork)
begins-short t ws h =
    record { said = sym (short-refused (length ws) t h); rest = refl; short = λ l. refl; pass = λ e. absurd (passes-not ShortWork (sym e)) }

pub begins-long : (t ws ws' : List ℕ) (v : Verdict) → v ≡ first_of (check_stages (length ws) t) → drop 16384 ws' ≡ drop 16384 ws → length ws' ≡ length ws
    → 16384 ≤ length ws → Begins t ws ws' v
begins-long t ws ws' v v-is kept same h = record {
  said = v-is;
  rest = cleared_by ws ws' h same kept;
  short = λ l. absurd (omega arith);
  pass = λ e. ticket-passed t ws ws' v v-is e same h;
}

pub begins-passed : (t ws ws' : List ℕ) (v : Verdict) → Begins t ws ws' v → v ≡ Ok tt → Passed t ws'
begins-passed t ws ws' v b e = b.pass e

-- what `load` tells of a ticket that passed
pub passed-loads : (t : List ℕ) (n : ℕ) (ws₀ ws : List ℕ) → Passed t ws₀ → n ≡ length t / 16 → records_in n ws ≡ records_of t → length ws ≡ length ws₀
    → Loaded n ws
passed-loads t n ws₀ ws p n-is loaded same =
    let h : 16384 ≤ length ws₀ = p.long in
    let few : length t / 16 ≤ 512 = p.few in
    record { long = omega arith; few = omega arith; pass = ap (λ (rs : List Record). first_of (netlist_stages rs)) loaded ∙ p.pass }

pub load-decides : {A : Type 0} (answer : Verdict → A) (own : List Stage) (bytes ws₀ ws ws' reply reply' : List ℕ) (r : A) → Within 0 visited_at ws₀ ws
    → Decides answer own bytes ws ws' reply reply' r → Decides answer own bytes ws₀ ws' reply reply' r
load-decides answer own bytes ws₀ ws ws' reply reply' r frame d =
    record { said = d.said; left = d.left; rest = d.rest ∙ within-drop 0 visited_at 16384 ws₀ ws (omega arith) frame }

-- `begin` and `end` alone
pub begins-ends : (t ws ws₁ ws₂ : List ℕ) (v : Verdict) → Begins t ws ws₁ v → ws₂ ≡ cleared ws₁ → ws₂ ≡ cleared ws
begins-ends t ws ws₁ ws₂ v b e = e ∙ b.rest

-- between the two a call hands a refusal on, or takes its own step, which decides by stages of its own
pub data Steps {A : Type 0} (answer : Verdict → A) (own : List Stage) (bytes ws ws' reply reply' : List ℕ) (v : Verdict) (r : A) : Type 0 where
  handed : (x : Refusal) → v ≡ Err x → r ≡ answer (Err x) → ws' ≡ ws → reply' ≡ reply → Steps answer own bytes ws ws' reply reply' v r
  taken : (ws₂ reply₂ : List ℕ) (r₂ : A) → Decides answer own bytes ws ws₂ reply reply₂ r₂ → v ≡ Ok tt → length ws₂ ≡ length ws
      → r ≡ r₂ → ws' ≡ ws₂ → reply' ≡ reply₂ → Steps answer own bytes ws ws' reply reply' v r

-- THE LAW of the calls: the stages of checking and then the call's own decide answer and reply, and the work slice is wiped
module _ {A : Type 0} {answer : Verdict → A} {own : List Stage} {bytes t ws ws₁ ws₂ ws₃ reply reply' : List ℕ} {v : Verdict} {r : A} where
  pub called : Begins t ws ws₁ v → Steps answer own bytes ws₁ ws₂ reply reply' v r → ws₃ ≡ cleared ws₂
      → (r ≡ answer (first_of (check_stages (length ws) t ++ own)))
      × ((reply' ≡ reply_after (first_of (check_stages (length ws) t ++ own)) reply bytes) × (ws₃ ≡ cleared ws))
  called b (handed x e r-is same left) wiped =
      let f : first_of (check_stages (length ws) t ++ own) ≡ Err x = earlier-decides (check_stages (length ws) t) own x (sym b.said ∙ e) in
      (r-is ∙ ap answer (sym f), (rw f left, wiped ∙ ap cleared same ∙ b.rest))
  called b (taken w₂ reply₂ r₂ d e same r-is work-is left) wiped =
      let f : first_of own ≡ first_of (check_stages (length ws) t ++ own) = sym (later-decides (check_stages (length ws) t) own (sym b.said ∙ e)) in (
        r-is ∙ d.said ∙ ap answer f,
        (
          left ∙ d.left ∙ ap (λ (y : Verdict). reply_after y reply bytes) f,
          wiped ∙ ap cleared work-is ∙ cleared_by ws₁ w₂ (b.pass e).long same d.rest ∙ b.rest,
        ),
      )

-- the same for the shell, with any step
module _ {A : Type 0} (told : A) {own : List Stage} {bytes t ws ws₁ ws₂ ws₃ reply reply' : List ℕ} {v : Verdict} {r : Result A Refusal} where
  pub shell-called : Begins t ws ws₁ v → Steps (λ y. answer_by y told) own bytes ws₁ ws₂ reply reply' v r → ws₃ ≡ cleared ws₂
      → Called told own bytes t ws ws₃ reply reply' r
  shell-called b s e = let all = called b s e in record { said = all.0; left = all.1.0; wiped = all.1.1 }
