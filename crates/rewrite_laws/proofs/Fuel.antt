-- Above a cell's weight, the number of steps changes nothing and never runs out. Assumes nothing.
use mathlib.Core.Path.{◌≡◌, refl, ap, ◌∙◌}
use mathlib.Core.Bool.{Bool}
use Prim.Native.Nat.{ℕ, zero, suc, ◌<◌}
use native.Mathlib.Omega.{arith}
use Rattle.value.specs.declared.Net.{Net}
use Rattle.value.specs.Value.{UNDEF, ZERO, ONE, eq_net}
use Rattle.cell.specs.declared.Cell.{Cell}
use Rattle.cell.specs.declared.Cell.TheVariants.{Not}
use Rattle.std.specs.Prelude.{None, Some, Option}
use Rattle.design.specs.Queue.{Source}
use Rattle.numberer.specs.Numberer.{seek}
use Rattle.normalize.specs.declared.Change.TheVariants.{Value, Form, Add, NotOf, AddNotOf}
use Rattle.normalize.specs.Outcomes.{first_change, given, Outcome}
use Rattle.normalize.specs.Normalize.{normalize}
use Rattle.aig.specs.Aig.{not_rule, simple_aig_opt}
use Rattle.rewrite.specs.Rewriter.{Rewriter, Lookup, weight, find_cell}
use Rattle.rewrite.specs.Rewrite.{rules, Result, none, cell, value, spent, Added, at, unadded, as_value, as_not, add_not, perform, enter, asked, replacing, go_on, process, process_cell, add_cell}
use Rattle.aig_laws.specs.Reads.{GoodOutcome}
use Rattle.aig_laws.proofs.Strings.{has-given, has-if_not, has-or_else}
use Rattle.rewrite_laws.specs.Stamps.{Stamped, Lighter}
use Rattle.rewrite_laws.proofs.Falling.{rules-fall}

-- an outcome that neither goes round again nor adds
abbrev pub Quiet : Outcome → Type 0
Quiet = GoodOutcome (λ c. ⊥) (λ n. Unit {0})

quiet-not_rule : (src : Source) (n : Net) → Quiet (not_rule src n)
unfolding not_rule
quiet-not_rule src n =
    let test : (b : Bool) (m : Net) → Quiet (given b (Some (Value m))) = λ b m. has-given Quiet tt b (Some (Value m)) (λ e. tt) in
    has-or_else Quiet _ _ (test (eq_net n ZERO) ONE)
    (has-or_else Quiet _ _ (test (eq_net n ONE) ZERO) (has-or_else Quiet _ _ (test (eq_net n UNDEF) UNDEF) (has-if_not Quiet tt src (λ v. Some (Value v)) (λ v e. tt))))

-- the rules of an inverter are quiet
pub not-quiet : (look : Lookup) (r : Rewriter) (n : Net) → Quiet (rules look r (Not n))
unfolding rules normalize simple_aig_opt first_change
not-quiet look r n = quiet-not_rule (find_cell look r n) n

-- the steps did not run out
abbrev pub Ended : Result → Type 0
Ended (none r) = Unit {0}
Ended (cell c r) = Unit {0}
Ended (value n r) = Unit {0}
Ended (spent r) = ⊥

abbrev pub Entered : Added → Type 0
Entered (at n r) = Unit {0}
Entered (unadded r) = ⊥

abbrev Again : Type 0
Again = Rewriter → Cell → Result

abbrev performed : Again → Rewriter → Outcome → Result
performed again r o = perform (λ r c. enter c (again r c)) r o

quiet_same : (again again' : Again) (r : Rewriter) (c : Cell) (o : Outcome) → Quiet o
    → go_on again c (performed again r o) ≡ go_on again' c (performed again' r o)
quiet_same again again' r c None q = refl
quiet_same again again' r c (Some (Value n)) q = refl
quiet_same again again' r c (Some (Form d)) q = absurd q
quiet_same again again' r c (Some (Add d)) q = absurd q
quiet_same again again' r c (Some (NotOf d)) q = absurd q
quiet_same again again' r c (Some (AddNotOf d)) q = absurd q

asked-ended : (r : Rewriter) (f : Option Net) → Ended (asked r f)
asked-ended r (Some n) = tt
asked-ended r None = tt

quiet-ended : (again : Again) (r : Rewriter) (c : Cell) (o : Outcome) → Quiet o → Ended (go_on again c (performed again r o))
quiet-ended again r c None q = asked-ended r (seek r.cache c)
quiet-ended again r c (Some (Value n)) q = tt
quiet-ended again r c (Some (Form d)) q = absurd q
quiet-ended again r c (Some (Add d)) q = absurd q
quiet-ended again r c (Some (NotOf d)) q = absurd q
quiet-ended again r c (Some (AddNotOf d)) q = absurd q

module _ (look : Lookup) where
  pub not_same : (k m : ℕ) (r : Rewriter) (n : Net) → 0 < k → 0 < m → process k look r (Not n) ≡ process m look r (Not n)
  unfolding process
  not_same zero m r n hk hm = absurd (omega arith)
  not_same (suc k) zero r n hk hm = absurd (omega arith)
  not_same (suc k) (suc m) r n hk hm = quiet_same (process k look) (process m look) r (Not n) (rules look r (Not n)) (not-quiet look r n)

  pub not-ended : (k : ℕ) (r : Rewriter) (n : Net) → 0 < k → Ended (process k look r (Not n))
  unfolding process
  not-ended zero r n hk = absurd (omega arith)
  not-ended (suc k) r n hk = quiet-ended (process k look) r (Not n) (rules look r (Not n)) (not-quiet look r n)

  value_same : (again again' : Again) (c : Cell) (y : Added) → go_on again c (as_value y) ≡ go_on again' c (as_value y)
  value_same again again' c (at n r) = refl
  value_same again again' c (unadded r) = refl

  inverse-same : (k m : ℕ) (c : Cell) (y : Added) → 0 < k → 0 < m → go_on (process k look) c (as_not y) ≡ go_on (process m look) c (as_not y)
  inverse-same k m c (at n r) hk hm = ap (replacing (Not n)) (not_same k m r n hk hm)
  inverse-same k m c (unadded r) hk hm = refl

  both-same : (k m : ℕ) (c : Cell) (y : Added) → 0 < k → 0 < m
      → go_on (process k look) c (add_not (λ r c. enter c (process k look r c)) y) ≡ go_on (process m look) c (add_not (λ r c. enter c (process m look r c)) y)
  both-same k m c (at n r) hk hm =
      value_same (process k look) (process m look) c (enter (Not n) (process k look r (Not n)))
      ∙ ap (λ x. go_on (process m look) c (as_value (enter (Not n) x))) (not_same k m r n hk hm)
  both-same k m c (unadded r) hk hm = refl

  entered-ended : (c : Cell) (x : Result) → Ended x → Entered (enter c x)
  entered-ended c (none r) h = tt
  entered-ended c (cell d r) h = tt
  entered-ended c (value n r) h = tt
  entered-ended c (spent r) h = h

  replacing-ended : (d : Cell) (x : Result) → Ended x → Ended (replacing d x)
  replacing-ended d (none r) h = tt
  replacing-ended d (cell e r) h = tt
  replacing-ended d (value n r) h = tt
  replacing-ended d (spent r) h = h

  value-ended : (again : Again) (c : Cell) (y : Added) → Entered y → Ended (go_on again c (as_value y))
  value-ended again c (at n r) h = tt
  value-ended again c (unadded r) h = h

  inverse-ended : (k : ℕ) (c : Cell) (y : Added) → 0 < k → Entered y → Ended (go_on (process k look) c (as_not y))
  inverse-ended k c (at n r) hk h = replacing-ended (Not n) (process k look r (Not n)) (not-ended k r n hk)
  inverse-ended k c (unadded r) hk h = h

  both-ended : (k : ℕ) (c : Cell) (y : Added) → 0 < k → Entered y → Ended (go_on (process k look) c (add_not (λ r c. enter c (process k look r c)) y))
  both-ended k c (at n r) hk h =
      value-ended (process k look) c (enter (Not n) (process k look r (Not n))) (entered-ended (Not n) (process k look r (Not n)) (not-ended k r n hk))
  both-ended k c (unadded r) hk h = h

  module _ (r : Rewriter) (h : Stamped look r) where
    abbrev w : Cell → ℕ
    w c = weight r.stamps c

    -- more steps change nothing
    pub process-same : (k m : ℕ) (c : Cell) → w c < k → w c < m → process k look r c ≡ process m look r c
    unfolding process
    process-same zero m c hk hm = absurd (omega arith)
    process-same (suc k) zero c hk hm = absurd (omega arith)
    process-same (suc k) (suc m) c hk hm = go (rules look r c) (rules-fall look r h c) (process-same k m)
      where
        go : (o : Outcome) → Lighter r.stamps (w c) o → ((d : Cell) → w d < k → w d < m → process k look r d ≡ process m look r d)
            → go_on (process k look) c (performed (process k look) r o) ≡ go_on (process m look) c (performed (process m look) r o)
        go None l ih = refl
        go (Some (Value n)) l ih = refl
        go (Some (Form d)) l ih = ap (replacing d) (ih d (omega arith) (omega arith))
        go (Some (Add d)) l ih =
            value_same (process k look) (process m look) c (enter d (process k look r d))
            ∙ ap (λ x. go_on (process m look) c (as_value (enter d x))) (ih d (omega arith) (omega arith))
        go (Some (NotOf d)) l ih =
            inverse-same k m c (enter d (process k look r d)) (omega arith) (omega arith)
            ∙ ap (λ x. go_on (process m look) c (as_not (enter d x))) (ih d (omega arith) (omega arith))
        go (Some (AddNotOf d)) l ih =
            both-same k m c (enter d (process k look r d)) (omega arith) (omega arith)
            ∙ ap (λ x. go_on (process m look) c (add_not (λ r c. enter c (process m look r c)) (enter d x))) (ih d (omega arith) (omega arith))

    -- and they never run out
    pub process-ended : (k : ℕ) (c : Cell) → w c < k → Ended (process k look r c)
    unfolding process
    process-ended zero c hk = absurd (omega arith)
    process-ended (suc k) c hk = go (rules look r c) (rules-fall look r h c) (process-ended k)
      where
        go : (o : Outcome) → Lighter r.stamps (w c) o → ((d : Cell) → w d < k → Ended (process k look r d))
            → Ended (go_on (process k look) c (performed (process k look) r o))
        go None l ih = asked-ended r (seek r.cache c)
        go (Some (Value n)) l ih = tt
        go (Some (Form d)) l ih = replacing-ended d (process k look r d) (ih d (omega arith))
        go (Some (Add d)) l ih = value-ended (process k look) c (enter d (process k look r d)) (entered-ended d (process k look r d) (ih d (omega arith)))
        go (Some (NotOf d)) l ih =
            inverse-ended k c (enter d (process k look r d)) (omega arith) (entered-ended d (process k look r d) (ih d (omega arith)))
        go (Some (AddNotOf d)) l ih =
            both-ended k c (enter d (process k look r d)) (omega arith) (entered-ended d (process k look r d) (ih d (omega arith)))

    pub process_cell-ended : (c : Cell) → Ended (process_cell look r c)
    unfolding process_cell
    process_cell-ended c = process-ended (suc (w c)) c (omega arith)

    pub add_cell-entered : (c : Cell) → Entered (add_cell look r c)
    unfolding add_cell
    add_cell-entered c = entered-ended c (process_cell look r c) (process_cell-ended c)
