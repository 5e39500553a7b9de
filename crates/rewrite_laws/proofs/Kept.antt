-- What processing a cell keeps. The rewriter changes in one way only while a cell is processed: a cell to which no rule applies, and which the
-- cache does not know, is entered in the next slot. P holds of the rewriter, Q of the cells that come up, N of the nets that are answered.
-- Assumes nothing.
use mathlib.Core.Path.{◌≡◌, refl}
use Prim.Native.Nat.{ℕ, zero, suc}
use lib.ListN.{length}
use Rattle.value.specs.declared.Net.{Net}
use Rattle.value.specs.Value.{UNDEF, ZERO, ONE}
use Rattle.cell.specs.declared.Cell.{Cell}
use Rattle.cell.specs.declared.Cell.TheVariants.{Not}
use Rattle.netlist.specs.Shape.{visit, has_effects}
use Rattle.std.proofs.Common.{Option, Some}
use Rattle.design.specs.Queue.{net_in}
use Rattle.numberer.specs.Numberer.{seek}
use Rattle.std.specs.Prelude.{None, Some}
use Rattle.normalize.specs.Outcomes.{Outcome}
use Rattle.normalize.specs.declared.Change.TheVariants.{Value, Form, Add, NotOf, AddNotOf}
use Rattle.normalize.specs.Normalize.{normalize}
use Rattle.aig.specs.Aig.{simple_aig_opt}
use Rattle.rewrite.specs.Rewriter.{Rewriter, Lookup, entered, find_cell}
use Rattle.rewrite.specs.Rewrite.{rules, Result, none, cell, value, spent, Added, at, unadded, as_value, as_not, add_not, perform, enter, asked, replacing, go_on, process, process_cell, add_cell}
use Rattle.basics.specs.Lists.{All}
use Rattle.aig_laws.specs.Reads.{GoodOutcome, GateOf, SourceNets}
use Rattle.aig_laws.proofs.Strings.{has-or_else}
use Rattle.aig_laws.proofs.Reading.{normalize-reads, simple-reads}

pub record Keeps (look : Lookup) (P : Rewriter → Type 0) (Q : Rewriter → Cell → Type 0) (N : Rewriter → Net → Type 0) : Type 0 where
  pub plan : (r : Rewriter) (c : Cell) → P r → Q r c → GoodOutcome (Q r) (N r) (rules look r c)
  pub inverse : (r : Rewriter) (n : Net) → P r → N r n → Q r (Not n)
  pub cached : (r : Rewriter) (c : Cell) (n : Net) → P r → Q r c → seek r.cache c ≡ Some n → N r n
  pub step : (r : Rewriter) (c : Cell) → P r → Q r c → rules look r c ≡ None → seek r.cache c ≡ None
      → P (entered r c (net_in (length r.design.cells))) × N (entered r c (net_in (length r.design.cells))) (net_in (length r.design.cells))

module _ (look : Lookup) (P : Rewriter → Type 0) (Q : Rewriter → Cell → Type 0) (N : Rewriter → Net → Type 0) (keeps : Keeps look P Q N) where
  -- a cell that is left: no rule applies to it, and the cache does not know it
  pub record Left (c : Cell) (r : Rewriter) : Type 0 where
    pub kept : P r
    pub good : Q r c
    pub still : rules look r c ≡ None
    pub new : seek r.cache c ≡ None

  abbrev pub KeptResult : Cell → Result → Type 0
  KeptResult c (none r) = Left c r
  KeptResult c (cell d r) = Left d r
  KeptResult c (value n r) = P r × N r n
  KeptResult c (spent r) = P r

  abbrev pub KeptAdded : Added → Type 0
  KeptAdded (at n r) = P r × N r n
  KeptAdded (unadded r) = P r

  -- after one pass over the rules
  abbrev pub KeptPass : Cell → Result → Type 0
  KeptPass c (none r) = P r × Q r c × (rules look r c ≡ None)
  KeptPass c (cell d r) = P r × Q r d
  KeptPass c (value n r) = P r × N r n
  KeptPass c (spent r) = P r

  pub enter-kept : (c : Cell) (x : Result) → KeptResult c x → KeptAdded (enter c x)
  enter-kept c (none r) h = keeps.step r c h.kept h.good h.still h.new
  enter-kept c (cell d r) h = keeps.step r d h.kept h.good h.still h.new
  enter-kept c (value n r) h = h
  enter-kept c (spent r) h = h

  value-kept : (c : Cell) (y : Added) → KeptAdded y → KeptPass c (as_value y)
  value-kept c (at n r) h = h
  value-kept c (unadded r) h = h

  inverse-kept : (c : Cell) (y : Added) → KeptAdded y → KeptPass c (as_not y)
  inverse-kept c (at n r) h = (h.0, keeps.inverse r n h.0 h.1)
  inverse-kept c (unadded r) h = h

  both-kept : (adder : Rewriter → Cell → Added) → ((r : Rewriter) (c : Cell) → P r → Q r c → KeptAdded (adder r c)) → (c : Cell) (y : Added) → KeptAdded y
      → KeptPass c (add_not adder y)
  both-kept adder f c (at n r) h = value-kept c (adder r (Not n)) (f r (Not n) h.0 (keeps.inverse r n h.0 h.1))
  both-kept adder f c (unadded r) h = h

  perform_kept : (adder : Rewriter → Cell → Added) → ((r : Rewriter) (c : Cell) → P r → Q r c → KeptAdded (adder r c)) → (r : Rewriter) (c : Cell) (o : Outcome)
      → P r → Q r c → rules look r c ≡ o → GoodOutcome (Q r) (N r) o → KeptPass c (perform adder r o)
  perform_kept adder f r c None p q e g = (p, q, e)
  perform_kept adder f r c (Some (Value n)) p q e g = (p, g)
  perform_kept adder f r c (Some (Form d)) p q e g = (p, g)
  perform_kept adder f r c (Some (Add d)) p q e g = value-kept c (adder r d) (f r d p g)
  perform_kept adder f r c (Some (NotOf d)) p q e g = inverse-kept c (adder r d) (f r d p g)
  perform_kept adder f r c (Some (AddNotOf d)) p q e g = both-kept adder f c (adder r d) (f r d p g)

  asked-kept : (c : Cell) (r : Rewriter) (f : Option Net) → P r → Q r c → rules look r c ≡ None → seek r.cache c ≡ f → KeptResult c (asked r f)
  asked-kept c r (Some n) p q e s = (p, keeps.cached r c n p q s)
  asked-kept c r None p q e s = record { kept = p; good = q; still = e; new = s }

  replacing-kept : (c d : Cell) (x : Result) → KeptResult d x → KeptResult c (replacing d x)
  replacing-kept c d (none r) h = h
  replacing-kept c d (cell e r) h = h
  replacing-kept c d (value n r) h = h
  replacing-kept c d (spent r) h = h

  go_on-kept : (again : Rewriter → Cell → Result) → ((r : Rewriter) (c : Cell) → P r → Q r c → KeptResult c (again r c)) → (c : Cell) (x : Result) → KeptPass c x
      → KeptResult c (go_on again c x)
  go_on-kept again f c (none r) h = asked-kept c r (seek r.cache c) h.0 h.1 h.2 refl
  go_on-kept again f c (cell d r) h = replacing-kept c d (again r d) (f r d h.0 h.1)
  go_on-kept again f c (value n r) h = h
  go_on-kept again f c (spent r) h = h

  pub pass_kept : (again : Rewriter → Cell → Result) → ((r : Rewriter) (c : Cell) → P r → Q r c → KeptResult c (again r c)) → (r : Rewriter) (c : Cell) → P r → Q r c
      → KeptPass c (perform (λ r c. enter c (again r c)) r (rules look r c))
  pass_kept again f r c p q =
      perform_kept (λ r c. enter c (again r c)) (λ r c p q. enter-kept c (again r c) (f r c p q)) r c (rules look r c) p q refl (keeps.plan r c p q)

  pub process-kept : (k : ℕ) (r : Rewriter) (c : Cell) → P r → Q r c → KeptResult c (process k look r c)
  unfolding process
  process-kept zero r c p q = p
  process-kept (suc k) r c p q =
      go_on-kept (process k look) (process-kept k) c (perform (λ r c. enter c (process k look r c)) r (rules look r c))
      (pass_kept (process k look) (process-kept k) r c p q)

  pub process_cell-kept : (r : Rewriter) (c : Cell) → P r → Q r c → KeptResult c (process_cell look r c)
  unfolding process_cell
  process_cell-kept r c p q = process-kept _ r c p q

  pub add_cell-kept : (r : Rewriter) (c : Cell) → P r → Q r c → KeptAdded (add_cell look r c)
  unfolding add_cell
  add_cell-kept r c p q = enter-kept c (process_cell look r c) (process_cell-kept r c p q)

-- Gates that read nets of S: what the rules make of one is such a gate or such a net, and so is the inverse of a net
pub rules-read : (look : Lookup) (r : Rewriter) (S : Net → Type 0) → S UNDEF × S ZERO × S ONE → ((m : Net) → S m → SourceNets S (find_cell look r m))
    → (c : Cell) → GateOf S c → GoodOutcome (GateOf S) S (rules look r c)
unfolding rules
rules-read look r S k sources c q =
    has-or_else (GoodOutcome (GateOf S) S) (normalize c) (simple_aig_opt (find_cell look r) c)
    (normalize-reads S k.0 k.1 k.2 c q) (simple-reads S k.0 k.1 k.2 (find_cell look r) sources c q)

pub inverse-reads : (S : Net → Type 0) (m : Net) → S m → GateOf S (Not m)
unfolding All visit has_effects
inverse-reads S m v = ((v, tt), refl)

-- the same where it is said under a condition
pub delayed : (B : Type 0) (q : Cell → Type 0) (v : Net → Type 0) (o : Outcome) → (B → GoodOutcome q v o) → GoodOutcome (λ c. B → q c) (λ m. B → v m) o
delayed B q v None f = tt
delayed B q v (Some (Value c)) f = f
delayed B q v (Some (Form c)) f = f
delayed B q v (Some (Add c)) f = f
delayed B q v (Some (NotOf c)) f = f
delayed B q v (Some (AddNotOf c)) f = f
