-- THE ARMS THAT MAKE AN UNDEFINED LEVEL DEFINITE are the thirteen: each of them does so somewhere, no other does so anywhere. Assumes nothing.
use mathlib.Core.Path.{◌≡◌, refl, sym, ap, ◌∙◌, subst}
use mathlib.Core.Bool.{Bool, true, false, cond, not, ◌&&◌, false≢true}
use mathlib.Core.Logic.{⊎_elim}
use mathlib.Core.List.{List, [], ◌∷◌}
use lib.ListN.{get_or}
use Rattle.logic.specs.declared.Trit.{Trit}
use Rattle.logic.specs.declared.Trit.TheVariants.{Undef}
use Rattle.logic.specs.Levels.{eq_level}
use Rattle.logic.proofs.Bytes.{level-test}
use Rattle.value.specs.declared.Net.{Net}
use Rattle.value.specs.Value.{net, eq_net}
use Rattle.value.proofs.Laws.{net-test}
use Rattle.cell.specs.declared.Cell.{Cell}
use Rattle.cell.specs.declared.Cell.TheVariants.{Input, Output, Buf, Not, And, Or, Xor, Mux, Aig}
use Rattle.basics.specs.Lists.{those, any_of, All}
use Rattle.std.specs.Prelude.{None, Some}
use Rattle.design.specs.Queue.{Source}
use Rattle.normalize.specs.Outcomes.{Outcome}
use Rattle.normalize.specs.Normalize.{normalize}
use Rattle.aig.specs.Aig.{aig_order, aig_rule, xor_order, xor_rule, simple_aig_opt}
use Rattle.rewrite.specs.Rewriter.{Rewriter, Lookup, find_cell}
use Rattle.rewrite.specs.Rewrite.{rules}
use Rattle.basics.proofs.Members.{all-every, all_map, all-imp, all_both, all-those, those-pass}
use Rattle.aig_laws.proofs.Strings.{has-or_else}
use Rattle.aig_laws.proofs.Arms.{not_arm, aig_arm, xor_arm}
use Rattle.levels_laws.specs.Algebra.{cell_value}
use Rattle.levels_laws.specs.Instances.{kleene}
use Rattle.levels_laws.proofs.Operands.{value-const}
use Rattle.rewrite_kept.specs.Outcomes.{gate_level, outcome_level, SourceFits}
use Rattle.definite_arms.specs.Arms.{Name, a, b, Case, Arm, arms}
use Rattle.definite_arms.specs.Definite.{look, assignments, levels_by, source_fits, tried, shows, defines}
use Rattle.definite_arms.specs.Taken.{Taken, inverter, and_inverter, and_turned, xor_gate, xor_turned, and_gate, or_gate, input, output, buffer, mux, normalized, pass, Ruled, Defines, DefiniteExactly}
use Rattle.definite_arms.proofs.Table.{table-decided}
use Rattle.definite_arms.proofs.Cases.{table-ruled}
use Rattle.definite_arms.proofs.Exact.{arm-exact}

-- what the rewriter does is a pass over its look-up
pub rules-pass : (look : Lookup) (r : Rewriter) (c : Cell) → rules look r c ≡ pass (find_cell look r) c
unfolding rules
rules-pass look r c = refl

-- every outcome is by an arm
module _ (look : Net → Source) where
  abbrev Named : Cell → Outcome → Type 0
  Named c o = (name : Name) × Taken look c o name

  simple-taken : (c : Cell) → Named c (simple_aig_opt look c)
  unfolding simple_aig_opt aig_rule xor_rule
  simple-taken (Not n) = (_, inverter (not_arm (look n) n))
  simple-taken (Aig p q) =
      let s = look (net p) in
      let t = look (net q) in
      has-or_else (Named (Aig p q)) (aig_order s t p q) (aig_order t s q p) (_, and_inverter (aig_arm s t p q)) (_, and_turned (aig_arm t s q p))
  simple-taken (Xor m n) =
      let s = look m in
      let t = look n in
      has-or_else (Named (Xor m n)) (xor_order s t m n) (xor_order t s n m) (_, xor_gate (xor_arm s t m n)) (_, xor_turned (xor_arm t s n m))
  simple-taken (And m n) = (_, and_gate)
  simple-taken (Or m n) = (_, or_gate)
  simple-taken (Input l) = (_, input)
  simple-taken (Output m l) = (_, output)
  simple-taken (Buf m) = (_, buffer)
  simple-taken (Mux l m n) = (_, mux)

  pass-taken : (c : Cell) → Named c (pass look c)
  pass-taken c = has-or_else (Named c) (normalize c) (simple_aig_opt look c) (_, normalized c) (simple-taken c)

-- what a test over a list finds
picked : {A : Type 0} (P : A → Type 0) (p : A → Bool) (xs : List A) → All P xs → any_of p xs ≡ true → (x : A) × P x × (p x ≡ true)
unfolding All any_of
picked P p [] h e = absurd (false≢true e)
picked {A} P p (x ∷ xs) h e = go (p x) refl e (picked P p xs h.1)
  where
    go : (t : Bool) → p x ≡ t → cond t true (any_of p xs) ≡ true → (any_of p xs ≡ true → (y : A) × P y × (p y ≡ true)) → (y : A) × P y × (p y ≡ true)
    go true f g rest = (x, h.0, f)
    go false f g rest = rest g

-- levels at which a case was tried are levels of its look-up
source_fits_lem : (v : Net → Trit) (n : Net) (src : Source) → source_fits v n src ≡ true → SourceFits v n src
source_fits_lem v n None e = tt
source_fits_lem v n (Some c) e = level-test.same (v n) (cell_value kleene v (v n) c) e

case-fits : (k : Case) (v : Net → Trit) → SourceFits v a k.src_a → SourceFits v b k.src_b → (n : Net) → SourceFits v n (look k n)
case-fits k v fa fb n = go (eq_net n a) (eq_net n b) refl refl
  where
    go : (s t : Bool) → eq_net n a ≡ s → eq_net n b ≡ t → SourceFits v n (cond s k.src_a (cond t k.src_b None))
    go true t e f = subst (λ (m : Net). SourceFits v m k.src_a) (sym (net-test.same n a e)) fa
    go false true e f = subst (λ (m : Net). SourceFits v m k.src_b) (sym (net-test.same n b f)) fb
    go false false e f = tt

-- a case that was seen to make an undefined level definite
all-four : (p q r s : Bool) → (p && q && (r && not s)) ≡ true → (p ≡ true) × (q ≡ true) × (r ≡ true) × (s ≡ false)
all-four true true true false e = (refl, refl, refl, refl)
all-four true true true true e = absurd (false≢true e)
all-four true true false s e = absurd (false≢true e)
all-four true false r s e = absurd (false≢true e)
all-four false q r s e = absurd (false≢true e)

case-defines : (name : Name) (k : Case) (ts : List Trit) → Ruled name k → tried defines k (levels_by ts) ≡ true → Defines name
case-defines name k ts r e =
    let v : Net → Trit = levels_by ts in
    let t : Trit = gate_level v k.cell in
    let u : Trit = outcome_level v t k.result in
    let f : (source_fits v a k.src_a ≡ true) × (source_fits v b k.src_b ≡ true) × (eq_level t Undef ≡ true) × (eq_level u Undef ≡ false)
    = all-four (source_fits v a k.src_a) (source_fits v b k.src_b) (eq_level t Undef) (eq_level u Undef) e in
    record {
      look = look k;
      level = v;
      levelled = record {
        constants = value-const kleene (λ s. get_or ts s Undef);
        fits = case-fits k v (source_fits_lem v a k.src_a f.0) (source_fits_lem v b k.src_b f.1);
      };
      cell = k.cell;
      taken = subst (λ (o : Outcome). Taken (look k) k.cell o name) (sym r.gives) r.taken;
      before = level-test.same t Undef f.2;
      after = λ g. level-test.apart u Undef f.3 (ap (outcome_level v t) (sym r.gives) ∙ g);
    }

arm-defines : (r : Arm) → All (Ruled r.name) r.cases → shows defines r ≡ true → Defines r.name
unfolding shows
arm-defines r h e =
    let c : (k : Case) × Ruled r.name k × (any_of (λ ts. tried defines k (levels_by ts)) (assignments 5) ≡ true) = picked (Ruled r.name) _ r.cases h e in
    let w : (ts : List Trit) × Unit {0} × (tried defines c.0 (levels_by ts) ≡ true)
    = picked (λ ts. Unit {0}) _ (assignments 5) (all-every (λ ts. Unit {0}) (λ ts. tt) (assignments 5)) c.2 in
    case-defines r.name c.0 w.0 c.1 w.2

-- the arms that were seen to
abbrev found : List Arm
found = those (shows defines) arms

abbrev Cased : Arm → Type 0
Cased r = All (Ruled r.name) r.cases

pub definite-exactly : DefiniteExactly
definite-exactly = record {
  taken = pass-taken;
  listed = subst (All Defines) table-decided.definite
      (all_map (λ r. r.name) Defines found
      (all-imp _ (λ r. Defines r.name) (λ r h. arm-defines r h.0 h.1) found
      (all_both Cased _ found (all-those (shows defines) Cased arms table-ruled) (those-pass (shows defines) arms))));
  others = λ name h look v lev c o t. ⊎_elim (λ l. absurd (h l)) (λ e. e) (arm-exact look v lev c o name t);
}
