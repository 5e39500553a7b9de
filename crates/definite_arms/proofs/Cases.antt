-- Each case of the table is what one pass over the rules does, by the arm under whose name it stands. Assumes nothing.
use mathlib.Core.Path.{◌≡◌, refl}
use Rattle.value.specs.declared.ControlNet.TheVariants.{Pos, Neg}
use Rattle.value.specs.Value.{eq_net, le_net, is_always, canonicalize, not_control, eq_control, le_control}
use Rattle.normalize.specs.Outcomes.{from_control, first_change}
use Rattle.normalize.specs.Normalize.{normalize}
use Rattle.aig.specs.Aig.{if_not, if_aig, if_xor, not_rule, aig_of_not, and_and, and_with, aig_of_and, nand_and, xor_of, nand_nand, nand_with, aig_of_nand, xor_and, xor_with, aig_of_xor, aig_order, aig_rule, and_xor, xor_xor, xor_order, xor_rule, simple_aig_opt}
use Rattle.basics.specs.Lists.{All}
use Rattle.aig_laws.specs.Arms.{as_is, not_none, not_zero, not_one, not_undef, not_not, aig_none, aig_same, aig_opposite, aig_zero, aig_one, aig_not, and_same, and_opposite, and_and_same, and_and_opposite, nand_same, nand_opposite, nand_and_same, nand_and_opposite, nand_nand_same, nand_nand_opposite, xor_on, xor_and_on, xor_none, xor_same, xor_undef, xor_zero, xor_one, xor_not, xor_with_and, xor_nand, xor_with_xor, xor_both}
use Rattle.definite_arms.specs.Arms.{Name, Case, arms, x, y, z}
use Rattle.definite_arms.specs.Definite.{look}
use Rattle.definite_arms.specs.Taken.{not_name, aig_name, xor_name, normalize_name, Taken, inverter, and_inverter, and_turned, xor_gate, xor_turned, and_gate, or_gate, input, output, mux, normalized, pass, Ruled, TableRuled}

-- all arms, of one arm all cases, the last of which is `only`
infixr 5 ◌also◌
◌also◌ : {A B : Type 0} → A → B → A × B
◌also◌ p q = (p, q)

infixr 10 ◌or◌
◌or◌ : {A B : Type 0} → A → B → A × B
◌or◌ p q = (p, q)

by : {name : Name} {k : Case} → Taken (look k) k.cell k.result name → pass (look k) k.cell ≡ k.result → Ruled name k
by t e = record { gives = e; taken = t }

only : {name : Name} {k : Case} → Taken (look k) k.cell k.result name → pass (look k) k.cell ≡ k.result → Ruled name k × Unit {0}
only t e = (by t e, tt)

pub table-ruled : TableRuled
unfolding eq_net le_net is_always canonicalize not_control eq_control le_control first_change from_control normalize if_not if_aig if_xor not_rule aig_of_not and_and and_with aig_of_and nand_and xor_of nand_nand nand_with aig_of_nand xor_and xor_with aig_of_xor aig_order aig_rule and_xor xor_xor xor_order xor_rule simple_aig_opt not_name aig_name xor_name normalize_name All arms
table-ruled =
    only (inverter (not_zero refl refl)) refl
    also only (inverter (not_one refl refl)) refl
    also only (inverter (not_undef refl refl)) refl
    also only (inverter (not_not x refl refl)) refl
    also only (inverter (not_none refl)) refl
    -- and-inverters
    also by (and_inverter (aig_same refl refl)) refl
    or only (and_inverter (aig_same refl refl)) refl
    also by (and_inverter {q = Neg x} (aig_opposite refl refl)) refl
    or by (and_turned (aig_zero refl refl)) refl
    or only (and_inverter (aig_zero refl refl)) refl
    also by (and_turned (aig_one refl refl)) refl
    or by (and_turned (aig_one refl refl)) refl
    or by (and_inverter (aig_one refl refl)) refl
    or only (and_turned (aig_one refl refl)) refl
    also by (and_inverter (aig_not x refl refl)) refl
    or only (and_turned (aig_not x refl refl)) refl
    also only (and_inverter (and_same (Pos x) (Pos y) (as_is refl) refl refl refl)) refl
    also only (and_inverter (and_opposite (Pos x) (Pos y) (as_is refl) refl refl refl)) refl
    also only (and_inverter (and_and_same (Pos x) (Pos y) (Pos x) (Pos z) (as_is refl) refl (as_is refl) refl refl refl)) refl
    also only (and_inverter (and_and_opposite (Pos x) (Pos y) (Neg x) (Pos z) (as_is refl) refl (as_is refl) refl refl refl)) refl
    also only (and_turned (nand_same (Pos x) (Pos y) (as_is refl) refl refl refl)) refl
    also by (and_turned (nand_opposite (Neg x) (Pos y) (as_is refl) refl refl refl)) refl
    or only (and_inverter (nand_opposite (Pos x) (Pos y) (as_is refl) refl refl refl)) refl
    also only (and_turned (nand_and_same (Pos x) (Pos y) (Pos x) (Pos z) (as_is refl) refl (as_is refl) refl refl refl)) refl
    also only (and_turned (nand_and_opposite (Pos x) (Pos y) (Neg x) (Pos z) (as_is refl) refl (as_is refl) refl refl refl)) refl
    also by (and_inverter (nand_nand_same (Pos x) (Neg y) (Neg x) (Neg y) (as_is refl) refl (as_is refl) refl refl refl refl)) refl
    or only (and_inverter (nand_nand_same (Pos x) (Pos y) (Neg x) (Pos y) (as_is refl) refl (as_is refl) refl refl refl refl)) refl
    also only (and_inverter (nand_nand_opposite (Pos x) (Neg y) (Neg x) (Pos y) (as_is refl) refl (as_is refl) refl refl refl refl)) refl
    also only (and_inverter (nand_nand_opposite (Pos x) (Pos y) (Neg x) (Neg y) (as_is refl) refl (as_is refl) refl refl refl refl)) refl
    also by (and_inverter (xor_on x y (as_is refl) refl refl)) refl
    or by (and_turned (xor_on x y (as_is refl) refl refl)) refl
    or by (and_inverter (xor_on x y (as_is refl) refl refl)) refl
    or only (and_inverter (xor_on x y (as_is refl) refl refl)) refl
    also by (and_inverter (xor_and_on x y (Pos x) (Pos z) (as_is refl) (as_is refl) refl refl refl)) refl
    or by (and_turned (xor_and_on x y (Pos x) (Pos z) (as_is refl) (as_is refl) refl refl refl)) refl
    or by (and_inverter (xor_and_on x y (Neg x) (Pos z) (as_is refl) (as_is refl) refl refl refl)) refl
    or only (and_turned (xor_and_on x y (Neg x) (Pos z) (as_is refl) (as_is refl) refl refl refl)) refl
    also only (and_inverter (aig_none refl)) refl
    -- xors
    also only (xor_gate (xor_same refl refl)) refl
    also only (xor_gate (xor_undef refl refl)) refl
    also only (xor_turned (xor_zero refl refl)) refl
    also only (xor_turned (xor_one refl refl)) refl
    also only (xor_gate (xor_not x refl refl)) refl
    also only (xor_gate (xor_with_and (Pos x) (Pos y) (as_is refl) refl refl)) refl
    also only (xor_gate (xor_nand (Neg x) (Pos y) (as_is refl) refl refl)) refl
    also only (xor_gate (xor_with_xor x y (as_is refl) refl refl)) refl
    also only (xor_gate (xor_both x y x z (as_is refl) (as_is refl) refl refl)) refl
    also only (xor_gate (xor_none refl)) refl
    also only and_gate refl
    also only or_gate refl
    also by input refl
    or by output refl
    or only mux refl
    -- `Normalize`
    also only (normalized _) refl
    also only (normalized _) refl
    also only (normalized _) refl
    also only (normalized _) refl
    also only (normalized _) refl
    also only (normalized _) refl
    also tt
