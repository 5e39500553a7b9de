-- The operands of a looked-up cell, as the code takes them apart. Assumes nothing: these are definitions.
use Rattle.std.specs.Prelude.{Option, None, Some}
use Rattle.value.specs.declared.Net.{Net}
use Rattle.value.specs.declared.ControlNet.{ControlNet}
use Rattle.cell.specs.declared.Cell.TheVariants.{Input, Output, Buf, Not, And, Or, Xor, Mux, Aig}
use Rattle.design.specs.Queue.{Source}

unfoldable pub not_in : Source → Option Net
not_in None = None
not_in (Some (Not v)) = Some v
not_in (Some (Input l)) = None
not_in (Some (Output a l)) = None
not_in (Some (Buf a)) = None
not_in (Some (And a b)) = None
not_in (Some (Or a b)) = None
not_in (Some (Xor a b)) = None
not_in (Some (Mux a b c)) = None
not_in (Some (Aig p q)) = None

unfoldable pub aig_in : Source → Option (ControlNet × ControlNet)
aig_in None = None
aig_in (Some (Aig p q)) = Some (p, q)
aig_in (Some (Input l)) = None
aig_in (Some (Output a l)) = None
aig_in (Some (Buf a)) = None
aig_in (Some (Not a)) = None
aig_in (Some (And a b)) = None
aig_in (Some (Or a b)) = None
aig_in (Some (Xor a b)) = None
aig_in (Some (Mux a b c)) = None

unfoldable pub xor_in : Source → Option (Net × Net)
xor_in None = None
xor_in (Some (Xor a b)) = Some (a, b)
xor_in (Some (Input l)) = None
xor_in (Some (Output a l)) = None
xor_in (Some (Buf a)) = None
xor_in (Some (Not a)) = None
xor_in (Some (And a b)) = None
xor_in (Some (Or a b)) = None
xor_in (Some (Mux a b c)) = None
xor_in (Some (Aig p q)) = None
