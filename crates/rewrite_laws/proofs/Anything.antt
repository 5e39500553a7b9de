-- Gates, whatever they read: what a law asks of the nets that a cell or a look-up reads, where it asks for nothing. Assumes nothing.
use mathlib.Core.List.{List}
use Rattle.std.specs.Prelude.{None, Some}
use Rattle.value.specs.declared.Net.{Net}
use Rattle.cell.specs.declared.Cell.{Cell}
use Rattle.netlist.specs.Shape.{visit}
use Rattle.design.specs.Queue.{Source}
use Rattle.basics.specs.Lists.{All}
use Rattle.basics.proofs.Members.{all-every}
use Rattle.aig_laws.specs.Reads.{GateOf, SourceNets}

abbrev pub Any : Net → Type 0
Any n = Unit {0}

abbrev pub Gate : Cell → Type 0
Gate c = GateOf Any c

pub any-nets : (ns : List Net) → All Any ns
any-nets = all-every Any (λ n. tt)

pub any-source : (src : Source) → SourceNets Any src
any-source None = tt
any-source (Some c) = any-nets (visit c)
