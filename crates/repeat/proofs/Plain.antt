-- A ticket without and-inverter records is read as a netlist without and-inverters. Assumes nothing.
use mathlib.Core.Path.{◌≡◌, sym, ap, ◌∙◌}
use mathlib.Core.Bool.{false}
use mathlib.Core.List.{List}
use Prim.Native.Nat.{ℕ}
use native.Mathlib.Omega.{arith}
use lib.Dec.{eqb}
use lib.ListN.{get_or}
use Rattle.std.specs.Prelude.{Ok}
use Rattle.cell.specs.declared.Record.{Record}
use Rattle.cell.specs.Records.{records_of, record_of}
use Rattle.cell.proofs.Lists.{records-length, records-at}
use Rattle.netlist.specs.Netlist.{Netlist, cell_in}
use Rattle.calls.specs.Calls.{decoded, check_verdict}
use Rattle.basics.proofs.Members.{all-at, none_any}
use Rattle.kept.proofs.Tickets.{ticket-count, ticket-record}
use Rattle.rewrite_normal.specs.Plain.{Plain}
use Rattle.rewrite_normal.proofs.Cells.{aig-kind}
use Rattle.repeat.specs.Repeat.{NoAndInverter}

pub ticket-plain : (words : ℕ) (t : List ℕ) → check_verdict words t ≡ Ok tt → NoAndInverter t → Plain (decoded t).cells
ticket-plain words t pass none s l =
    let d : Netlist = decoded t in
    aig-kind (get_or d.bits s 0) (cell_in d.cells s)
    ∙ ap (λ (r : Record). eqb r.kind 9) (ticket-record words t pass s l ∙ sym (records-at t s (omega (arith, ticket-count words t pass))))
    ∙ all-at (λ r. eqb r.kind 9 ≡ false) (records_of t) s (record_of 0 0 0 0 0 0) (none_any (λ r. eqb r.kind 9) (records_of t) none) (omega (arith, records-length t, ticket-count words t pass))
