use borrow.Author.Rules.{rules}
use Rattle.checking.proofs.Netlist.{searchable, loop-refuses, loop-passes}
use Rattle.checking.proofs.netlist_verdict.Goals as goal

pub find_loop-requires : goal.find_loop-requires
find_loop-requires c = searchable _ c.in_ok-records_verdict.ensures _ c.records.ensures _ (search rules) (search rules)

pub returns-in-Some-clause-value : goal.returns-in-Some-clause-value
returns-in-Some-clause-value c = loop-refuses _ c.in_ok-records_verdict.ensures _ _ _ c.find_loop.ensures _ c.in-Some.is

pub returns-in-None-clause-value : goal.returns-in-None-clause-value
returns-in-None-clause-value c = loop-passes _ c.in_ok-records_verdict.ensures _ _ _ c.find_loop.ensures c.in-None.is
