-- The proof of the cycle of calls {meet, visit, visit_edge, visit_edges}. The measure is eight times the number of slots that are not
-- visited, and less than eight more by the member. Assumes nothing.
use native.Mathlib.Omega.{arith}
use Rattle.loops.proofs.Marks.{opens}
use Rattle.loops.proofs.Steps.{meet-new, meet-open, edges-inside, edges_more, edge-none, edge-coming, edge-met, visit-falls, visit-looped, visit-done}
use Rattle.loops.proofs.Walk.+descent.Goals as goal

pub meet-visit-requires : goal.meet-visit-requires
meet-visit-requires t c = (omega arith, search meet-new)

pub meet-returns-in-1 : goal.meet-returns-in-1
meet-returns-in-1 t c = search meet-open

pub visit-visit_edges-next-requires : goal.visit-visit_edges-next-requires
visit-visit_edges-next-requires t c = (search visit-falls, search opens)

pub visit-returns-then-next-eq0 : goal.visit-returns-then-next-eq0
visit-returns-then-next-eq0 t c = search visit-looped

pub visit-returns : goal.visit-returns
visit-returns t c = search visit-done

pub visit_edge-meet-requires : goal.visit_edge-meet-requires
visit_edge-meet-requires t c = (omega arith, search edge-coming)

pub visit_edge-returns-in-None : goal.visit_edge-returns-in-None
visit_edge-returns-in-None t c = search edge-none

pub visit_edge-returns-in-Some : goal.visit_edge-returns-in-Some
visit_edge-returns-in-Some t c = search edge-met

pub visit_edges-record_at-r-requires : goal.visit_edges-record_at-r-requires
visit_edges-record_at-r-requires t c = search edges-inside

pub visit_edges-returns : goal.visit_edges-returns
visit_edges-returns t c = search edges_more
