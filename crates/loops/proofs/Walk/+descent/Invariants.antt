-- The proof of the cycle of calls {meet, visit, visit_edge, visit_edges}. The measure is eight times the number of slots that are not
-- visited, and less than eight more by the member. Assumes nothing.
use lib.ListN.{length}
use Rattle.cell.specs.Records.{records_of}
use Rattle.loops.specs.inner.Walk.{unvisited}
use Prim.Native.Nat.{◌+◌, ◌*◌}
use Rattle.loops.proofs.Walk.+descent.Given as goal

abbrev pub decreases-meet : goal.decreases-meet
decreases-meet l = 8 * unvisited (length (records_of l.self.now.ticket.now)) l.work.now + 1

abbrev pub decreases-visit : goal.decreases-visit
decreases-visit l = 8 * unvisited (length (records_of l.self.now.ticket.now)) l.work.now

abbrev pub decreases-visit_edge : goal.decreases-visit_edge
decreases-visit_edge l = 8 * unvisited (length (records_of l.self.now.ticket.now)) l.work.now + 2

abbrev pub decreases-visit_edges : goal.decreases-visit_edges
decreases-visit_edges l = 8 * unvisited (length (records_of l.self.now.ticket.now)) l.work.now + 3
