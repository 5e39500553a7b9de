-- The proof of the cycle of calls {visit_bit, walk_bit, walk_net, walk_operands}. The measure is eight times the number of items that are
-- not visited, and less than eight more by the member. Assumes nothing.
use Rattle.order.specs.inner.Code.{unvisited_in}
use Prim.Native.Nat.{◌+◌, ◌*◌}
use Rattle.order.proofs.+bits.Given as goal

abbrev pub decreases-visit_bit : goal.decreases-visit_bit
decreases-visit_bit l = 8 * unvisited_in l.n l.work.now

abbrev pub decreases-walk_bit : goal.decreases-walk_bit
decreases-walk_bit l = 8 * unvisited_in l.n l.work.now + 1

abbrev pub decreases-walk_net : goal.decreases-walk_net
decreases-walk_net l = 8 * unvisited_in l.n l.work.now + 2

abbrev pub decreases-walk_operands : goal.decreases-walk_operands
decreases-walk_operands l = 8 * unvisited_in l.n l.work.now + 3
