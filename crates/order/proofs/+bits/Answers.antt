-- The proof of the cycle of calls {visit_bit, walk_bit, walk_net, walk_operands}. The measure is eight times the number of items that are
-- not visited, and less than eight more by the member. Assumes nothing.
use borrow.Author.Rules.{rules}
use native.Mathlib.Omega.{arith}
use lib.Dec.{lit≤}
use Rattle.order.proofs.Walking.{walks-visited, walks-ready, walks-falls, walks-falls-2, walks-ready-2, is-new, marked-falls, marked-ready}
use Rattle.order.proofs.Bits.{net-constant, net-source, net-bit, operands-done, bit-next, bit-done}
use Rattle.order.proofs.+bits.Goals as goal

pub visit_bit-walk_operands-c-requires : goal.visit_bit-walk_operands-c-requires
visit_bit-walk_operands-c-requires t c = (search (marked-falls, lit≤, tt), search marked-ready)

pub visit_bit-overflow_add-result : goal.visit_bit-overflow_add-result
visit_bit-overflow_add-result t c = search bit-next

pub visit_bit-returns : goal.visit_bit-returns
visit_bit-returns t c = search bit-done

pub walk_bit-returns-then-is_visited : goal.walk_bit-returns-then-is_visited
walk_bit-returns-then-is_visited t c = search walks-visited

pub walk_bit-visit_bit-requires : goal.walk_bit-visit_bit-requires
walk_bit-visit_bit-requires t c = (omega arith, (search rules, search is-new))

pub walk_net-returns-then-is_source : goal.walk_net-returns-then-is_source
walk_net-returns-then-is_source t c = search net-source

pub walk_net-walk_bit-requires : goal.walk_net-walk_bit-requires
walk_net-walk_bit-requires t c = (omega arith, search rules)

pub walk_net-returns-in-Const : goal.walk_net-returns-in-Const
walk_net-returns-in-Const t c = search net-constant

pub walk_net-returns-else-is_source : goal.walk_net-returns-else-is_source
walk_net-returns-else-is_source t c = search net-bit

pub walk_operands-walk_net-third-requires : goal.walk_operands-walk_net-third-requires
walk_operands-walk_net-third-requires t c = (omega arith, search rules)

pub walk_operands-walk_net-second-requires : goal.walk_operands-walk_net-second-requires
walk_operands-walk_net-second-requires t c = (search walks-falls, search walks-ready)

pub walk_operands-walk_net-requires : goal.walk_operands-walk_net-requires
walk_operands-walk_net-requires t c = search (rules, walks-falls-2, walks-ready-2)

pub walk_operands-returns : goal.walk_operands-returns
walk_operands-returns t c = search operands-done
