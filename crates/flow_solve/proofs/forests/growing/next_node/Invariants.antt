-- `next_node`: fewer nodes are left to be looked at each turn.
use Rattle.std.proofs.Common.{◌≡◌}
use Rattle.flow_solve.proofs.forests.growing.next_node.Given as goal

abbrev pub invariant-loop-next : goal.invariant-loop-next
invariant-loop-next l = l.next.count ≡ l.fn.front.count

abbrev pub decreases-loop-next : goal.decreases-loop-next
decreases-loop-next l = l.next.near
