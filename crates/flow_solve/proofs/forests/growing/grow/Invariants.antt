-- `grow`: the forest has grown, and each turn it comes to one node more or goes back.
use Rattle.std.proofs.Common.{◌+◌, ◌-◌, ◌*◌, ◌≤◌}
use Rattle.flow_solve.specs.Forests.{HasGrown}
use Rattle.flow_solve.proofs.forests.growing.grow.Given as goal

abbrev pub invariant-loop-front : goal.invariant-loop-front
invariant-loop-front l = record {
  grown : HasGrown l.ground l.fn.rows l.fn.done l.rows l.done;
  count : l.fn.front.count ≤ l.front.count;
  depth : l.depth ≤ l.front.count;
}

abbrev pub decreases-loop-front : goal.decreases-loop-front
decreases-loop-front l = 2 * (l.nodes - l.front.count) + l.depth
