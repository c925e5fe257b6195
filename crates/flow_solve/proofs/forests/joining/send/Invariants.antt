-- `send`: a unit is under way between the node that the push has come back to and the one at the end of the path.
use Rattle.flow_net.specs.Nets.{IsNode}
use Rattle.flow_net.specs.NodeSets.{just}
use Rattle.flow_net.specs.Flows.{Fits, IsFeasible}
use Rattle.flow_solve.specs.Forests.{marked_in}
use Rattle.flow_solve.specs.Steps.{PaysSteps}
use Rattle.flow_solve.proofs.ForestLemmas.Joined.{IsUnderWay}
use Rattle.flow_solve.proofs.forests.joining.send.Given as goal

abbrev pub invariant-loop-at : goal.invariant-loop-at
invariant-loop-at l = record {
  fits : Fits l.forest.ground.net.now l.flow.flows;
  at_node : IsNode l.forest.ground.net.now l.at;
  under_way : IsFeasible l.forest.ground.net.now (just l.node) (marked_in l.forest.done.now) l.fn.flow.flows
      → IsUnderWay l.forest.ground.direction l.forest.ground.net.now (just l.node) (marked_in l.forest.done.now) l.fn.flow.flows l.at
      l.initial.at l.flow.flows;
  paid : PaysSteps l.fn.flow l.fn.joining.left l.flow l.left;
}

abbrev pub decreases-loop-at : goal.decreases-loop-at
decreases-loop-at l = l.left
