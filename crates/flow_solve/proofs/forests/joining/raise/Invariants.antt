-- `raise`: the flow carries what was raised, its steps are paid, and each turn raises it.
use Rattle.std.proofs.Common.{◌≤◌, ◌-◌}
use Rattle.flow_net.specs.Flows.{Fits}
use Rattle.flow_solve.specs.Forests.{IsRaised, marked_in}
use Rattle.flow_solve.specs.Steps.{PaysSteps}
use Rattle.flow_solve.proofs.forests.joining.raise.Given as goal

abbrev pub invariant-loop-value : goal.invariant-loop-value
invariant-loop-value l = record {
  fits : Fits l.forest.ground.net.now l.flow.flows;
  raised : IsRaised l.forest.ground.direction l.forest.ground.net.now l.node (marked_in l.forest.done.now) l.flow.flows l.value;
  below : l.value ≤ l.wanted.value;
  paid : PaysSteps l.fn.flow l.wanted.left l.flow l.joining.left;
}

abbrev pub decreases-loop-value : goal.decreases-loop-value
decreases-loop-value l = l.wanted.value - l.value
