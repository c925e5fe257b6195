-- `search`: the looks are paid.
use Rattle.std.proofs.Common.{◌-◌}
use Rattle.flow_net.specs.Flows.{Fits}
use Rattle.flow_solve.specs.Steps.{PaysLooks}
use Rattle.flow_solve.proofs.forests.joining.search.Given as goal

abbrev pub invariant-queue : goal.invariant-queue
invariant-queue l = record {
  fits : Fits l.forest.ground.net.now l.flow.flows;
  looks : PaysLooks l.fn.flow l.fn.joining.left l.flow l.joining.left;
}

abbrev pub decreases-queue : goal.decreases-queue
decreases-queue l = l.nodes - l.joining.at
