-- `complete`: the forest has come to more nodes, the flow is balanced at the others, and its steps are paid.
use Rattle.std.proofs.Common.{◌≡◌, ◌-◌, true}
use Rattle.flow_net.specs.Flows.{Fits, IsFeasible}
use Rattle.flow_solve.specs.Forests.{HasFallen, IsForest, IsStand, marked_in}
use Rattle.flow_solve.specs.Steps.{PaysSteps}
use Rattle.flow_solve.proofs.forests.complete.Given as goal

abbrev pub invariant-loop-front : goal.invariant-loop-front
invariant-loop-front l = record {
  fits : Fits l.ground.net.now l.flow.flows;
  stand : IsStand l.ground l.done;
  root : marked_in l.done l.ground.root ≡ true;
  balanced : IsFeasible l.ground.net.now (marked_in l.done) (marked_in l.done) l.flow.flows;
  least : HasFallen l.ground.net.now l.fn.round.least.value l.least.value;
  forest : IsForest l.ground l.least.value l.count l.rows l.done;
  paid : PaysSteps l.fn.flow l.fn.round.least.left l.flow l.least.left;
}

abbrev pub decreases-loop-front : goal.decreases-loop-front
decreases-loop-front l = l.nodes - l.front.count
