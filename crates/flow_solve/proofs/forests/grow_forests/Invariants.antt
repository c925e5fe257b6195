-- `grow_forests`: so many forests are done, and the steps are paid.
use Rattle.std.proofs.Common.{◌-◌}
use Rattle.flow_net.specs.Flows.{Fits}
use Rattle.flow_solve.specs.Forests.{HasFallen, IsGrove, IsStand, at_stage}
use Rattle.flow_solve.specs.Steps.{PaysSteps}
use Rattle.flow_solve.proofs.forests.grow_forests.Given as goal

abbrev pub invariant-loop-count : goal.invariant-loop-count
invariant-loop-count l = record {
  fits : Fits l.ground.net.now l.flow.flows;
  stand : IsStand l.ground l.done;
  least : HasFallen l.ground.net.now l.fn.known.value l.least.value;
  grove : IsGrove (at_stage l.ground l.ready) l.least.value l.count l.rows;
  paid : PaysSteps l.fn.flow l.fn.known.left l.flow l.least.left;
}

abbrev pub decreases-loop-count : goal.decreases-loop-count
decreases-loop-count l = l.fn.known.value - l.count
