-- `lift`: the half-arcs that were looked at are paid.
use Rattle.std.proofs.Common.{length, ◌+◌, ◌-◌, ◌≤◌}
use Rattle.flow_net.specs.Flows.{Fits}
use Rattle.flow_solve.specs.Steps.{PaysLooks}
use Rattle.flow_solve.proofs.levels.waves.discharging.lift.Given as goal

abbrev pub invariant-loop-step : goal.invariant-loop-step
invariant-loop-step l = record {
  within : l.step ≤ length l.row.halves.now;
  fits : Fits l.packed.net.now l.flow.flows;
  paid : PaysLooks l.fn.flow l.fn.wave.left l.flow (l.left + (length l.row.halves.now - l.step));
}

abbrev pub decreases-loop-step : goal.decreases-loop-step
decreases-loop-step l = length l.row.halves.now - l.step
