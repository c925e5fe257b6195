-- `next_to`: no half-arc is passed twice.
use Rattle.std.proofs.Common.{length, ◌-◌, ◌≤◌}
use Rattle.flow_solve.proofs.levels.waves.passing.next_to.Given as goal

abbrev pub invariant-loop-step : goal.invariant-loop-step
invariant-loop-step l = record {
  onwards : l.fn.step ≤ l.step;
  within : l.step ≤ length l.row.halves.now;
}

abbrev pub decreases-loop-step : goal.decreases-loop-step
decreases-loop-step l = length l.row.halves.now - l.step
