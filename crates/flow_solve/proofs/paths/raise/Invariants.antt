-- `raise`: the flow has grown by what the augmentations have raised, which pays for their steps.
use Rattle.std.proofs.Common.{◌+◌, ◌-◌, ◌*◌, ◌≤◌, length}
use Rattle.flow_solve.specs.Bounds.{capacities}
use Rattle.flow_solve.specs.Task.{HasFlow}
use Rattle.flow_solve.proofs.paths.raise.Given as goal

abbrev pub invariant-loop-source : goal.invariant-loop-source
invariant-loop-source l = record {
  flow : HasFlow l.task l.flow.flows l.raised;
  never_lowered : l.fn.flow.steps ≤ l.flow.steps;
  steps : l.flow.steps
      ≤ l.fn.flow.steps + l.raised * (2 * length l.task.packed.net.now.arcs + 2 * l.task.packed.net.now.nodes);
}

-- how far the value is below the sum of the capacities
abbrev pub decreases-loop-source : goal.decreases-loop-source
decreases-loop-source l = capacities l.task.packed.net.now - l.raised
