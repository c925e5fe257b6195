-- `run_phases`: the flow is one of its value, the sources are farther from the sinks than there were phases, and the
-- steps are paid.
use Rattle.std.proofs.Common.{◌≡◌, ◌+◌, ◌-◌, ◌*◌, ◌<◌, ◌≤◌, length}
use Rattle.flow_solve.specs.levels.Phases.{IsFar}
use Rattle.flow_solve.specs.Solving.{IsFlow}
use Rattle.flow_solve.proofs.levels.phases.run_phases.Given as goal

abbrev pub invariant-phases : goal.invariant-phases
invariant-phases l = record {
  flow : IsFlow l.packed.net.now l.s l.t l.flow.flows l.walks.value;
  current_size : length l.walks.current.now ≡ l.packed.net.now.nodes;
  path_size : length l.walks.path.now ≡ l.packed.net.now.nodes;
  far : IsFar l.packed.net.now l.s l.t l.flow.flows l.phases;
  few : l.phases < l.packed.net.now.nodes;
  never_lowered : l.fn.flow.steps ≤ l.flow.steps;
  steps : l.flow.steps
      ≤ l.fn.flow.steps
      + l.phases
      * (3 * (l.packed.net.now.nodes - 1) * length l.packed.net.now.arcs + 3 * length l.packed.net.now.arcs);
}

abbrev pub decreases-phases : goal.decreases-phases
decreases-phases l = l.packed.net.now.nodes - l.phases
