-- `admissible`: the half-arcs passed are filled, or lead no nearer, and each took a look at most.
use Rattle.std.proofs.Common.{◌≡◌, ◌-◌, ◌≤◌, None}
use Rattle.flow_net.specs.Flows.{Fits}
use Rattle.flow_solve.proofs.LevelLemmas.Walks.{IsLooking}
use Rattle.flow_solve.proofs.levels.walking.admissible.Given as goal

abbrev pub invariant-loop-place : goal.invariant-loop-place
invariant-loop-place l = record {
  fits : Fits l.phase.packed.net.now l.flow.flows;
  flows : l.flow.flows ≡ l.fn.flow.flows;
  nothing : l.found ≡ None;
  looking : IsLooking l.phase.packed.net.now l.phase.packed.first.now l.phase.packed.halves.now l.phase.dist.now
      l.current l.fn.flow.flows l.node
      l.place l.fn.flow.steps l.flow.steps;
  never_lowered : l.fn.flow.steps ≤ l.flow.steps;
}

abbrev pub decreases-loop-place : goal.decreases-loop-place
decreases-loop-place l = l.end - l.place
