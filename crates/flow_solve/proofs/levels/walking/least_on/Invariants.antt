-- `least_on`: the least on the half-arcs passed, and the first place where it is; a look for each.
use Rattle.std.proofs.Common.{◌≡◌, ◌+◌}
use Rattle.flow_net.specs.Flows.{Fits}
use Rattle.flow_solve.proofs.LevelLemmas.LeastOnPath.{IsLeast}
use Rattle.flow_solve.proofs.levels.walking.least_on.Given as goal

abbrev pub invariant-loop-i : goal.invariant-loop-i
invariant-loop-i l = record {
  flows : l.flow.flows ≡ l.fn.flow.flows;
  fits : Fits l.net l.flow.flows;
  least : IsLeast l.net l.fn.flow.flows l.path l.place l.least l.i;
  steps : l.flow.steps ≡ l.fn.flow.steps + l.i;
}
