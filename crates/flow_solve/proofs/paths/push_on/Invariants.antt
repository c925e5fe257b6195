-- `push_on`: with the pushes that are still to be made the flow is the one after all; a push for each half-arc
-- passed.
use Rattle.std.proofs.Common.{◌≡◌, ◌+◌, ◌-◌}
use Rattle.std.specs.Prelude.{slice_index}
use Rattle.flow_net.specs.Nets.{IsNode}
use Rattle.flow_net.specs.Flows.{Fits}
use Rattle.flow_net.specs.Paths.{HasRoom, push_all}
use Rattle.flow_solve.specs.residual.Searches.{IsMarked}
use Rattle.flow_solve.specs.residual.Trails.{halves_from, halves_on}
use Rattle.flow_solve.proofs.paths.push_on.Given as goal

abbrev pub invariant-loop-node : goal.invariant-loop-node
invariant-loop-node l = record {
  fits : Fits l.trail.net.now l.flow.flows;
  node : IsNode l.trail.net.now l.node;
  marked : IsMarked l.trail.dist.now (l.node - 1);
  ahead : push_all l.flow.flows (halves_from l.trail l.node) l.amount
      ≡ push_all l.fn.flow.flows (halves_on l.trail) l.amount;
  room : HasRoom l.trail.net.now l.flow.flows l.amount (halves_from l.trail l.node);
  steps : l.flow.steps + slice_index l.trail.dist.now (l.node - 1)
      ≡ l.fn.flow.steps + slice_index l.trail.dist.now (l.trail.source - 1);
}

abbrev pub decreases-loop-node : goal.decreases-loop-node
decreases-loop-node l = slice_index l.trail.dist.now (l.node - 1)
