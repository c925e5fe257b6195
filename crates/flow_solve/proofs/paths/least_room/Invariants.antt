-- `least_room`: an amount has room on the whole trail where it is at most the least so far and has room on what is
-- left; a look for each half-arc passed.
use Rattle.std.proofs.Common.{◌≡◌, ℕ, ◌+◌, ◌-◌, ◌≤◌}
use Rattle.std.specs.Prelude.{slice_index}
use Rattle.flow_net.specs.declared.limits.TheConstants.{GREATEST_CAPACITY}
use Rattle.flow_net.specs.Nets.{IsNode}
use Rattle.flow_net.specs.Flows.{Fits}
use Rattle.flow_net.specs.Paths.{HasRoom}
use Rattle.flow_solve.specs.residual.Searches.{IsMarked}
use Rattle.flow_solve.specs.residual.Trails.{halves_from, halves_on}
use Rattle.flow_solve.proofs.paths.least_room.Given as goal

abbrev pub invariant-loop-node : goal.invariant-loop-node
invariant-loop-node l = record {
  fits : Fits l.trail.net.now l.flow.flows;
  flows : l.flow.flows ≡ l.fn.flow.flows;
  node : IsNode l.trail.net.now l.node;
  marked : IsMarked l.trail.dist.now (l.node - 1);
  ahead : (k : ℕ) → k ≤ l.least → HasRoom l.trail.net.now l.fn.flow.flows k (halves_from l.trail l.node)
      → HasRoom l.trail.net.now l.fn.flow.flows k (halves_on l.trail);
  most : (k : ℕ) → k ≤ GREATEST_CAPACITY → HasRoom l.trail.net.now l.fn.flow.flows k (halves_on l.trail)
      → (k ≤ l.least) × HasRoom l.trail.net.now l.fn.flow.flows k (halves_from l.trail l.node);
  positive : 1 ≤ l.least;
  steps : l.flow.steps + slice_index l.trail.dist.now (l.node - 1)
      ≡ l.fn.flow.steps + slice_index l.trail.dist.now (l.trail.source - 1);
}

abbrev pub decreases-loop-node : goal.decreases-loop-node
decreases-loop-node l = slice_index l.trail.dist.now (l.node - 1)
