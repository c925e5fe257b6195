-- `search`: the seen nodes are swept up to those that wait, those looked out for are counted, and a look is paid for
-- each half-arc of the nodes followed.
use Rattle.std.proofs.Common.{◌≡◌, ◌-◌, ◌+◌, ◌≤◌}
use Rattle.flow_net.specs.Flows.{Fits}
use Rattle.flow_solve.specs.residual.Packs.{halves_at}
use Rattle.flow_solve.specs.residual.Searches.{IsSearch, IsCount, EndsWithWanted, queued}
use Rattle.flow_solve.proofs.ResidualLemmas.Sweeps.{IsSwept}
use Rattle.flow_solve.proofs.residual.searching.search.Given as goal

abbrev pub invariant-places : goal.invariant-places
invariant-places l = record {
  fits : Fits l.plan.packed.net.now l.flow.flows;
  flows : l.flow.flows ≡ l.fn.flow.flows;
  search : IsSearch l.dist l.via l.queue l.progress;
  swept : IsSwept l.plan.packed.net.now l.fn.flow.flows l.plan.direction l.plan.starts.now l.dist l.via l.queue
      l.progress.seen l.progress.followed;
  soon : 1 ≤ l.plan.enough → l.plan.enough ≤ l.progress.wanted → EndsWithWanted l.plan.until.now l.dist;
  count : IsCount l.plan.until.now l.dist l.progress.wanted;
  never_lowered : l.fn.flow.steps ≤ l.flow.steps;
  steps : l.flow.steps ≤ l.fn.flow.steps + queued (halves_at l.plan.packed.first.now) l.queue l.progress.followed;
}

abbrev pub decreases-places : goal.decreases-places
decreases-places l = l.plan.packed.net.now.nodes - l.progress.followed
