-- `push_over`: with the pushes that are still to be made the flow is the one after all; a push for each half-arc
-- passed.
use Rattle.std.proofs.Common.{◌≡◌, ◌+◌, drop}
use Rattle.flow_solve.proofs.LevelLemmas.PushesAhead.{IsAhead}
use Rattle.flow_solve.proofs.levels.walking.push_over.Given as goal

abbrev pub invariant-loop-half : goal.invariant-loop-half
invariant-loop-half l = record {
  ahead : IsAhead l.net l.fn.flow.flows l.path l.amount l.flow.flows (drop l.half-index l.path);
  steps : l.flow.steps ≡ l.fn.flow.steps + l.half-index;
}
