-- `walk_from_sources`: the sources passed are dead or unseen, the flow keeps the phase's levels, and the steps are
-- paid.
use Rattle.std.proofs.Common.{ℕ, ◌+◌, ◌<◌, ◌≤◌, IsTrue}
use Rattle.std.specs.Prelude.{slice_index}
use Rattle.flow_net.specs.NodeSets.{one_of}
use Rattle.flow_solve.specs.residual.Searches.{seen}
use Rattle.flow_solve.specs.levels.Phases.{cell_of, first_at, owed, AreSameWalks, AreWalks, IsDead, IsOrdered, IsGentle}
use Rattle.flow_solve.proofs.levels.phases.walk_from_sources.Given as goal

abbrev pub invariant-loop-source : goal.invariant-loop-source
invariant-loop-source l = record {
  walks : AreWalks l.phase l.flow.flows l.walks;
  same : AreSameWalks l.fn.walks l.walks;
  dead : (k : ℕ) → k < l.source-index → IsTrue (seen l.phase.dist.now (slice_index l.phase.s.now k))
      → IsDead l.phase.packed.net.now (one_of l.phase.t.now) (first_at l.phase.packed.halves.now)
      (cell_of l.walks.current.now) (slice_index l.phase.s.now k);
  gentle : (level : ℕ → ℕ) → IsOrdered l.phase.packed.net.now level (cell_of l.phase.dist.now)
      → IsGentle l.phase.packed.net.now l.fn.flow.flows level → IsGentle l.phase.packed.net.now l.flow.flows level;
  never_lowered : l.fn.flow.steps ≤ l.flow.steps;
  steps : l.flow.steps
      + owed l.phase.packed.net.now l.phase.packed.halves.now l.phase.dist.now l.walks.current.now l.flow.flows
      ≤ l.fn.flow.steps
      + owed l.phase.packed.net.now l.phase.packed.halves.now l.phase.dist.now l.fn.walks.current.now l.fn.flow.flows;
}
