-- `walk`: the path leads from the source to the node along half-arcs that remain, and the phase has paid for its
-- steps.
use Rattle.std.proofs.Common.{ℕ, ◌+◌, ◌≤◌}
use Rattle.flow_solve.specs.levels.Phases.{cell_of, owed, AreSameWalks, IsOrdered, IsGentle}
use Rattle.flow_solve.proofs.LevelLemmas.Turning.{IsTurning, to_go}
use Rattle.flow_solve.proofs.levels.walking.walk.Given as goal

abbrev pub invariant-turns : goal.invariant-turns
invariant-turns l = record {
  turning : IsTurning l.phase.packed.net.now l.phase.s.now l.phase.t.now l.phase.packed.first.now
      l.phase.packed.halves.now l.phase.dist.now l.walks.current.now l.walks.path.now l.flow.flows l.source l.node
      l.depth l.walks.value
      (l.fn.flow.steps
      + owed l.phase.packed.net.now l.phase.packed.halves.now l.phase.dist.now l.fn.walks.current.now l.fn.flow.flows)
      l.flow.steps;
  same : AreSameWalks l.fn.walks l.walks;
  gentle : (level : ℕ → ℕ) → IsOrdered l.phase.packed.net.now level (cell_of l.phase.dist.now)
      → IsGentle l.phase.packed.net.now l.fn.flow.flows level → IsGentle l.phase.packed.net.now l.flow.flows level;
  risen : (v : ℕ) → cell_of l.fn.walks.current.now v ≤ cell_of l.walks.current.now v;
  never_lowered : l.fn.flow.steps ≤ l.flow.steps;
}

abbrev pub decreases-turns : goal.decreases-turns
decreases-turns l =
    to_go l.phase.packed.net.now l.phase.packed.halves.now l.phase.dist.now l.walks.current.now l.flow.flows l.depth
