-- `first_seen`: none of the nodes passed is seen.
use Rattle.std.proofs.Common.{ℕ, ◌-◌, ◌<◌, ◌≤◌}
use Rattle.std.specs.Prelude.{slice_index}
use Rattle.flow_solve.specs.declared.residual.searching.TheConstants.{WANTED}
use Rattle.flow_solve.proofs.paths.first_seen.Given as goal

abbrev pub invariant-loop-node : goal.invariant-loop-node
invariant-loop-node l = (k : ℕ) → k < l.node-index → WANTED ≤ slice_index l.dist (slice_index l.nodes k - 1)
