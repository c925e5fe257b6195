-- `all_within`: the numbers passed are nodes.
use Rattle.std.proofs.Common.{ℕ, ◌<◌, ◌≤◌}
use Rattle.std.specs.Prelude.{slice_index}
use Rattle.solve_trials.proofs.tests.all_within.Given as goal

abbrev pub invariant-loop-node : goal.invariant-loop-node
invariant-loop-node l = (k : ℕ) → k < l.node-index → (1 ≤ slice_index l.nodes k) × (slice_index l.nodes k ≤ l.most)
