-- `all_differ`: of the nodes passed no two are the same.
use Rattle.std.proofs.Common.{◌≢◌, ℕ, ◌<◌}
use Rattle.std.specs.Prelude.{slice_index}
use Rattle.solve_trials.proofs.tests.all_differ.Given as goal

abbrev pub invariant-loop-j : goal.invariant-loop-j
invariant-loop-j l = (i k : ℕ) → i < k → k < l.j → slice_index l.nodes i ≢ slice_index l.nodes k
