-- `are_even`: of the nodes passed all but the terminals take in what they send on.
use Rattle.std.proofs.Common.{◌≡◌, ℕ, ◌<◌, ◌%◌}
use Rattle.std.specs.Prelude.{slice_index}
use Rattle.flow_solve.specs.declared.levels.testing.TheConstants.{EVEN, INNER, MARKED}
use Rattle.flow_solve.specs.levels.Testing.{balance_at}
use Rattle.flow_solve.proofs.levels.testing.are_even.Given as goal

abbrev pub invariant-loop-place : goal.invariant-loop-place
invariant-loop-place l =
    (p : ℕ) → p < l.place → slice_index l.roles p % MARKED ≡ INNER → balance_at l.balances p ≡ EVEN
