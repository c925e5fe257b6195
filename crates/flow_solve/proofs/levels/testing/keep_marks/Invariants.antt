-- `keep_marks`: the cells passed are of nodes that are no terminals.
use Rattle.std.proofs.Common.{◌≡◌, ℕ, ◌<◌, ◌%◌, length}
use Rattle.std.specs.Prelude.{slice_index}
use Rattle.flow_solve.specs.declared.levels.testing.TheConstants.{INNER, MARKED}
use Rattle.flow_solve.proofs.levels.testing.keep_marks.Given as goal

abbrev pub invariant-loop-place : goal.invariant-loop-place
invariant-loop-place l =
    (length l.roles ≡ length l.fn.roles)
    × ((p : ℕ) → p < l.place → slice_index l.roles p % MARKED ≡ INNER)
