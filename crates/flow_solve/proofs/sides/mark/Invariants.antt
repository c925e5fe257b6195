-- `mark`: the nodes passed are marked where they were seen.
use Rattle.std.proofs.Common.{◌≡◌, ℕ, ◌<◌, nat_lt, false}
use Rattle.std.specs.Prelude.{slice_index, slice_index_or}
use Rattle.flow_solve.specs.declared.residual.searching.TheConstants.{WANTED}
use Rattle.flow_solve.proofs.sides.mark.Given as goal

abbrev pub invariant-loop-place : goal.invariant-loop-place
invariant-loop-place l = (i : ℕ) → i < l.place → slice_index_or l.side i false ≡ nat_lt (slice_index l.dist i) WANTED
