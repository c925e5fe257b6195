-- `gather_marks`: each node passed is marked as its name is.
use Rattle.std.proofs.Common.{◌≡◌, ℕ, ◌<◌, length, false}
use Rattle.std.specs.Prelude.{slice_index, slice_index_or}
use Rattle.flow_net.specs.MarkedNodes.{marked}
use Rattle.flow_tools.proofs.solving.arranging.gather_marks.Given as goal

abbrev pub invariant-loop-i : goal.invariant-loop-i
invariant-loop-i l = record {
  count : length l.side.items ≡ length l.names;
  done : (k : ℕ) → k < l.i → slice_index_or l.side.items k false ≡ marked l.there (slice_index l.names k);
}
