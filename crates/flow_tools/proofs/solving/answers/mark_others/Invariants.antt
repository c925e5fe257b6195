-- `mark_others`: the marks passed are turned, and those ahead are as they were.
use Rattle.std.proofs.Common.{◌≡◌, ℕ, ◌<◌, ◌≤◌, length, not, false}
use Rattle.std.specs.Prelude.{slice_index_or}
use Rattle.flow_tools.proofs.solving.answers.mark_others.Given as goal

abbrev pub invariant-loop-mark : goal.invariant-loop-mark
invariant-loop-mark l = record {
  count : length l.side ≡ length l.fn.side;
  done : (k : ℕ) → k < l.mark-index → slice_index_or l.side k false ≡ not (slice_index_or l.fn.side k false);
  ahead : (k : ℕ) → l.mark-index ≤ k → k < length l.fn.side
      → slice_index_or l.side k false ≡ slice_index_or l.fn.side k false;
}
