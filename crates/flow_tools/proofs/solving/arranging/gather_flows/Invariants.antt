-- `gather_flows`: the flow of each arc passed is the one at its spot.
use Rattle.std.proofs.Common.{◌≡◌, ℕ, ◌<◌, length}
use Rattle.std.specs.Prelude.{slice_index}
use Rattle.flow_tools.proofs.solving.arranging.gather_flows.Given as goal

abbrev pub invariant-loop-i : goal.invariant-loop-i
invariant-loop-i l = record {
  count : length l.flows.items ≡ length l.spots;
  done : (k : ℕ) → k < l.i → slice_index l.flows.items k ≡ slice_index l.there (slice_index l.spots k);
}
