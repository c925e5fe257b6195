-- The least so far is one of the numbers, and at most each so far.
use Rattle.std.proofs.Common.{◌≡◌, ◌<◌, ◌≤◌, ℕ, length, slice_index}
use Rattle.flow_solve.proofs.forests.degrees.least_of.Given as goal

abbrev pub invariant-loop-number : goal.invariant-loop-number
invariant-loop-number l = record {
  found : (i : ℕ) × (i < length l.numbers) × (slice_index l.numbers i ≡ l.least);
  low : (i : ℕ) → i < l.number-index → l.least ≤ slice_index l.numbers i;
}
