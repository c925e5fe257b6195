-- `first_left`: the forest has come to the nodes passed.
use Rattle.std.proofs.Common.{◌≡◌, ℕ, ◌≤◌, true}
use Rattle.flow_solve.specs.Forests.{marked_in}
use Rattle.flow_solve.proofs.forests.growing.first_left.Given as goal

abbrev pub invariant-loop-place : goal.invariant-loop-place
invariant-loop-place l = record {
  marked : (v : ℕ) → 1 ≤ v → v ≤ l.place → marked_in l.done v ≡ true;
}
