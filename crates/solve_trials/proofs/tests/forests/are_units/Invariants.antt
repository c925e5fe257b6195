-- `are_units`: the capacities passed are 1.
use Rattle.std.proofs.Common.{◌≡◌, ℕ, ◌<◌, length}
use Rattle.flow_net.specs.Nets.{arc_at}
use Rattle.solve_trials.proofs.tests.forests.are_units.Given as goal

abbrev pub invariant-loop-i : goal.invariant-loop-i
invariant-loop-i l = record {
  end : l.i-end ≡ length l.net.arcs;
  units : (k : ℕ) → k < l.i → (arc_at l.net k).cap ≡ 1;
}
