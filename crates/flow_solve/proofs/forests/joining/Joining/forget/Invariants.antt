-- `forget`: as many looks and pushes are left.
use Rattle.std.proofs.Common.{◌≡◌}
use Rattle.flow_solve.proofs.forests.joining.Joining.forget.Given as goal

abbrev pub invariant-loop-at : goal.invariant-loop-at
invariant-loop-at l = record { left : l.self.left ≡ l.fn.self.left }
