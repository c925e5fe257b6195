-- `add_up`: the sums over the arcs before, for one look at each.
use Rattle.std.proofs.Common.{◌≡◌, length}
use Rattle.flow_net.specs.Flows.{Fits}
use Rattle.flow_solve.specs.levels.Testing.{AreSums}
use Rattle.flow_solve.specs.Steps.{OnlyLooks}
use Rattle.flow_solve.proofs.levels.testing.add_up.Given as goal

abbrev pub invariant-loop-i : goal.invariant-loop-i
invariant-loop-i l = record {
  range : l.i-end ≡ length l.net.arcs;
  fits : Fits l.net l.flow.flows;
  sums : AreSums l.net l.fn.flow.flows l.roles l.balances l.i l.out l.inward l.is_closed;
  looks : OnlyLooks l.fn.flow l.flow l.i;
}
