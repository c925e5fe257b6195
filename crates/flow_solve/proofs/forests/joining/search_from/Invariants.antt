-- `search_from`: the looks are paid.
use Rattle.std.proofs.Common.{◌≡◌, ◌+◌}
use Rattle.flow_net.specs.Flows.{Fits}
use Rattle.flow_solve.specs.Steps.{PaysLooks}
use Rattle.flow_solve.proofs.forests.joining.search_from.Given as goal

abbrev pub invariant-loop-place : goal.invariant-loop-place
invariant-loop-place l = record {
  fits : Fits l.forest.ground.net.now l.flow.flows;
  next : l.joining.at ≡ l.fn.joining.at + 1;
  looks : PaysLooks l.fn.flow l.fn.joining.left l.flow l.joining.left;
}
