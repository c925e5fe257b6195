-- `measure`: the chain goes over nodes of the network, with one look for each half-arc passed.
use Rattle.std.proofs.Common.{◌-◌, ◌≤◌}
use Rattle.flow_net.specs.Nets.{IsNode}
use Rattle.flow_net.specs.Flows.{Fits}
use Rattle.flow_solve.specs.Steps.{OnlyLooks}
use Rattle.flow_solve.proofs.levels.trees.chains.measure.Given as goal

abbrev pub invariant-loop-len : goal.invariant-loop-len
invariant-loop-len l = record {
  node : IsNode l.packed.net.now l.node;
  fits : Fits l.packed.net.now l.flow.flows;
  looks : OnlyLooks l.fn.flow l.flow l.len;
  few : l.len ≤ l.limit;
}

abbrev pub decreases-loop-len : goal.decreases-loop-len
decreases-loop-len l = l.limit - l.len
