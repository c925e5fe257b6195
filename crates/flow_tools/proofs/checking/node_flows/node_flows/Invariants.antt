-- The sums over the lines so far.
use Rattle.std.proofs.Common.{take}
use Rattle.flow_tools.specs.checking.NodeSums.{AreNodeFlows}
use Rattle.flow_tools.proofs.checking.node_flows.node_flows.Given as goal

abbrev pub invariant-loop-line : goal.invariant-loop-line
invariant-loop-line l =
    AreNodeFlows l.fn.nodes (take l.line-index l.fn.lines) l.flows.into.items l.flows.out.items
