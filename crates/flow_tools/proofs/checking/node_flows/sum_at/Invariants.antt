-- The sum over the nodes so far.
use Rattle.std.proofs.Common.{◌≡◌, take, sum_by}
use Rattle.flow_tools.specs.checking.NodeSums.{at_node}
use Rattle.flow_tools.proofs.checking.node_flows.sum_at.Given as goal

abbrev pub invariant-loop-node : goal.invariant-loop-node
invariant-loop-node l = l.sum ≡ sum_by (at_node l.cells) (take l.node-index l.nodes)
