-- The nodes so far are marked, beside those marked before.
use Rattle.std.proofs.Common.{◌≡◌, ℕ, ◌||◌, take}
use Rattle.flow_net.specs.NodeSets.{one_of}
use Rattle.flow_net.specs.MarkedNodes.{marked}
use Rattle.flow_tools.proofs.checking.node_flows.mark.Given as goal

abbrev pub invariant-loop-node : goal.invariant-loop-node
invariant-loop-node l = (v : ℕ) → marked l.cells v ≡ (marked l.initial.cells v || one_of (take l.node-index l.nodes) v)
