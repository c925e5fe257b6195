-- The cells so far are equal unless they are marked.
use Rattle.flow_tools.specs.checking.NodeSums.{AreEqualUnless}
use Rattle.flow_tools.proofs.checking.node_flows.first_unequal.Given as goal

abbrev pub invariant-loop-i : goal.invariant-loop-i
invariant-loop-i l = AreEqualUnless l.marks l.into l.out l.i
