-- The law: a unit on each arc is a flow that is conserved at each node (`NodeCounts`).
use Rattle.flow_net.proofs.NodeCounts.{balanced_sets}
use Rattle.flow_net.proofs.laws.balanced_sets.Goals as goal

pub returns : goal.returns
returns c = balanced_sets
