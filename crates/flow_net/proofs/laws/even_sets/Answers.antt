-- The law: the sum over the nodes of a set counts the arcs within it twice (`NodeCounts`).
use Rattle.flow_net.proofs.NodeCounts.{even_sets}
use Rattle.flow_net.proofs.laws.even_sets.Goals as goal

pub returns : goal.returns
returns c = even_sets
