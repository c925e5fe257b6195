-- The law: sums over the arcs don't change with their order, and sets of nodes are carried over by the names
-- (`ArrangementLaws`).
use Rattle.flow_net.proofs.ArrangementLaws.{same_arranged}
use Rattle.flow_net.proofs.laws.same_arranged.Goals as goal

pub returns : goal.returns
returns c = same_arranged
