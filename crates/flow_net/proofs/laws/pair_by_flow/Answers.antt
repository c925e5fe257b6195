-- The law: with capacities of 1 a cut's capacity is the number of its arcs, so the greatest value is the least
-- number.
use Rattle.flow_net.proofs.Connections.{pair_by_flow}
use Rattle.flow_net.proofs.laws.pair_by_flow.Goals as goal

pub returns : goal.returns
returns c = pair_by_flow
