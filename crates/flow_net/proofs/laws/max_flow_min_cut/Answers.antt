-- The law: a search from the sources ends at a sink, and then a greater flow exists, or leaves a closed cut
-- (`MaxFlows`).
use Rattle.flow_net.proofs.MaxFlows.{max_flow_min_cut}
use Rattle.flow_net.proofs.laws.max_flow_min_cut.Goals as goal

pub returns : goal.returns
returns c = max_flow_min_cut
