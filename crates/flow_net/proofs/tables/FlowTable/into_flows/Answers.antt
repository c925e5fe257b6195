-- `into_flows`: the flows are those of the table.
use Rattle.std.proofs.Common.{ap}
use Rattle.flow_net.proofs.tables.FlowTable.into_flows.Goals as goal

pub returns : goal.returns
returns c = ap (λ t. t.flows) c.self.view_is
