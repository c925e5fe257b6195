-- The law: what reaches a sink in the residual network lies outside every minimum cut's source side.
use Rattle.flow_net.proofs.Sides.{least_sink_side}
use Rattle.flow_net.proofs.laws.least_sink_side.Goals as goal

pub returns : goal.returns
returns c = least_sink_side
