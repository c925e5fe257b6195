-- The law: what the sources reach in the residual network lies inside every minimum cut's source side.
use Rattle.flow_net.proofs.Sides.{least_source_side}
use Rattle.flow_net.proofs.laws.least_source_side.Goals as goal

pub returns : goal.returns
returns c = least_source_side
